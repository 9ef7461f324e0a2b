-- A statement and its view determine each other.
use Rattle.std.proofs.Common.{refl}
use Rattle.gx_syntax_tree.specs.Forms.{IsMadeOfItsView, ViewsWhatItIsMadeOf}
use Rattle.gx_syntax_tree.specs.declared.keyword.CountTarget.TheVariants as counts
use Rattle.gx_syntax_tree.specs.declared.keyword.PrintTarget.TheVariants as prints
use Rattle.gx_syntax_tree.specs.declared.keyword.StmtKeyword.TheVariants as keywords
use Rattle.gx_syntax_tree.specs.declared.stmt.Stmt.TheVariants as stmts

pub made_of_its_view : IsMadeOfItsView
made_of_its_view (stmts.Vertices name file cs) = refl
made_of_its_view (stmts.Edges name file cs) = refl
made_of_its_view (stmts.EdgeList name file o) = refl
made_of_its_view (stmts.Graph name vs es default) = refl
made_of_its_view (stmts.FromEdges name es row) = refl
made_of_its_view (stmts.Reverse name g) = refl
made_of_its_view (stmts.Mask name g by) = refl
made_of_its_view (stmts.Subgraph name g vs es) = refl
made_of_its_view (stmts.GroupEdges name g ms) = refl
made_of_its_view (stmts.Partition name g cut) = refl
made_of_its_view (stmts.MapVertices name g ss) = refl
made_of_its_view (stmts.MapEdges name g ss) = refl
made_of_its_view (stmts.MapTriplets name g ss) = refl
made_of_its_view (stmts.JoinVertices name g t ss) = refl
made_of_its_view (stmts.OuterJoin name g t default ss) = refl
made_of_its_view (stmts.Aggregate name g ss ms) = refl
made_of_its_view (stmts.InDegrees name g) = refl
made_of_its_view (stmts.OutDegrees name g) = refl
made_of_its_view (stmts.Degrees name g) = refl
made_of_its_view (stmts.Neighbours name g d) = refl
made_of_its_view (stmts.Pregel name g rounds a ms initial program ss) = refl
made_of_its_view (stmts.Filter name t x) = refl
made_of_its_view (stmts.MapValues name t ss) = refl
made_of_its_view (stmts.Minus name t u) = refl
made_of_its_view (stmts.Diff name t u) = refl
made_of_its_view (stmts.InnerJoin name t u ss) = refl
made_of_its_view (stmts.LeftJoin name t u default ss) = refl
made_of_its_view (stmts.PrintVertices g) = refl
made_of_its_view (stmts.PrintEdges g) = refl
made_of_its_view (stmts.PrintTriplets g) = refl
made_of_its_view (stmts.PrintTable t) = refl
made_of_its_view (stmts.CountVertices g) = refl
made_of_its_view (stmts.CountEdges g) = refl
made_of_its_view (stmts.CountTable t) = refl

pub views_what_it_is_made_of : ViewsWhatItIsMadeOf
views_what_it_is_made_of keywords.Vertices v = refl
views_what_it_is_made_of keywords.Edges v = refl
views_what_it_is_made_of keywords.EdgeList v = refl
views_what_it_is_made_of keywords.Graph v = refl
views_what_it_is_made_of keywords.FromEdges v = refl
views_what_it_is_made_of keywords.Reverse v = refl
views_what_it_is_made_of keywords.Mask v = refl
views_what_it_is_made_of keywords.Subgraph v = refl
views_what_it_is_made_of keywords.GroupEdges v = refl
views_what_it_is_made_of keywords.Partition v = refl
views_what_it_is_made_of keywords.MapVertices v = refl
views_what_it_is_made_of keywords.MapEdges v = refl
views_what_it_is_made_of keywords.MapTriplets v = refl
views_what_it_is_made_of keywords.JoinVertices v = refl
views_what_it_is_made_of keywords.OuterJoin v = refl
views_what_it_is_made_of keywords.Aggregate v = refl
views_what_it_is_made_of keywords.InDegrees v = refl
views_what_it_is_made_of keywords.OutDegrees v = refl
views_what_it_is_made_of keywords.Degrees v = refl
views_what_it_is_made_of keywords.Neighbours v = refl
views_what_it_is_made_of keywords.Pregel v = refl
views_what_it_is_made_of keywords.Filter v = refl
views_what_it_is_made_of keywords.MapValues v = refl
views_what_it_is_made_of keywords.Minus v = refl
views_what_it_is_made_of keywords.Diff v = refl
views_what_it_is_made_of keywords.InnerJoin v = refl
views_what_it_is_made_of keywords.LeftJoin v = refl
views_what_it_is_made_of keywords.Print (prints.Vertices, v) = refl
views_what_it_is_made_of keywords.Print (prints.Edges, v) = refl
views_what_it_is_made_of keywords.Print (prints.Triplets, v) = refl
views_what_it_is_made_of keywords.Print (prints.Table, v) = refl
views_what_it_is_made_of keywords.Count (counts.Vertices, v) = refl
views_what_it_is_made_of keywords.Count (counts.Edges, v) = refl
views_what_it_is_made_of keywords.Count (counts.Table, v) = refl
