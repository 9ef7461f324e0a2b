-- The abstract syntax of statements: each is a keyword with the values of its parts, in text order.
--
-- To add a statement, add its variant of `Stmt`, its keyword, and its lines in `form_of`, `stmt_of`
-- and `view_of`, and then follow HACKING.md, which lists the files of all crates.
use Rattle.std.specs.Prelude.{◌≡◌, ℕ, ℤ, Bool, List, codes}
use Rattle.gx_syntax_tree.specs.declared.constant.ColumnConst.{ColumnConst}
use Rattle.gx_syntax_tree.specs.declared.constant.Const.{Const}
use Rattle.gx_syntax_tree.specs.declared.expr.Expr.{Expr}
use Rattle.gx_syntax_tree.specs.declared.keyword.CountTarget.{CountTarget}
use Rattle.gx_syntax_tree.specs.declared.keyword.CountTarget.TheVariants as counts
use Rattle.gx_syntax_tree.specs.declared.keyword.PrintTarget.{PrintTarget}
use Rattle.gx_syntax_tree.specs.declared.keyword.PrintTarget.TheVariants as prints
use Rattle.gx_syntax_tree.specs.declared.keyword.StmtKeyword.{StmtKeyword}
use Rattle.gx_syntax_tree.specs.declared.keyword.StmtKeyword.TheVariants as keywords
use Rattle.gx_syntax_tree.specs.declared.parts.ColumnDecl.{ColumnDecl}
use Rattle.gx_syntax_tree.specs.declared.parts.ColumnExpr.{ColumnExpr}
use Rattle.gx_syntax_tree.specs.declared.parts.ColumnMerge.{ColumnMerge}
use Rattle.gx_syntax_tree.specs.declared.parts.SendClause.{SendClause}
use Rattle.gx_syntax_tree.specs.declared.parts.SubgraphFilter.{SubgraphFilter}
use Rattle.gx_syntax_tree.specs.declared.stmt.Stmt.{Stmt}
use Rattle.gx_syntax_tree.specs.declared.stmt.Stmt.TheVariants as stmts
use Rattle.gx_syntax_tree.specs.declared.words.ActiveWord.{ActiveWord}
use Rattle.gx_syntax_tree.specs.declared.words.CutWord.{CutWord}
use Rattle.gx_syntax_tree.specs.declared.words.NeighbourWord.{NeighbourWord}

-- a part of a statement that has a value
pub data Part : Type 0 where
  a_name a_text a_number a_cut a_neighbour columns sets consts named merges sends condition subgraph_filter oriented active print_target counted : Part

-- its value
abbrev pub Value : Part → Type 0
Value a_name = List ℕ
Value a_text = List ℕ
Value a_number = ℤ
Value a_cut = CutWord
Value a_neighbour = NeighbourWord
Value columns = List ColumnDecl
Value sets = List ColumnExpr
Value consts = List Const
Value named = List ColumnConst
Value merges = List ColumnMerge
Value sends = List SendClause
Value condition = Expr
Value subgraph_filter = SubgraphFilter
Value oriented = Bool
Value active = ActiveWord
Value print_target = PrintTarget
Value counted = CountTarget

-- a symbol between the parts of a statement: `=` or `,`
pub data Punctuation : Type 0 where
  equals comma : Punctuation

-- what follows the keyword of a statement: symbols, words and parts, in text order
pub data Form : Type 0 where
  fin : Form
  mark : Punctuation → Form → Form
  say : List ℕ → Form → Form
  part : Part → Form → Form

-- the values of its parts
abbrev pub Values : Form → Type 0
Values fin = Unit {0}
Values (mark s f) = Values f
Values (say w f) = Values f
Values (part p f) = Value p × Values f

-- the form of a statement, by its keyword
abbrev pub form_of : StmtKeyword → Form
form_of keywords.Vertices = part a_name (say (codes "from") (part a_text (part columns fin)))
form_of keywords.Edges = part a_name (say (codes "from") (part a_text (part columns fin)))
form_of keywords.EdgeList = part a_name (say (codes "from") (part a_text (part oriented fin)))
form_of keywords.Graph = part a_name (mark equals (part a_name (mark comma (part a_name (say (codes "default") (part consts fin))))))
form_of keywords.FromEdges = part a_name (mark equals (part a_name (part named fin)))
form_of keywords.Reverse = part a_name (mark equals (part a_name fin))
form_of keywords.Mask = part a_name (mark equals (part a_name (say (codes "by") (part a_name fin))))
form_of keywords.Subgraph = part a_name (mark equals (part a_name (part subgraph_filter fin)))
form_of keywords.GroupEdges = part a_name (mark equals (part a_name (part merges fin)))
form_of keywords.Partition = part a_name (mark equals (part a_name (say (codes "by") (part a_cut fin))))
form_of keywords.MapVertices = part a_name (mark equals (part a_name (part sets fin)))
form_of keywords.MapEdges = part a_name (mark equals (part a_name (part sets fin)))
form_of keywords.MapTriplets = part a_name (mark equals (part a_name (part sets fin)))
form_of keywords.JoinVertices = part a_name (mark equals (part a_name (mark comma (part a_name (part sets fin)))))
form_of keywords.OuterJoin = part a_name (mark equals (part a_name (mark comma (part a_name (say (codes "default") (part consts (part sets fin)))))))
form_of keywords.Aggregate = part a_name (mark equals (part a_name (part sends (say (codes "merge") (part merges fin)))))
form_of keywords.InDegrees = part a_name (mark equals (part a_name fin))
form_of keywords.OutDegrees = part a_name (mark equals (part a_name fin))
form_of keywords.Degrees = part a_name (mark equals (part a_name fin))
form_of keywords.Neighbours = part a_name (mark equals (part a_name (part a_neighbour fin)))
form_of keywords.Pregel = part a_name (mark equals (part a_name (say (codes "rounds") (part a_number (part active (say (codes "merge") (part merges (say (codes "initial") (part consts (say (codes "program") (part sets (part sends fin))))))))))))
form_of keywords.Filter = part a_name (mark equals (part a_name (say (codes "where") (part condition fin))))
form_of keywords.MapValues = part a_name (mark equals (part a_name (part sets fin)))
form_of keywords.Minus = part a_name (mark equals (part a_name (mark comma (part a_name fin))))
form_of keywords.Diff = part a_name (mark equals (part a_name (mark comma (part a_name fin))))
form_of keywords.InnerJoin = part a_name (mark equals (part a_name (mark comma (part a_name (part sets fin)))))
form_of keywords.LeftJoin = part a_name (mark equals (part a_name (mark comma (part a_name (say (codes "default") (part consts (part sets fin)))))))
form_of keywords.Print = part print_target (part a_name fin)
form_of keywords.Count = part counted (part a_name fin)

abbrev pub print_of : PrintTarget → List ℕ → Stmt
print_of prints.Vertices name = stmts.PrintVertices name
print_of prints.Edges name = stmts.PrintEdges name
print_of prints.Triplets name = stmts.PrintTriplets name
print_of prints.Table name = stmts.PrintTable name

abbrev pub count_of : CountTarget → List ℕ → Stmt
count_of counts.Vertices name = stmts.CountVertices name
count_of counts.Edges name = stmts.CountEdges name
count_of counts.Table name = stmts.CountTable name

-- the statement with these values
abbrev pub stmt_of : (h : StmtKeyword) → Values (form_of h) → Stmt
stmt_of keywords.Vertices v = stmts.Vertices v.0 v.1.0 v.1.1.0
stmt_of keywords.Edges v = stmts.Edges v.0 v.1.0 v.1.1.0
stmt_of keywords.EdgeList v = stmts.EdgeList v.0 v.1.0 v.1.1.0
stmt_of keywords.Graph v = stmts.Graph v.0 v.1.0 v.1.1.0 v.1.1.1.0
stmt_of keywords.FromEdges v = stmts.FromEdges v.0 v.1.0 v.1.1.0
stmt_of keywords.Reverse v = stmts.Reverse v.0 v.1.0
stmt_of keywords.Mask v = stmts.Mask v.0 v.1.0 v.1.1.0
stmt_of keywords.Subgraph v = stmts.Subgraph v.0 v.1.0 v.1.1.0.vertices v.1.1.0.edges
stmt_of keywords.GroupEdges v = stmts.GroupEdges v.0 v.1.0 v.1.1.0
stmt_of keywords.Partition v = stmts.Partition v.0 v.1.0 v.1.1.0
stmt_of keywords.MapVertices v = stmts.MapVertices v.0 v.1.0 v.1.1.0
stmt_of keywords.MapEdges v = stmts.MapEdges v.0 v.1.0 v.1.1.0
stmt_of keywords.MapTriplets v = stmts.MapTriplets v.0 v.1.0 v.1.1.0
stmt_of keywords.JoinVertices v = stmts.JoinVertices v.0 v.1.0 v.1.1.0 v.1.1.1.0
stmt_of keywords.OuterJoin v = stmts.OuterJoin v.0 v.1.0 v.1.1.0 v.1.1.1.0 v.1.1.1.1.0
stmt_of keywords.Aggregate v = stmts.Aggregate v.0 v.1.0 v.1.1.0 v.1.1.1.0
stmt_of keywords.InDegrees v = stmts.InDegrees v.0 v.1.0
stmt_of keywords.OutDegrees v = stmts.OutDegrees v.0 v.1.0
stmt_of keywords.Degrees v = stmts.Degrees v.0 v.1.0
stmt_of keywords.Neighbours v = stmts.Neighbours v.0 v.1.0 v.1.1.0
stmt_of keywords.Pregel v = stmts.Pregel v.0 v.1.0 v.1.1.0 v.1.1.1.0 v.1.1.1.1.0 v.1.1.1.1.1.0 v.1.1.1.1.1.1.0 v.1.1.1.1.1.1.1.0
stmt_of keywords.Filter v = stmts.Filter v.0 v.1.0 v.1.1.0
stmt_of keywords.MapValues v = stmts.MapValues v.0 v.1.0 v.1.1.0
stmt_of keywords.Minus v = stmts.Minus v.0 v.1.0 v.1.1.0
stmt_of keywords.Diff v = stmts.Diff v.0 v.1.0 v.1.1.0
stmt_of keywords.InnerJoin v = stmts.InnerJoin v.0 v.1.0 v.1.1.0 v.1.1.1.0
stmt_of keywords.LeftJoin v = stmts.LeftJoin v.0 v.1.0 v.1.1.0 v.1.1.1.0 v.1.1.1.1.0
stmt_of keywords.Print v = print_of v.0 v.1.0
stmt_of keywords.Count v = count_of v.0 v.1.0

-- a statement as its keyword and the values of its parts
pub record StmtView : Type 0 where
  pub keyword : StmtKeyword
  pub values : Values (form_of keyword)

abbrev pub view_of : Stmt → StmtView
view_of (stmts.Vertices name file cs) = record { keyword = keywords.Vertices; values = (name, (file, (cs, tt))) }
view_of (stmts.Edges name file cs) = record { keyword = keywords.Edges; values = (name, (file, (cs, tt))) }
view_of (stmts.EdgeList name file o) = record { keyword = keywords.EdgeList; values = (name, (file, (o, tt))) }
view_of (stmts.Graph name vs es default) = record { keyword = keywords.Graph; values = (name, (vs, (es, (default, tt)))) }
view_of (stmts.FromEdges name es row) = record { keyword = keywords.FromEdges; values = (name, (es, (row, tt))) }
view_of (stmts.Reverse name g) = record { keyword = keywords.Reverse; values = (name, (g, tt)) }
view_of (stmts.Mask name g by) = record { keyword = keywords.Mask; values = (name, (g, (by, tt))) }
view_of (stmts.Subgraph name g vs es) = record { keyword = keywords.Subgraph; values = (name, (g, (record { vertices = vs; edges = es }, tt))) }
view_of (stmts.GroupEdges name g ms) = record { keyword = keywords.GroupEdges; values = (name, (g, (ms, tt))) }
view_of (stmts.Partition name g cut) = record { keyword = keywords.Partition; values = (name, (g, (cut, tt))) }
view_of (stmts.MapVertices name g ss) = record { keyword = keywords.MapVertices; values = (name, (g, (ss, tt))) }
view_of (stmts.MapEdges name g ss) = record { keyword = keywords.MapEdges; values = (name, (g, (ss, tt))) }
view_of (stmts.MapTriplets name g ss) = record { keyword = keywords.MapTriplets; values = (name, (g, (ss, tt))) }
view_of (stmts.JoinVertices name g t ss) = record { keyword = keywords.JoinVertices; values = (name, (g, (t, (ss, tt)))) }
view_of (stmts.OuterJoin name g t default ss) = record { keyword = keywords.OuterJoin; values = (name, (g, (t, (default, (ss, tt))))) }
view_of (stmts.Aggregate name g ss ms) = record { keyword = keywords.Aggregate; values = (name, (g, (ss, (ms, tt)))) }
view_of (stmts.InDegrees name g) = record { keyword = keywords.InDegrees; values = (name, (g, tt)) }
view_of (stmts.OutDegrees name g) = record { keyword = keywords.OutDegrees; values = (name, (g, tt)) }
view_of (stmts.Degrees name g) = record { keyword = keywords.Degrees; values = (name, (g, tt)) }
view_of (stmts.Neighbours name g d) = record { keyword = keywords.Neighbours; values = (name, (g, (d, tt))) }
view_of (stmts.Pregel name g rounds a ms initial program ss) = record { keyword = keywords.Pregel; values = (name, (g, (rounds, (a, (ms, (initial, (program, (ss, tt)))))))) }
view_of (stmts.Filter name t x) = record { keyword = keywords.Filter; values = (name, (t, (x, tt))) }
view_of (stmts.MapValues name t ss) = record { keyword = keywords.MapValues; values = (name, (t, (ss, tt))) }
view_of (stmts.Minus name t u) = record { keyword = keywords.Minus; values = (name, (t, (u, tt))) }
view_of (stmts.Diff name t u) = record { keyword = keywords.Diff; values = (name, (t, (u, tt))) }
view_of (stmts.InnerJoin name t u ss) = record { keyword = keywords.InnerJoin; values = (name, (t, (u, (ss, tt)))) }
view_of (stmts.LeftJoin name t u default ss) = record { keyword = keywords.LeftJoin; values = (name, (t, (u, (default, (ss, tt))))) }
view_of (stmts.PrintVertices g) = record { keyword = keywords.Print; values = (prints.Vertices, (g, tt)) }
view_of (stmts.PrintEdges g) = record { keyword = keywords.Print; values = (prints.Edges, (g, tt)) }
view_of (stmts.PrintTriplets g) = record { keyword = keywords.Print; values = (prints.Triplets, (g, tt)) }
view_of (stmts.PrintTable t) = record { keyword = keywords.Print; values = (prints.Table, (t, tt)) }
view_of (stmts.CountVertices g) = record { keyword = keywords.Count; values = (counts.Vertices, (g, tt)) }
view_of (stmts.CountEdges g) = record { keyword = keywords.Count; values = (counts.Edges, (g, tt)) }
view_of (stmts.CountTable t) = record { keyword = keywords.Count; values = (counts.Table, (t, tt)) }

-- each statement is made of the keyword and the values of its view
abbrev pub IsMadeOfItsView : Type 0
IsMadeOfItsView = (s : Stmt) → stmt_of (view_of s).keyword (view_of s).values ≡ s

-- the view of a statement is the keyword and the values that it is made of
abbrev pub ViewsWhatItIsMadeOf : Type 0
ViewsWhatItIsMadeOf = (k : StmtKeyword) (v : Values (form_of k)) → view_of (stmt_of k v) ≡ record { keyword = k; values = v }
