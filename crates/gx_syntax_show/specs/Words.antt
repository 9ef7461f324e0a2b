-- The words of the language, by what they stand for.
--
-- To add a word, give it its line here and in src/words.rt; the parser has the other direction.
-- HACKING.md lists the files of all crates.
use Rattle.std.specs.Prelude.{ℕ, Bool, if◌then◌else◌, List, codes}
use Rattle.gx_rows.specs.declared.value.ValueKind.{ValueKind}
use Rattle.gx_rows.specs.declared.value.ValueKind.TheVariants as kinds
use Rattle.gx_syntax_tree.specs.declared.keyword.CountTarget.{CountTarget}
use Rattle.gx_syntax_tree.specs.declared.keyword.CountTarget.TheVariants as counts
use Rattle.gx_syntax_tree.specs.declared.keyword.PrintTarget.{PrintTarget}
use Rattle.gx_syntax_tree.specs.declared.keyword.PrintTarget.TheVariants as prints
use Rattle.gx_syntax_tree.specs.declared.keyword.StmtKeyword.{StmtKeyword}
use Rattle.gx_syntax_tree.specs.declared.keyword.StmtKeyword.TheVariants as keywords
use Rattle.gx_syntax_tree.specs.declared.words.ActiveWord.{ActiveWord}
use Rattle.gx_syntax_tree.specs.declared.words.ActiveWord.TheVariants as actives
use Rattle.gx_syntax_tree.specs.declared.words.CutWord.{CutWord}
use Rattle.gx_syntax_tree.specs.declared.words.CutWord.TheVariants as cuts
use Rattle.gx_syntax_tree.specs.declared.words.MergeWord.{MergeWord}
use Rattle.gx_syntax_tree.specs.declared.words.MergeWord.TheVariants as merge_words
use Rattle.gx_syntax_tree.specs.declared.words.NeighbourWord.{NeighbourWord}
use Rattle.gx_syntax_tree.specs.declared.words.NeighbourWord.TheVariants as neighbour_words
use Rattle.gx_syntax_tree.specs.declared.words.SideWord.{SideWord}
use Rattle.gx_syntax_tree.specs.declared.words.SideWord.TheVariants as sides

abbrev pub truth_word : Bool → List ℕ
truth_word b = if b then codes "true" else codes "false"

abbrev pub kind_word : ValueKind → List ℕ
kind_word kinds.Int = codes "int"
kind_word kinds.Text = codes "text"
kind_word kinds.Bool = codes "bool"
kind_word kinds.Ids = codes "ids"

abbrev pub cut_word : CutWord → List ℕ
cut_word cuts.OneD = codes "oned"
cut_word cuts.TwoD = codes "twod"
cut_word cuts.Random = codes "random"
cut_word cuts.Canonical = codes "canonical"

abbrev pub merge_word : MergeWord → List ℕ
merge_word merge_words.Sum = codes "sum"
merge_word merge_words.Count = codes "count"
merge_word merge_words.Min = codes "min"
merge_word merge_words.Max = codes "max"
merge_word merge_words.All = codes "all"
merge_word merge_words.Any = codes "any"
merge_word merge_words.Bag = codes "bag"

abbrev pub side_word : SideWord → List ℕ
side_word sides.Src = codes "src"
side_word sides.Dst = codes "dst"

abbrev pub neighbour_word : NeighbourWord → List ℕ
neighbour_word neighbour_words.In = codes "in"
neighbour_word neighbour_words.Out = codes "out"
neighbour_word neighbour_words.Either = codes "either"

abbrev pub active_word : ActiveWord → List ℕ
active_word actives.Out = codes "out"
active_word actives.In = codes "in"
active_word actives.Either = codes "either"
active_word actives.Both = codes "both"

abbrev pub print_target_word : PrintTarget → List ℕ
print_target_word prints.Vertices = codes "vertices"
print_target_word prints.Edges = codes "edges"
print_target_word prints.Triplets = codes "triplets"
print_target_word prints.Table = codes "table"

abbrev pub count_target_word : CountTarget → List ℕ
count_target_word counts.Vertices = codes "vertices"
count_target_word counts.Edges = codes "edges"
count_target_word counts.Table = codes "table"

-- the word that a statement begins with
abbrev pub stmt_word : StmtKeyword → List ℕ
stmt_word keywords.Vertices = codes "vertices"
stmt_word keywords.Edges = codes "edges"
stmt_word keywords.EdgeList = codes "edgelist"
stmt_word keywords.Graph = codes "graph"
stmt_word keywords.FromEdges = codes "fromedges"
stmt_word keywords.MapVertices = codes "mapvertices"
stmt_word keywords.MapEdges = codes "mapedges"
stmt_word keywords.MapTriplets = codes "maptriplets"
stmt_word keywords.Subgraph = codes "subgraph"
stmt_word keywords.Mask = codes "mask"
stmt_word keywords.Reverse = codes "reverse"
stmt_word keywords.GroupEdges = codes "groupedges"
stmt_word keywords.Partition = codes "partition"
stmt_word keywords.JoinVertices = codes "joinvertices"
stmt_word keywords.OuterJoin = codes "outerjoin"
stmt_word keywords.Aggregate = codes "aggregate"
stmt_word keywords.InDegrees = codes "indegrees"
stmt_word keywords.OutDegrees = codes "outdegrees"
stmt_word keywords.Degrees = codes "degrees"
stmt_word keywords.Neighbours = codes "neighbours"
stmt_word keywords.Pregel = codes "pregel"
stmt_word keywords.Filter = codes "filter"
stmt_word keywords.MapValues = codes "mapvalues"
stmt_word keywords.Minus = codes "minus"
stmt_word keywords.Diff = codes "diff"
stmt_word keywords.InnerJoin = codes "innerjoin"
stmt_word keywords.LeftJoin = codes "leftjoin"
stmt_word keywords.Print = codes "print"
stmt_word keywords.Count = codes "count"
