-- The words that name a value: kinds, cuts, merges, ends, directions, targets and statements.
--
-- To add a word, add its line here and its arm in src/keywords.rt, in the same order.
use Rattle.std.specs.Prelude.{ℕ, Bool, true, false, if◌then◌else◌, Option, Some, None, List, codes, bytes_eq}
use Rattle.gx_rows.specs.declared.value.ValueKind.{ValueKind}
use Rattle.gx_rows.specs.declared.value.ValueKind.TheVariants as kinds
use Rattle.gx_syntax_tree.specs.declared.keyword.CountTarget.{CountTarget}
use Rattle.gx_syntax_tree.specs.declared.keyword.CountTarget.TheVariants as counts
use Rattle.gx_syntax_tree.specs.declared.keyword.PrintTarget.{PrintTarget}
use Rattle.gx_syntax_tree.specs.declared.keyword.PrintTarget.TheVariants as prints
use Rattle.gx_syntax_tree.specs.declared.keyword.StmtKeyword.{StmtKeyword}
use Rattle.gx_syntax_tree.specs.declared.keyword.StmtKeyword.TheVariants as keywords
use Rattle.gx_syntax_tree.specs.declared.words.ActiveWord.{ActiveWord}
use Rattle.gx_syntax_tree.specs.declared.words.ActiveWord.TheVariants as actives
use Rattle.gx_syntax_tree.specs.declared.words.CutWord.{CutWord}
use Rattle.gx_syntax_tree.specs.declared.words.CutWord.TheVariants as cuts
use Rattle.gx_syntax_tree.specs.declared.words.MergeWord.{MergeWord}
use Rattle.gx_syntax_tree.specs.declared.words.MergeWord.TheVariants as merges
use Rattle.gx_syntax_tree.specs.declared.words.NeighbourWord.{NeighbourWord}
use Rattle.gx_syntax_tree.specs.declared.words.NeighbourWord.TheVariants as neighbours
use Rattle.gx_syntax_tree.specs.declared.words.SideWord.{SideWord}
use Rattle.gx_syntax_tree.specs.declared.words.SideWord.TheVariants as sides

abbrev pub kind_of : List ℕ → Option ValueKind
kind_of w =
    if bytes_eq w (codes "int") then Some kinds.Int
    else if bytes_eq w (codes "text") then Some kinds.Text
    else if bytes_eq w (codes "bool") then Some kinds.Bool
    else if bytes_eq w (codes "ids") then Some kinds.Ids
    else None

abbrev pub cut_of : List ℕ → Option CutWord
cut_of w =
    if bytes_eq w (codes "oned") then Some cuts.OneD
    else if bytes_eq w (codes "twod") then Some cuts.TwoD
    else if bytes_eq w (codes "random") then Some cuts.Random
    else if bytes_eq w (codes "canonical") then Some cuts.Canonical
    else None

abbrev pub merge_of : List ℕ → Option MergeWord
merge_of w =
    if bytes_eq w (codes "sum") then Some merges.Sum
    else if bytes_eq w (codes "count") then Some merges.Count
    else if bytes_eq w (codes "min") then Some merges.Min
    else if bytes_eq w (codes "max") then Some merges.Max
    else if bytes_eq w (codes "all") then Some merges.All
    else if bytes_eq w (codes "any") then Some merges.Any
    else if bytes_eq w (codes "bag") then Some merges.Bag
    else None

abbrev pub side_of : List ℕ → Option SideWord
side_of w =
    if bytes_eq w (codes "src") then Some sides.Src
    else if bytes_eq w (codes "dst") then Some sides.Dst
    else None

abbrev pub neighbour_of : List ℕ → Option NeighbourWord
neighbour_of w =
    if bytes_eq w (codes "in") then Some neighbours.In
    else if bytes_eq w (codes "out") then Some neighbours.Out
    else if bytes_eq w (codes "either") then Some neighbours.Either
    else None

abbrev pub active_of : List ℕ → Option ActiveWord
active_of w =
    if bytes_eq w (codes "out") then Some actives.Out
    else if bytes_eq w (codes "in") then Some actives.In
    else if bytes_eq w (codes "either") then Some actives.Either
    else if bytes_eq w (codes "both") then Some actives.Both
    else None

abbrev pub print_target_of : List ℕ → Option PrintTarget
print_target_of w =
    if bytes_eq w (codes "vertices") then Some prints.Vertices
    else if bytes_eq w (codes "edges") then Some prints.Edges
    else if bytes_eq w (codes "triplets") then Some prints.Triplets
    else if bytes_eq w (codes "table") then Some prints.Table
    else None

abbrev pub count_target_of : List ℕ → Option CountTarget
count_target_of w =
    if bytes_eq w (codes "vertices") then Some counts.Vertices
    else if bytes_eq w (codes "edges") then Some counts.Edges
    else if bytes_eq w (codes "table") then Some counts.Table
    else None

-- the keywords of statements, by families: each definition goes on with the next family

abbrev pub action_keyword : List ℕ → Option StmtKeyword
action_keyword w =
    if bytes_eq w (codes "print") then Some keywords.Print
    else if bytes_eq w (codes "count") then Some keywords.Count
    else None

abbrev pub table_keyword : List ℕ → Option StmtKeyword
table_keyword w =
    if bytes_eq w (codes "filter") then Some keywords.Filter
    else if bytes_eq w (codes "mapvalues") then Some keywords.MapValues
    else if bytes_eq w (codes "minus") then Some keywords.Minus
    else if bytes_eq w (codes "diff") then Some keywords.Diff
    else if bytes_eq w (codes "innerjoin") then Some keywords.InnerJoin
    else if bytes_eq w (codes "leftjoin") then Some keywords.LeftJoin
    else action_keyword w

abbrev pub message_keyword : List ℕ → Option StmtKeyword
message_keyword w =
    if bytes_eq w (codes "aggregate") then Some keywords.Aggregate
    else if bytes_eq w (codes "indegrees") then Some keywords.InDegrees
    else if bytes_eq w (codes "outdegrees") then Some keywords.OutDegrees
    else if bytes_eq w (codes "degrees") then Some keywords.Degrees
    else if bytes_eq w (codes "neighbours") then Some keywords.Neighbours
    else if bytes_eq w (codes "pregel") then Some keywords.Pregel
    else table_keyword w

abbrev pub join_keyword : List ℕ → Option StmtKeyword
join_keyword w =
    if bytes_eq w (codes "joinvertices") then Some keywords.JoinVertices
    else if bytes_eq w (codes "outerjoin") then Some keywords.OuterJoin
    else message_keyword w

abbrev pub map_keyword : List ℕ → Option StmtKeyword
map_keyword w =
    if bytes_eq w (codes "mapvertices") then Some keywords.MapVertices
    else if bytes_eq w (codes "mapedges") then Some keywords.MapEdges
    else if bytes_eq w (codes "maptriplets") then Some keywords.MapTriplets
    else join_keyword w

abbrev pub graph_keyword : List ℕ → Option StmtKeyword
graph_keyword w =
    if bytes_eq w (codes "graph") then Some keywords.Graph
    else if bytes_eq w (codes "fromedges") then Some keywords.FromEdges
    else if bytes_eq w (codes "reverse") then Some keywords.Reverse
    else if bytes_eq w (codes "mask") then Some keywords.Mask
    else if bytes_eq w (codes "subgraph") then Some keywords.Subgraph
    else if bytes_eq w (codes "groupedges") then Some keywords.GroupEdges
    else if bytes_eq w (codes "partition") then Some keywords.Partition
    else map_keyword w

-- the statement that begins with a word
abbrev pub keyword_of : List ℕ → Option StmtKeyword
keyword_of w =
    if bytes_eq w (codes "vertices") then Some keywords.Vertices
    else if bytes_eq w (codes "edges") then Some keywords.Edges
    else if bytes_eq w (codes "edgelist") then Some keywords.EdgeList
    else graph_keyword w

-- a truth value as a constant
abbrev pub truth_of : List ℕ → Option Bool
truth_of w =
    if bytes_eq w (codes "true") then Some true
    else if bytes_eq w (codes "false") then Some false
    else None
