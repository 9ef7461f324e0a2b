-- What the private functions that write statements put after the keyword: the form of some keyword, and parts of forms.
use Rattle.std.specs.Prelude.{ℕ, ℤ, Bool, Option, List, [], ◌∷◌, codes}
use Rattle.gx_syntax_tokens.specs.Terminals.{word, quoted}
use Rattle.gx_syntax_tokens.specs.SpacedText.{Piece, token}
use Rattle.gx_syntax_tree.specs.Forms.{Values, a_number, sets, consts, merges, sends, active, fin, say, part, form_of}
use Rattle.gx_syntax_tree.specs.declared.constant.ColumnConst.{ColumnConst}
use Rattle.gx_syntax_tree.specs.declared.constant.Const.{Const}
use Rattle.gx_syntax_tree.specs.declared.expr.Expr.{Expr}
use Rattle.gx_syntax_tree.specs.declared.keyword.StmtKeyword.{StmtKeyword}
use Rattle.gx_syntax_tree.specs.declared.keyword.StmtKeyword.TheVariants as keywords
use Rattle.gx_syntax_tree.specs.declared.parts.ColumnDecl.{ColumnDecl}
use Rattle.gx_syntax_tree.specs.declared.parts.ColumnExpr.{ColumnExpr}
use Rattle.gx_syntax_tree.specs.declared.parts.ColumnMerge.{ColumnMerge}
use Rattle.gx_syntax_tree.specs.declared.parts.SendClause.{SendClause}
use Rattle.gx_syntax_tree.specs.declared.words.ActiveWord.{ActiveWord}
use Rattle.gx_syntax_tree.specs.declared.words.NeighbourWord.{NeighbourWord}
use Rattle.gx_syntax_show.specs.StmtPieces.{form_pieces}

-- a word, and then values in the form of a keyword
abbrev pub pieces_like : List ℕ → (k : StmtKeyword) → Values (form_of k) → List Piece
pieces_like w k v = token (word w) ∷ form_pieces (form_of k) v

-- `WORD NAME from FILE`
abbrev pub file_pieces : List ℕ → List ℕ → List ℕ → List Piece
file_pieces w name file = token (word w) ∷ token (word name) ∷ token (word (codes "from")) ∷ token (quoted file) ∷ []

-- `WORD NAME from FILE (columns)`
abbrev pub load_pieces : List ℕ → List ℕ → List ℕ → List ColumnDecl → List Piece
load_pieces w name file columns = pieces_like w keywords.Vertices (name, (file, (columns, tt)))

-- `edgelist NAME from FILE [oriented]`
abbrev pub edge_list_pieces : List ℕ → List ℕ → Bool → List Piece
edge_list_pieces name file oriented = pieces_like (codes "edgelist") keywords.EdgeList (name, (file, (oriented, tt)))

-- `WORD NAME = SOURCE`
abbrev pub derived_pieces : List ℕ → List ℕ → List ℕ → List Piece
derived_pieces w name source = pieces_like w keywords.Reverse (name, (source, tt))

-- `fromedges NAME = EDGES (row)`
abbrev pub from_edges_pieces : List ℕ → List ℕ → List ColumnConst → List Piece
from_edges_pieces name edges row = pieces_like (codes "fromedges") keywords.FromEdges (name, (edges, (row, tt)))

-- `WORD NAME = SOURCE by WORD`
abbrev pub by_pieces : List ℕ → List ℕ → List ℕ → List ℕ → List Piece
by_pieces w name source by = pieces_like w keywords.Mask (name, (source, (by, tt)))

-- `subgraph NAME = GRAPH [vertices expr] [edges expr]`
abbrev pub subgraph_pieces : List ℕ → List ℕ → Option Expr → Option Expr → List Piece
subgraph_pieces name graph vertices edges = pieces_like (codes "subgraph") keywords.Subgraph (name, (graph, (record { vertices = vertices; edges = edges }, tt)))

-- `groupedges NAME = GRAPH (merges)`
abbrev pub group_edges_pieces : List ℕ → List ℕ → List ColumnMerge → List Piece
group_edges_pieces name graph ms = pieces_like (codes "groupedges") keywords.GroupEdges (name, (graph, (ms, tt)))

-- `WORD NAME = SOURCE (sets)`
abbrev pub map_pieces : List ℕ → List ℕ → List ℕ → List ColumnExpr → List Piece
map_pieces w name source ss = pieces_like w keywords.MapVertices (name, (source, (ss, tt)))

-- `WORD NAME = SOURCE, OTHER`
abbrev pub pair_pieces : List ℕ → List ℕ → List ℕ → List ℕ → List Piece
pair_pieces w name source other = pieces_like w keywords.Minus (name, (source, (other, tt)))

-- `WORD NAME = SOURCE, OTHER (sets)`
abbrev pub join_pieces : List ℕ → List ℕ → List ℕ → List ℕ → List ColumnExpr → List Piece
join_pieces w name source other ss = pieces_like w keywords.JoinVertices (name, (source, (other, (ss, tt))))

-- `WORD NAME = SOURCE, OTHER default (row)`
abbrev pub default_pieces : List ℕ → List ℕ → List ℕ → List ℕ → List Const → List Piece
default_pieces w name source other row = pieces_like w keywords.Graph (name, (source, (other, (row, tt))))

-- `WORD NAME = SOURCE, OTHER default (row) (sets)`
abbrev pub outer_join_pieces : List ℕ → List ℕ → List ℕ → List ℕ → List Const → List ColumnExpr → List Piece
outer_join_pieces w name source other row ss = pieces_like w keywords.OuterJoin (name, (source, (other, (row, (ss, tt)))))

-- `aggregate NAME = GRAPH sends merge (merges)`
abbrev pub aggregate_pieces : List ℕ → List ℕ → List SendClause → List ColumnMerge → List Piece
aggregate_pieces name graph ss ms = pieces_like (codes "aggregate") keywords.Aggregate (name, (graph, (ss, (ms, tt))))

-- `neighbours NAME = GRAPH DIRECTION`
abbrev pub neighbours_pieces : List ℕ → List ℕ → NeighbourWord → List Piece
neighbours_pieces name graph direction = pieces_like (codes "neighbours") keywords.Neighbours (name, (graph, (direction, tt)))

-- `rounds NUMBER [active WORD]`
abbrev pub rounds_pieces : ℤ → ActiveWord → List Piece
rounds_pieces rounds a = form_pieces (say (codes "rounds") (part a_number (part active fin))) (rounds, (a, tt))

-- `merge (merges) initial (row) program (sets) sends`
abbrev pub program_pieces : List ColumnMerge → List Const → List ColumnExpr → List SendClause → List Piece
program_pieces ms initial program ss =
    form_pieces (say (codes "merge") (part merges (say (codes "initial") (part consts (say (codes "program") (part sets (part sends fin))))))) (ms, (initial, (program, (ss, tt))))

-- `filter NAME = TABLE where expr`
abbrev pub filter_pieces : List ℕ → List ℕ → Expr → List Piece
filter_pieces name table condition = pieces_like (codes "filter") keywords.Filter (name, (table, (condition, tt)))

-- `WORD TARGET NAME`
abbrev pub action_pieces : List ℕ → List ℕ → List ℕ → List Piece
action_pieces w target name = token (word w) ∷ token (word target) ∷ token (word name) ∷ []
