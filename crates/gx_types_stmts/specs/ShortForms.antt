-- The short forms of `aggregate`.
use Rattle.std.specs.Prelude.{◌≡◌, pos, None, List, [], ◌∷◌, codes, refl}
use Rattle.gx_expr.specs.declared.expr.Expr.{Expr}
use Rattle.gx_expr.specs.declared.expr.Expr.TheVariants as expr
use Rattle.gx_expr.specs.declared.side.Side.TheVariants as side
use Rattle.gx_merge.specs.declared.merge_kind.MergeKind.{MergeKind}
use Rattle.gx_merge.specs.declared.merge_kind.MergeKind.TheVariants as merge
use Rattle.gx_rows.specs.declared.value.Value.TheVariants as value
use Rattle.gx_rows.specs.declared.value.ValueKind.TheVariants as kind
use Rattle.gx_syntax_tree.specs.declared.words.NeighbourWord.{NeighbourWord}
use Rattle.gx_syntax_tree.specs.declared.words.NeighbourWord.TheVariants as neighbour_words
use Rattle.gx_types_stmts.specs.Makes.{OperandTypes, table_stmt}
use Rattle.gx_types_stmts.specs.declared.typed_body.TypedBody.{TypedBody}
use Rattle.gx_types_stmts.specs.declared.short_forms.Content.{Content}
use Rattle.gx_types_stmts.specs.declared.short_forms.Content.TheVariants as content
use Rattle.gx_types_clauses.specs.declared.typed_send.EdgeEnd.{EdgeEnd}
use Rattle.gx_types_clauses.specs.declared.typed_send.EdgeEnd.TheVariants as edge_end
use Rattle.gx_types_clauses.specs.declared.typed_send.TypedSend.{TypedSend}
use Rattle.gx_types_stmts.specs.declared.typed_stmt.TypedStmt.{TypedStmt}
use Rattle.gx_types_stmts.specs.declared.typed_stmt.TypedStmt.TheVariants as typed

-- what an edge sends to one of its ends: the number 1, or the identifier of the other end
abbrev pub sent_value : Content → EdgeEnd → Expr
sent_value content.One e = expr.Const 0 (value.Int (pos 1))
sent_value content.Neighbour edge_end.Src = expr.Id 0 side.Dst
sent_value content.Neighbour edge_end.Dst = expr.Id 0 side.Src

abbrev pub sent : Content → EdgeEnd → TypedSend
sent c e = record { to = e; values = sent_value c e ∷ []; when = None }

-- to the destination of each edge that comes in, to the source of each that goes out, or to both
abbrev pub sends_along : (EdgeEnd → TypedSend) → NeighbourWord → List TypedSend
sends_along to neighbour_words.In = to edge_end.Dst ∷ []
sends_along to neighbour_words.Out = to edge_end.Src ∷ []
sends_along to neighbour_words.Either = to edge_end.Dst ∷ to edge_end.Src ∷ []

-- one merge, in a statement in whose text no node is written
abbrev pub merged_by : OperandTypes → List TypedSend → MergeKind → TypedStmt
merged_by g sends by = typed.Aggregate g.number sends (by ∷ []) 0

-- the degrees, by the edges that are counted
abbrev pub degree_table : OperandTypes → NeighbourWord → TypedBody
degree_table g d =
    table_stmt (merged_by g (sends_along (sent content.One) d) merge.Sum)
    ((codes "degree", kind.Int) ∷ [])

abbrev pub neighbour_table : OperandTypes → NeighbourWord → TypedBody
neighbour_table g d =
    table_stmt (merged_by g (sends_along (sent content.Neighbour) d) merge.Bag)
    ((codes "ids", kind.Ids) ∷ [])

-- an edge that comes in sends its source
source-sent : sends_along (sent content.Neighbour) neighbour_words.In
    ≡ record { to = edge_end.Dst; values = expr.Id 0 side.Src ∷ []; when = None } ∷ []
source-sent = refl
