-- What an expression may read, by names, at each place of a script.
use Rattle.std.specs.Prelude.{◌≡◌, Bool, true, false, ◌&&◌, Option, None, Some, List, [], map, refl}
use Rattle.std.specs.Option.{is_some, unwrap_or}
use Rattle.gx_rows.specs.Columns.{Column}
use Rattle.gx_expr.specs.Typing.{ScopeType}
use Rattle.gx_expr.specs.declared.side.Side.{Side}
use Rattle.gx_expr.specs.declared.side.Side.TheVariants as side
use Rattle.gx_types_exprs.specs.declared.expr_scope.ExprScope.{ExprScope}
use Rattle.gx_types_exprs.specs.declared.expr_scope.ExprScope.TheVariants as place

-- the columns of each side, or none if the side is not in scope; a side that is in scope with its
-- identifier alone has no columns
pub record ScopeNames : Type 0 where
  pub vertex : Option (List Column)
  pub src : Option (List Column)
  pub dst : Option (List Column)
  pub edge : Option (List Column)
  pub other : Option (List Column)
  pub message : Option (List Column)
  -- whether `matched` is in scope
  pub has_matched : Bool

-- ---- each place of a script

abbrev no_scope : ScopeNames
no_scope = record {
  vertex = None;
  src = None;
  dst = None;
  edge = None;
  other = None;
  message = None;
  has_matched = false;
}

-- `v` alone: a vertex of a graph, or a row of a table
abbrev pub vertex_scope : List Column → ScopeNames
vertex_scope v = record no_scope { vertex = Some v }

-- `src`, `dst` and `edge`: an edge with the rows of both ends
abbrev pub triplet_scope : List Column → List Column → ScopeNames
triplet_scope ends edge = record no_scope { src = Some ends; dst = Some ends; edge = Some edge }

-- `edge`, and `src` and `dst` with their identifiers alone
abbrev pub edge_scope : List Column → ScopeNames
edge_scope edge = triplet_scope [] edge

-- `v` and `o`: a row and the one that it is joined with
abbrev pub join_scope : List Column → List Column → ScopeNames
join_scope v o = record no_scope { vertex = Some v; other = Some o }

-- `v`, `o` and `matched`: `o` is a default row if there is none to join with
abbrev pub outer_join_scope : List Column → List Column → ScopeNames
outer_join_scope v o = record no_scope { vertex = Some v; other = Some o; has_matched = true }

-- `v` and `m`: a vertex and its merged message
abbrev pub program_scope : List Column → List Column → ScopeNames
program_scope v m = record no_scope { vertex = Some v; message = Some m }

-- what the code's scope of a place says
abbrev pub scope_names : ExprScope → ScopeNames
scope_names (place.Vertex v) = vertex_scope v.now
scope_names (place.Triplet ends edge) = triplet_scope ends.now edge.now
scope_names (place.Edge edge) = edge_scope edge.now
scope_names (place.Join v o) = join_scope v.now o.now
scope_names (place.OuterJoin v o) = outer_join_scope v.now o.now
scope_names (place.Program v m) = program_scope v.now m.now

-- ---- by side

-- the columns of a side; none if it is not in scope
abbrev pub side_columns : ScopeNames → Side → Option (List Column)
side_columns s side.Vertex = s.vertex
side_columns s side.Src = s.src
side_columns s side.Dst = s.dst
side_columns s side.Edge = s.edge
side_columns s side.Other = s.other
side_columns s side.Message = s.message

abbrev pub has_side : ScopeNames → Side → Bool
has_side s d = is_some (side_columns s d)

abbrev pub readable_columns : ScopeNames → Side → List Column
readable_columns s d = unwrap_or (side_columns s d) []

-- the sides whose row has an identifier
abbrev pub side_has_id : Side → Bool
side_has_id side.Vertex = true
side_has_id side.Src = true
side_has_id side.Dst = true
side_has_id side.Edge = false
side_has_id side.Other = false
side_has_id side.Message = false

-- the scope without names, as the evaluation sees it
abbrev pub scope_type : ScopeNames → ScopeType
scope_type s = record {
  columns = λ d. map (λ c. c.1) (readable_columns s d);
  has_id = λ d. side_has_id d && has_side s d;
  has_matched = s.has_matched;
}

-- where edges are mapped, a source is in scope with its identifier alone, and there is no `v`
edge_scope-sides : (edge : List Column)
    → (has_side (edge_scope edge) side.Src ≡ true)
    × (readable_columns (edge_scope edge) side.Src ≡ [])
    × (readable_columns (edge_scope edge) side.Edge ≡ edge)
    × (has_side (edge_scope edge) side.Vertex ≡ false)
edge_scope-sides edge = (refl, refl, refl, refl)
