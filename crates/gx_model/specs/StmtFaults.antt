-- The fault of a statement: on which vertex or edge an expression has no value, and why.
use Rattle.std.specs.Prelude.{◌≡◌, ℕ, pos, if◌then◌else◌, List, [], ◌∷◌, filter_map, Option, None, Some, option_map, Result, Ok, Err, refl}
use Rattle.std.specs.Ordering.{is_gt}
use Rattle.std.specs.declared.cmp.Ordering.{Ordering}
use Rattle.gx_rows.specs.declared.cause.Cause.{Cause}
use Rattle.gx_rows.specs.declared.cause.Cause.TheVariants as cause
use Rattle.gx_rows.specs.declared.fault.Fault.{Fault}
use Rattle.gx_rows.specs.declared.row_key.RowKey.TheVariants as row_key
use Rattle.gx_rows.specs.declared.vid.Vid.{Vid}
use Rattle.gx_index.specs.Ids.{id_cmp}
use Rattle.gx_types_stmts.specs.declared.typed_stmt.TypedStmt.{TypedStmt}
use Rattle.gx_types_stmts.specs.declared.typed_stmt.TypedStmt.TheVariants as stmts
use Rattle.gx_model.specs.Graphs.{Graph, Vertex}
use Rattle.gx_model.specs.Values.{join_row_result, value_named, vertex_row_result, vertex_test_result, vertices_in_both}

-- what has no value, and why: a key with the cause and the number of the node
abbrev pub KeyFault : Type 0 → Type 0
KeyFault Key = Key × (Cause × ℕ)

abbrev pub key_fault_if : {Key A : Type 0} → Key → Result A (Cause × ℕ) → Option (KeyFault Key)
key_fault_if key (Ok a) = None
key_fault_if key (Err f) = Some (key, f)

-- ---- the fault of a phase is the one of the least key

abbrev pub lesser_fault : {Key : Type 0} → (Key → Key → Ordering) → KeyFault Key → Option (KeyFault Key) → KeyFault Key
lesser_fault cmp f None = f
lesser_fault cmp f (Some g) = if is_gt (cmp f.0 g.0) then g else f

abbrev pub least_fault : {Key : Type 0} → (Key → Key → Ordering) → List (KeyFault Key) → Option (KeyFault Key)
least_fault cmp [] = None
least_fault cmp (f ∷ faults) = Some (lesser_fault cmp f (least_fault cmp faults))

-- the vertices on which something has no value
abbrev pub faults_on_vertices : {A : Type 0} → (Vertex → Result A (Cause × ℕ)) → List Vertex → List (KeyFault Vid)
faults_on_vertices result vertices = filter_map (λ v. key_fault_if v.0 (result v)) vertices

-- a fault on a vertex, as one of statement s
abbrev pub fault_on_vertex : ℕ → KeyFault Vid → Fault
fault_on_vertex s f = record { statement = s; key = row_key.Vertex f.0; expr = f.1.1; cause = f.1.0 }

-- ---- statements

-- the fault of statement s, which computes this on each of these vertices
abbrev pub fault_over_vertices : {A : Type 0} → ℕ → (Vertex → Result A (Cause × ℕ)) → List Vertex → Option Fault
fault_over_vertices s result vertices = option_map (fault_on_vertex s) (least_fault id_cmp (faults_on_vertices result vertices))

-- the fault of statement s, by the values of those before it
abbrev pub fault_of_stmt : {Place : Type 0} → List (Graph Place) → ℕ → TypedStmt → Option Fault
fault_of_stmt values s (stmts.MapVertices g sets) =
    fault_over_vertices s (vertex_row_result sets) (value_named values g).vertices
fault_of_stmt values s (stmts.Filter t condition) =
    fault_over_vertices s (vertex_test_result condition) (value_named values t).vertices
fault_of_stmt values s (stmts.MapValues t sets) =
    fault_over_vertices s (vertex_row_result sets) (value_named values t).vertices
fault_of_stmt values s (stmts.InnerJoin t u sets) =
    fault_over_vertices s (join_row_result sets (value_named values u).vertices [])
    (vertices_in_both (value_named values t).vertices (value_named values u).vertices)
fault_of_stmt values s (stmts.LeftJoin t u default sets) =
    fault_over_vertices s (join_row_result sets (value_named values u).vertices default) (value_named values t).vertices
fault_of_stmt values s _ = None

-- the least key counts, in whatever order the faults are
least_fault-example : least_fault id_cmp ((record { 0 = pos 3 }, (cause.Overflow, 0)) ∷ (record { 0 = pos 2 }, (cause.DivideByZero, 1)) ∷ [])
    ≡ Some (record { 0 = pos 2 }, (cause.DivideByZero, 1))
least_fault-example = refl
