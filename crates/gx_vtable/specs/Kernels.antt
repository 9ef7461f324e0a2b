-- What a kernel returns: the list of its rows if no vertex has a fault, or else the fault of the first
-- vertex that has one, which is the least since identifiers ascend.
use Rattle.std.specs.Prelude.{◌≡◌, ℕ, pos, Bool, true, false, List, [], ◌∷◌, filter, filter_map, slice_get, Option, None, Some, option_map, Result, Ok, Err, ⊤, refl}
use Rattle.std.specs.Result.{result_ok, result_unwrap_or}
use Rattle.gx_rows.specs.declared.cause.Cause.{Cause}
use Rattle.gx_rows.specs.declared.cause.Cause.TheVariants as cause
use Rattle.gx_rows.specs.declared.part_stop.PartStop.{PartStop}
use Rattle.gx_rows.specs.declared.part_stop.PartStop.TheVariants as part_stop
use Rattle.gx_rows.specs.declared.row_key.RowKey.TheVariants as row_key
use Rattle.gx_rows.specs.declared.value.Value.{Value}
use Rattle.gx_rows.specs.declared.value.Value.TheVariants as value
use Rattle.gx_rows.specs.declared.vid.Vid.{Vid}
use Rattle.gx_vpart.specs.Operators.{VertexRow}
use Rattle.gx_vtable.specs.NewRows.{vertex_id}

-- Each item's identifier with its new row. An item on which a column has no value is left out; nobody
-- sees such a list, since the kernel then returns a fault.
abbrev pub rows_made : {A : Type 0} → (A → Vid) → (A → Result (List Value) (Cause × ℕ)) → List A → List VertexRow
rows_made id_of row_of items = filter_map (λ x. option_map (λ row. (id_of x, row)) (result_ok (row_of x))) items

-- the vertices of which the test holds
abbrev pub rows_kept : (VertexRow → Result Bool (Cause × ℕ)) → List VertexRow → List VertexRow
rows_kept holds vertices = filter (λ v. result_unwrap_or (holds v) false) vertices

-- a vertex without a value, with the cause and the number of the expression node
abbrev pub VertexFault : Type 0
VertexFault = Vid × (Cause × ℕ)

abbrev pub fault_if : {B : Type 0} → Vid → Result B (Cause × ℕ) → Option VertexFault
fault_if v (Ok x) = None
fault_if v (Err f) = Some (v, f)

-- the faults at these items, in order
abbrev pub faults_at : {A B : Type 0} → (A → Vid) → (A → Result B (Cause × ℕ)) → List A → List VertexFault
faults_at id_of result_of items = filter_map (λ x. fault_if (id_of x) (result_of x)) items

-- the fault at the first item that has one
abbrev pub earliest_fault : {A B : Type 0} → (A → Vid) → (A → Result B (Cause × ℕ)) → List A → Option VertexFault
earliest_fault id_of result_of items = slice_get (faults_at id_of result_of items) 0

-- the refusal of a kernel with this fault
abbrev pub stop_of_fault : VertexFault → PartStop
stop_of_fault f = part_stop.Fault (row_key.Vertex f.0) f.1.1 f.1.0

-- the rows, if there is no fault, or else the fault; memory may run out instead
abbrev pub ReturnsRows : List VertexRow → Option VertexFault → Result (List VertexRow) PartStop → Type 0
ReturnsRows rows fault (Ok new) = (new ≡ rows) × (fault ≡ None)
ReturnsRows rows fault (Err part_stop.NoMemory) = ⊤
ReturnsRows rows fault (Err (part_stop.Fault key node cause)) = option_map stop_of_fault fault ≡ Some (part_stop.Fault key node cause)

-- a kernel makes a row of each item
abbrev pub MakesRows : {A : Type 0} → (A → Vid) → (A → Result (List Value) (Cause × ℕ)) → List A → Result (List VertexRow) PartStop → Type 0
MakesRows id_of row_of items = ReturnsRows (rows_made id_of row_of items) (earliest_fault id_of row_of items)

-- a kernel keeps the vertices of which a test holds
abbrev pub KeepsRows : (VertexRow → Result Bool (Cause × ℕ)) → List VertexRow → Result (List VertexRow) PartStop → Type 0
KeepsRows holds vertices = ReturnsRows (rows_kept holds vertices) (earliest_fault vertex_id holds vertices)

-- ---- examples: rows without a column have no value

abbrev first_column : VertexRow → Result (List Value) (Cause × ℕ)
first_column v = column_or_fault v.1
  where
    column_or_fault : List Value → Result (List Value) (Cause × ℕ)
    column_or_fault [] = Err (cause.DivideByZero, 7)
    column_or_fault (x ∷ xs) = Ok (x ∷ [])

abbrev example_id : ℕ → Vid
example_id n = record { 0 = pos n }

abbrev example_row : List Value
example_row = value.Int (pos 25) ∷ value.Bool true ∷ []

rows_made-example : rows_made vertex_id first_column ((example_id 1, example_row) ∷ (example_id 2, example_row) ∷ [])
    ≡ (example_id 1, value.Int (pos 25) ∷ []) ∷ (example_id 2, value.Int (pos 25) ∷ []) ∷ []
rows_made-example = refl

earliest_fault-example : earliest_fault vertex_id first_column ((example_id 1, example_row) ∷ (example_id 2, []) ∷ (example_id 3, []) ∷ [])
    ≡ Some (example_id 2, (cause.DivideByZero, 7))
earliest_fault-example = refl
