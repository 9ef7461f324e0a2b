-- From the result of a traversal to the rows and the first fault of a kernel.
use Rattle.std.proofs.Common.{◌≡◌, ℕ, Bool, true, false, cond, List, [], ◌∷◌, map, zip, slice_get, Option, Some, None, option_map, Result, Ok, Err, IfOk, refl, sym, ap, ◌∙◌}
use Rattle.std.proofs.lemmas.Option.{none-some}
use Rattle.std.specs.List.{cons_option}
use Rattle.std.specs.Map.{keys_of}
use Rattle.std.specs.Result.{result_ok, result_unwrap_or}
use Rattle.gx_rows.specs.Results.{try_cons}
use Rattle.gx_rows.specs.declared.cause.Cause.{Cause}
use Rattle.gx_rows.specs.declared.eval_stop.EvalStop.{EvalStop}
use Rattle.gx_rows.specs.declared.eval_stop.EvalStop.TheVariants as eval_stop
use Rattle.gx_rows.specs.declared.part_stop.PartStop.{PartStop}
use Rattle.gx_rows.specs.declared.part_stop.PartStop.TheVariants as part_stop
use Rattle.gx_rows.specs.declared.row_key.RowKey.{RowKey}
use Rattle.gx_rows.specs.declared.row_key.RowKey.TheVariants as row_key
use Rattle.gx_rows.specs.declared.value.Value.{Value}
use Rattle.gx_rows.specs.declared.vid.Vid.{Vid}
use Rattle.gx_expr.specs.Evaluates.{EvaluatesTo}
use Rattle.gx_traverse.specs.Traversal.{AgreesWith, IsResultOf, traversal_of, with_key}
use Rattle.gx_vpart.specs.Operators.{VertexRow, left_join, picked, vertex_key}
use Rattle.gx_vtable.specs.Kernels.{ReturnsRows, KeepsRows, MakesRows, VertexFault, fault_if, faults_at, earliest_fault, rows_kept, rows_made, stop_of_fault}
use Rattle.gx_vtable.specs.NewRows.{join_id, vertex_id}

-- an evaluation that gives what is defined agrees with the function that is defined
pub agrees : {B : Type 0} (s : Result B EvalStop) (meant : Result B (Cause × ℕ)) → EvaluatesTo s meant → AgreesWith s meant
agrees (Ok x) meant h = h
agrees (Err (eval_stop.Fault cause node)) meant h = h
agrees (Err eval_stop.NoMemory) meant h = h

-- what a traversal gives is these rows, made of its values, without a fault, or this fault
abbrev Shows : {B : Type 0} → (List B → List VertexRow) → List VertexRow → Option VertexFault → Result (List B) (RowKey × ℕ × Cause) → Type 0
Shows made rows fault (Ok ys) = (made ys ≡ rows) × (fault ≡ None)
Shows made rows fault (Err e) = option_map stop_of_fault fault ≡ Some (part_stop.Fault e.0 e.1 e.2)

-- a result that is made of what a traversal gives is what a kernel gives
returns-shown : {B : Type 0} (made : List B → List VertexRow) (rows : List VertexRow) (fault : Option VertexFault)
    (meant : Result (List B) (RowKey × ℕ × Cause)) (result : Result (List VertexRow) PartStop)
    → Shows made rows fault meant → IsResultOf (λ ys new. new ≡ made ys) result meant → ReturnsRows rows fault result
returns-shown made rows fault meant (Ok new) shows is = let h = rw is.1 at shows in (is.2 ∙ h.0, h.1)
returns-shown made rows fault meant (Err part_stop.NoMemory) shows is = tt
returns-shown made rows fault meant (Err (part_stop.Fault key node cause)) shows is = rw is at shows

module _ {A : Type 0} (id_of : A → Vid) (row_of : A → Result (List Value) (Cause × ℕ)) where
  abbrev key_of : A → RowKey
  key_of x = row_key.Vertex (id_of x)

  -- the rows of these items, from the values of a traversal
  abbrev with_ids : List A → List (List Value) → List VertexRow
  with_ids xs rows = zip (map id_of xs) rows

  shows-rows : (xs : List A) → Shows (with_ids xs) (rows_made id_of row_of xs) (earliest_fault id_of row_of xs) (traversal_of key_of row_of xs)
  unfolding traversal_of
  shows-rows [] = (refl, refl)
  shows-rows (x ∷ xs) = by (row_of x) (traversal_of key_of row_of xs) (rows_made id_of row_of xs) (faults_at id_of row_of xs) (shows-rows xs)
    where
      by : (r : Result (List Value) (Cause × ℕ)) (rest : Result (List (List Value)) (RowKey × ℕ × Cause)) (rows : List VertexRow) (faults : List VertexFault)
          → Shows (with_ids xs) rows (slice_get faults 0) rest
          → Shows (with_ids (x ∷ xs)) (cons_option (option_map (λ row. (id_of x, row)) (result_ok r)) rows)
          (slice_get (cons_option (fault_if (id_of x) r) faults) 0) (try_cons (with_key (key_of x) r) rest)
      by (Ok row) (Ok ys) rows faults h = (ap (λ more. (id_of x, row) ∷ more) h.0, h.1)
      by (Ok row) (Err e) rows faults h = h
      by (Err f) (Ok ys) rows faults h = refl
      by (Err f) (Err e) rows faults h = refl

  -- if no item has a fault, no identifier is left out
  ids-of_rows : (xs : List A) → earliest_fault id_of row_of xs ≡ None → keys_of (rows_made id_of row_of xs) ≡ map id_of xs
  ids-of_rows [] none = refl
  ids-of_rows (x ∷ xs) none = by (row_of x) (faults_at id_of row_of xs) (rows_made id_of row_of xs) none (ids-of_rows xs)
    where
      by : (r : Result (List Value) (Cause × ℕ)) (faults : List VertexFault) (rows : List VertexRow)
          → slice_get (cons_option (fault_if (id_of x) r) faults) 0 ≡ None → (slice_get faults 0 ≡ None → keys_of rows ≡ map id_of xs)
          → keys_of (cons_option (option_map (λ row. (id_of x, row)) (result_ok r)) rows) ≡ id_of x ∷ map id_of xs
      by (Ok row) faults rows none more = ap (λ ids. id_of x ∷ ids) (more none)
      by (Err f) faults rows none more = absurd (none-some _ (sym none))

  -- a kernel whose closure makes the new row of each item
  pub makes_rows : (xs : List A) (result : Result (List VertexRow) PartStop)
      → IsResultOf (λ rows new. new ≡ with_ids xs rows) result (traversal_of key_of row_of xs) → MakesRows id_of row_of xs result
  makes_rows xs result is = returns-shown (with_ids xs) _ _ _ result (shows-rows xs) is

  -- it keeps the identifiers
  pub keeps_ids : (xs : List A) (result : Result (List VertexRow) PartStop) → MakesRows id_of row_of xs result → IfOk result (λ new. keys_of new ≡ map id_of xs)
  keeps_ids xs (Ok new) made = rw made.0 (ids-of_rows xs made.1)
  keeps_ids xs (Err stop) made = tt

-- the test of each vertex
shows-kept : (holds : VertexRow → Result Bool (Cause × ℕ)) (xs : List VertexRow)
    → Shows (picked xs) (rows_kept holds xs) (earliest_fault vertex_id holds xs) (traversal_of vertex_key holds xs)
unfolding traversal_of
shows-kept holds [] = (refl, refl)
shows-kept holds (x ∷ xs) = by (holds x) (traversal_of vertex_key holds xs) (rows_kept holds xs) (faults_at vertex_id holds xs) (shows-kept holds xs)
  where
    by : (r : Result Bool (Cause × ℕ)) (rest : Result (List Bool) (RowKey × ℕ × Cause)) (rows : List VertexRow) (faults : List VertexFault)
        → Shows (picked xs) rows (slice_get faults 0) rest
        → Shows (picked (x ∷ xs)) (cond (result_unwrap_or r false) (x ∷ rows) rows)
        (slice_get (cons_option (fault_if x.0 r) faults) 0) (try_cons (with_key (vertex_key x) r) rest)
    by (Ok true) (Ok bools) rows faults h = (ap (λ more. x ∷ more) h.0, h.1)
    by (Ok false) (Ok bools) rows faults h = h
    by (Ok holds) (Err e) rows faults h = h
    by (Err f) (Ok bools) rows faults h = refl
    by (Err f) (Err e) rows faults h = refl

-- a kernel whose closure tests each vertex
pub keeps_rows : (holds : VertexRow → Result Bool (Cause × ℕ)) (xs : List VertexRow) (result : Result (List VertexRow) PartStop)
    → IsResultOf (λ bools new. new ≡ picked xs bools) result (traversal_of vertex_key holds xs) → KeepsRows holds xs result
keeps_rows holds xs result is = returns-shown (picked xs) _ _ _ result (shows-kept holds xs) is

-- a left join has the identifiers of its first list
pub ids-left_join : {R S : Type 0} (xs : List (Vid × R)) (ys : List (Vid × S)) → map join_id (left_join xs ys) ≡ keys_of xs
ids-left_join [] ys = refl
ids-left_join (x ∷ xs) ys = ap (λ ids. x.0 ∷ ids) (ids-left_join xs ys)
