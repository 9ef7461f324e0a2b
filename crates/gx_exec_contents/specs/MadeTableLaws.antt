-- What the kernels make of the parts of tables is the part of what the model makes of the tables.
use Rattle.std.proofs.Common.{◌≡◌, ℕ, Bool, true, false, cond, List, [], ◌∷◌, Option, Some, None, is_none, is_some, Result, Ok, Err, option_map, unwrap_or, refl, sym, ap, ap₂, ◌∙◌}
use Rattle.std.specs.Prelude.{slice_get}
use Rattle.std.specs.List.{cons_option, filter_map}
use Rattle.std.specs.List.Sorted.{IsStrictlySortedBy}
use Rattle.std.specs.Map.{keys_of}
use Rattle.std.specs.Result.{result_ok, result_unwrap_or}
use Rattle.gx_rows.specs.declared.cause.Cause.{Cause}
use Rattle.gx_rows.specs.declared.value.Value.{Value}
use Rattle.gx_rows.specs.declared.vid.Vid.{Vid}
use Rattle.gx_expr.specs.Evaluation.{row_result, truth_result}
use Rattle.gx_expr.specs.declared.expr.Expr.{Expr}
use Rattle.gx_expr.specs.declared.side.Side.{Side}
use Rattle.gx_expr.specs.declared.side.Side.TheVariants as side
use Rattle.gx_gops.specs.Tables.{is_in_part}
use Rattle.gx_index.specs.Ids.{IsAscending, id_cmp}
use Rattle.gx_model.specs.Graphs.{Vertex, first_row_of, vertex_if}
use Rattle.gx_model.specs.StmtFaults.{faults_on_vertices, key_fault_if, least_fault}
use Rattle.gx_model.specs.Values.{columns_beside, columns_of_vertex, filtered_vertices, id_of_vertex, inner_joined_vertices, is_other_row, join_row_result, left_joined_vertices, mapped_vertices, values_beside, vertex_row_result, vertex_test_result, vertex_values, vertices_diff, vertices_in_both, vertices_minus, vertices_with_rows}
use Rattle.gx_model.specs.LeastFaultLaws.{least_fault-first}
use Rattle.gx_vpart.specs.Operators.{diff, inner_join, is_changed, left_join, minus, row_at, with_partner}
use Rattle.gx_vtable.specs.Kernels.{earliest_fault, fault_if, faults_at, rows_made}
use Rattle.gx_vtable.specs.NewRows.{columns_at_vertex, columns_in_join, id_at_vertex, inner_row, join_id, left_row, mapped_row, test_result, values_at_vertex, values_in_join, vertex_id}
use Rattle.gx_exec_contents.specs.MadeBlocks.{mapped, vertices_kept, vertices_made}
use Rattle.gx_exec_contents.specs.PartContents.{Table, part_of_vertices, stop_on_vertex, stop_or, stop_over_vertices}
use Rattle.gx_exec_contents.specs.TablePartLaws.{IsAscending-part, IsAscending-passing, filter_map-in_part, look_up-in_part, part-passing, part-with_new_rows}

-- ---- what an expression reads

columns-same : (row : List Value) (s : Side) → columns_of_vertex s row ≡ columns_at_vertex s row
columns-same row side.Vertex = refl
columns-same row _ = refl

ids-same : (id : Vid) (s : Side) → id_of_vertex s id ≡ id_at_vertex s id
ids-same id side.Vertex = refl
ids-same id _ = refl

values-same : (v : Vertex) → vertex_values v ≡ values_at_vertex v
values-same v = λ i. record { columns = λ s. columns-same v.1 s i; id = λ s. ids-same v.0 s i; matched = false }

result-same : (sets : List Expr) → vertex_row_result sets ≡ mapped_row sets
result-same sets = λ i v. row_result (values-same v i) sets

columns-beside_same : (row other : List Value) (s : Side) → columns_beside s row other ≡ columns_in_join s row other
columns-beside_same row other side.Vertex = refl
columns-beside_same row other side.Other = refl
columns-beside_same row other _ = refl

beside-same : (v : Vertex) (other : List Value) (matched : Bool) → values_beside v other matched ≡ values_in_join v other matched
beside-same v other matched = λ i. record { columns = λ s. columns-beside_same v.1 other s i; id = λ s. ids-same v.0 s i; matched = matched }

test-same : (condition : Expr) → vertex_test_result condition ≡ test_result condition
test-same condition = λ i v. truth_result (values-same v i) condition

-- ---- the first fault is the least

fault-same : {B : Type 0} (v : Vid) (r : Result B (Cause × ℕ)) → fault_if v r ≡ key_fault_if v r
fault-same v (Ok x) = refl
fault-same v (Err f) = refl

faults-same : {B : Type 0} (result : Vertex → Result B (Cause × ℕ)) (vertices : List Vertex) → faults_at vertex_id result vertices ≡ faults_on_vertices result vertices
faults-same result vertices = ap (λ h. filter_map h vertices) (λ i v. fault-same v.0 (result v) i)

ascending_rest : (v : Vertex) (vertices : List Vertex) → IsAscending (keys_of (v ∷ vertices)) → IsAscending (keys_of vertices)
unfolding IsStrictlySortedBy
ascending_rest v vertices ascending = ascending.1

-- the least fault on ascending vertices is the first
least-is_first : {B : Type 0} (result : Vertex → Result B (Cause × ℕ)) (vertices : List Vertex) → IsAscending (keys_of vertices)
    → least_fault id_cmp (faults_on_vertices result vertices) ≡ slice_get (faults_on_vertices result vertices) 0
least-is_first result [] ascending = refl
least-is_first result (v ∷ vertices) ascending = by (result v) refl (least-is_first result vertices (ascending_rest v vertices ascending))
  where
    by : (r : Result _ (Cause × ℕ)) → result v ≡ r → least_fault id_cmp (faults_on_vertices result vertices) ≡ slice_get (faults_on_vertices result vertices) 0
        → least_fault id_cmp (cons_option (key_fault_if v.0 r) (faults_on_vertices result vertices)) ≡ slice_get (cons_option (key_fault_if v.0 r) (faults_on_vertices result vertices)) 0
    by (Ok x) e more = more
    by (Err f) e more = sym (ap (λ r. least_fault id_cmp (cons_option (key_fault_if v.0 r) (faults_on_vertices result vertices))) e) ∙ least_fault-first result v vertices f ascending e

first-is_least : {A B : Type 0} (id_of : A → Vid) (of_item : A → Result B (Cause × ℕ)) (items : List A) (result : Vertex → Result B (Cause × ℕ)) (vertices : List Vertex)
    → faults_at id_of of_item items ≡ faults_on_vertices result vertices → IsAscending (keys_of vertices)
    → earliest_fault id_of of_item items ≡ least_fault id_cmp (faults_on_vertices result vertices)
first-is_least id_of of_item items result vertices same ascending = ap (λ fs. slice_get fs 0) same ∙ sym (least-is_first result vertices ascending)

-- items that give the rows and the faults of ascending vertices
made-is : {A : Type 0} (id_of : A → Vid) (row_of : A → Result (List Value) (Cause × ℕ)) (items : List A) (result : Vertex → Result (List Value) (Cause × ℕ)) (vertices : List Vertex)
    → faults_at id_of row_of items ≡ faults_on_vertices result vertices → rows_made id_of row_of items ≡ vertices_with_rows result vertices → IsAscending (keys_of vertices)
    → vertices_made id_of row_of items ≡ stop_or (stop_over_vertices result vertices) (Table (vertices_with_rows result vertices))
made-is id_of row_of items result vertices faults rows ascending =
    ap₂ (λ f vs. stop_or (option_map stop_on_vertex f) (Table vs)) (first-is_least id_of row_of items result vertices faults ascending) rows

-- ---- vertices with new rows, and vertices that are kept

pub mapped-is : (parts i : ℕ) (sets : List Expr) (vertices : List Vertex) → IsAscending (keys_of vertices)
    → mapped sets (part_of_vertices parts i vertices)
    ≡ stop_or (stop_over_vertices (vertex_row_result sets) (part_of_vertices parts i vertices)) (Table (part_of_vertices parts i (mapped_vertices sets vertices)))
mapped-is parts i sets vertices ascending =
    let part : List Vertex = part_of_vertices parts i vertices in
    ap (λ h. vertices_made vertex_id h part) (sym (result-same sets))
    ∙ made-is vertex_id (vertex_row_result sets) part (vertex_row_result sets) part (faults-same (vertex_row_result sets) part) refl (IsAscending-part parts i vertices ascending)
    ∙ ap (λ vs. stop_or (stop_over_vertices (vertex_row_result sets) part) (Table vs)) (part-with_new_rows (λ v. result_ok (vertex_row_result sets v)) parts i vertices)

pub kept-is : (parts i : ℕ) (condition : Expr) (vertices : List Vertex) → IsAscending (keys_of vertices)
    → vertices_kept (test_result condition) (part_of_vertices parts i vertices)
    ≡ stop_or (stop_over_vertices (vertex_test_result condition) (part_of_vertices parts i vertices)) (Table (part_of_vertices parts i (filtered_vertices condition vertices)))
kept-is parts i condition vertices ascending =
    let part : List Vertex = part_of_vertices parts i vertices in
    let holds : Vertex → Bool = λ v. result_unwrap_or (vertex_test_result condition v) false in
    ap (λ h. vertices_kept h part) (sym (test-same condition))
    ∙ ap₂ (λ f vs. stop_or (option_map stop_on_vertex f) (Table vs))
    (first-is_least vertex_id (vertex_test_result condition) part (vertex_test_result condition) part (faults-same (vertex_test_result condition) part) (IsAscending-part parts i vertices ascending))
    (part-passing parts i holds holds (λ v here. refl) vertices)

-- ---- two tables

pub minus-is : (parts i : ℕ) (xs ys : List Vertex) → minus (part_of_vertices parts i xs) (part_of_vertices parts i ys) ≡ part_of_vertices parts i (vertices_minus xs ys)
minus-is parts i xs ys =
    part-passing parts i (λ v. is_none (first_row_of ys v.0)) (λ v. is_none (first_row_of (part_of_vertices parts i ys) v.0))
    (λ v here. ap is_none (look_up-in_part parts i ys v.0 here)) xs

changed-same : (found : Option (List Value)) (row : List Value) → is_changed found row ≡ is_other_row found row
changed-same None row = refl
changed-same (Some other) row = refl

pub diff-is : (parts i : ℕ) (xs ys : List Vertex) → diff (part_of_vertices parts i xs) (part_of_vertices parts i ys) ≡ part_of_vertices parts i (vertices_diff xs ys)
diff-is parts i xs ys =
    part-passing parts i (λ v. is_other_row (first_row_of xs v.0) v.1) (λ v. is_changed (row_at v.0 (part_of_vertices parts i xs)) v.1)
    (λ v here. ap (λ found. is_changed found v.1) (look_up-in_part parts i xs v.0 here) ∙ changed-same (first_row_of xs v.0) v.1) ys

-- ---- joins

module _ (parts i : ℕ) (ys : List Vertex) where
  -- at a vertex of the part, the join with the part is the join with all
  pub join_row-in_part : (sets : List Expr) (default : List Value) (v : Vertex) → is_in_part i parts v.0 ≡ true
      → join_row_result sets (part_of_vertices parts i ys) default v ≡ join_row_result sets ys default v
  join_row-in_part sets default v here =
      ap (λ found. row_result (values_beside v (unwrap_or found default) (is_some found)) sets) (look_up-in_part parts i ys v.0 here)

  pub both-in_part : (xs : List Vertex) → vertices_in_both (part_of_vertices parts i xs) (part_of_vertices parts i ys) ≡ part_of_vertices parts i (vertices_in_both xs ys)
  both-in_part xs =
      part-passing parts i (λ v. is_some (first_row_of ys v.0)) (λ v. is_some (first_row_of (part_of_vertices parts i ys) v.0))
      (λ v here. ap is_some (look_up-in_part parts i ys v.0 here)) xs

  joined-in_part : (sets : List Expr) (default : List Value) (xs : List Vertex)
      → vertices_with_rows (join_row_result sets (part_of_vertices parts i ys) default) (part_of_vertices parts i xs)
      ≡ part_of_vertices parts i (vertices_with_rows (join_row_result sets ys default) xs)
  joined-in_part sets default xs =
      filter_map-in_part parts i (λ v. vertex_if v.0 (result_ok (join_row_result sets (part_of_vertices parts i ys) default v))) (λ v. vertex_if v.0 (result_ok (join_row_result sets ys default v)))
      (λ v here. ap (λ r. vertex_if v.0 (result_ok r)) (join_row-in_part sets default v here)) xs
      ∙ part-with_new_rows (λ v. result_ok (join_row_result sets ys default v)) parts i xs

  -- so are its faults
  pub join_faults-in_part : (sets : List Expr) (default : List Value) (xs : List Vertex)
      → stop_over_vertices (join_row_result sets (part_of_vertices parts i ys) default) (part_of_vertices parts i xs)
      ≡ stop_over_vertices (join_row_result sets ys default) (part_of_vertices parts i xs)
  join_faults-in_part sets default xs =
      ap (λ fs. option_map stop_on_vertex (least_fault id_cmp fs))
      (filter_map-in_part parts i (λ v. key_fault_if v.0 (join_row_result sets (part_of_vertices parts i ys) default v)) (λ v. key_fault_if v.0 (join_row_result sets ys default v))
      (λ v here. ap (key_fault_if v.0) (join_row-in_part sets default v here)) xs)

-- what is made of the vertices with a partner is what is made of the vertices in both tables
made-inner_join : {X : Type 0} (f : Vid × List Value × List Value → Option X) (g : Vertex → Option X) (xs ys : List Vertex)
    → ((v : Vertex) (o : List Value) → first_row_of ys v.0 ≡ Some o → f (v.0, v.1, o) ≡ g v)
    → filter_map f (inner_join xs ys) ≡ filter_map g (vertices_in_both xs ys)
made-inner_join f g [] ys same = refl
made-inner_join f g (x ∷ xs) ys same = by (first_row_of ys x.0) refl (made-inner_join f g xs ys same)
  where
    by : (found : Option (List Value)) → first_row_of ys x.0 ≡ found → filter_map f (inner_join xs ys) ≡ filter_map g (vertices_in_both xs ys)
        → filter_map f (cons_option (with_partner (x.0, x.1, found)) (inner_join xs ys))
        ≡ filter_map g (cond (is_some found) (x ∷ vertices_in_both xs ys) (vertices_in_both xs ys))
    by None is more = more
    by (Some o) is more = ap₂ (λ u us. cons_option u us) (same x o is) more

-- and of all vertices, with what stands beside them
made-left_join : {X : Type 0} (f : Vid × List Value × Option (List Value) → Option X) (g : Vertex → Option X) (xs ys : List Vertex)
    → ((v : Vertex) → f (v.0, v.1, first_row_of ys v.0) ≡ g v) → filter_map f (left_join xs ys) ≡ filter_map g xs
made-left_join f g [] ys same = refl
made-left_join f g (x ∷ xs) ys same = ap₂ (λ u us. cons_option u us) (same x) (made-left_join f g xs ys same)

inner_row-same : (sets : List Expr) (ys : List Vertex) (v : Vertex) (o : List Value) → first_row_of ys v.0 ≡ Some o → inner_row sets (v.0, v.1, o) ≡ join_row_result sets ys [] v
inner_row-same sets ys v o is =
    ap (λ values. row_result values sets) (sym (beside-same v o true))
    ∙ sym (ap (λ found. row_result (values_beside v (unwrap_or found []) (is_some found)) sets) is)

left_row-same : (sets : List Expr) (default : List Value) (ys : List Vertex) (v : Vertex) → left_row sets default (v.0, v.1, first_row_of ys v.0) ≡ join_row_result sets ys default v
left_row-same sets default ys v =
    ap (λ values. row_result values sets) (sym (beside-same v (unwrap_or (first_row_of ys v.0) default) (is_some (first_row_of ys v.0))))

inner-made : (sets : List Expr) (xs ys : List Vertex) → IsAscending (keys_of xs)
    → vertices_made join_id (inner_row sets) (inner_join xs ys)
    ≡ stop_or (stop_over_vertices (join_row_result sets ys []) (vertices_in_both xs ys)) (Table (inner_joined_vertices sets xs ys))
inner-made sets xs ys ascending =
    made-is join_id (inner_row sets) (inner_join xs ys) (join_row_result sets ys []) (vertices_in_both xs ys)
    (made-inner_join (λ x. fault_if (join_id x) (inner_row sets x)) (λ v. key_fault_if v.0 (join_row_result sets ys [] v)) xs ys
    (λ v o is. ap (fault_if v.0) (inner_row-same sets ys v o is) ∙ fault-same v.0 (join_row_result sets ys [] v)))
    (made-inner_join (λ x. option_map (λ row. (join_id x, row)) (result_ok (inner_row sets x))) (λ v. vertex_if v.0 (result_ok (join_row_result sets ys [] v))) xs ys
    (λ v o is. ap (λ r. vertex_if v.0 (result_ok r)) (inner_row-same sets ys v o is)))
    (IsAscending-passing (λ v. is_some (first_row_of ys v.0)) xs ascending)

left-made : (sets : List Expr) (default : List Value) (xs ys : List Vertex) → IsAscending (keys_of xs)
    → vertices_made join_id (left_row sets default) (left_join xs ys)
    ≡ stop_or (stop_over_vertices (join_row_result sets ys default) xs) (Table (left_joined_vertices sets default xs ys))
left-made sets default xs ys ascending =
    made-is join_id (left_row sets default) (left_join xs ys) (join_row_result sets ys default) xs
    (made-left_join (λ x. fault_if (join_id x) (left_row sets default x)) (λ v. key_fault_if v.0 (join_row_result sets ys default v)) xs ys
    (λ v. ap (fault_if v.0) (left_row-same sets default ys v) ∙ fault-same v.0 (join_row_result sets ys default v)))
    (made-left_join (λ x. option_map (λ row. (join_id x, row)) (result_ok (left_row sets default x))) (λ v. vertex_if v.0 (result_ok (join_row_result sets ys default v))) xs ys
    (λ v. ap (λ r. vertex_if v.0 (result_ok r)) (left_row-same sets default ys v)))
    ascending

pub inner_joined-is : (parts i : ℕ) (sets : List Expr) (xs ys : List Vertex) → IsAscending (keys_of xs)
    → vertices_made join_id (inner_row sets) (inner_join (part_of_vertices parts i xs) (part_of_vertices parts i ys))
    ≡ stop_or (stop_over_vertices (join_row_result sets (part_of_vertices parts i ys) []) (vertices_in_both (part_of_vertices parts i xs) (part_of_vertices parts i ys)))
    (Table (part_of_vertices parts i (inner_joined_vertices sets xs ys)))
inner_joined-is parts i sets xs ys ascending =
    let part : List Vertex = part_of_vertices parts i xs in
    let others : List Vertex = part_of_vertices parts i ys in
    inner-made sets part others (IsAscending-part parts i xs ascending)
    ∙ ap (λ vs. stop_or (stop_over_vertices (join_row_result sets others []) (vertices_in_both part others)) (Table vs))
    (ap (vertices_with_rows (join_row_result sets others [])) (both-in_part parts i ys xs) ∙ joined-in_part parts i ys sets [] (vertices_in_both xs ys))

pub left_joined-is : (parts i : ℕ) (sets : List Expr) (default : List Value) (xs ys : List Vertex) → IsAscending (keys_of xs)
    → vertices_made join_id (left_row sets default) (left_join (part_of_vertices parts i xs) (part_of_vertices parts i ys))
    ≡ stop_or (stop_over_vertices (join_row_result sets (part_of_vertices parts i ys) default) (part_of_vertices parts i xs))
    (Table (part_of_vertices parts i (left_joined_vertices sets default xs ys)))
left_joined-is parts i sets default xs ys ascending =
    let part : List Vertex = part_of_vertices parts i xs in
    let others : List Vertex = part_of_vertices parts i ys in
    left-made sets default part others (IsAscending-part parts i xs ascending)
    ∙ ap (λ vs. stop_or (stop_over_vertices (join_row_result sets others default) part) (Table vs)) (joined-in_part parts i ys sets default xs)
