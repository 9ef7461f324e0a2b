-- The value of a statement is made of the values of all statements: those that it names come
-- earlier.
use Rattle.std.proofs.Common.{
  ◌≡◌,
  ℕ,
  zero,
  suc,
  ◌+◌,
  ◌-◌,
  ◌<◌,
  ◌≤◌,
  List,
  [],
  ◌∷◌,
  ◌++◌,
  length,
  map,
  All,
  Option,
  None,
  Some,
  unwrap_or,
  option_map,
  refl,
  sym,
  ap,
  ap₂,
  ◌∙◌,
  subst,
  arith,
  length-append,
}
use Rattle.std.specs.List.{AllByRecursion, slice_get}
use Rattle.std.proofs.lemmas.List.Elements.{recursion_from_All}
use Rattle.std.proofs.lemmas.Option.{get_or_from_slice_get, slice_get-map, slice_get_within}
use Rattle.gx_types.specs.Needs.{NamesAreUsed, UseEarlier}
use Rattle.gx_types_stmts.specs.KnownNames.{IsEarlier}
use Rattle.gx_types_stmts.specs.declared.checked_stmt.CheckedStmt.{CheckedStmt}
use Rattle.gx_types_stmts.specs.declared.typed_stmt.TypedStmt.{TypedStmt}
use Rattle.gx_types_stmts.specs.declared.typed_stmt.TypedStmt.TheVariants as stmts
use Rattle.gx_model.specs.Graphs.{Graph, Placement, graph_of, placed_anew, table_value}
use Rattle.gx_types_stmts.specs.StmtNumbers.{named_numbers}
use Rattle.gx_model.specs.Values.{
  LoadedRows,
  filtered_vertices,
  inner_joined_vertices,
  left_joined_vertices,
  mapped_vertices,
  value_named,
  value_of_stmt,
  values_of_stmts,
  values_of_script,
  vertices_diff,
  vertices_minus,
}
use Rattle.gx_model.specs.NumberListLaws.{all_map}

slice_get-append : {X : Type 0} (xs ys : List X) (i : ℕ) → i < length xs
    → slice_get (xs ++ ys) i ≡ slice_get xs i
slice_get-append [] ys i within = absurd (omega arith)
slice_get-append (x ∷ xs) ys zero within = refl
slice_get-append (x ∷ xs) ys (suc i) within = slice_get-append xs ys i (omega arith)

slice_get-seam : {X : Type 0} (xs : List X) (y : X) (ys : List X)
    → slice_get (xs ++ y ∷ ys) (length xs) ≡ Some y
slice_get-seam [] y ys = refl
slice_get-seam (x ∷ xs) y ys = slice_get-seam xs y ys

module _ {Place : Type 0} (placement : Placement Place) (loads : LoadedRows) where
  -- a statement has one value by all values that agree on the names in it
  value_of_stmt-same : (vs ws : List (Graph Place)) (s : ℕ) (stmt : TypedStmt)
      → AllByRecursion (λ n. value_named vs n ≡ value_named ws n) (named_numbers stmt)
      → value_of_stmt placement loads vs s stmt ≡ value_of_stmt placement loads ws s stmt
  value_of_stmt-same vs ws s (stmts.Graph t e default) same =
      ap₂ (λ a b. graph_of a.vertices b.edges default) same.0 same.1.0
  value_of_stmt-same vs ws s (stmts.FromEdges e row) same = ap (λ b. graph_of [] b.edges row) same.0
  value_of_stmt-same vs ws s (stmts.MapVertices g sets) same =
      ap (λ a. record { vertices = mapped_vertices sets a.vertices; edges = a.edges }) same.0
  value_of_stmt-same vs ws s (stmts.Partition g cut) same =
      ap (λ a. record { vertices = a.vertices; edges = placed_anew (placement.of_cut cut) a.edges })
      same.0
  value_of_stmt-same vs ws s (stmts.Filter t condition) same =
      ap (λ a. table_value (filtered_vertices condition a.vertices)) same.0
  value_of_stmt-same vs ws s (stmts.MapValues t sets) same =
      ap (λ a. table_value (mapped_vertices sets a.vertices)) same.0
  value_of_stmt-same vs ws s (stmts.Minus t u) same =
      ap₂ (λ a b. table_value (vertices_minus a.vertices b.vertices)) same.0 same.1.0
  value_of_stmt-same vs ws s (stmts.Diff t u) same =
      ap₂ (λ a b. table_value (vertices_diff a.vertices b.vertices)) same.0 same.1.0
  value_of_stmt-same vs ws s (stmts.InnerJoin t u sets) same =
      ap₂ (λ a b. table_value (inner_joined_vertices sets a.vertices b.vertices)) same.0 same.1.0
  value_of_stmt-same vs ws s (stmts.LeftJoin t u default sets) same =
      ap₂ (λ a b. table_value (left_joined_vertices sets default a.vertices b.vertices)) same.0
      same.1.0
  value_of_stmt-same vs ws s _ same = refl

  -- the values before stay
  values_of_stmts-front : (before : List (Graph Place)) (s : ℕ) (stmts : List TypedStmt) (i : ℕ)
      → i < length before
      → slice_get (values_of_stmts placement loads before s stmts) i ≡ slice_get before i
  values_of_stmts-front before s [] i within = refl
  values_of_stmts-front before s (stmt ∷ stmts) i within =
      let value = value_of_stmt placement loads before s stmt in
      values_of_stmts-front (before ++ value ∷ []) (s + 1) stmts i
      (omega (arith, length-append before (value ∷ [])))
      ∙ slice_get-append before (value ∷ []) i within

  -- statement s has its value at this index of all values, by others that agree with them below it
  record HasValueAt (all : List (Graph Place)) (index s : ℕ) (stmt : TypedStmt) : Type 0 where
    others : List (Graph Place)
    agree : (i : ℕ) → i < index → slice_get others i ≡ slice_get all i
    value : slice_get all index ≡ Some (value_of_stmt placement loads others s stmt)

  value_at : (before : List (Graph Place)) (first : ℕ) (stmts : List TypedStmt) (k index s : ℕ)
      (stmt : TypedStmt) → index ≡ length before + k → s ≡ first + k → slice_get stmts k ≡ Some stmt
      → HasValueAt (values_of_stmts placement loads before first stmts) index s stmt
  value_at before first [] k index s stmt ei es at = cc
  value_at before first (t ∷ stmts) zero index s stmt ei es at =
      let value = value_of_stmt placement loads before first t in
      let here : index ≡ length before = omega arith in
      let number : first ≡ s = omega arith in
      let same : t ≡ stmt = cc in
      record {
        others = before;
        agree = λ i within. sym (values_of_stmts-front before first (t ∷ stmts) i (omega arith));
        value = ap (slice_get (values_of_stmts placement loads before first (t ∷ stmts))) here
            ∙ values_of_stmts-front (before ++ value ∷ []) (first + 1) stmts (length before)
            (omega (arith, length-append before (value ∷ [])))
            ∙ slice_get-seam before value []
            ∙ ap₂ (λ n x. Some (value_of_stmt placement loads before n x)) number same;
      }
  value_at before first (t ∷ stmts) (suc k) index s stmt ei es at =
      let value = value_of_stmt placement loads before first t in
      value_at (before ++ value ∷ []) (first + 1) stmts k index s stmt
      (omega (arith, length-append before (value ∷ []))) (omega arith) at

  -- the value of a statement, by the values of all
  pub value_named-stmt : (stmts : List TypedStmt) (s : ℕ) (stmt : TypedStmt) → 1 ≤ s
      → slice_get stmts (s - 1) ≡ Some stmt
      → AllByRecursion (IsEarlier (s - 1)) (named_numbers stmt)
      → value_named (values_of_script placement loads stmts) s
      ≡ value_of_stmt placement loads (values_of_script placement loads stmts) s stmt
  value_named-stmt stmts s stmt from_one at earlier =
      let all = values_of_script placement loads stmts in
      let found = value_at [] 1 stmts (s - 1) (s - 1) s stmt (omega arith) (omega arith) at in
      ap (λ u. unwrap_or u (record { vertices = []; edges = [] })) found.value
      ∙ value_of_stmt-same found.others all s stmt
      (all_map (IsEarlier (s - 1)) (λ n. value_named found.others n ≡ value_named all n)
      (λ n early. let below : n - 1 < s - 1 = omega arith in
      ap (λ u. unwrap_or u (record { vertices = []; edges = [] })) (found.agree (n - 1) below))
      (named_numbers stmt) earlier)

-- the statement at an index of a script, with what it uses
checked_at : (checked : List CheckedStmt) (i : ℕ) (stmt : TypedStmt) (found : Option CheckedStmt)
    → slice_get checked i ≡ found → option_map (λ c. c.stmt) found ≡ Some stmt
    → (c : CheckedStmt) × (slice_get checked i ≡ Some c) × (c.stmt ≡ stmt)
checked_at checked i stmt None at e = cc
checked_at checked i stmt (Some c) at e = let same : c.stmt ≡ stmt = cc in (c, at, same)

-- what a statement names comes earlier
pub names_are_earlier : (checked : List CheckedStmt) (s : ℕ) (stmt : TypedStmt) → UseEarlier checked
    → All NamesAreUsed checked → slice_get (map (λ c. c.stmt) checked) (s - 1) ≡ Some stmt
    → AllByRecursion (IsEarlier (s - 1)) (named_numbers stmt)
names_are_earlier checked s stmt earlier named at =
    let found = checked_at checked (s - 1) stmt (slice_get checked (s - 1)) refl
    (sym (slice_get-map (λ c. c.stmt) checked (s - 1)) ∙ at) in
    let c = found.0 in
    let used : NamesAreUsed c =
    subst NamesAreUsed (get_or_from_slice_get checked (s - 1) c c found.1)
    (named (s - 1) c (slice_get_within checked (s - 1) c found.1)) in
    subst (λ x. AllByRecursion (IsEarlier (s - 1)) (named_numbers x)) found.2
    (subst (AllByRecursion (IsEarlier (s - 1))) used
    (recursion_from_All (IsEarlier (s - 1)) c.uses (earlier (s - 1) c found.1)))
