-- Rows that are filed one after another, and loads one after another.
use Rattle.std.proofs.Common.{◌≡◌, ◌≢◌, ℕ, ℤ, ◌+◌, ◌%◌, ◌<◌, ◌==◌, Bool, true, false, cond, List, [], ◌∷◌, ◌++◌, Some, length, get_or, set, replicate, append_assoc, arith, refl, sym, ap, ap₂, ◌∙◌, subst, inl, inr}
use Rattle.std.specs.List.{slice_get}
use Rattle.std.specs.Prelude.{unwrap_or}
use Rattle.std.proofs.lemmas.Bool.{eq-eqb, eqb-true, cases_lt}
use Rattle.std.proofs.lemmas.List.{append-nil, get_or-replicate, get_or-set_other, get_or-set_same, get_or_append_left, get_or_default, length-append, length-replicate, length-set}
use Rattle.std.proofs.lemmas.Option.{slice_get_within}
use Rattle.std.proofs.Math.Seq.{get_or-append_seam}
use Rattle.gx_cuts.specs.Places.{place_of}
use Rattle.gx_rows.specs.declared.cut.Cut.{Cut}
use Rattle.gx_rows.specs.declared.cut.Cut.TheVariants.{OneD, TwoD, Random, Canonical, Rows}
use Rattle.gx_exec_contents.specs.Worlds.{World}
use Rattle.gx_load.specs.Loading.{LoadedRow}
use Rattle.gx_model.specs.Values.{rows_loaded}
use Rattle.gx_plan.specs.declared.kind.Kind.{Kind}
use Rattle.gx_plan.specs.declared.kind.Kind.TheVariants as kind
use Rattle.gx_exec_loads.specs.Filing.{AreFiled, IsFiled, kind_in, part_of_row, positions_in_part}

-- ---- a lone part has all rows

zero_of_one : (n parts : ℕ) → parts ≡ 1 → n % parts ≡ 0
zero_of_one n parts one = omega arith

place_of-one : (cut : Cut) (parts : ℕ) (src dst : ℤ) (n : ℕ) → parts ≡ 1 → place_of cut parts src dst n ≡ 0
place_of-one OneD parts src dst n one = zero_of_one _ parts one
place_of-one TwoD parts src dst n one = zero_of_one _ parts one
place_of-one Random parts src dst n one = zero_of_one _ parts one
place_of-one Canonical parts src dst n one = zero_of_one _ parts one
place_of-one Rows parts src dst n one = zero_of_one _ parts one

pub part_of_row-one : (k : Kind) (cut : Cut) (parts n : ℕ) (row : LoadedRow) → parts ≡ 1 → part_of_row k cut parts n row ≡ 0
part_of_row-one kind.Vertices cut parts n row one = zero_of_one _ parts one
part_of_row-one kind.Edges cut parts n row one = place_of-one cut parts row.0.0 row.1.0 n one

-- ---- rows one after another

-- the rows before the rest are filed, and the rest begins at position n
pub record AreFiledBefore (part_of : ℕ → LoadedRow → ℕ) (parts n : ℕ) (rest rows : List LoadedRow) (lists : List (List ℕ)) : Type 0 where
  pub count : length lists ≡ parts
  pub positions : (i : ℕ) → i < parts → get_or lists i [] ++ positions_in_part part_of i n rest ≡ positions_in_part part_of i 0 rows

module _ (part_of : ℕ → LoadedRow → ℕ) (parts : ℕ) (rows : List LoadedRow) where
  pub filed-none : (lists : List (List ℕ)) → lists ≡ replicate parts [] → AreFiledBefore part_of parts 0 rows rows lists
  filed-none lists e = subst (AreFiledBefore part_of parts 0 rows rows) (sym e) (record {
    count = length-replicate parts [];
    positions = λ i within. ap (λ ps. ps ++ positions_in_part part_of i 0 rows) (get_or-replicate parts i [] [] within);
  })

  -- with the row at position n
  pub filed-row : (n part : ℕ) (row : LoadedRow) (rest : List LoadedRow) (lists new : List (List ℕ)) → AreFiledBefore part_of parts n (row ∷ rest) rows lists
      → part ≡ part_of n row → part < parts → new ≡ set lists part (get_or lists part [] ++ n ∷ []) → AreFiledBefore part_of parts (n + 1) rest rows new
  filed-row n part row rest lists new filed is below e = subst (AreFiledBefore part_of parts (n + 1) rest rows) (sym e) (record {
    count = length-set lists part (get_or lists part [] ++ n ∷ []) ∙ filed.count;
    positions = λ i within. by i (part == i) refl (ap (λ p. get_or lists i [] ++ cond (p == i) (n ∷ later i) (later i)) is ∙ filed.positions i within);
  })
    where
      later : ℕ → List ℕ
      later i = positions_in_part part_of i (n + 1) rest

      by : (i : ℕ) (b : Bool) → part == i ≡ b → get_or lists i [] ++ cond (part == i) (n ∷ later i) (later i) ≡ positions_in_part part_of i 0 rows
          → get_or (set lists part (get_or lists part [] ++ n ∷ [])) i [] ++ later i ≡ positions_in_part part_of i 0 rows
      by i true same so_far =
          let here : part ≡ i = eqb-true part i same in
          let inside : part < length lists = subst (λ m. part < m) (sym filed.count) below in
          ap (λ j. get_or (set lists part (get_or lists part [] ++ n ∷ [])) j [] ++ later i) (sym here)
          ∙ ap (λ ps. ps ++ later i) (get_or-set_same lists part (get_or lists part [] ++ n ∷ []) [] inside)
          ∙ append_assoc (get_or lists part []) (n ∷ []) (later i)
          ∙ ap (λ j. get_or lists j [] ++ n ∷ later i) here
          ∙ sym (ap (λ t. get_or lists i [] ++ cond t (n ∷ later i) (later i)) same)
          ∙ so_far
      by i false apart so_far =
          let other : i ≢ part = (λ e. let same : part == i ≡ true = eq-eqb part i (sym e) in cc) in
          ap (λ ps. ps ++ later i) (get_or-set_other lists part i (get_or lists part [] ++ n ∷ []) [] other)
          ∙ sym (ap (λ t. get_or lists i [] ++ cond t (n ∷ later i) (later i)) apart)
          ∙ so_far

  pub filed-all : (n : ℕ) (lists : List (List ℕ)) → AreFiledBefore part_of parts n [] rows lists → IsFiled part_of parts rows lists
  filed-all n lists filed = record {
    count = filed.count;
    positions = λ i within. sym (append-nil (get_or lists i [])) ∙ filed.positions i within;
  }

-- ---- loads

-- the first n loads are filed
pub record AreLoadsFiled (w : World) (n : ℕ) (filed : List (List (List ℕ))) : Type 0 where
  pub count : length filed ≡ n
  pub each : (i s : ℕ) (rows : List LoadedRow) → i < n → slice_get w.loads i ≡ Some (s, rows)
      → IsFiled (part_of_row (kind_in w.script s) w.cut w.parts) w.parts rows (get_or filed i [])

module _ (w : World) where
  -- with the load at position n
  pub filed-load : (n s : ℕ) (rows : List LoadedRow) (filed new : List (List (List ℕ))) (lists : List (List ℕ)) → AreLoadsFiled w n filed
      → slice_get w.loads n ≡ Some (s, rows) → IsFiled (part_of_row (kind_in w.script s) w.cut w.parts) w.parts rows lists
      → new ≡ filed ++ lists ∷ [] → AreLoadsFiled w (n + 1) new
  filed-load n s rows filed new lists before at is e = subst (AreLoadsFiled w (n + 1)) (sym e) (record {
    count = length-append filed (lists ∷ []) ∙ ap (λ m. m + 1) before.count;
    each = λ i t others within there. elim (cases_lt i n) [
      | inl less ↦ subst (IsFiled (part_of_row (kind_in w.script t) w.cut w.parts) w.parts others)
          (sym (get_or_append_left filed (lists ∷ []) [] i (subst (λ m. i < m) (sym before.count) less))) (before.each i t others less there)
      | inr more ↦ last i t others (omega (arith, within, more)) there
    ];
  })
    where
      last : (i t : ℕ) (others : List LoadedRow) → i ≡ n → slice_get w.loads i ≡ Some (t, others)
          → IsFiled (part_of_row (kind_in w.script t) w.cut w.parts) w.parts others (get_or (filed ++ lists ∷ []) i [])
      last i t others here there =
          let same : (s, rows) ≡ (t, others) = ap (λ o. unwrap_or o (s, rows)) (sym at ∙ ap (slice_get w.loads) (sym here) ∙ there) in
          let seam : lists ≡ get_or (filed ++ lists ∷ []) i [] = sym (get_or-append_seam filed lists [] []) ∙ ap (λ j. get_or (filed ++ lists ∷ []) j []) (before.count ∙ sym here) in
          subst (λ (x : ℕ × List LoadedRow). IsFiled (part_of_row (kind_in w.script x.0) w.cut w.parts) w.parts x.1 (get_or (filed ++ lists ∷ []) i [])) same
          (subst (IsFiled (part_of_row (kind_in w.script s) w.cut w.parts) w.parts rows) seam is)

  -- all loads
  pub loads-filed : (n : ℕ) (filed : List (List (List ℕ))) → AreLoadsFiled w n filed → length w.loads ≡ n → AreFiled w filed
  loads-filed n filed are all = record {
    count = are.count ∙ sym all;
    each = λ i s rows at. are.each i s rows (subst (λ m. i < m) all (slice_get_within w.loads i (s, rows) at)) at;
  }

-- the positions of a part, where the load of the statement is found; `inside` is how the fields show the world
pub filed-here : (inside w : World) → inside ≡ w → (filed : List (List (List ℕ))) → AreFiled inside filed → (i n s part : ℕ) (rows : List LoadedRow) (lists : List (List ℕ)) (ps : List ℕ)
    → slice_get inside.loads i ≡ Some (n, rows) → n ≡ s → lists ≡ get_or filed i lists → part < w.parts → ps ≡ get_or lists part []
    → rows ≡ rows_loaded w.loads s → ps ≡ positions_in_part (part_of_row (kind_in w.script s) w.cut w.parts) part 0 (rows_loaded w.loads s)
filed-here inside w same filed are i n s part rows lists ps at is found below given loaded =
    let filed_in : AreFiled w filed = subst (λ v. AreFiled v filed) same are in
    let here : slice_get w.loads i ≡ Some (n, rows) = ap (λ (v : World). slice_get v.loads i) (sym same) ∙ at in
    let within : i < length filed = subst (λ m. i < m) (sym filed_in.count) (slice_get_within w.loads i (n, rows) here) in
    given
    ∙ ap (λ ls. get_or ls part []) (found ∙ get_or_default filed i lists [] within)
    ∙ (filed_in.each i n rows here).positions part below
    ∙ ap₂ (λ m rs. positions_in_part (part_of_row (kind_in w.script m) w.cut w.parts) part 0 rs) is loaded
