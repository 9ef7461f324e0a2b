-- The rows of two partitions that stand side by side, and what is made of them.
use Rattle.std.proofs.Common.{◌≡◌, ℕ, Bool, true, false, List, [], ◌∷◌, ◌++◌, Option, Some, None, Result, Ok, Err, map, All, length, zip, refl, sym, ap, ◌∙◌, Vec, append_assoc, arith, length-append}
use Rattle.std.specs.Global.{Global}
use Rattle.std.specs.List.{AllZip, filter_map}
use Rattle.std.specs.Prelude.{IfOk}
use Rattle.std.proofs.lemmas.List.{append-nil, length-map}
use Rattle.gx_rows.specs.declared.eval_stop.EvalStop.{EvalStop}
use Rattle.gx_rows.specs.declared.row_key.RowKey.{RowKey}
use Rattle.gx_rows.specs.declared.vid.Vid.{Vid}
use Rattle.gx_traverse.specs.Steps.{IsTraversal-then, SoFar, SoFar-done, SoFar-more, SoFar-start}
use Rattle.gx_traverse.specs.Traversal.{IsTraversal}
use Rattle.gx_vpart.specs.Operators.{has_partner, ids_of_join, inner_join, left_join, picked, with_partner, with_rows}
use Rattle.gx_vpart.proofs.Joining.{All-at, picked-partners}
use Rattle.gx_vpart.proofs.Spreading.{HasSlots-spread, IsSpreadUpTo-start, masked_rows-spread}
use Rattle.gx_vpart.specs.Slots.{HasSlots, IsSpreadUpTo, IsSpreadWithBools, masked_rows, spread_items}
use Rattle.gx_rows.specs.declared.value.Value.{Value}

pub IfOk-same : {A E : Type 0} (r : Result A E) (x y : A) → x ≡ y → IfOk r (λ new. new ≡ x) → IfOk r (λ new. new ≡ y)
IfOk-same (Ok a) x y same is = is ∙ same
IfOk-same (Err e) x y same is = tt

-- a row with one beside it is the next pair
pub next-pair : {R S : Type 0} (v : Vid) (r : R) (s : S) (other : Option S) (left rest : List (Vid × R × Option S)) → left ≡ (v, r, other) ∷ rest → other ≡ Some s
    → filter_map with_partner left ≡ (v, r, s) ∷ filter_map with_partner rest
next-pair v r s other left rest first some = rw (first, some) refl

-- what holds of all pairs holds of the next one
pub All-next : {A B : Type 0} {returns : A → Result B EvalStop → Type 0} {xs left : List A} {ys : List B} (P : A → Type 0) (x : A) (rest : List A)
    → SoFar returns xs left ys → left ≡ x ∷ rest → All P xs → P x
All-next P x rest so_far first all = All-at P _ so_far.front x rest all (rw first at so_far.split)

-- one more bool
pub bools-more : {A : Type 0} (test : A → Bool) (bools all : List Bool) (x : A) (left rest : List A) (b : Bool) → left ≡ x ∷ rest → b ≡ test x
    → bools ++ map test left ≡ all → (bools ++ b ∷ []) ++ map test rest ≡ all
bools-more test bools all x left rest b first is so_far = rw (append_assoc, is) (rw first at so_far)

-- each pair before the rest has its row, and so far each row of the left list has a bool and a slot
pub record PairsSoFar {A B : Type 0} (returns : A → Result B EvalStop → Type 0) (blank : B) (mask bools : List Bool) (xs rest : List A) (slot : ℕ) (made : List B) : Type 0 where
  pub rows : List B
  pub so_far : SoFar returns xs rest (picked rows bools)
  pub spread : IsSpreadUpTo blank mask rows slot made
  pub one_bool_each : length rows ≡ length bools

picked-push : {A : Type 0} (xs : List A) (bools : List Bool) (x : A) (b : Bool) → length xs ≡ length bools → picked (xs ++ x ∷ []) (bools ++ b ∷ []) ≡ picked xs bools ++ picked (x ∷ []) (b ∷ [])
picked-push [] [] x b same = refl
picked-push [] (c ∷ bools) x b same = absurd (omega arith)
picked-push (y ∷ xs) [] x b same = absurd (omega arith)
picked-push (y ∷ xs) (true ∷ bools) x b same = ap (λ ys. y ∷ ys) (picked-push xs bools x b (omega arith))
picked-push (y ∷ xs) (false ∷ bools) x b same = picked-push xs bools x b (omega arith)

pub PairsSoFar-start : {A B : Type 0} (returns : A → Result B EvalStop → Type 0) (blank : B) (mask : List Bool) (xs : List A) → PairsSoFar returns blank mask [] xs xs 0 []
PairsSoFar-start returns blank mask xs = record { rows = []; so_far = SoFar-start returns xs; spread = IsSpreadUpTo-start blank mask; one_bool_each = refl }

-- after one more pair
pub PairsSoFar-more : {A B : Type 0} {returns : A → Result B EvalStop → Type 0} {blank : B} {mask bools : List Bool} {xs left : List A} {slot : ℕ} {made : List B} (x : A) (rest : List A) (y : B) (next : ℕ) (new : List B)
    → PairsSoFar returns blank mask bools xs left slot made → left ≡ x ∷ rest → returns x (Ok y)
    → ((rows : List B) → IsSpreadUpTo blank mask rows slot made → IsSpreadUpTo blank mask (rows ++ y ∷ []) next new)
    → PairsSoFar returns blank mask (bools ++ true ∷ []) xs rest next new
PairsSoFar-more {bools = bools} x rest y next new so_far first value pushed = record {
  rows = so_far.rows ++ y ∷ [];
  so_far = rw (picked-push so_far.rows bools y true so_far.one_bool_each) (SoFar-more x rest y so_far.so_far first value);
  spread = pushed so_far.rows so_far.spread;
  one_bool_each = omega (arith, so_far.one_bool_each, length-append so_far.rows (y ∷ []), length-append bools (true ∷ []));
}

-- after a row with none beside it
pub PairsSoFar-blank : {A B : Type 0} {returns : A → Result B EvalStop → Type 0} {blank : B} {mask bools : List Bool} {xs left : List A} {slot : ℕ} {made : List B} (rest : List A) (y : B) (next : ℕ) (new : List B)
    → PairsSoFar returns blank mask bools xs left slot made → left ≡ rest
    → ((rows : List B) → IsSpreadUpTo blank mask rows slot made → IsSpreadUpTo blank mask (rows ++ y ∷ []) next new)
    → PairsSoFar returns blank mask (bools ++ false ∷ []) xs rest next new
PairsSoFar-blank {bools = bools} rest y next new so_far same pushed = record {
  rows = so_far.rows ++ y ∷ [];
  so_far = rw (picked-push so_far.rows bools y false so_far.one_bool_each, append-nil) (rw same at so_far.so_far);
  spread = pushed so_far.rows so_far.spread;
  one_bool_each = omega (arith, so_far.one_bool_each, length-append so_far.rows (y ∷ []), length-append bools (false ∷ []));
}

pub PairsSoFar-done : {A B : Type 0} {returns : A → Result B EvalStop → Type 0} {blank : B} {mask bools : List Bool} {xs left : List A} {slot : ℕ} {made : List B} (new : List B)
    → PairsSoFar returns blank mask bools xs left slot made → left ≡ [] → ((rows : List B) → IsSpreadUpTo blank mask rows slot made → new ≡ spread_items blank mask rows)
    → (ys : List B) × AllZip (λ x y. returns x (Ok y)) xs ys × IsSpreadWithBools blank mask bools ys new
PairsSoFar-done new so_far none done = (_, SoFar-done so_far.so_far none, record { items = so_far.rows; spread = done so_far.rows so_far.spread; one_bool_each = so_far.one_bool_each; some_are = refl })

-- a row with none beside it is no pair
pub no-pair : {R S : Type 0} (v : Vid) (r : R) (other : Option S) (left rest : List (Vid × R × Option S)) → left ≡ (v, r, other) ∷ rest → other ≡ None
    → filter_map with_partner left ≡ filter_map with_partner rest
no-pair v r other left rest first none = rw (first, none) refl

picked-with_rows : {R S : Type 0} (xs : List (Vid × R)) (rows : List S) (bools : List Bool) → length rows ≡ length xs → picked (with_rows xs rows) bools ≡ with_rows (picked xs bools) (picked rows bools)
picked-with_rows [] rows bools same = refl
picked-with_rows (x ∷ xs) [] bools same = absurd (omega arith)
picked-with_rows (x ∷ xs) (r ∷ rows) [] same = refl
picked-with_rows (x ∷ xs) (r ∷ rows) (true ∷ bools) same = ap (λ all. (x.0, r) ∷ all) (picked-with_rows xs rows bools (omega arith))
picked-with_rows (x ∷ xs) (r ∷ rows) (false ∷ bools) same = picked-with_rows xs rows bools (omega arith)

pub HasSlots-pairs : {R S : Type 0} {returns : Vid × R × S → Result (List Value) EvalStop → Type 0} {key : Vid × R × S → RowKey} {pairs : List (Vid × R × S)} {partners mask : List Bool} {v : Vec Bool Global × List (List Value)} {ids : List Vid} {old : List R}
    → IsTraversal returns key pairs (λ ys v. (v.0.items ≡ partners) × IsSpreadWithBools [] mask v.0.items ys v.1) (Ok v) → HasSlots mask ids old → HasSlots mask ids v.1
HasSlots-pairs traversal slots = let said = traversal.says in rw said.2.1.spread (HasSlots-spread [] said.2.1.items slots)

-- of the vertices with these rows, those that have a row beside them
pub joined-pairs : {R S : Type 0} {returns : Vid × R × S → Result (List Value) EvalStop → Type 0} {key : Vid × R × S → RowKey} {mask : List Bool} {v : Vec Bool Global × List (List Value)} (ids : List Vid) (old : List R) (xs : List (Vid × R)) (ys : List (Vid × S)) (new : List (Vid × List Value))
    → IsTraversal returns key (inner_join xs ys) (λ rows v. (v.0.items ≡ map has_partner (left_join xs ys)) × IsSpreadWithBools [] mask v.0.items rows v.1) (Ok v)
    → HasSlots mask ids old → masked_rows mask ids old ≡ xs → new ≡ picked (masked_rows mask ids v.1) v.0.items
    → IsTraversal returns key (inner_join xs ys) (λ rows new. new ≡ zip (ids_of_join (inner_join xs ys)) rows) (Ok new)
joined-pairs {mask = mask} {v = v} ids old xs ys new traversal slots view made =
    IsTraversal-then (λ rows new. new ≡ zip (ids_of_join (inner_join xs ys)) rows) new traversal
    (λ rows is.
    let all = is.1 in
    let many : length all.items ≡ length xs = all.one_bool_each ∙ ap length is.0 ∙ length-map _ _ ∙ length-map _ _ in
    made
    ∙ ap (λ some. picked some v.0.items) (ap (masked_rows mask ids) all.spread ∙ masked_rows-spread [] mask ids old all.items slots.one_bool_each slots.one_row_each (many ∙ ap length (sym view)) ∙ ap (λ some. with_rows some all.items) view)
    ∙ picked-with_rows xs all.items v.0.items many
    ∙ (λ i. with_rows (picked xs (is.0 i)) (sym all.some_are i))
    ∙ ap (λ ids. zip ids rows) (picked-partners xs ys))
