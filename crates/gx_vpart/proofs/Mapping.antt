-- Rows that a closure returns, at the slots of a mask.
use Rattle.std.proofs.Common.{◌≡◌, ℕ, Bool, List, [], ◌∷◌, ◌++◌, Result, Ok, length, ◌∙◌, ap}
use Rattle.std.proofs.lemmas.Slice.Zip.{AllZip-long}
use Rattle.gx_rows.specs.declared.eval_stop.EvalStop.{EvalStop}
use Rattle.gx_rows.specs.declared.row_key.RowKey.{RowKey}
use Rattle.gx_rows.specs.declared.vid.Vid.{Vid}
use Rattle.gx_traverse.specs.Steps.{SoFar, SoFar-done, SoFar-more, SoFar-start}
use Rattle.gx_traverse.specs.Traversal.{IsTraversal}
use Rattle.gx_vpart.specs.Operators.{with_rows}
use Rattle.gx_vpart.specs.Slots.{HasSlots, IsSpreadUpTo, masked_rows, spread_items}
use Rattle.gx_vpart.proofs.Spreading.{HasSlots-spread, IsSpreadUpTo-start, masked_rows-spread}

-- each item before the rest has its row, and these are at the slots of the mask before `slot`
pub record RowsSoFar {A B : Type 0} (returns : A → Result B EvalStop → Type 0) (blank : B) (mask : List Bool) (xs rest : List A) (slot : ℕ) (made : List B) : Type 0 where
  pub rows : List B
  pub so_far : SoFar returns xs rest rows
  pub spread : IsSpreadUpTo blank mask rows slot made

pub RowsSoFar-start : {A B : Type 0} (returns : A → Result B EvalStop → Type 0) (blank : B) (mask : List Bool) (xs : List A) → RowsSoFar returns blank mask xs xs 0 []
RowsSoFar-start returns blank mask xs = record { rows = []; so_far = SoFar-start returns xs; spread = IsSpreadUpTo-start blank mask }

pub RowsSoFar-more : {A B : Type 0} {returns : A → Result B EvalStop → Type 0} {blank : B} {mask : List Bool} {xs left : List A} {slot : ℕ} {made : List B} (x : A) (rest : List A) (y : B) (next : ℕ) (new : List B)
    → RowsSoFar returns blank mask xs left slot made → left ≡ x ∷ rest → returns x (Ok y)
    → ((rows : List B) → IsSpreadUpTo blank mask rows slot made → IsSpreadUpTo blank mask (rows ++ y ∷ []) next new)
    → RowsSoFar returns blank mask xs rest next new
RowsSoFar-more x rest y next new so_far first value pushed = record {
  rows = so_far.rows ++ y ∷ [];
  so_far = SoFar-more x rest y so_far.so_far first value;
  spread = pushed so_far.rows so_far.spread;
}

pub RowsSoFar-done : {A B : Type 0} {returns : A → Result B EvalStop → Type 0} {blank : B} {mask : List Bool} {xs left : List A} {slot : ℕ} {made : List B} (key : A → RowKey) (new : List B)
    → RowsSoFar returns blank mask xs left slot made → left ≡ [] → ((rows : List B) → IsSpreadUpTo blank mask rows slot made → new ≡ spread_items blank mask rows)
    → IsTraversal returns key xs (λ ys new. new ≡ spread_items blank mask ys) (Ok new)
RowsSoFar-done key new so_far none done = record { says = (so_far.rows, SoFar-done so_far.so_far none, done so_far.rows so_far.spread) }

-- rows at the slots of the mask of a partition are rows of its vertices
pub IsTraversal-spread : {A R S : Type 0} {returns : A → Result S EvalStop → Type 0} {key : A → RowKey} {xs : List A} {mask : List Bool} {rows : List S} (blank : S) (ids : List Vid) (old : List R) (new : List (Vid × S))
    → IsTraversal returns key xs (λ ys rows. rows ≡ spread_items blank mask ys) (Ok rows) → HasSlots mask ids old → length xs ≡ length (masked_rows mask ids old) → new ≡ masked_rows mask ids rows
    → IsTraversal returns key xs (λ ys new. new ≡ with_rows (masked_rows mask ids old) ys) (Ok new)
IsTraversal-spread {returns = returns} {xs = xs} {mask = mask} blank ids old new traversal slots many is =
    let said = traversal.says in
    let same = AllZip-long (λ x y. returns x (Ok y)) xs said.0 said.1 in
    record { says = (said.0, said.1, is ∙ ap (masked_rows mask ids) said.2 ∙ masked_rows-spread blank mask ids old said.0 slots.one_bool_each slots.one_row_each (same ∙ many)) }

pub HasSlots-traversal : {A R S : Type 0} {returns : A → Result S EvalStop → Type 0} {key : A → RowKey} {xs : List A} {mask : List Bool} {rows : List S} {ids : List Vid} {old : List R} (blank : S)
    → IsTraversal returns key xs (λ ys rows. rows ≡ spread_items blank mask ys) (Ok rows) → HasSlots mask ids old → HasSlots mask ids rows
HasSlots-traversal blank traversal slots = let said = traversal.says in rw said.2 (HasSlots-spread blank said.0 slots)
