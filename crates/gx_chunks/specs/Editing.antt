-- A list that is cut into chunks, and whose items are replaced one after another at ascending slots.
use Rattle.std.specs.Prelude.{◌≡◌, ℕ, ◌+◌, ◌<◌, ◌≤◌, List, [], ◌∷◌, ◌++◌, drop, get_or, length, set, ⊤, refl}
use Rattle.gx_rows.specs.declared.value.Value.{Value}
use Rattle.gx_chunks.specs.Chunks.{HasChunksOf, items_of_chunks}

-- the list with each of these items at its slot, in place of its own
abbrev pub with_items : {A : Type 0} → List A → List (ℕ × A) → List A
with_items xs [] = xs
with_items xs (item ∷ items) = with_items (set xs item.0 item.1) items

-- slots that ascend, from `from` on, each below `end`
abbrev pub AreSlotsWithin : ℕ → ℕ → List ℕ → Type 0
AreSlotsWithin from end [] = ⊤
AreSlotsWithin from end (slot ∷ slots) = (from ≤ slot) × (slot < end) × AreSlotsWithin (slot + 1) end slots

-- rows of which some are replaced, and the first slot that may be replaced yet
pub record Edited : Type 0 where
  pub rows : List (List Value)
  pub next : ℕ

-- the items while they are copied: chunks that are done, the first items of the next chunk, and the
-- items of the old chunks after those
abbrev pub edited_items : {A : Type 0} → List (List A) → List A → List (List A) → List A
edited_items done first old =
    items_of_chunks done ++ (first ++ drop (length first) (items_of_chunks (drop (length done) old)))

-- the chunks that are done are as long as the old ones, and the next one has so many items at least
pub record IsEdit {A : Type 0} (size : ℕ) (done : List (List A)) (first : List A) (old : List (List A)) : Type 0 where
  pub even : HasChunksOf size (done ++ drop (length done) old)
  pub not_over : length first ≤ length (get_or old (length done) [])
  pub not_past : length done ≤ length old

with_items-example : with_items {A = ℕ} (5 ∷ 6 ∷ 7 ∷ []) ((0, 9) ∷ (2, 8) ∷ []) ≡ 9 ∷ 6 ∷ 8 ∷ []
with_items-example = refl
