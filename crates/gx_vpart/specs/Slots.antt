-- Slots: rows by slot, and a mask that says which of them count.
use Rattle.std.specs.Prelude.{◌≡◌, ℕ, pos, ◌<◌, ◌^◌, Bool, true, false, List, [], ◌∷◌, ◌++◌, drop, length, IsPermutation, IsSortedByKey, refl}
use Rattle.std.specs.Map.{keys_of, values_of}
use Rattle.gx_rows.specs.declared.vid.Vid.{Vid}
use Rattle.gx_index.specs.Ids.{IsAscending, id_cmp}
use Rattle.gx_vpart.specs.Operators.{picked}

-- the identifiers and rows of the slots that the mask has
abbrev pub masked_rows : {R : Type 0} → List Bool → List Vid → List R → List (Vid × R)
masked_rows [] ids rows = []
masked_rows (m ∷ mask) [] rows = []
masked_rows (m ∷ mask) (v ∷ ids) [] = []
masked_rows (true ∷ mask) (v ∷ ids) (r ∷ rows) = (v, r) ∷ masked_rows mask ids rows
masked_rows (false ∷ mask) (v ∷ ids) (r ∷ rows) = masked_rows mask ids rows

-- as many rows and bools as identifiers, which ascend
pub record HasSlots {R : Type 0} (mask : List Bool) (ids : List Vid) (rows : List R) : Type 0 where
  pub few : length ids < 2 ^ 32
  pub ascending : IsAscending ids
  pub one_row_each : length rows ≡ length ids
  pub one_bool_each : length mask ≡ length ids

-- the identifiers and the rows of these vertices, in ascending order of the identifiers
pub record AreSortedColumns {R : Type 0} (vertices : List (Vid × R)) (ids : List Vid) (rows : List R) : Type 0 where
  pub sorted : List (Vid × R)
  pub same : IsPermutation vertices sorted
  pub order : IsSortedByKey (λ e. e.0) id_cmp sorted
  pub ids_are : ids ≡ keys_of sorted
  pub rows_are : rows ≡ values_of sorted

-- what stands at a slot, the next item if the mask has the slot, and the items after it
abbrev pub item_for : {A : Type 0} → A → Bool → List A → A
item_for blank false items = blank
item_for blank true [] = blank
item_for blank true (x ∷ items) = x

abbrev pub items_after : {A : Type 0} → Bool → List A → List A
items_after false items = items
items_after true [] = []
items_after true (x ∷ items) = items

-- items at the slots that the mask has, in order, and a blank at each other slot
abbrev pub spread_items : {A : Type 0} → A → List Bool → List A → List A
spread_items blank [] items = []
spread_items blank (m ∷ mask) items = item_for blank m items ∷ spread_items blank mask (items_after m items)

-- `made` has the items of the slots before `slot`; those of them that the mask has are `items`
pub record IsSpreadUpTo {A : Type 0} (blank : A) (mask : List Bool) (items : List A) (slot : ℕ) (made : List A) : Type 0 where
  pub whole : (more : List A) → made ++ spread_items blank (drop slot mask) more ≡ spread_items blank mask (items ++ more)

-- items at the slots that the mask has, of which those at true bools are `some`
pub record IsSpreadWithBools {A : Type 0} (blank : A) (mask bools : List Bool) (some made : List A) : Type 0 where
  pub items : List A
  pub spread : made ≡ spread_items blank mask items
  pub one_bool_each : length items ≡ length bools
  pub some_are : some ≡ picked items bools

-- the mask without those of its slots at which the bools, one for each, are false
abbrev pub thinned_mask : List Bool → List Bool → List Bool
thinned_mask mask bools = spread_items false mask bools

masked_rows-example : masked_rows {R = ℕ} (false ∷ true ∷ []) (record { 0 = pos 4 } ∷ record { 0 = pos 9 } ∷ []) (10 ∷ 20 ∷ []) ≡ (record { 0 = pos 9 }, 20) ∷ []
masked_rows-example = refl

thinned_mask-example : thinned_mask (true ∷ false ∷ true ∷ []) (false ∷ true ∷ []) ≡ false ∷ false ∷ true ∷ []
thinned_mask-example = refl
