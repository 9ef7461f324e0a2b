-- How an index finds a slot.
use Rattle.std.specs.Prelude.{ℕ, ◌+◌, ◌<◌, ◌^◌, List, [], ◌∷◌, length, Option, Some, None, IsPermutation, IsSortedByKey, Vec}
use Rattle.std.specs.Global.{Global}
use Rattle.gx_rows.specs.declared.vid.Vid.{Vid}
use Rattle.gx_index.specs.Ids.{HasDistinctIds, IsAscending, id_cmp}

-- each identifier with its slot, from slot n on
abbrev pub slots_from : ℕ → List Vid → List (Vid × ℕ)
slots_from n [] = []
slots_from n (v ∷ ids) = (v, n) ∷ slots_from (n + 1) ids

abbrev pub slots_of : List Vid → List (Vid × ℕ)
slots_of ids = slots_from 0 ids

-- the identifiers ascend, or their slots are kept in ascending order of the identifiers
abbrev pub IsSearchable : List Vid → Option (Vec (Vid × ℕ) Global) → Type 0
IsSearchable ids None = IsAscending ids
IsSearchable ids (Some slots) = IsSortedByKey (λ s. s.0) id_cmp slots.items × IsPermutation (slots_of ids) slots.items

pub record IsIndex (ids : List Vid) (slots : Option (Vec (Vid × ℕ) Global)) : Type 0 where
  pub few : length ids < 2 ^ 32
  pub distinct : HasDistinctIds ids
  pub searchable : IsSearchable ids slots
