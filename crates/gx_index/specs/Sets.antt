-- Sets of identifiers: those of ascending identifiers at which a mask is true.
use Rattle.std.specs.Prelude.{◌≡◌, pos, ◌<◌, ◌^◌, Bool, true, false, List, [], ◌∷◌, length, refl}
use Rattle.gx_rows.specs.declared.vid.Vid.{Vid}
use Rattle.gx_index.specs.Ids.{IsAscending}

-- the identifiers of the slots that the mask has
abbrev pub masked_ids : List Bool → List Vid → List Vid
masked_ids [] ids = []
masked_ids (m ∷ mask) [] = []
masked_ids (true ∷ mask) (v ∷ ids) = v ∷ masked_ids mask ids
masked_ids (false ∷ mask) (v ∷ ids) = masked_ids mask ids

-- ascending identifiers, and a bool for each
pub record IsMasked (mask : List Bool) (ids : List Vid) : Type 0 where
  pub few : length ids < 2 ^ 32
  pub ascending : IsAscending ids
  pub one_bool_each : length mask ≡ length ids

masked_ids-example : masked_ids (false ∷ true ∷ []) (record { 0 = pos 4 } ∷ record { 0 = pos 9 } ∷ []) ≡ record { 0 = pos 9 } ∷ []
masked_ids-example = refl
