-- What a search among entries by identifier finds.
use Rattle.std.specs.Prelude.{◌≡◌, false, List, Option, Some, None, All, Contains}
use Rattle.gx_rows.specs.declared.vid.Vid.{Vid}
use Rattle.gx_index.specs.Ids.{is_same_id}

-- what stands beside the identifier, or nothing if it is in no entry
abbrev pub IsSearchResult : {T : Type 0} → List (Vid × T) → Vid → Option T → Type 0
IsSearchResult entries v (Some value) = Contains entries (v, value)
IsSearchResult entries v None = All (λ e. is_same_id v e.0 ≡ false) entries
