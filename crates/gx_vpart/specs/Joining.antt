-- How two ascending lists are joined: in one walk, in which the rows of the second list below the
-- identifier at hand are left behind.
use Rattle.std.specs.Prelude.{cond, List, [], ◌∷◌, Option, Some, None}
use Rattle.std.specs.Ordering.{is_lt}
use Rattle.gx_rows.specs.declared.vid.Vid.{Vid}
use Rattle.gx_index.specs.Ids.{id_cmp}
use denote.Ref.{Bor}

-- the rows from the first on whose identifier is not less than v
abbrev pub rows_not_below : {R : Type 0} → Vid → List (Vid × R) → List (Vid × R)
rows_not_below v [] = []
rows_not_below v (r ∷ rows) = cond (is_lt (id_cmp r.0 v)) (rows_not_below v rows) (r ∷ rows)

-- a row, if there is one, and the rows after it
abbrev pub rows_from : {R : Type 0} → Option (Vid × Bor R) → List (Vid × R) → List (Vid × R)
rows_from None rest = rest
rows_from (Some r) rest = (r.0, r.1.now) ∷ rest
