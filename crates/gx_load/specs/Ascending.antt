-- A list in ascending order.
use Rattle.std.specs.Prelude.{◌≡◌, ℤ, pos, negsuc, int_lt, if◌then◌else◌, List, [], ◌∷◌, refl}

-- an ascending list with one number more
abbrev pub with_number : ℤ → List ℤ → List ℤ
with_number new [] = new ∷ []
with_number new (number ∷ numbers) =
    if int_lt number new then number ∷ with_number new numbers else new ∷ number ∷ numbers

-- the same numbers, as often, in ascending order
unfoldable pub ascending : List ℤ → List ℤ
ascending [] = []
ascending (number ∷ numbers) = with_number number (ascending numbers)

ascending-repeats : ascending (pos 3 ∷ negsuc 0 ∷ pos 3 ∷ []) ≡ negsuc 0 ∷ pos 3 ∷ pos 3 ∷ []
unfolding ascending
ascending-repeats = refl
