-- Names with kinds: they stay few and distinct.
use Rattle.std.proofs.Common.{◌≡◌, ℕ, ◌<◌, ◌≤◌, ◌^◌, false, List, [], ◌∷◌, length, arith}
use Rattle.std.specs.Prelude.{zip}
use Rattle.std.specs.List.{AllByRecursion, IsDistinct}
use Rattle.std.specs.Str.{bytes_eq}
use Rattle.gx_rows.specs.Columns.{HasDistinctNames, names_of}
use Rattle.gx_rows.specs.declared.value.ValueKind.{ValueKind}
use Rattle.gx_types_clauses.specs.ClauseBounds.{IsColumnList}

all-named : (P : List ℕ → Type 0) (names : List (List ℕ)) (kinds : List ValueKind) → AllByRecursion P names → AllByRecursion P (names_of (zip names kinds))
all-named P [] kinds h = tt
all-named P (n ∷ names) [] h = tt
all-named P (n ∷ names) (k ∷ kinds) h = (h.0, all-named P names kinds h.1)

distinct-named : (names : List (List ℕ)) (kinds : List ValueKind) → IsDistinct bytes_eq names → HasDistinctNames (zip names kinds)
unfolding IsDistinct
distinct-named [] kinds h = tt
distinct-named (n ∷ names) [] h = tt
distinct-named (n ∷ names) (k ∷ kinds) h = (all-named (λ y. bytes_eq n y ≡ false) names kinds h.0, distinct-named names kinds h.1)

pub columns_distinct : (names : List (List ℕ)) (kinds : List ValueKind) → IsColumnList names → HasDistinctNames (zip names kinds)
columns_distinct names kinds h = distinct-named names kinds h.distinct

zip-shorter : (names : List (List ℕ)) (kinds : List ValueKind) → length (zip names kinds) ≤ length names
zip-shorter [] kinds = omega arith
zip-shorter (n ∷ names) [] = omega arith
zip-shorter (n ∷ names) (k ∷ kinds) = omega (arith, zip-shorter names kinds)

pub columns_few : (names : List (List ℕ)) (kinds : List ValueKind) → IsColumnList names → length (zip names kinds) < 2 ^ 32
columns_few names kinds h = omega (arith, zip-shorter names kinds, h.few)
