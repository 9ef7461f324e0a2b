-- Names of columns, walked by position.
use Rattle.std.proofs.Common.{◌≡◌, ℕ, ◌+◌, ◌<◌, ◌≤◌, Bool, true, false, List, [], ◌∷◌, ◌++◌, length, get_or, take, drop, Some, Ok, refl, ◌∙◌, add-one, slice_get, drop-cons}
use Rattle.gx_rows.specs.Results.{◌>>=◌}
use Rattle.gx_types_clauses.specs.ColumnLists.{checked_name, checked_names, is_reserved}
use Rattle.std.proofs.lemmas.Grind.{take_at_read}
use Rattle.std.proofs.lemmas.List.{get_or-take, length-take-le}
use Rattle.std.proofs.lemmas.List.Folds.{list_any_at, list_any_more}
use Rattle.std.proofs.lemmas.Map.Keys.{IsDistinct-head, IsDistinct-tail, IsDistinct-cons}
use Rattle.std.proofs.lemmas.Option.{get_or_from_slice_get, slice_get_within}
use Rattle.std.specs.List.{AllByRecursion, IsDistinct, list_any}
use Rattle.std.specs.Str.{bytes_eq}

-- an item among the first n that passes a test
pub list_any-take_hit : {A : Type 0} (p : A → Bool) (xs : List A) (i n : ℕ) (x : A)
    → slice_get xs i ≡ Some x → i < n → n ≤ length xs → p x ≡ true → list_any p (take n xs) ≡ true
list_any-take_hit p xs i n x at below within passes =
    list_any_at p (take n xs) i x (rw (length-take-le n xs within) below)
    (rw (get_or-take n xs i x below, get_or_from_slice_get xs i x x at) passes)

-- one item more that does not
pub list_any-take_miss : {A : Type 0} (p : A → Bool) (xs : List A) (i : ℕ) (x : A)
    → slice_get xs i ≡ Some x → list_any p (take i xs) ≡ false → p x ≡ false → list_any p (take (i + 1) xs) ≡ false
list_any-take_miss p xs i x at before fails =
    list_any_more p xs i x (slice_get_within xs i x at) ∙ rw (before, get_or_from_slice_get xs i x x at, fails) refl

-- the check goes on with the next name
pub checked_names-next : (names : List (List ℕ)) (i : ℕ) → i < length names
    → checked_names (take i names) (drop i names)
    ≡ (checked_name (take i names) (get_or names i []) >>= λ _. checked_names (take (i + 1) names) (drop (i + 1) names))
checked_names-next names i within = rw (drop-cons names i [] within, (take_at_read names i [] within).1, add-one) refl

pub checked_names-more : (names : List (List ℕ)) (i : ℕ) → i < length names
    → checked_name (take i names) (get_or names i []) ≡ Ok tt
    → checked_names (take i names) (drop i names) ≡ checked_names (take (i + 1) names) (drop (i + 1) names)
checked_names-more names i within passed = checked_names-next names i within ∙ rw passed refl

-- a name that passed differs from those before it
checked_name-new : (before : List (List ℕ)) (name : List ℕ)
    → checked_name before name ≡ Ok tt → list_any (λ n. bytes_eq n name) before ≡ false
checked_name-new before name passed = by (is_reserved name) (list_any (λ n. bytes_eq n name) before) refl refl passed
  where
    by : (r t : Bool) → is_reserved name ≡ r → list_any (λ n. bytes_eq n name) before ≡ t
        → checked_name before name ≡ Ok tt → list_any (λ n. bytes_eq n name) before ≡ false
    by r false er et passed = et
    by true true er et passed = cc (rw er at passed)
    by false true er et passed = cc (rw (er, et) at passed)

list_any-head : {A : Type 0} (p : A → Bool) (x : A) (xs : List A) → list_any p (x ∷ xs) ≡ false
    → (p x ≡ false) × (list_any p xs ≡ false)
list_any-head p x xs none = by (p x) (list_any p xs) refl refl none
  where
    by : (a b : Bool) → p x ≡ a → list_any p xs ≡ b → list_any p (x ∷ xs) ≡ false → (p x ≡ false) × (list_any p xs ≡ false)
    by false false ea eb none = (ea, eb)
    by true b ea eb none = cc (rw ea at none)
    by false true ea eb none = cc (rw (ea, eb) at none)

AllByRecursion-last : {A : Type 0} (P : A → Type 0) (xs : List A) (y : A) → AllByRecursion P xs → P y → AllByRecursion P (xs ++ y ∷ [])
AllByRecursion-last P [] y all last = (last, tt)
AllByRecursion-last P (x ∷ xs) y all last = (all.0, AllByRecursion-last P xs y all.1 last)

IsDistinct-last : {A : Type 0} (e : A → A → Bool) (xs : List A) (y : A)
    → IsDistinct e xs → list_any (λ x. e x y) xs ≡ false → IsDistinct e (xs ++ y ∷ [])
IsDistinct-last e [] y distinct none = IsDistinct-cons e y [] tt distinct
IsDistinct-last e (x ∷ xs) y distinct none =
    let parts = list_any-head (λ z. e z y) x xs none in
    IsDistinct-cons e x (xs ++ y ∷ [])
    (AllByRecursion-last (λ z. e x z ≡ false) xs y (IsDistinct-head e x xs distinct) parts.0)
    (IsDistinct-last e xs y (IsDistinct-tail e x xs distinct) parts.1)

-- names that passed differ
pub IsDistinct-passed : (names : List (List ℕ)) (i : ℕ) → i < length names
    → checked_name (take i names) (get_or names i []) ≡ Ok tt
    → IsDistinct bytes_eq (take i names) → IsDistinct bytes_eq (take (i + 1) names)
IsDistinct-passed names i within passed distinct =
    rw ((take_at_read names i [] within).1)
    (IsDistinct-last bytes_eq (take i names) (get_or names i []) distinct (checked_name-new (take i names) (get_or names i []) passed))
