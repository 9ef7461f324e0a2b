-- The first item that passes a test, and whether one passes, by index.
use Rattle.std.proofs.Common.{
  ◌≡◌,
  ◌∙◌,
  ◌⊎◌,
  inl,
  inr,
  ⊎_elim,
  ℕ,
  ◌+◌,
  ◌<◌,
  suc,
  zero,
  Bool,
  true,
  false,
  ◌||◌,
  cond,
  List,
  [],
  ◌∷◌,
  length,
  map,
  set,
  Option,
  Some,
  None,
  refl,
  ap,
  sym,
  subst,
  arith,
}
use Rattle.std.specs.Prelude.{nat_lt, option_map, position, slice_get}
use Rattle.std.specs.List.{list_any, position_or_len}
use Rattle.std.proofs.lemmas.Bool.Decides.{nat_tests}

-- no item before index n passes
pub record NonePassBefore {X : Type 0} (p : X → Bool) (xs : List X) (n : ℕ) : Type 0 where
  pub fails : (v : ℕ) (y : X) → v < n → slice_get xs v ≡ Some y → p y ≡ false

pub none_pass_before-zero : {X : Type 0} (p : X → Bool) (xs : List X) → NonePassBefore p xs 0
none_pass_before-zero p xs = record { fails = λ v y below e. absurd (omega arith) }

at_or_before : (v n : ℕ) → v < n + 1 → (v < n) ⊎ (v ≡ n)
at_or_before v n h = grind arith

pub none_pass_before-more : {X : Type 0} (p : X → Bool) (xs : List X) (n : ℕ) (x : X)
    → slice_get xs n ≡ Some x → p x ≡ false
    → NonePassBefore p xs n → NonePassBefore p xs (n + 1)
none_pass_before-more p xs n x h f r = record {
  fails = λ v y below e. ⊎_elim (λ earlier. r.fails v y earlier e)
      (λ here.
      let found : slice_get xs n ≡ Some y = subst (λ (i : ℕ). slice_get xs i ≡ Some y) here e in
      let same : Some x ≡ Some y = sym h ∙ found in
      let equal : x ≡ y = cc in
      ap p (sym equal) ∙ f)
      (at_or_before v n below);
}

-- the items after the first
rest_before : {X : Type 0} (p : X → Bool) (z : X) (zs : List X) (n : ℕ)
    → NonePassBefore p (z ∷ zs) (suc n) → NonePassBefore p zs n
rest_before p z zs n r = record { fails = λ v y below e. r.fails (suc v) y (omega arith) e }

first_fails : {X : Type 0} (p : X → Bool) (z : X) (zs : List X) (n : ℕ)
    → NonePassBefore p (z ∷ zs) (suc n) → p z ≡ false
first_fails p z zs n r = r.fails 0 z (omega arith) refl

position_or_len-is : {X : Type 0} (p : X → Bool) (xs : List X) (w : ℕ) (x : X)
    → slice_get xs w ≡ Some x → p x ≡ true
    → NonePassBefore p xs w → (position_or_len p xs ≡ w) × (w < length xs)
position_or_len-is p [] w x h t r = absurd (cc)
position_or_len-is p (z ∷ zs) zero x h t r =
    let same : z ≡ x = cc in
    let passes : p z ≡ true = ap p same ∙ t in
    (rw passes refl, omega arith)
position_or_len-is p (z ∷ zs) (suc w) x h t r =
    let ih = position_or_len-is p zs w x h t (rest_before p z zs w r) in
    let fails : p z ≡ false = first_fails p z zs w r in
    (rw fails (let same : position_or_len p zs ≡ w = ih.0 in omega arith), omega (arith, ih.1))

pub position-is : {X : Type 0} (p : X → Bool) (xs : List X) (w : ℕ) (x : X)
    → slice_get xs w ≡ Some x → p x ≡ true
    → NonePassBefore p xs w → position p xs ≡ Some w
position-is p xs w x h t r =
    let at = position_or_len-is p xs w x h t r in
    let within : nat_lt w (length xs) ≡ true = let below : w < length xs = at.1 in
    grind (arith, nat_tests) in
    let here : position_or_len p xs ≡ w = at.0 in
    subst (λ (i : ℕ). cond (nat_lt i (length xs)) (Some i) None ≡ Some w) (sym here)
    (ap (λ (b : Bool). cond b (Some w) None) within)

position_or_len-all : {X : Type 0} (p : X → Bool) (xs : List X) → NonePassBefore p xs (length xs)
    → position_or_len p xs ≡ length xs
position_or_len-all p [] r = refl
position_or_len-all p (z ∷ zs) r =
    let ih : position_or_len p zs ≡ length zs =
    position_or_len-all p zs (rest_before p z zs (length zs) r) in
    let fails : p z ≡ false = first_fails p z zs (length zs) r in
    rw fails (omega arith)

pub position-none : {X : Type 0} (p : X → Bool) (xs : List X) → NonePassBefore p xs (length xs)
    → position p xs ≡ None
position-none p xs r =
    let beyond : nat_lt (length xs) (length xs) ≡ false = grind (arith, nat_tests) in
    subst (λ (i : ℕ). cond (nat_lt i (length xs)) (Some i) None ≡ None)
    (sym (position_or_len-all p xs r))
    (ap (λ (b : Bool). cond b (Some (length xs)) None) beyond)

pub list_any-none : {X : Type 0} (p : X → Bool) (xs : List X) → NonePassBefore p xs (length xs)
    → list_any p xs ≡ false
list_any-none p [] r = refl
list_any-none p (z ∷ zs) r =
    let fails : p z ≡ false = first_fails p z zs (length zs) r in
    let ih : list_any p zs ≡ false = list_any-none p zs (rest_before p z zs (length zs) r) in
    rw fails ih

or_second : (a b : Bool) → b ≡ true → (a || b) ≡ true
or_second true b h = refl
or_second false b h = h

pub list_any-at : {X : Type 0} (p : X → Bool) (xs : List X) (i : ℕ) (x : X)
    → slice_get xs i ≡ Some x → p x ≡ true → list_any p xs ≡ true
list_any-at p [] i x h t = absurd (cc)
list_any-at p (z ∷ zs) zero x h t =
    let same : z ≡ x = cc in
    let passes : p z ≡ true = ap p same ∙ t in
    ap (λ (u : Bool). u || list_any p zs) passes
list_any-at p (z ∷ zs) (suc i) x h t = or_second (p z) (list_any p zs) (list_any-at p zs i x h t)

pub slice_get-map : {X Y : Type 0} (g : X → Y) (xs : List X) (i : ℕ)
    → slice_get (map g xs) i ≡ option_map g (slice_get xs i)
slice_get-map g [] i = refl
slice_get-map g (x ∷ xs) zero = refl
slice_get-map g (x ∷ xs) (suc i) = slice_get-map g xs i

-- an item of a mapped list
pub slice_get-mapped : {X Y : Type 0} (g : X → Y) (xs : List X) (i : ℕ) (x : X)
    → slice_get xs i ≡ Some x → slice_get (map g xs) i ≡ Some (g x)
slice_get-mapped g xs i x h = slice_get-map g xs i ∙ ap (option_map g) h

-- an item of a list after one place was overwritten
pub get-set : {X : Type 0} (xs : List (Option X)) (w v : ℕ) (y : Option X) (x : X)
    → slice_get (set xs w y) v ≡ Some (Some x)
    → (y ≡ Some x) ⊎ (slice_get xs v ≡ Some (Some x))
get-set [] w v y x h = inr h
get-set (z ∷ zs) zero zero y x h = inl (let found : Some y ≡ Some (Some x) = h in cc)
get-set (z ∷ zs) zero (suc v) y x h = inr h
get-set (z ∷ zs) (suc w) zero y x h = inr h
get-set (z ∷ zs) (suc w) (suc v) y x h = get-set zs w v y x h

-- an item that is there has an index below the length
pub slice_get-below : {X : Type 0} (xs : List X) (i : ℕ) (x : X) → slice_get xs i ≡ Some x
    → i < length xs
slice_get-below [] i x h = absurd (cc)
slice_get-below (z ∷ zs) zero x h = omega arith
slice_get-below (z ∷ zs) (suc i) x h = let below : i < length zs = slice_get-below zs i x h in
    omega arith
