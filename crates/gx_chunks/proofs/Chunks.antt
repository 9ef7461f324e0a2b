-- A list in chunks: how to find an item, and what one more item or chunk makes of it.
use Rattle.std.proofs.Common.{◌≡◌, ℕ, zero, suc, ◌+◌, ◌-◌, ◌/◌, ◌%◌, ◌<◌, ◌≤◌, List, [], ◌∷◌, ◌++◌, Option, Some, None, drop, length, slice_get, refl, sym, ap, ◌∙◌, inl, inr, arith, append_assoc, length-drop, add-one}
use Rattle.std.specs.Global.{Global}
use Rattle.std.specs.List.{AllByRecursion}
use Rattle.std.specs.declared.rc.Rc.{Rc}
use Rattle.std.specs.Prelude.{Vec}
use Rattle.std.proofs.Math.Nat.{div-eq_of_lt, div-eq-sub-div, mod-eq_of_lt, mod-eq-sub-mod}
use Rattle.std.proofs.lemmas.Bool.{cases_lt}
use Rattle.std.proofs.lemmas.List.{append-nil, drop-append-le, drop-drop, map-append}
use Rattle.std.proofs.lemmas.Option.{slice_get_past}
use Rattle.gx_chunks.specs.Chunks.{HasChunksOf, HasFullChunks, IsPieceAt, items_of_chunks, shared_chunks}

slice_get-left : {A : Type 0} (xs ys : List A) (i : ℕ) → i < length xs → slice_get (xs ++ ys) i ≡ slice_get xs i
slice_get-left [] ys i within = absurd (omega arith)
slice_get-left (x ∷ xs) ys zero within = refl
slice_get-left (x ∷ xs) ys (suc i) within = slice_get-left xs ys i (omega arith)

slice_get-right : {A : Type 0} (xs ys : List A) (i : ℕ) → length xs ≤ i → slice_get (xs ++ ys) i ≡ slice_get ys (i - length xs)
slice_get-right [] ys i from = let same : i - 0 ≡ i = omega arith in rw same
slice_get-right (x ∷ xs) ys zero from = absurd (omega arith)
slice_get-right (x ∷ xs) ys (suc i) from = let same : suc i - suc (length xs) ≡ i - length xs = omega arith in rw same (slice_get-right xs ys i (omega arith))

-- an item of a chunk, if there is that chunk
abbrev pub item_of : {A : Type 0} → Option (List A) → ℕ → Option A
item_of None i = None
item_of (Some c) i = slice_get c i

-- each chunk but the last is full, so an item is found by division
pub slice_get-chunks : {A : Type 0} (size : ℕ) (cs : List (List A)) (i : ℕ) → 0 < size → HasChunksOf size cs
    → slice_get (items_of_chunks cs) i ≡ item_of (slice_get cs (i / size)) (i % size)
slice_get-chunks size [] i some even = refl
slice_get-chunks size (c ∷ []) i some even =
    elim (cases_lt i size) [
      | inl below ↦ rw (append-nil, div-eq_of_lt below, mod-eq_of_lt below) refl
      | inr from ↦
          let past : length c ≤ i = omega arith in
          rw (append-nil, div-eq-sub-div some from, add-one) (slice_get_past c i past)
    ]
slice_get-chunks size (c ∷ d ∷ cs) i some even =
    elim (cases_lt i size) [
      | inl below ↦
          let within : i < length c = omega (arith, even.0) in
          rw (div-eq_of_lt below, mod-eq_of_lt below) (slice_get-left c (items_of_chunks (d ∷ cs)) i within)
      | inr from ↦
          let past : length c ≤ i = omega (arith, even.0) in
          rw (div-eq-sub-div some from, mod-eq-sub-mod from, add-one)
          (slice_get-right c (items_of_chunks (d ∷ cs)) i past
          ∙ ap (λ n. slice_get (items_of_chunks (d ∷ cs)) (i - n)) even.0
          ∙ slice_get-chunks size (d ∷ cs) (i - size) some even.1)
    ]

drop-right : {A : Type 0} (xs ys : List A) (i : ℕ) → length xs ≤ i → drop i (xs ++ ys) ≡ drop (i - length xs) ys
drop-right [] ys i from = let same : i - 0 ≡ i = omega arith in rw same refl
drop-right (x ∷ xs) ys zero from = absurd (omega arith)
drop-right (x ∷ xs) ys (suc i) from = let same : suc i - suc (length xs) ≡ i - length xs = omega arith in rw same (drop-right xs ys i (omega arith))

-- the rest of a chunk is items of the list
pub IsPieceAt-chunks : {A : Type 0} (size : ℕ) (cs : List (List A)) (i : ℕ) (c : List A) → 0 < size → HasChunksOf size cs → slice_get cs (i / size) ≡ Some c
    → IsPieceAt i (drop (i % size) c) (items_of_chunks cs)
IsPieceAt-chunks size [] i c some even at = cc
IsPieceAt-chunks size (d ∷ []) i c some even at =
    elim (cases_lt i size) [
      | inl below ↦
          let first : Some d ≡ Some c = rw (div-eq_of_lt below) at at in
          let same : d ≡ c = cc in
          record { rest = []; split = rw (mod-eq_of_lt below) (ap (drop i) (append-nil d ∙ same) ∙ sym (append-nil (drop i c))) }
      | inr from ↦ let none : None ≡ Some c = rw (div-eq-sub-div some from, add-one) at at in cc
    ]
IsPieceAt-chunks size (d ∷ e ∷ cs) i c some even at =
    elim (cases_lt i size) [
      | inl below ↦
          let first : Some d ≡ Some c = rw (div-eq_of_lt below) at at in
          let same : d ≡ c = cc in
          let within : i ≤ length d = omega (arith, even.0) in
          record { rest = items_of_chunks (e ∷ cs); split = rw (mod-eq_of_lt below) (drop-append-le i d (items_of_chunks (e ∷ cs)) within ∙ ap (λ xs. drop i xs ++ items_of_chunks (e ∷ cs)) same) }
      | inr from ↦
          let later : slice_get (e ∷ cs) ((i - size) / size) ≡ Some c = rw (div-eq-sub-div some from, add-one) at at in
          let past : length d ≤ i = omega (arith, even.0) in
          let more = IsPieceAt-chunks size (e ∷ cs) (i - size) c some even.1 later in
          record { rest = more.rest; split = rw (mod-eq-sub-mod from) (drop-right d (items_of_chunks (e ∷ cs)) i past ∙ ap (λ n. drop (i - n) (items_of_chunks (e ∷ cs))) even.0 ∙ more.split) }
    ]

pub slice_get-none : {A : Type 0} (xs : List A) (i : ℕ) → slice_get xs i ≡ None → length xs ≤ i
slice_get-none [] i none = omega arith
slice_get-none (x ∷ xs) zero none = cc
slice_get-none (x ∷ xs) (suc i) none = omega (arith, slice_get-none xs i none)

pub drop-past : {A : Type 0} (xs : List A) (i : ℕ) → length xs ≤ i → drop i xs ≡ []
drop-past [] zero past = refl
drop-past [] (suc i) past = refl
drop-past (x ∷ xs) zero past = absurd (omega arith)
drop-past (x ∷ xs) (suc i) past = drop-past xs i (omega arith)

-- no item is a piece anywhere past the end
pub IsPieceAt-past : {A : Type 0} (xs : List A) (i : ℕ) → slice_get xs i ≡ None → IsPieceAt i [] xs
IsPieceAt-past xs i none = record { rest = []; split = drop-past xs i (slice_get-none xs i none) }

-- if an item of the list is in the chunk, the rest of the chunk begins with it
pub nonempty-chunk : {A : Type 0} (xs c : List A) (i k : ℕ) → slice_get xs i ≡ slice_get c k → i < length xs → 0 < length (drop k c)
nonempty-chunk xs c i k same within =
    elim (cases_lt k (length c)) [
      | inl below ↦ omega (arith, length-drop k c)
      | inr from ↦ absurd (omega (arith, slice_get-none xs i (same ∙ slice_get_past c k from)))
    ]

pub IsPieceAt-start : {A : Type 0} (xs : List A) → IsPieceAt 0 [] xs
IsPieceAt-start xs = record { rest = xs; split = refl }

pub items_of_chunks-append : {A : Type 0} (cs ds : List (List A)) → items_of_chunks (cs ++ ds) ≡ items_of_chunks cs ++ items_of_chunks ds
items_of_chunks-append [] ds = refl
items_of_chunks-append (c ∷ cs) ds = rw append_assoc (ap (λ xs. c ++ xs) (items_of_chunks-append cs ds))

-- one more chunk
pub items_of_chunks-push : {A : Type 0} (cs : List (List A)) (c : List A) → items_of_chunks (cs ++ c ∷ []) ≡ items_of_chunks cs ++ c
items_of_chunks-push cs c = items_of_chunks-append cs (c ∷ []) ∙ ap (λ xs. items_of_chunks cs ++ xs) (append-nil c)

pub HasChunksOf-full : {A : Type 0} (size : ℕ) (cs : List (List A)) (c : List A) → HasFullChunks size cs c → HasChunksOf size (cs ++ c ∷ [])
HasChunksOf-full size [] c all = all.not_over
HasChunksOf-full size (d ∷ []) c all = (all.each_full.0, all.not_over)
HasChunksOf-full size (d ∷ e ∷ cs) c all = (all.each_full.0, HasChunksOf-full size (e ∷ cs) c (record { each_full = all.each_full.1; not_over = all.not_over }))

all-push : {A : Type 0} (P : A → Type 0) (xs : List A) (x : A) → AllByRecursion P xs → P x → AllByRecursion P (xs ++ x ∷ [])
all-push P [] x all last = (last, tt)
all-push P (y ∷ xs) x all last = (all.0, all-push P xs x all.1 last)

-- one more full chunk, and an empty one
pub HasFullChunks-push : {A : Type 0} (size : ℕ) (cs : List (List A)) (c : List A) → AllByRecursion (λ d. length d ≡ size) cs → length c ≡ size → HasFullChunks {A = A} size (cs ++ c ∷ []) []
HasFullChunks-push size cs c all full = record { each_full = all-push (λ d. length d ≡ size) cs c all full; not_over = omega arith }

pub shared_chunks-push : {A : Type 0} (new old : List (Rc (Vec A Global) Global)) (c : Rc (Vec A Global) Global) (items : List A) → new ≡ old ++ c ∷ [] → c.value.items ≡ items
    → shared_chunks new ≡ shared_chunks old ++ items ∷ []
shared_chunks-push new old c items pushed same = rw (pushed, map-append, same)
