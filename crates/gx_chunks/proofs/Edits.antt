-- Rows that are replaced while a list of chunks is walked.
use Rattle.std.proofs.Common.{Result, Ok, Err, OnOk, ◌≡◌, ℕ, zero, suc, ◌+◌, ◌-◌, ◌*◌, ◌/◌, ◌%◌, ◌<◌, ◌≤◌, List, [], ◌∷◌, ◌++◌, Option, Some, None, drop, get_or, length, set, slice_get, refl, sym, ap, ◌∙◌, arith, append_assoc, length-append, length-drop}
use Rattle.std.specs.Global.{Global}
use Rattle.std.specs.List.{slice_range}
use Rattle.std.specs.Prelude.{Vec}
use Rattle.std.specs.declared.rc.Rc.{Rc}
use Rattle.std.proofs.lemmas.List.{append-nil, drop-append-le, length-map, length-take-le, set-append_left, set_at}
use Rattle.std.proofs.lemmas.List.Folds.{drop_split}
use Rattle.gx_chunks.specs.Chunks.{HasChunksOf, items_of_chunks, shared_chunks}
use Rattle.gx_chunks.specs.Editing.{IsEdit, edited_items}
use Rattle.gx_rows.specs.ListLaws.{drop-at}
use Rattle.gx_chunks.proofs.Chunks.{drop-past, item_of, items_of_chunks-append, items_of_chunks-push, slice_get-chunks}

slice_get-within : {A : Type 0} (xs : List A) (i : ℕ) (x : A) → slice_get xs i ≡ Some x → i < length xs
slice_get-within [] i x at = cc
slice_get-within (y ∷ xs) zero x at = omega arith
slice_get-within (y ∷ xs) (suc i) x at = omega (arith, slice_get-within xs i x at)

slice_get-at : {A : Type 0} (xs : List A) (i : ℕ) → i < length xs → (x : A) × (slice_get xs i ≡ Some x)
slice_get-at [] i within = absurd (omega arith)
slice_get-at (x ∷ xs) zero within = (x, refl)
slice_get-at (x ∷ xs) (suc i) within = slice_get-at xs i (omega arith)

get_or-slot : {A : Type 0} (xs : List A) (i : ℕ) (x d : A) → slice_get xs i ≡ Some x → get_or xs i d ≡ x
get_or-slot [] i x d at = cc
get_or-slot (y ∷ xs) zero x d at = cc
get_or-slot (y ∷ xs) (suc i) x d at = get_or-slot xs i x d at

-- another chunk as long as the old one
HasChunksOf-swap : {A : Type 0} (size : ℕ) (done : List (List A)) (old new : List A) (rest : List (List A)) → length new ≡ length old
    → HasChunksOf size (done ++ old ∷ rest) → HasChunksOf size (done ++ new ∷ rest)
HasChunksOf-swap size [] old new [] many even = omega (arith, even)
HasChunksOf-swap size [] old new (c ∷ rest) many even = (many ∙ even.0, even.1)
HasChunksOf-swap size (d ∷ []) old new rest many even = (even.0, HasChunksOf-swap size [] old new rest many even.1)
HasChunksOf-swap size (d ∷ e ∷ done) old new rest many even = (even.0, HasChunksOf-swap size (e ∷ done) old new rest many even.1)

-- chunks before another one are full
length-full_chunks : {A : Type 0} (size : ℕ) (done : List (List A)) (c : List A) (rest : List (List A)) → HasChunksOf size (done ++ c ∷ rest)
    → length (items_of_chunks done) ≡ size * length done
length-full_chunks size [] c rest even = omega arith
length-full_chunks size (d ∷ []) c rest even = omega (arith, length-append d [], even.0)
length-full_chunks size (d ∷ e ∷ done) c rest even =
    let more = length-full_chunks size (e ∷ done) c rest even.1 in
    let one : size * length (d ∷ e ∷ done) ≡ size + size * length (e ∷ done) = omega arith in
    omega (arith, length-append d (items_of_chunks (e ∷ done)), even.0)

length-swap : {A : Type 0} (first c : List A) → length first ≤ length c → length (first ++ drop (length first) c) ≡ length c
length-swap first c within = omega (arith, length-append first (drop (length first) c), length-drop (length first) c)

-- the items, with the next chunk taken apart
edited_items-at : {A : Type 0} (done : List (List A)) (first : List A) (old : List (List A)) (c : List A)
    → slice_get old (length done) ≡ Some c → length first ≤ length c
    → edited_items done first old ≡ items_of_chunks done ++ ((first ++ drop (length first) c) ++ items_of_chunks (drop (length done + 1) old))
edited_items-at done first old c at within =
    rw (drop-at old (length done) c at, drop-append-le (length first) c (items_of_chunks (drop (length done + 1) old)) within)
    (ap (λ xs. items_of_chunks done ++ xs) (sym (append_assoc first (drop (length first) c) (items_of_chunks (drop (length done + 1) old)))))

pub IsEdit-start : {A : Type 0} (size : ℕ) (old : List (List A)) → HasChunksOf size old → IsEdit {A = A} size [] [] old
IsEdit-start size old even = record { even = even; not_over = omega arith; not_past = omega arith }

pub not_over-at : {A : Type 0} (size : ℕ) (done : List (List A)) (first : List A) (old : List (List A)) (c : List A)
    → IsEdit size done first old → slice_get old (length done) ≡ Some c → length first ≤ length c
not_over-at size done first old c edit at = omega (arith, edit.not_over, ap length (get_or-slot old (length done) c [] at))

-- one more chunk is done
pub IsEdit-pass : {A : Type 0} (size : ℕ) (done : List (List A)) (first : List A) (old : List (List A)) (c new : List A)
    → IsEdit size done first old → slice_get old (length done) ≡ Some c → new ≡ first ++ drop (length first) c
    → IsEdit size (done ++ new ∷ []) [] old
IsEdit-pass size done first old c new edit at is =
    let within = not_over-at size done first old c edit at in
    let many : length new ≡ length c = ap length is ∙ length-swap first c within in
    let one_more : length (done ++ new ∷ []) ≡ length done + 1 = omega (arith, length-append done (new ∷ [])) in
    record {
      even = rw (one_more, append_assoc) (HasChunksOf-swap size done c new (drop (length done + 1) old) many (rw (drop-at old (length done) c at) at edit.even));
      not_over = omega arith;
      not_past = omega (arith, slice_get-within old (length done) c at);
    }

pub edited_items-pass : {A : Type 0} (size : ℕ) (done : List (List A)) (first : List A) (old : List (List A)) (c new : List A)
    → IsEdit size done first old → slice_get old (length done) ≡ Some c → new ≡ first ++ drop (length first) c
    → edited_items (done ++ new ∷ []) [] old ≡ edited_items done first old
edited_items-pass size done first old c new edit at is =
    let within = not_over-at size done first old c edit at in
    let one_more : length (done ++ new ∷ []) ≡ length done + 1 = omega (arith, length-append done (new ∷ [])) in
    rw (edited_items-at done first old c at within, one_more, items_of_chunks-push, is)
    (append_assoc (items_of_chunks done) (first ++ drop (length first) c) (items_of_chunks (drop (length done + 1) old)))

-- ---- a slot of the list

length-edited : {A : Type 0} (size : ℕ) (done : List (List A)) (first : List A) (old : List (List A)) → IsEdit size done first old
    → length (edited_items done first old) ≡ length (items_of_chunks (done ++ drop (length done) old))
length-edited {A = A} size done first old edit =
    let over = over_all (drop (length done) old) (get_or-drop0 old (length done)) in
    rw (items_of_chunks-append) (omega (
      arith,
      length-append (items_of_chunks done) (first ++ drop (length first) (items_of_chunks (drop (length done) old))),
      length-append first (drop (length first) (items_of_chunks (drop (length done) old))),
      length-drop (length first) (items_of_chunks (drop (length done) old)),
      length-append (items_of_chunks done) (items_of_chunks (drop (length done) old)),
      edit.not_over,
    ))
  where
    get_or-drop0 : (xs : List (List A)) (n : ℕ) → get_or (drop n xs) 0 [] ≡ get_or xs n []
    get_or-drop0 [] zero = refl
    get_or-drop0 [] (suc n) = refl
    get_or-drop0 (x ∷ xs) zero = refl
    get_or-drop0 (x ∷ xs) (suc n) = get_or-drop0 xs n

    over_all : (cs : List (List A)) → get_or cs 0 [] ≡ get_or old (length done) [] → length (get_or old (length done) []) ≤ length (items_of_chunks cs)
    over_all [] same = omega (arith, ap length same)
    over_all (c ∷ cs) same = omega (arith, ap length same, length-append c (items_of_chunks cs))

-- the chunk of a slot, and that the slot is in it
pub record IsChunkAt {A : Type 0} (size slot : ℕ) (cs : List (List A)) : Type 0 where
  pub chunk : List A
  pub at : slice_get cs (slot / size) ≡ Some chunk
  pub within : slot % size < length chunk

chunk-at : {A : Type 0} (size slot : ℕ) (cs : List (List A)) → 0 < size → HasChunksOf size cs → slot < length (items_of_chunks cs) → IsChunkAt size slot cs
chunk-at {A = A} size slot cs some even within =
    let found = slice_get-at (items_of_chunks cs) slot within in
    by (slice_get cs (slot / size)) refl (sym (slice_get-chunks size cs slot some even) ∙ found.1)
  where
    by : (o : Option (List A)) → slice_get cs (slot / size) ≡ o → item_of o (slot % size) ≡ Some (slice_get-at (items_of_chunks cs) slot within).0 → IsChunkAt size slot cs
    by None at is = cc
    by (Some c) at is = record { chunk = c; at = at; within = slice_get-within c (slot % size) _ is }

old-of_done : {A : Type 0} (done old : List A) (i : ℕ) → length done ≤ i → length done ≤ length old → slice_get (done ++ drop (length done) old) i ≡ slice_get old i
old-of_done [] old i from past = refl
old-of_done (d ∷ done) [] i from past = absurd (omega arith)
old-of_done (d ∷ done) (x ∷ old) zero from past = absurd (omega arith)
old-of_done (d ∷ done) (x ∷ old) (suc i) from past = old-of_done done old i (omega arith) (omega arith)

-- a slot that is not before the next one is in an old chunk
pub old_chunk-at : {A : Type 0} (size slot : ℕ) (done : List (List A)) (first : List A) (old : List (List A)) → 0 < size → IsEdit size done first old
    → slot < length (edited_items done first old) → length done ≤ slot / size → IsChunkAt size slot old
old_chunk-at size slot done first old some edit within from =
    let found = chunk-at size slot (done ++ drop (length done) old) some edit.even (omega (arith, within, length-edited size done first old edit)) in
    record { chunk = found.chunk; at = sym (old-of_done done old (slot / size) from edit.not_past) ∙ found.at; within = found.within }

pub chunk-below : {A : Type 0} (size slot : ℕ) (old : List (List A)) → IsChunkAt size slot old → slot / size < length old
chunk-below size slot old at = slice_get-within old (slot / size) at.chunk at.at

set-right : {A : Type 0} (xs ys : List A) (k : ℕ) (z : A) → set (xs ++ ys) (length xs + k) z ≡ xs ++ set ys k z
set-right [] ys k z = let same : 0 + k ≡ k = omega arith in rw same refl
set-right (x ∷ xs) ys k z = let same : suc (length xs) + k ≡ suc (length xs + k) = omega arith in rw same (ap (λ zs. x ∷ zs) (set-right xs ys k z))

-- a row is put into the next chunk
pub edited_items-put : {A : Type 0} (size slot k : ℕ) (done : List (List A)) (first new : List A) (old : List (List A)) (c : List A) (x : A)
    → IsEdit size done first old → slice_get old (length done) ≡ Some c → length new ≤ length c → k < length c → slot ≡ size * length done + k
    → new ++ drop (length new) c ≡ set (first ++ drop (length first) c) k x
    → edited_items done new old ≡ set (edited_items done first old) slot x
edited_items-put size slot k done first new old c x edit at fits inside is put =
    let within = not_over-at size done first old c edit at in
    let here : slot ≡ length (items_of_chunks done) + k = is ∙ ap (λ n. n + k) (sym (length-full_chunks size done c (drop (length done + 1) old) (rw (drop-at old (length done) c at) at edit.even))) in
    let small : k < length (first ++ drop (length first) c) = omega (arith, length-swap first c within) in
    rw (edited_items-at done new old c at fits, edited_items-at done first old c at within, put, here, set-right, set-append_left (first ++ drop (length first) c) (items_of_chunks (drop (length done + 1) old)) k x small) refl

pub IsEdit-put : {A : Type 0} (size : ℕ) (done : List (List A)) (first new : List A) (old : List (List A)) (c : List A)
    → IsEdit size done first old → slice_get old (length done) ≡ Some c → length new ≤ length c → IsEdit size done new old
IsEdit-put size done first new old c edit at fits = record { even = edit.even; not_over = omega (arith, ap length (get_or-slot old (length done) c [] at)); not_past = edit.not_past }

-- ---- the end

pub HasChunksOf-all : {A : Type 0} (size : ℕ) (done : List (List A)) (first : List A) (old : List (List A)) → IsEdit size done first old → length old ≤ length done → HasChunksOf size done
HasChunksOf-all size done first old edit all = rw (drop-past old (length done) all, append-nil) at edit.even

pub edited_items-all : {A : Type 0} (size : ℕ) (done : List (List A)) (first : List A) (old : List (List A)) → IsEdit size done first old → length old ≤ length done
    → edited_items done first old ≡ items_of_chunks done
edited_items-all {A = A} size done first old edit all =
    let none : first ≡ [] = empty first (omega (arith, edit.not_over, ap length (past old (length done) all))) in
    rw (none, drop-past old (length done) all) (append-nil (items_of_chunks done))
  where
    empty : (xs : List A) → length xs ≤ 0 → xs ≡ []
    empty [] few = refl
    empty (x ∷ xs) few = absurd (omega arith)

    past : (xs : List (List A)) (n : ℕ) → length xs ≤ n → get_or xs n [] ≡ []
    past [] n few = refl
    past (x ∷ xs) zero few = absurd (omega arith)
    past (x ∷ xs) (suc n) few = past xs n (omega arith)

-- ---- a row in the next chunk

-- the items of a chunk up to a slot, and another one there
pub put-after : {A : Type 0} (first c made : List A) (slot : ℕ) (x : A) → length first ≤ slot → slot < length c
    → made ≡ (first ++ slice_range c (length first) slot) ++ x ∷ [] → made ++ drop (length made) c ≡ set (first ++ drop (length first) c) slot x
put-after {A = A} first c made slot x from within is =
    let found = slice_get-at c slot within in
    let between : List A = slice_range c (length first) slot in
    let many : length (first ++ between) ≡ slot =
    omega (arith, length-append first between, length-take-le (slot - length first) (drop (length first) c) (omega (arith, length-drop (length first) c))) in
    let made_many : length made ≡ slot + 1 = omega (arith, ap length is, length-append (first ++ between) (x ∷ []), many) in
    let parts : first ++ drop (length first) c ≡ (first ++ between) ++ found.0 ∷ drop (slot + 1) c =
    ap (λ xs. first ++ xs) (drop_split c (length first) slot from) ∙ sym (append_assoc first between (drop slot c)) ∙ ap (λ xs. (first ++ between) ++ xs) (drop-at c slot found.0 found.1) in
    rw (made_many, is, parts, set_at (first ++ between) found.0 (drop (slot + 1) c) x slot many) (append_assoc (first ++ between) (x ∷ []) (drop (slot + 1) c))

pub length-put : {A : Type 0} (first c : List A) (slot : ℕ) → length first ≤ slot → slot < length c → length (first ++ slice_range c (length first) slot) ≡ slot
length-put first c slot from within =
    omega (arith, length-append first (slice_range c (length first) slot), length-take-le (slot - length first) (drop (length first) c) (omega (arith, length-drop (length first) c)))

-- ---- shared chunks

pub old_chunk : {A : Type 0} (chunks : List (Rc (Vec A Global) Global)) (i j : ℕ) (c : Rc (Vec A Global) Global) → j ≡ i → i < length chunks → c ≡ get_or chunks i c
    → slice_get (shared_chunks chunks) j ≡ Some c.value.items
old_chunk chunks i j c same within is = rw same (at chunks i c within is)
  where
    at : {A : Type 0} (chunks : List (Rc (Vec A Global) Global)) (i : ℕ) (c : Rc (Vec A Global) Global) → i < length chunks → c ≡ get_or chunks i c → slice_get (shared_chunks chunks) i ≡ Some c.value.items
    at [] i c within is = absurd (omega arith)
    at (d ∷ chunks) zero c within is = ap (λ (e : Rc (Vec _ Global) Global). Some e.value.items) (sym is)
    at (d ∷ chunks) (suc i) c within is = at chunks i c (omega arith) is

pub length-shared : {A : Type 0} (chunks : List (Rc (Vec A Global) Global)) → length (shared_chunks chunks) ≡ length chunks
length-shared chunks = length-map chunks (λ c. c.value.items)

-- the chunk of the slot that is given a row
pub slot_chunk : {A : Type 0} (chunks done : List (Rc (Vec A Global) Global)) (first rows : List A) (next slot : ℕ)
    → IsEdit 32 (shared_chunks done) first (shared_chunks chunks) → edited_items (shared_chunks done) first (shared_chunks chunks) ≡ rows → 32 * length done + length first ≡ next
    → next ≤ slot → slot < length rows → IsChunkAt 32 slot (shared_chunks chunks)
slot_chunk chunks done first rows next slot edit same is from within =
    old_chunk-at 32 slot (shared_chunks done) first (shared_chunks chunks) (omega arith) edit (omega (arith, ap length same)) (omega (arith, length-shared done))

-- the same for what the code reads at the place of that chunk
pub record IsSlotChunk {A : Type 0} (chunks : List (Rc (Vec A Global) Global)) (slot : ℕ) (chunk : List A) : Type 0 where
  pub at : slice_get (shared_chunks chunks) (slot / 32) ≡ Some chunk
  pub within : slot % 32 < length chunk

pub IsSlotChunk-read : {A : Type 0} (chunks : List (Rc (Vec A Global) Global)) (slot : ℕ) (r : Rc (Vec A Global) Global) (chunk : List A)
    → IsChunkAt 32 slot (shared_chunks chunks) → r ≡ get_or chunks (slot / 32) r → chunk ≡ r.value.items → IsSlotChunk chunks slot chunk
IsSlotChunk-read chunks slot r chunk found is reads =
    let before : slot / 32 < length chunks = omega (arith, chunk-below 32 slot (shared_chunks chunks) found, length-shared chunks) in
    let at = old_chunk chunks (slot / 32) (slot / 32) r refl before is in
    let same : found.chunk ≡ r.value.items = cc (found.at, at) in
    record { at = at ∙ ap (λ xs. Some xs) (sym reads); within = omega (arith, found.within, ap length same, ap length reads) }

pub OnOk-weaker : {A E : Type 0} (P Q : Type 0) (r : Result A E) → (P → Q) → OnOk r P → OnOk r Q
OnOk-weaker P Q (Ok x) follows p = follows p
OnOk-weaker P Q (Err e) follows p = tt
