-- One step of each loop over the parts.
use Rattle.std.proofs.Common.{◌≡◌, ℕ, suc, ◌+◌, ◌<◌, ◌≤◌, List, [], ◌∷◌, ◌++◌, Some, length, take, slice_get, zip, arith, zero-add}
use Rattle.std.specs.Global.{Global}
use Rattle.std.specs.List.{enumerate_from}
use Rattle.std.specs.declared.rc.Rc.{Rc}
use Rattle.std.proofs.lemmas.Fn.{FoldsTo-push}
use Rattle.std.proofs.lemmas.List.{length-take-le, length_push, map-append, take_all, take_more}
use Rattle.std.proofs.lemmas.Option.{get_or_from_slice_get, slice_get-get_or, slice_get_within}
use Rattle.std.proofs.lemmas.Slice.Zip.{all_zipped_more, get_or-zip, length-zip}
use Rattle.gx_parts.specs.Calls.{FoldedBy, MappedBy}
use Rattle.gx_parts.specs.Shared.{shared_values}

pub shared_values-push : {T : Type 0} (new old : List (Rc T Global)) (r : Rc T Global) (t : T) → new ≡ old ++ r ∷ [] → r.value ≡ t
    → shared_values new ≡ shared_values old ++ t ∷ []
shared_values-push new old r t pushed shared = rw (pushed, map-append, shared)

enumerate_from-push : {T : Type 0} (n : ℕ) (ts : List T) (t : T) → enumerate_from n (ts ++ t ∷ []) ≡ enumerate_from n ts ++ (n + length ts, t) ∷ []
enumerate_from-push n [] t = let same : n + 0 ≡ n = omega arith in rw same
enumerate_from-push n (x ∷ ts) t = let same : n + suc (length ts) ≡ n + 1 + length ts = omega arith in rw (same, enumerate_from-push (n + 1) ts t)

-- the first parts and the next one, with their numbers
enumerate_from-more : {T : Type 0} (ts : List T) (i : ℕ) (t : T) → slice_get ts i ≡ Some t
    → enumerate_from 0 (take (i + 1) ts) ≡ enumerate_from 0 (take i ts) ++ (i, t) ∷ []
enumerate_from-more ts i t at =
    let within : i < length ts = slice_get_within ts i t at in
    let whole : i ≤ length ts = omega arith in
    rw (take_more ts i t within, get_or_from_slice_get ts i t t at, enumerate_from-push 0 (take i ts) t, length-take-le i ts whole, zero-add)

pub slice_get-zip : {T S : Type 0} (ts : List T) (ss : List S) (i : ℕ) (t : T) (s : S) → slice_get ts i ≡ Some t → slice_get ss i ≡ Some s
    → slice_get (zip ts ss) i ≡ Some (t, s)
slice_get-zip ts ss i t s at also =
    let first : i < length ts = slice_get_within ts i t at in
    let second : i < length ss = slice_get_within ss i s also in
    let there : i < length (zip ts ss) = rw length-zip (omega arith) in
    rw (slice_get-get_or (zip ts ss) i (t, s) there, get_or-zip ts ss i (t, s) first second, get_or_from_slice_get ts i t t at, get_or_from_slice_get ss i s s also)

-- each of the first i parts is mapped
pub record IsMappedTo {A U : Type 0} (step : ℕ × A → U → Type 0) (ts : List A) (i : ℕ) (us : List U) : Type 0 where
  pub len : length us ≡ i
  pub mapped : MappedBy step (take i ts) us

pub IsMappedTo-more : {A U : Type 0} {step : ℕ × A → U → Type 0} {ts : List A} {i : ℕ} {us : List U} (t : A) (u : U)
    → IsMappedTo step ts i us → slice_get ts i ≡ Some t → step (i, t) u → IsMappedTo step ts (i + 1) (us ++ u ∷ [])
IsMappedTo-more {step = R} {ts = ts} {i = i} {us = us} t u so_far at next = record {
  len = omega (arith, length_push us u, so_far.len);
  mapped = record { each = rw (enumerate_from-more ts i t at) (all_zipped_more R (enumerate_from 0 (take i ts)) us (i, t) u so_far.mapped.each next) };
}

pub MappedBy-all : {A U : Type 0} {step : ℕ × A → U → Type 0} {ts : List A} {i : ℕ} {us : List U} → IsMappedTo step ts i us → length ts ≤ i → MappedBy step ts us
MappedBy-all {ts = ts} {i = i} so_far past = rw (take_all i ts past) at so_far.mapped

pub FoldedBy-more : {A B : Type 0} {step : B → ℕ × A → B → Type 0} {start acc : B} (ts : List A) (i : ℕ) (t : A) (next : B)
    → FoldedBy step start (take i ts) acc → slice_get ts i ≡ Some t → step acc (i, t) next → FoldedBy step start (take (i + 1) ts) next
FoldedBy-more {step = R} {start = start} {acc = acc} ts i t next so_far at leads =
    record { chain = rw (enumerate_from-more ts i t at) (FoldsTo-push R start (enumerate_from 0 (take i ts)) acc (i, t) next so_far.chain leads) }

pub FoldedBy-all : {A B : Type 0} {step : B → ℕ × A → B → Type 0} {start : B} {ts : List A} {acc : B} (i : ℕ)
    → FoldedBy step start (take i ts) acc → length ts ≤ i → FoldedBy step start ts acc
FoldedBy-all {ts = ts} i so_far past = rw (take_all i ts past) at so_far
