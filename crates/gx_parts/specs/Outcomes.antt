-- What holds of mapped parts, and of the last value of a fold, if it holds after each call.
use Rattle.std.specs.Prelude.{◌≡◌, ℕ, ◌+◌, List, [], ◌∷◌, length}
use Rattle.std.specs.List.{AllZip, FoldsTo, enumerate_from}
use Rattle.std.proofs.Common.{suc, arith, zero-add}
use Rattle.gx_parts.specs.Calls.{FoldedBy, MappedBy}

-- pairs in one relation are in each relation that follows from it
AllZip-weaken : {A U : Type 0} {R : A → U → Type 0} (Q : A → U → Type 0) (xs : List A) (us : List U)
    → ((x : A) (u : U) → R x u → Q x u) → AllZip R xs us → AllZip Q xs us
AllZip-weaken Q [] [] follows all = tt
AllZip-weaken Q [] (u ∷ us) follows all = absurd all
AllZip-weaken Q (x ∷ xs) [] follows all = absurd all
AllZip-weaken Q (x ∷ xs) (u ∷ us) follows all = (follows x u all.0, AllZip-weaken Q xs us follows all.1)

-- what follows from each step holds of each part and the new part of the same number
pub MappedBy-weaken : {A U : Type 0} {step : ℕ × A → U → Type 0} {ts : List A} {us : List U} (Q : ℕ × A → U → Type 0)
    → MappedBy step ts us → ((at : ℕ × A) (u : U) → step at u → Q at u) → AllZip Q (enumerate_from 0 ts) us
MappedBy-weaken {ts = ts} {us = us} Q mapped follows = AllZip-weaken Q (enumerate_from 0 ts) us follows mapped.each

-- an invariant over the numbers of the parts, from number n on
FoldsTo-invariant : {A B : Type 0} (step : B → ℕ × A → B → Type 0) (inv : ℕ → B → Type 0) (n : ℕ) (ts : List A) (start last : B)
    → inv n start → FoldsTo step start (enumerate_from n ts) last
    → ((i : ℕ) (t : A) (before after : B) → inv i before → step before (i, t) after → inv (i + 1) after) → inv (n + length ts) last
FoldsTo-invariant step inv n [] start last first chain kept = let same : n + 0 ≡ n = omega arith in rw (same, ← chain) first
FoldsTo-invariant step inv n (t ∷ ts) start last first chain kept =
    let same : n + suc (length ts) ≡ n + 1 + length ts = omega arith in
    rw same (FoldsTo-invariant step inv (n + 1) ts chain.0 last (kept n t start chain.0 first chain.1) chain.2 kept)

-- what holds of the start, and after each call if it held before it, holds of the last value
pub FoldedBy-invariant : {A B : Type 0} {step : B → ℕ × A → B → Type 0} {start last : B} {ts : List A} (inv : ℕ → B → Type 0)
    → FoldedBy step start ts last → inv 0 start
    → ((i : ℕ) (t : A) (before after : B) → inv i before → step before (i, t) after → inv (i + 1) after) → inv (length ts) last
FoldedBy-invariant {step = step} {start = start} {last = last} {ts = ts} inv folded first kept =
    rw zero-add at (FoldsTo-invariant step inv 0 ts start last first folded.chain kept)
