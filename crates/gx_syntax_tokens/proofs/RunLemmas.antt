-- Texts that are written in runs: a run of bytes that mean themselves, and then another byte.
use Rattle.std.specs.Prelude.{IsCharBoundary}
use Rattle.std.specs.List.{prefix_len, take_while}
use Rattle.std.proofs.Common.{◌≡◌, ℕ, suc, ◌+◌, ◌<◌, Bool, true, false, List, [], ◌∷◌, ◌++◌, length, take, drop, get_or, refl, sym, ◌∙◌, ap, cond, append_assoc, arith}
use Rattle.std.proofs.lemmas.List.{append-nil, get_or-drop, length-drop}
use Rattle.std.proofs.lemmas.List.Sums.{prefix_len-le-length, prefix_len_stops, take_while-cons}
use Rattle.std.proofs.Math.Seq.{drop-length, take-length}

-- u keeps the bytes that pass
pub record Keeps (p : ℕ → Bool) (u : List ℕ → List ℕ) : Type 0 where
  pub none : u [] ≡ []
  pub more : (c : ℕ) (cs : List ℕ) → p c ≡ true → u (c ∷ cs) ≡ c ∷ u cs

-- a text may be split after a run, if only ASCII characters end one
pub run-boundary : (p : ℕ → Bool) → ((c : ℕ) → p c ≡ false → c < 128) → (text : List ℕ) → IsCharBoundary text (prefix_len p text)
run-boundary p ascii text =
    (prefix_len-le-length p text, λ below high. absurd (omega (arith, ascii (get_or text (prefix_len p text) 0) (prefix_len_stops p text 0 below))))

-- the byte after a run ends it
pub run-end : (p : ℕ → Bool) (text after : List ℕ) → after ≡ drop (prefix_len p text) text → 0 < length after → p (get_or after 0 0) ≡ false
run-end p text after is nonempty =
    let n = prefix_len p text in
    let below : n < length text = omega (arith, ap length is, length-drop n text) in
    let same : n + 0 ≡ n = omega arith in
    ap (λ l. p (get_or l 0 0)) is ∙ ap p (get_or-drop n text 0 0 ∙ ap (λ i. get_or text i 0) same) ∙ prefix_len_stops p text 0 below

pub run-split : (p : ℕ → Bool) (u : List ℕ → List ℕ) → Keeps p u → (text : List ℕ) → u text ≡ take_while p text ++ u (drop (prefix_len p text) text)
run-split p u k [] = refl
run-split p u k (c ∷ cs) = rw (take_while-cons p c cs) (go (p c) refl (run-split p u k cs))
  where
    go : (b : Bool) → p c ≡ b → u cs ≡ take_while p cs ++ u (drop (prefix_len p cs) cs)
        → u (c ∷ cs) ≡ cond b (c ∷ take_while p cs) [] ++ u (drop (cond b (1 + prefix_len p cs) 0) (c ∷ cs))
    go true e rest =
        let one : 1 + prefix_len p cs ≡ suc (prefix_len p cs) = omega arith in
        rw one (k.more c cs e ∙ ap (λ l. c ∷ l) rest)
    go false e rest = refl

-- a text of one run
pub run-all : (p : ℕ → Bool) (u : List ℕ → List ℕ) → Keeps p u → (text : List ℕ) → prefix_len p text ≡ length text → u text ≡ text
run-all p u k text all =
    run-split p u k text ∙ ap (λ n. take n text ++ u (drop n text)) all ∙ ap (λ l. take (length text) text ++ u l) (drop-length text)
    ∙ ap (λ l. take (length text) text ++ l) k.none ∙ append-nil (take (length text) text) ∙ take-length text

-- the end of a loop over runs
pub run-done : (p : ℕ → Bool) (u : List ℕ → List ℕ) → Keeps p u → (front rest all plain after : List ℕ) → front ++ u rest ≡ all → plain ≡ take_while p rest
    → after ≡ drop (prefix_len p rest) rest → length after ≡ 0 → front ++ plain ≡ all
run-done p u k front rest all plain [] so_far is after_is none =
    ap (λ l. front ++ l) (is ∙ sym (append-nil (take_while p rest)) ∙ ap (λ l. take_while p rest ++ l) (sym k.none) ∙ ap (λ l. take_while p rest ++ u l) after_is ∙ sym (run-split p u k rest)) ∙ so_far
run-done p u k front rest all plain (c ∷ cs) so_far is after_is none = absurd (omega arith)

-- one turn of it: a run, and what is written for the byte that ends it
pub run-more : (p : ℕ → Bool) (u : List ℕ → List ℕ) → Keeps p u → (front rest all plain after piece next : List ℕ) → front ++ u rest ≡ all → plain ≡ take_while p rest
    → after ≡ drop (prefix_len p rest) rest → u after ≡ piece ++ u next → ((front ++ plain) ++ piece) ++ u next ≡ all
run-more p u k front rest all plain after piece next so_far is after_is written =
    append_assoc (front ++ plain) piece (u next) ∙ append_assoc front plain (piece ++ u next) ∙ ap (λ l. front ++ (plain ++ l)) (sym written ∙ ap u after_is)
    ∙ ap (λ l. front ++ (l ++ u (drop (prefix_len p rest) rest))) is ∙ ap (λ l. front ++ l) (sym (run-split p u k rest)) ∙ so_far
