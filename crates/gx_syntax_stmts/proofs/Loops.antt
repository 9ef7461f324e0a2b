-- The loop of `many`: the items so far, and then what the rest gives.
use Rattle.std.proofs.Common.{◌≡◌, ℕ, suc, Bool, true, false, Result, Ok, Err, List, [], ◌∷◌, ◌++◌, length, refl, sym, ◌∙◌, append_assoc}
use Rattle.std.proofs.lemmas.List.{append-nil}
use Rattle.gx_syntax_tokens.specs.Terminals.{Terminal}
use Rattle.gx_syntax_exprs.specs.Combinators.{◌>>=◌, many, many_while, map_value}
use Rattle.gx_syntax_exprs.specs.Parses.{Parses}
use Rattle.gx_syntax_exprs.specs.TokenParsers.{is_next}
use Rattle.gx_syntax_exprs.specs.declared.parse_stop.ParseStop.{ParseStop}
use Rattle.gx_syntax_exprs.specs.declared.parse_stop.ParseStop.TheVariants as stops

pub appended-nothing : {A : Type 0} (r : Result (List A × List Terminal) (List Terminal)) → (r >>= λ xs rest. Ok ([] ++ xs, rest)) ≡ r
appended-nothing (Ok r) = refl
appended-nothing (Err e) = refl

module _ {A : Type 0} (starts : Terminal → Bool) (p : List Terminal → Result (A × List Terminal) (List Terminal)) where
  -- the items so far, and then at most n - 1 more
  abbrev pub appended_within : List A → ℕ → List Terminal → Result (List A × List Terminal) (List Terminal)
  appended_within items n = map_value (λ xs. items ++ xs) (many starts p n)

  pub appended-all : (items : List A) (n : ℕ) (ts : List Terminal) → n ≡ suc (length ts) → appended_within items n ts ≡ map_value (λ xs. items ++ xs) (many_while starts p) ts
  unfolding many_while
  appended-all items n ts e = rw e refl

  many-some : (m : ℕ) (ts : List Terminal) → is_next starts ts ≡ true → many starts p (suc m) ts ≡ p ts >>= λ x. map_value (λ xs. x ∷ xs) (many starts p m)
  unfolding many
  many-some m [] e = absurd (let lie : false ≡ true = e in cc)
  many-some m (t ∷ ts) e = rw e refl

  many-none : (m : ℕ) (ts : List Terminal) → is_next starts ts ≡ false → many starts p (suc m) ts ≡ Ok ([], ts)
  unfolding many
  many-none m [] e = refl
  many-none m (t ∷ ts) e = rw e refl

  appended_one : (items : List A) (x : A) (r : Result (List A × List Terminal) (List Terminal)) → ((r >>= λ xs rest. Ok (x ∷ xs, rest)) >>= λ xs rest. Ok (items ++ xs, rest)) ≡ (r >>= λ xs rest. Ok ((items ++ x ∷ []) ++ xs, rest))
  appended_one items x (Ok r) = rw append_assoc refl
  appended_one items x (Err e) = refl

  pub appended-some : (items : List A) (n m : ℕ) (ts rest : List Terminal) (x : A) → n ≡ suc m → is_next starts ts ≡ true → p ts ≡ Ok (x, rest) → appended_within (items ++ x ∷ []) m rest ≡ appended_within items n ts
  appended-some items n m ts rest x e h r = sym (rw (e, many-some m ts h, r) (appended_one items x (many starts p m rest)))

  pub appended-none : (items : List A) (n m : ℕ) (ts : List Terminal) → n ≡ suc m → is_next starts ts ≡ false → appended_within items n ts ≡ Ok (items, ts)
  appended-none items n m ts e h = rw (e, many-none m ts h, append-nil) refl

  pub appended-zero : (items : List A) (n : ℕ) (ts : List Terminal) → n ≡ 0 → appended_within items n ts ≡ Err ts
  unfolding many
  appended-zero items n ts e = rw e refl

  -- the loop stops with the refusal of an item
  pub appended-stop : (items : List A) (n m : ℕ) (ts rest : List Terminal) (stop : ParseStop) (all : Result (List A × List Terminal) (List Terminal)) → n ≡ suc m → is_next starts ts ≡ true
      → appended_within items n ts ≡ all → Parses {A = A} (Err stop) rest (p ts) → Parses {A = List A} (Err stop) rest all
  appended-stop items n m ts rest stops.Refused all e h i r = sym i ∙ rw (e, many-some m ts h, r) refl
  appended-stop items n m ts rest stops.NoMemory all e h i r = tt
