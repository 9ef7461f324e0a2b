-- Tokens none of which is one too many, where n tokens of the first statement come before them.
use Rattle.std.proofs.Common.{◌≡◌, ℕ, suc, ◌+◌, ◌<◌, ◌≤◌, Bool, true, false, if◌then◌else◌, List, [], ◌∷◌, ◌++◌, length, take, drop, map, refl, ap, subst, arith}
use Rattle.std.proofs.lemmas.Bool.{leb-true}
use Rattle.gx_syntax_tokens.specs.SpacedText.{Piece, token, terminal}
use Rattle.gx_syntax_tokens.specs.Terminals.{Terminal, symbol}
use Rattle.gx_syntax_tokens.specs.declared.symbol.Symbol.TheVariants as symbols
use Rattle.gx_syntax_stmts.specs.Limits.{most_tokens, counted, open_len, IsShort, IsWithinLimit, Overflows}
use Rattle.gx_syntax.specs.Meanings.{is_semicolon, is_excess, allowed_len}
use Rattle.gx_syntax.proofs.ShownBounds.{HasNoSemicolon}

abbrev pub IsShortAfter : ℕ → List Terminal → Type 0
IsShortAfter n ts = (front : List Terminal) (t : Terminal) (rest : List Terminal) → ts ≡ front ++ t ∷ rest → is_semicolon t ≡ false → most_tokens ≤ open_len n front → ⊥

pub short_after : (ts : List Terminal) → IsShort ts → IsShortAfter 0 ts
short_after ts short front t rest e counts many = short front t rest e (record { counts = counts; many = many })

after_short : (ts : List Terminal) → IsShortAfter 0 ts → IsShort ts
after_short ts short front t rest e m = short front t rest e m.counts m.many

short_tail : (n : ℕ) (t : Terminal) (ts : List Terminal) → IsShortAfter n (t ∷ ts) → IsShortAfter (counted (is_semicolon t) n) ts
short_tail n t ts short front u rest e = short (t ∷ front) u rest (ap (λ l. t ∷ l) e)

short_head : (n : ℕ) (t : Terminal) (ts : List Terminal) → IsShortAfter n (t ∷ ts) → is_semicolon t ≡ false → n < most_tokens
short_head n t ts short counts = grind (arith, short [] t ts refl counts)

short_nil : (n : ℕ) → IsShortAfter n []
short_nil n [] t rest e = cc
short_nil n (u ∷ front) t rest e = cc

short_cons : (n : ℕ) (t : Terminal) (ts : List Terminal) → (is_semicolon t ≡ false → n < most_tokens) → IsShortAfter (counted (is_semicolon t) n) ts → IsShortAfter n (t ∷ ts)
short_cons n t ts here next [] u rest e counts many =
    let same : u ≡ t = cc in
    let few : n < most_tokens = here (rw same at counts) in
    absurd (omega (arith, few, many))
short_cons n t ts here next (v ∷ front) u rest e counts many =
    let same : v ≡ t = cc in
    let others : ts ≡ front ++ u ∷ rest = cc in
    next front u rest others counts (rw same at many)

-- the tokens of a statement before its `;`, and those after it
pub short_split : (n : ℕ) (ps : List Piece) (rest : List Terminal) → HasNoSemicolon ps → n ≤ most_tokens
    → IsShortAfter n (map terminal (ps ++ token (symbol symbols.Semicolon) ∷ []) ++ rest) → (n + length ps ≤ most_tokens) × IsShortAfter 0 rest
short_split n [] rest none low short = (omega arith, short_tail n (symbol symbols.Semicolon) rest short)
short_split n (p ∷ ps) rest none low short =
    let after : List Terminal = map terminal (ps ++ token (symbol symbols.Semicolon) ∷ []) ++ rest in
    let next : IsShortAfter (suc n) after = subst (λ b. IsShortAfter (counted b n) after) none.0 (short_tail n (terminal p) after short) in
    let both = short_split (suc n) ps rest none.1 (short_head n (terminal p) after short none.0) next in
    (omega (arith, both.0), both.1)

-- the allowed tokens

allowed_len-le : (n : ℕ) (ts : List Terminal) → allowed_len n ts ≤ length ts
allowed_len-le n [] = omega arith
allowed_len-le n (t ∷ ts) = go (is_excess (is_semicolon t) n) (allowed_len-le (counted (is_semicolon t) n) ts)
  where
    go : (b : Bool) {k : ℕ} → k ≤ length ts → (if b then 0 else suc k) ≤ suc (length ts)
    go true h = omega arith
    go false h = omega arith

within_excess : (b : Bool) (n : ℕ) → is_excess b n ≡ false → b ≡ false → n < most_tokens
within_excess true n e is = cc
within_excess false n e is = grind (arith, e)

allowed_short : (n : ℕ) (ts : List Terminal) → IsShortAfter n (take (allowed_len n ts) ts)
allowed_short n [] = short_nil n
allowed_short n (t ∷ ts) = go (is_excess (is_semicolon t) n) refl (allowed_short (counted (is_semicolon t) n) ts)
  where
    go : (b : Bool) → is_excess (is_semicolon t) n ≡ b → IsShortAfter (counted (is_semicolon t) n) (take (allowed_len (counted (is_semicolon t) n) ts) ts)
        → IsShortAfter n (take (if b then 0 else suc (allowed_len (counted (is_semicolon t) n) ts)) (t ∷ ts))
    go true e short = short_nil n
    go false e short = short_cons n t (take (allowed_len (counted (is_semicolon t) n) ts) ts) (within_excess (is_semicolon t) n e) short

-- the first token of the rest, if there is one, is one too many
abbrev OverflowsAfter : ℕ → List Terminal → List Terminal → Type 0
OverflowsAfter n front [] = Unit {0}
OverflowsAfter n front (t ∷ rest) = (is_semicolon t ≡ false) × (most_tokens ≤ open_len n front)

excess_is : (b : Bool) (n : ℕ) → is_excess b n ≡ true → (b ≡ false) × (most_tokens ≤ n)
excess_is true n e = absurd (let lie : false ≡ true = e in cc)
excess_is false n e = (refl, leb-true most_tokens n e)

overflows_cons : (n : ℕ) (t : Terminal) (front rest : List Terminal) → OverflowsAfter (counted (is_semicolon t) n) front rest → OverflowsAfter n (t ∷ front) rest
overflows_cons n t front [] h = tt
overflows_cons n t front (u ∷ rest) h = h

allowed_overflows : (n : ℕ) (ts : List Terminal) → OverflowsAfter n (take (allowed_len n ts) ts) (drop (allowed_len n ts) ts)
allowed_overflows n [] = tt
allowed_overflows n (t ∷ ts) = go (is_excess (is_semicolon t) n) refl (allowed_overflows (counted (is_semicolon t) n) ts)
  where
    go : (b : Bool) → is_excess (is_semicolon t) n ≡ b
        → OverflowsAfter (counted (is_semicolon t) n) (take (allowed_len (counted (is_semicolon t) n) ts) ts) (drop (allowed_len (counted (is_semicolon t) n) ts) ts)
        → (let k : ℕ = if b then 0 else suc (allowed_len (counted (is_semicolon t) n) ts) in OverflowsAfter n (take k (t ∷ ts)) (drop k (t ∷ ts)))
    go true e h = excess_is (is_semicolon t) n e
    go false e h = overflows_cons n t (take (allowed_len (counted (is_semicolon t) n) ts) ts) (drop (allowed_len (counted (is_semicolon t) n) ts) ts) h

overflows_of : (front rest : List Terminal) → OverflowsAfter 0 front rest → Overflows front rest
overflows_of front [] h = tt
overflows_of front (t ∷ rest) h = record { counts = h.0; many = h.1 }

pub allowed : (ts : List Terminal) → IsWithinLimit ts (allowed_len 0 ts)
allowed ts = record {
  within = allowed_len-le 0 ts;
  short = after_short (take (allowed_len 0 ts) ts) (allowed_short 0 ts);
  overflows = overflows_of (take (allowed_len 0 ts) ts) (drop (allowed_len 0 ts) ts) (allowed_overflows 0 ts);
}
