-- Tokens are within the limit if those of each statement are.
use Rattle.std.proofs.Common.{◌≡◌, ℕ, suc, ◌≤◌, ◌<◌, ◌+◌, true, false, List, [], ◌∷◌, ◌++◌, length, refl, sym, ap, subst, arith}
use Rattle.gx_syntax_tokens.specs.Terminals.{Terminal, symbol, is_symbol}
use Rattle.gx_syntax_tokens.specs.declared.symbol.Symbol.TheVariants as symbols
use Rattle.gx_syntax_stmts.specs.Limits.{most_tokens, counted, open_len, IsShort}
use Rattle.gx_syntax_show.proofs.Replacing.{HasNoSemicolon}

-- no token exceeds the limit, if n tokens of its statement precede these
abbrev IsShortAfter : ℕ → List Terminal → Type 0
IsShortAfter n ts = (front : List Terminal) (t : Terminal) (rest : List Terminal) → ts ≡ front ++ t ∷ rest → is_symbol symbols.Semicolon t ≡ false → most_tokens ≤ open_len n front → ⊥

short_after : (ts : List Terminal) → IsShort ts → IsShortAfter 0 ts
short_after ts short front t rest e counts many = short front t rest e (record { counts = counts; many = many })

after_short : (ts : List Terminal) → IsShortAfter 0 ts → IsShort ts
after_short ts short front t rest e c = short front t rest e c.counts c.many

-- without the first token
short_next : (n : ℕ) (t : Terminal) (ts : List Terminal) → IsShortAfter n (t ∷ ts) → IsShortAfter (counted (is_symbol symbols.Semicolon t) n) ts
short_next n t ts short front u rest e = short (t ∷ front) u rest (ap (λ l. t ∷ l) e)

short_here : (n : ℕ) (t : Terminal) (ts : List Terminal) → IsShortAfter n (t ∷ ts) → is_symbol symbols.Semicolon t ≡ false → n < most_tokens
short_here n t ts short counts = grind (arith, short [] t ts refl counts)

short_more : (n : ℕ) (t : Terminal) (ts : List Terminal) → (is_symbol symbols.Semicolon t ≡ false → n < most_tokens) → IsShortAfter (counted (is_symbol symbols.Semicolon t) n) ts → IsShortAfter n (t ∷ ts)
short_more n t ts here next [] u rest e counts many =
    let same : u ≡ t = cc in
    let few : n < most_tokens = here (rw same at counts) in
    absurd (omega (arith, few, many))
short_more n t ts here next (v ∷ front) u rest e counts many =
    let same : v ≡ t = cc in
    let others : ts ≡ front ++ u ∷ rest = cc in
    next front u rest others counts (rw same at many)

abbrev WithRest : List Terminal → List Terminal → List Terminal
WithRest front rest = front ++ symbol symbols.Semicolon ∷ rest

split_after : (n : ℕ) (front rest : List Terminal) → HasNoSemicolon front → n ≤ most_tokens → IsShortAfter n (WithRest front rest) → (n + length front ≤ most_tokens) × IsShortAfter 0 rest
split_after n [] rest none low short = (omega arith, short_next n (symbol symbols.Semicolon) rest short)
split_after n (t ∷ front) rest none low short =
    let next : IsShortAfter (suc n) (WithRest front rest) = subst (λ b. IsShortAfter (counted b n) (WithRest front rest)) none.0 (short_next n t (WithRest front rest) short) in
    let both = split_after (suc n) front rest none.1 (short_here n t (WithRest front rest) short none.0) next in
    (omega (arith, both.0), both.1)

join_after : (n : ℕ) (front rest : List Terminal) → HasNoSemicolon front → n + length front ≤ most_tokens → IsShortAfter 0 rest → IsShortAfter n (WithRest front rest)
join_after n [] rest none few short = short_more n (symbol symbols.Semicolon) rest (λ e. absurd (let lie : true ≡ false = e in cc)) short
join_after n (t ∷ front) rest none few short =
    let next : IsShortAfter (suc n) (WithRest front rest) = join_after (suc n) front rest none.1 (omega (arith, few)) short in
    short_more n t (WithRest front rest) (λ e. omega (arith, few)) (subst (λ b. IsShortAfter (counted b n) (WithRest front rest)) (sym none.0) next)

-- the tokens before a `;` are within the limit, and so are those after it
pub short_split : (front rest : List Terminal) → HasNoSemicolon front → IsShort (front ++ symbol symbols.Semicolon ∷ rest) → (length front ≤ most_tokens) × IsShort rest
short_split front rest none short =
    let both = split_after 0 front rest none (omega arith) (short_after (WithRest front rest) short) in
    (omega (arith, both.0), after_short rest both.1)

-- and conversely
pub short_join : (front rest : List Terminal) → HasNoSemicolon front → length front ≤ most_tokens → IsShort rest → IsShort (front ++ symbol symbols.Semicolon ∷ rest)
short_join front rest none few short = after_short (WithRest front rest) (join_after 0 front rest none (omega (arith, few)) (short_after rest short))
