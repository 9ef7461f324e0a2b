-- How many tokens a statement may have, not counting its `;`.
use Rattle.std.specs.Prelude.{◌≡◌, ℕ, suc, ◌≤◌, Bool, true, false, List, [], ◌∷◌, ◌++◌, length, take, drop}
use Rattle.gx_syntax_tokens.specs.Terminals.{Terminal, is_symbol}
use Rattle.gx_syntax_tokens.specs.declared.symbol.Symbol.TheVariants as symbols

-- the most tokens of a statement
abbrev pub most_tokens : ℕ
most_tokens = 2048

-- the number of tokens of a statement after n and one more: a `;` begins the next statement
abbrev pub counted : Bool → ℕ → ℕ
counted true n = 0
counted false n = suc n

-- the number of tokens of the last statement, n of which precede these
abbrev pub open_len : ℕ → List Terminal → ℕ
open_len n [] = n
open_len n (t ∷ ts) = open_len (counted (is_symbol symbols.Semicolon t) n) ts

-- after these tokens, this one is one too many for its statement
pub record IsOneTooMany (consumed : List Terminal) (t : Terminal) : Type 0 where
  pub counts : is_symbol symbols.Semicolon t ≡ false
  pub many : most_tokens ≤ open_len 0 consumed

-- no token is one too many
abbrev pub IsShort : List Terminal → Type 0
IsShort ts = (consumed : List Terminal) (t : Terminal) (rest : List Terminal)
    → ts ≡ consumed ++ t ∷ rest → ¬ IsOneTooMany consumed t

-- the first token of the rest is one too many, if there is a rest
abbrev pub Overflows : List Terminal → List Terminal → Type 0
Overflows consumed [] = Unit {0}
Overflows consumed (t ∷ rest) = IsOneTooMany consumed t

-- the first n tokens are those before the first that is one too many
pub record IsWithinLimit (ts : List Terminal) (n : ℕ) : Type 0 where
  pub within : n ≤ length ts
  pub short : IsShort (take n ts)
  pub overflows : Overflows (take n ts) (drop n ts)
