-- What the test of a word says; the test of a symbol is in specs/Terminals.antt of gx_syntax_tokens.
use Rattle.std.specs.Prelude.{◌≡◌, ℕ, true, List, refl}
use Rattle.std.proofs.lemmas.Slice.Eq.{bytes_eq-Decides}
use Rattle.gx_syntax_tokens.specs.Terminals.{Terminal, word, number, quoted, symbol}
use Rattle.gx_syntax_exprs.specs.TokenParsers.{is_word}

-- a token that passes the test is the word
pub is_word-true : (w : List ℕ) (t : Terminal) → is_word w t ≡ true → t ≡ word w
is_word-true w (word v) e = let same : v ≡ w = (bytes_eq-Decides v w).0 e in rw same refl
is_word-true w (number n) e = cc
is_word-true w (quoted s) e = cc
is_word-true w (symbol s) e = cc

-- and the word passes it
pub is_word-refl : (w : List ℕ) → is_word w (word w) ≡ true
is_word-refl w = (bytes_eq-Decides w w).1 refl
