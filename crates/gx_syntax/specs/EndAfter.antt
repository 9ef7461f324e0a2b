-- What follows the first tokens of a text.
use Rattle.std.specs.Prelude.{◌≡◌, ℕ, Result, Ok, Err, List, [], ◌∷◌, drop}
use Rattle.gx_syntax_tokens.specs.Terminals.{Terminal, eof, lex_error, TokenStream}
use Rattle.gx_syntax.specs.declared.syntax_stop.SyntaxStop.{SyntaxStop}
use Rattle.gx_syntax.specs.declared.syntax_stop.SyntaxStop.TheVariants.{At, Long, NoMemory}

-- after the first n tokens: the end of the text; or no token, for a reason; or the next token
abbrev pub EndsAfter : TokenStream → ℕ → Result ℕ SyntaxStop → Type 0
EndsAfter l n (Ok offset) = (drop n l.tokens ≡ []) × (l.ending ≡ eof offset)
EndsAfter l n (Err (At offset kind)) = (drop n l.tokens ≡ []) × (l.ending ≡ lex_error offset kind)
EndsAfter l n (Err (Long offset)) =
    (t : Terminal) × (rest : List (ℕ × Terminal)) × (drop n l.tokens ≡ (offset, t) ∷ rest)
EndsAfter l n (Err NoMemory) = ⊥
