-- A script that is lexed token by token: the view of `Tokens`, and what each of its calls returns.
use Rattle.std.specs.Prelude.{◌≡◌, ℕ, ◌+◌, ◌≤◌, ◌<◌, List, length, drop, take, Option, None, Some, Result, Ok, Err}
use Rattle.gx_syntax_tokens.specs.Lexing.{with_first, empty_stream}
use Rattle.gx_syntax_tokens.specs.Terminals.{TokenStream, Terminal, eof, lex_error}
use Rattle.gx_syntax_tokens.specs.TokenTexts.{Means}
use Rattle.gx_syntax_tokens.specs.declared.syntax_kind.SyntaxKind.{SyntaxKind}
use Rattle.gx_syntax_tokens.specs.declared.token.Token.{Token}

-- the script, how many of its bytes are consumed, and the tokens of the rest
pub record LexerState : Type 0 where
  pub script : List ℕ
  pub consumed : ℕ
  pub rest : TokenStream

-- the first token of the rest
pub record IsNextToken (old new : LexerState) (token : Token) : Type 0 where
  -- it is the first terminal of the old rest, and the others are the new rest
  pub first : (t : Terminal) × Means token.kind token.text.now t × (old.rest ≡ with_first (token.start, t) new.rest)
  -- its text is the slice of the script at its start, of one byte or more
  pub slice : token.text.now ≡ take (length token.text.now) (drop token.start old.script)
  pub nonempty : 0 < length token.text.now
  -- it starts after the bytes consumed so far, and its end is consumed
  pub in_order : old.consumed ≤ token.start
  pub end_consumed : new.consumed ≡ token.start + length token.text.now
  pub within : new.consumed ≤ length old.script
  pub script_kept : new.script ≡ old.script

-- the result of a call: the next token; or None if the rest is empty and the script ends; or the
-- refused offset if the rest is empty and ends there. Only a token changes the state.
abbrev pub ReturnsNextToken : LexerState → LexerState → Result (Option Token) (ℕ × SyntaxKind)
    → Type 0
ReturnsNextToken old new (Ok (Some token)) = IsNextToken old new token
ReturnsNextToken old new (Ok None) =
    (old.rest ≡ empty_stream (eof (length old.script))) × (new ≡ old)
ReturnsNextToken old new (Err refused) =
    (old.rest ≡ empty_stream (lex_error refused.0 refused.1)) × (refused.0 < length old.script)
    × (new ≡ old)
