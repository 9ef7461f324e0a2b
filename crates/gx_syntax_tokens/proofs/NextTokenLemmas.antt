-- Tokens that are lexed one by one.
use Rattle.std.proofs.Common.{◌≡◌, ◌+◌, ◌++◌, ℕ, List, length, map, Bor, refl, sym, ap, ◌∙◌}
use Rattle.std.proofs.lemmas.List.{append-nil}
use Rattle.gx_syntax_tokens.specs.Lexing.{tokens_at, empty_stream}
use Rattle.gx_syntax_tokens.specs.LexerState.{IsNextToken}
use Rattle.gx_syntax_tokens.specs.Scanning.{IsFirstFrom, token_kind_of}
use Rattle.gx_syntax_tokens.specs.Terminals.{TokenStream, Terminal}
use Rattle.gx_syntax_tokens.specs.TokenTexts.{ending_of, token_stream_of, placed_of, terminal_of}
use Rattle.gx_syntax_tokens.specs.declared.token_value.LexEnd.{LexEnd}
use Rattle.gx_syntax_tokens.specs.declared.token_value.PlacedToken.{PlacedToken}
use Rattle.gx_syntax_tokens.specs.declared.token.TokenKind.{TokenKind}

-- the first token from an offset on is the next one there
pub next_token : (script : List ℕ) (at : ℕ) (p : PlacedToken) (w : Bor (List ℕ)) (k : TokenKind) → k ≡ token_kind_of p.value → IsFirstFrom script at p w.now
    → IsNextToken (record { script = script; consumed = at; rest = tokens_at script at })
    (record { script = script; consumed = p.start + length w.now; rest = tokens_at script (p.start + length w.now) })
    (record { text = w; start = p.start; kind = k })
next_token script at p w k kind is = record {
  first = (terminal_of p.value, rw kind is.meaning, is.first);
  slice = is.slice;
  nonempty = is.nonempty;
  in_order = is.in_order;
  end_consumed = refl;
  within = is.within;
  script_kept = refl;
}

-- a list of tokens, and then the rest
abbrev pub with_tokens : List (ℕ × Terminal) → TokenStream → TokenStream
with_tokens front rest = record { tokens = front ++ rest.tokens; ending = rest.ending }

-- the rest is empty
pub with_tokens-done : (tokens : List PlacedToken) (end : LexEnd) (now whole : TokenStream) → now ≡ empty_stream (ending_of end) → with_tokens (map placed_of tokens) now ≡ whole → token_stream_of tokens end ≡ whole
with_tokens-done tokens end now whole is so_far =
    (λ k. record { tokens = sym (append-nil (map placed_of tokens)) k; ending = ending_of end })
    ∙ ap (with_tokens (map placed_of tokens)) (sym is) ∙ so_far
