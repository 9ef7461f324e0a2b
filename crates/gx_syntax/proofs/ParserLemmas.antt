-- What the tokens of a text mean, by what the parser knows of the first n of them, which are within the limit.
use Rattle.std.specs.Result.{IsErrAnd}
use Rattle.std.proofs.Common.{◌≡◌, ℕ, ◌+◌, ◌<◌, ◌≤◌, IfSome, Option, None, Some, Result, Ok, Err, List, [], ◌∷◌, length, take, drop, get_or, map, refl, sym, ◌∙◌, ap, subst, arith}
use Rattle.std.proofs.lemmas.List.{append-nil, drop-map, drop_more, take-map}
use Rattle.gx_syntax_tokens.specs.SpacedText.{terminals}
use Rattle.gx_syntax_tokens.specs.TokenTexts.{token_stream_of, placed_of, terminal_of}
use Rattle.gx_syntax_tokens.specs.Terminals.{Terminal, TokenStream}
use Rattle.gx_syntax_tokens.specs.declared.token_value.LexEnd.{LexEnd}
use Rattle.gx_syntax_tokens.specs.declared.token_value.PlacedToken.{PlacedToken}
use Rattle.gx_syntax_tokens.specs.declared.syntax_kind.SyntaxKind.TheVariants.{Unexpected}
use Rattle.gx_syntax_exprs.specs.Parses.{terminals_of, length-terminals_of}
use Rattle.gx_syntax_tree.specs.declared.script.Script.{Script}
use Rattle.gx_syntax_tree.specs.declared.stmt.Stmt.{Stmt}
use Rattle.gx_syntax_stmts.specs.Forms.{SpellsScript}
use Rattle.gx_syntax_stmts.specs.Limits.{IsWithinLimit}
use Rattle.gx_syntax_stmts.specs.Refusals.{IsRefusedAt}
use Rattle.gx_syntax.specs.EndAfter.{EndsAfter}
use Rattle.gx_syntax.specs.Meanings.{HasOneMeaning, meaning_of_result, meaning_of_tokens}
use Rattle.gx_syntax.specs.Texts.{IsMeaning, IsRefusedText, Meaning, SpellsWholly}
use Rattle.gx_syntax.specs.declared.syntax_stop.SyntaxStop.{SyntaxStop}
use Rattle.gx_syntax.proofs.TextLemmas.{viable_all, refused_after, refused_end, refused_token, spells_all}

-- the parser's tokens are those of the text
same_terminals : (tokens : List PlacedToken) (e : LexEnd) → terminals (token_stream_of tokens e) ≡ terminals_of tokens
same_terminals [] e = refl
same_terminals (t ∷ tokens) e = ap (λ ts. terminal_of t.value ∷ ts) (same_terminals tokens e)

next_placed : (tokens : List PlacedToken) (n : ℕ) (d : PlacedToken) → n < length tokens → drop n (map placed_of tokens) ≡ placed_of (get_or tokens n d) ∷ map placed_of (drop (n + 1) tokens)
next_placed tokens n d h = drop-map placed_of n tokens ∙ ap (map placed_of) (drop_more tokens n d h)

pub next_token : (tokens : List PlacedToken) (n : ℕ) (d : PlacedToken) → n < length tokens → (t : Terminal) × (rest : List (ℕ × Terminal)) × (drop n (map placed_of tokens) ≡ ((get_or tokens n d).start, t) ∷ rest)
next_token tokens n d h = (terminal_of (get_or tokens n d).value, map placed_of (drop (n + 1) tokens), next_placed tokens n d h)

-- a result that passes a refusal on
pub passed_on : (l : TokenStream) (stop : SyntaxStop) (result : Result Script SyntaxStop) → IsErrAnd result (λ other. other ≡ stop) → IfSome (meaning_of_result (Err stop)) (IsMeaning l) → IfSome (meaning_of_result result) (IsMeaning l)
passed_on l stop (Ok s) e h = absurd e
passed_on l stop (Err other) e h = subst (λ passed. IfSome (meaning_of_result (Err passed)) (IsMeaning l)) (sym e) h

-- the first n tokens are within the limit
module _ (tokens : List PlacedToken) (e : LexEnd) (n : ℕ) (k : IsWithinLimit (terminals_of tokens) n) where
  within_limit : IsWithinLimit (terminals (token_stream_of tokens e)) n
  within_limit = subst (λ ts. IsWithinLimit ts n) (sym (same_terminals tokens e)) k

  first_terminals : terminals_of (take n tokens) ≡ take n (terminals (token_stream_of tokens e))
  first_terminals = sym (take-map (λ (p : PlacedToken). terminal_of p.value) n tokens) ∙ ap (take n) (sym (same_terminals tokens e))

  -- if they spell a script
  pub parsed_to_end : (offset : ℕ) (s : List Stmt) → SpellsScript (terminals_of (take n tokens)) s → EndsAfter (token_stream_of tokens e) n (Ok offset) → SpellsWholly (token_stream_of tokens e) s
  parsed_to_end offset s d b = spells_all (token_stream_of tokens e) n offset s within_limit (subst (λ ts. SpellsScript ts s) first_terminals d) b

  pub parsed_to_stop : (stop : SyntaxStop) (s : List Stmt) → SpellsScript (terminals_of (take n tokens)) s → EndsAfter (token_stream_of tokens e) n (Err stop) → IfSome (meaning_of_result (Err stop)) (IsMeaning (token_stream_of tokens e))
  parsed_to_stop stop s d b = refused_after (token_stream_of tokens e) n within_limit (record { rest = []; value = s; spells = rw append-nil (subst (λ ts. SpellsScript ts s) first_terminals d) }) stop b

  -- and if they are refused
  module _ (at : ℕ) (a : IsRefusedAt (terminals_of (take n tokens)) at) where
    refused_first : IsRefusedAt (take n (terminals (token_stream_of tokens e))) at
    refused_first = subst (λ ts. IsRefusedAt ts at) first_terminals a

    pub refused_at_end : (offset : ℕ) → n ≤ at → EndsAfter (token_stream_of tokens e) n (Ok offset) → IsRefusedText (token_stream_of tokens e) offset Unexpected
    refused_at_end offset past b = refused_end (token_stream_of tokens e) n at offset within_limit refused_first past b

    pub refused_at_stop : (stop : SyntaxStop) → n ≤ at → EndsAfter (token_stream_of tokens e) n (Err stop) → IfSome (meaning_of_result (Err stop)) (IsMeaning (token_stream_of tokens e))
    refused_at_stop stop past b = refused_after (token_stream_of tokens e) n within_limit (viable_all (terminals (token_stream_of tokens e)) n at refused_first past) stop b

    pub refused_at_token : (d : PlacedToken) → at < n → IsRefusedText (token_stream_of tokens e) (get_or tokens at d).start Unexpected
    refused_at_token d h = refused_token (token_stream_of tokens e) n at (get_or tokens at d).start (terminal_of (get_or tokens at d).value) (map placed_of (drop (at + 1) tokens)) within_limit refused_first h (next_placed tokens at d (omega (arith, k.within, length-terminals_of tokens)))

-- a meaning that a text has is the one that is computed for it
pub claimed : HasOneMeaning → (l : TokenStream) (claim : Option Meaning) → IfSome claim (IsMeaning l) → IfSome claim (λ m. m ≡ meaning_of_tokens l)
claimed one l None h = tt
claimed one l (Some m) h = (one l m).0 h
