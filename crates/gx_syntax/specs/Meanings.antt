-- The one meaning that each text has, as a function that computes.
use Rattle.std.specs.Prelude.{◌≡◌, ◌↔◌, ℕ, suc, ◌-◌, nat_le, Bool, true, false, if◌then◌else◌, Option, None, Some, Result, Ok, Err, List, [], ◌∷◌, length, take, drop, codes, refl}
use Rattle.gx_syntax_tokens.specs.Lexing.{tokens_of, tokens_from, trivia_len, token_at, word_at, bom_len}
use Rattle.gx_syntax_tokens.specs.SpacedText.{terminals}
use Rattle.gx_syntax_tokens.specs.Terminals.{Terminal, Ending, eof, lex_error, TokenStream, is_symbol}
use Rattle.gx_syntax_tokens.specs.declared.symbol.Symbol.TheVariants as symbols
use Rattle.gx_syntax_tokens.specs.declared.syntax_kind.SyntaxKind.TheVariants.{NotToken, Unexpected}
use Rattle.gx_syntax_exprs.specs.Combinators.{many_while, many}
use Rattle.gx_syntax_tree.specs.declared.script.Script.{Script}
use Rattle.gx_syntax_tree.specs.declared.stmt.Stmt.{Stmt}
use Rattle.gx_syntax_tree.specs.declared.stmt.Stmt.TheVariants as stmts
use Rattle.gx_syntax_stmts.specs.Forms as forms
use Rattle.gx_syntax_stmts.specs.Forms.{statement}
use Rattle.gx_syntax_stmts.specs.Limits.{counted, most_tokens}
use Rattle.gx_syntax.specs.Texts.{IsMeaning, Meaning, script, refused, long}
use Rattle.gx_syntax.specs.declared.syntax_stop.SyntaxStop.{SyntaxStop}
use Rattle.gx_syntax.specs.declared.syntax_stop.SyntaxStop.TheVariants.{At, Long, NoMemory}

abbrev pub is_semicolon : Terminal → Bool
is_semicolon t = is_symbol symbols.Semicolon t

-- whether a token after n tokens of its statement is one too many; a `;` never is
abbrev pub is_excess : Bool → ℕ → Bool
is_excess true n = false
is_excess false n = nat_le most_tokens n

-- the number of tokens before the first that is one too many for its statement, or of all; n tokens
-- of the first statement come before them
abbrev pub allowed_len : ℕ → List Terminal → ℕ
allowed_len n [] = 0
allowed_len n (t ∷ ts) =
    if is_excess (is_semicolon t) n then 0 else suc (allowed_len (counted (is_semicolon t) n) ts)

-- the meaning of a text all of whose allowed tokens are accepted, by what follows them: at the end of
-- the text the given meaning; if no token begins there, a refusal; or else one token is too many
abbrev pub meaning_at : List (ℕ × Terminal) → Ending → (ℕ → Meaning) → Meaning
meaning_at [] (eof offset) at_end = at_end offset
meaning_at [] (lex_error offset kind) at_end = refused offset kind
meaning_at (p ∷ rest) ending at_end = long p.0

abbrev pub first_offset : List (ℕ × Terminal) → ℕ
first_offset [] = 0
first_offset (p ∷ ps) = p.0

-- the meaning of a text whose first n tokens are allowed, by what they parse to: the script that
-- they spell; or, if they only begin one, a refusal at the end; or a refusal at the first refused
-- token, with which `rest` begins
abbrev pub meaning_by : TokenStream → ℕ
    → Result (List Stmt × List Terminal) (List Terminal) → Meaning
meaning_by l n (Ok parsed) = meaning_at (drop n l.tokens) l.ending (λ offset. script parsed.0)
meaning_by l n (Err []) =
    meaning_at (drop n l.tokens) l.ending (λ offset. refused offset Unexpected)
meaning_by l n (Err (t ∷ rest)) =
    refused (first_offset (drop (n - length (t ∷ rest)) l.tokens)) Unexpected

-- the meaning of a text whose first n tokens are allowed
abbrev pub meaning_within : TokenStream → ℕ → Meaning
meaning_within l n = meaning_by l n (forms.script (take n (terminals l)))

-- the meaning of the tokens of a text
unfoldable pub meaning_of_tokens : TokenStream → Meaning
meaning_of_tokens l = meaning_within l (allowed_len 0 (terminals l))

-- the meaning of a text
abbrev pub meaning_of : List ℕ → Meaning
meaning_of text = meaning_of_tokens (tokens_of text)

-- each text has this meaning, and no other
abbrev pub HasOneMeaning : Type 0
HasOneMeaning = (l : TokenStream) (m : Meaning) → IsMeaning l m ↔ (m ≡ meaning_of_tokens l)

-- the meaning that a result claims for the text; out of memory, it claims none
abbrev pub meaning_of_result : Result Script SyntaxStop → Option Meaning
meaning_of_result (Ok s) = Some (script s.statements)
meaning_of_result (Err (At offset kind)) = Some (refused offset kind)
meaning_of_result (Err (Long offset)) = Some (long offset)
meaning_of_result (Err NoMemory) = None

-- a script; a text that ends before its `;`; and one that begins no token after `print`
meaning_of-script : meaning_of (codes "print table t;") ≡ script (stmts.PrintTable (codes "t") ∷ [])
unfolding meaning_of_tokens tokens_of tokens_from trivia_len token_at word_at bom_len forms.script statement many_while many forms.body
meaning_of-script = refl

meaning_of-end : meaning_of (codes "print table t") ≡ refused 13 Unexpected
unfolding meaning_of_tokens tokens_of tokens_from trivia_len token_at word_at bom_len forms.script statement many_while many forms.body
meaning_of-end = refl

meaning_of-no_token : meaning_of (codes "print ! t") ≡ refused 6 NotToken
unfolding meaning_of_tokens tokens_of tokens_from trivia_len token_at word_at bom_len forms.script statement many_while many forms.body
meaning_of-no_token = refl

-- the first refused token comes before what begins no token
meaning_of-token : meaning_of (codes "print t ; !") ≡ refused 6 Unexpected
unfolding meaning_of_tokens tokens_of tokens_from trivia_len token_at word_at bom_len forms.script statement many_while many forms.body
meaning_of-token = refl
