-- Pieces that are written one by one give their spaced text.
use Rattle.std.proofs.Common.{◌≡◌, ℕ, Bool, true, false, ◌||◌, if◌then◌else◌, List, [], ◌∷◌, ◌++◌, refl, sym, ◌∙◌, append_assoc}
use Rattle.std.proofs.lemmas.List.{append-nil}
use Rattle.gx_syntax_tokens.specs.SpacedText.{Piece, token, sign, function, terminal, token_text, space_between, spaced_after, attaches_left}
use Rattle.gx_syntax_tokens.specs.Terminals.{Terminal, word, number, quoted, symbol}
use Rattle.gx_syntax_tokens.specs.Writing.{spacing_after, separator, with_pieces, WritesSpacedText}
use Rattle.gx_syntax_tokens.specs.declared.symbol.Symbol.{Symbol}
use Rattle.gx_syntax_tokens.specs.declared.symbol.Symbol.TheVariants as symbols

abbrev space : Bool → List ℕ
space b = if b then [] else 32 ∷ []

tight : (b : Bool) → [] ≡ space (b || true)
tight true = refl
tight false = refl

apart : (b : Bool) → space b ≡ space (b || false)
apart true = refl
apart false = refl

separator-after_symbol : (s : Symbol) (u : Terminal) → separator (spacing_after (token (symbol s))) u ≡ space_between (token (symbol s)) u
separator-after_symbol symbols.OpenParen u = tight (attaches_left u)
separator-after_symbol symbols.Dot u = tight (attaches_left u)
separator-after_symbol _ u = apart (attaches_left u)

-- the space between two tokens
separator-after : (p : Piece) (u : Terminal) → separator (spacing_after p) u ≡ space_between p u
separator-after (token (word w)) u = apart (attaches_left u)
separator-after (token (number n)) u = apart (attaches_left u)
separator-after (token (quoted s)) u = apart (attaches_left u)
separator-after (token (symbol s)) u = separator-after_symbol s u
separator-after sign u = tight (attaches_left u)
separator-after (function name) u = refl

with_pieces-after : (text : List ℕ) (p : Piece) (ps : List Piece) → (with_pieces (record { text = text; last = spacing_after p }) ps).text ≡ text ++ spaced_after p ps
with_pieces-after text p [] = sym (append-nil text)
with_pieces-after text p (q ∷ qs) =
    with_pieces-after (text ++ (separator (spacing_after p) (terminal q) ++ token_text (terminal q))) q qs
    ∙ rw (separator-after p (terminal q)) (simp append_assoc)

pub spaces_pieces : WritesSpacedText
spaces_pieces text [] = sym (append-nil text)
spaces_pieces text (p ∷ ps) = with_pieces-after (text ++ token_text (terminal p)) p ps ∙ append_assoc text (token_text (terminal p)) (spaced_after p ps)
