-- Lines of tokens, written piece by piece.
use Rattle.std.specs.Prelude.{◌≡◌, ℕ, ◌||◌, if◌then◌else◌, List, [], ◌∷◌, ◌++◌, codes, refl}
use Rattle.std.proofs.Common.{ap, sym, ◌∙◌, append_assoc}
use Rattle.std.proofs.lemmas.List.{append-nil}
use Rattle.gx_syntax_tokens.specs.SpacedText.{Piece, token, sign, function, terminal, token_text, attaches_left, spaced_text}
use Rattle.gx_syntax_tokens.specs.Terminals.{Terminal, word, symbol, is_symbol}
use Rattle.gx_syntax_tokens.specs.declared.symbol.Symbol.TheVariants as symbols
use Rattle.gx_syntax_tokens.specs.declared.writer.Spacing.{Spacing}
use Rattle.gx_syntax_tokens.specs.declared.writer.Spacing.TheVariants as spacings

-- the text written so far, and how the next token joins the last one
pub record WriterState : Type 0 where
  pub text : List ℕ
  pub last : Spacing

-- a text that begins with another one
pub record BeginsWith (start text : List ℕ) : Type 0 where
  pub added : List ℕ
  pub appended : text ≡ start ++ added

-- the new text begins with the old one, and so with each text that the old one begins with: in this
-- form a function that calls writers in order extends its text without a proof
abbrev pub Extends : List ℕ → List ℕ → Type 0
Extends old new = (start : List ℕ) → BeginsWith start old → BeginsWith start new

pub extends-begins : (old new : List ℕ) → Extends old new → BeginsWith old new
extends-begins old new extends = extends old (record { added = []; appended = sym (append-nil old) })

-- for `using`, at a function that appends to a text itself
pub begins_equal : (start old new : List ℕ) → new ≡ old → BeginsWith start old → BeginsWith start new
begins_equal start old new same begins = record { added = begins.added; appended = same ∙ begins.appended }

pub begins_append : (start old new added : List ℕ) → new ≡ old ++ added → BeginsWith start old
    → BeginsWith start new
begins_append start old new added same begins = record {
  added = begins.added ++ added;
  appended = same ∙ ap (λ l. l ++ added) begins.appended ∙ append_assoc start begins.added added;
}

-- how the next token joins a piece
abbrev pub spacing_after : Piece → Spacing
spacing_after (token (symbol symbols.OpenParen)) = spacings.Tight
spacing_after (token (symbol symbols.Dot)) = spacings.Tight
spacing_after (token _) = spacings.Spaced
spacing_after sign = spacings.Tight
spacing_after (function name) = spacings.BeforeCall

-- the space before a token
abbrev pub separator : Spacing → Terminal → List ℕ
separator spacings.LineStart u = []
separator spacings.Tight u = []
separator spacings.BeforeCall u = if attaches_left u || is_symbol symbols.OpenParen u then [] else 32 ∷ []
separator spacings.Spaced u = if attaches_left u then [] else 32 ∷ []

-- the state after one more piece
abbrev pub with_piece : WriterState → Piece → WriterState
with_piece w p = record {
  text = w.text ++ (separator w.last (terminal p) ++ token_text (terminal p));
  last = spacing_after p;
}

-- and after more of them
abbrev pub with_pieces : WriterState → List Piece → WriterState
with_pieces w [] = w
with_pieces w (p ∷ ps) = with_pieces (with_piece w p) ps

-- the state after the end of the line
abbrev pub with_line_end : WriterState → WriterState
with_line_end w = record { text = w.text ++ 10 ∷ []; last = spacings.LineStart }

-- pieces that are written at the start of a line give their spaced text
abbrev pub WritesSpacedText : Type 0
WritesSpacedText = (text : List ℕ) (ps : List Piece)
    → (with_pieces (record { text = text; last = spacings.LineStart }) ps).text
    ≡ text ++ spaced_text ps

-- a call, a sign and a column
written-call : with_pieces (record { text = codes "x "; last = spacings.LineStart })
    (function (codes "f") ∷ token (symbol symbols.OpenParen) ∷ sign ∷ token (word (codes "v"))
    ∷ token (symbol symbols.Dot) ∷ token (word (codes "y")) ∷ token (symbol symbols.CloseParen)
    ∷ token (word (codes "z")) ∷ [])
    ≡ record { text = codes "x f(-v.y) z"; last = spacings.Spaced }
written-call = refl
