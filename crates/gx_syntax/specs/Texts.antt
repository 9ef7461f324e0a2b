-- Texts and the scripts that they spell; for other texts, where and why they are refused. Offsets
-- are in bytes from the start of the text. Nothing here computes: specs/Meanings.antt does.
use Rattle.std.specs.Prelude.{◌≡◌, ℕ, List, [], ◌∷◌, ◌++◌, map}
use Rattle.gx_syntax_tokens.specs.Lexing.{tokens_of}
use Rattle.gx_syntax_tokens.specs.SpacedText.{terminals}
use Rattle.gx_syntax_tokens.specs.Terminals.{Terminal, eof, lex_error, TokenStream}
use Rattle.gx_syntax_tokens.specs.declared.syntax_kind.SyntaxKind.{SyntaxKind}
use Rattle.gx_syntax_tokens.specs.declared.syntax_kind.SyntaxKind.TheVariants.{Unexpected}
use Rattle.gx_syntax_exprs.specs.Combinators.{IsViablePrefix}
use Rattle.gx_syntax_tree.specs.declared.stmt.Stmt.{Stmt}
use Rattle.gx_syntax_stmts.specs.Forms.{SpellsScript}
use Rattle.gx_syntax_stmts.specs.Limits.{IsOneTooMany, IsShort}

abbrev pub without_offsets : List (ℕ × Terminal) → List Terminal
without_offsets tokens = map (λ p. p.1) tokens

-- the tokens of a text spell a script: they go to its end, no statement has too many of them, and
-- the grammar spells the script by them
pub record SpellsWholly (l : TokenStream) (s : List Stmt) : Type 0 where
  pub offset : ℕ
  pub ends : l.ending ≡ eof offset
  pub short : IsShort (terminals l)
  pub spells : SpellsScript (terminals l) s

-- the text spells the script
abbrev pub SpellsText : List ℕ → List Stmt → Type 0
SpellsText text s = SpellsWholly (tokens_of text) s

-- the tokens of a text are the accepted ones and the rest: the accepted ones begin some script, and
-- none of them is one too many for its statement
pub record HasAccepted (l : TokenStream) (accepted rest : List (ℕ × Terminal)) : Type 0 where
  pub whole : l.tokens ≡ accepted ++ rest
  pub short : IsShort (without_offsets accepted)
  pub viable : IsViablePrefix SpellsScript (without_offsets accepted)

-- the text is refused at the offset, for this reason
pub data IsRefusedText (l : TokenStream) : ℕ → SyntaxKind → Type 0 where
  -- a token is there, not one too many, with which no script goes on
  token : {accepted rest : List (ℕ × Terminal)} {offset : ℕ} {t : Terminal}
      → HasAccepted l accepted ((offset, t) ∷ rest)
      → ¬ IsOneTooMany (without_offsets accepted) t
      → ¬ IsViablePrefix SpellsScript (without_offsets accepted ++ t ∷ [])
      → IsRefusedText l offset Unexpected
  -- the text ends there, and its tokens begin a script but spell none
  end : {offset : ℕ} → HasAccepted l l.tokens [] → l.ending ≡ eof offset
      → ((s : List Stmt) → ¬ SpellsScript (terminals l) s) → IsRefusedText l offset Unexpected
  -- no token begins there
  no_token : {offset : ℕ} {kind : SyntaxKind} → HasAccepted l l.tokens []
      → l.ending ≡ lex_error offset kind → IsRefusedText l offset kind

-- the token at the offset is one too many for its statement
pub record IsTooLongText (l : TokenStream) (offset : ℕ) : Type 0 where
  pub accepted : List (ℕ × Terminal)
  pub rest : List (ℕ × Terminal)
  pub token : Terminal
  pub accepts : HasAccepted l accepted ((offset, token) ∷ rest)
  pub excess : IsOneTooMany (without_offsets accepted) token

-- what a text means: a script; or the offset at which it is refused, and why; or the offset of the
-- first token that is one too many
pub data Meaning : Type 0 where
  script : List Stmt → Meaning
  refused : ℕ → SyntaxKind → Meaning
  long : ℕ → Meaning

-- the tokens of a text have this meaning
abbrev pub IsMeaning : TokenStream → Meaning → Type 0
IsMeaning l (script s) = SpellsWholly l s
IsMeaning l (refused offset kind) = IsRefusedText l offset kind
IsMeaning l (long offset) = IsTooLongText l offset
