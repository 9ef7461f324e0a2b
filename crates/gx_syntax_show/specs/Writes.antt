-- What the private functions that write say of the writer.
use Rattle.std.specs.Prelude.{◌≡◌, ℕ, nat_le, if◌then◌else◌, Result, OnOk, List}
use Rattle.gx_syntax_tokens.specs.Terminals.{symbol}
use Rattle.gx_syntax_tokens.specs.SpacedText.{Piece, token}
use Rattle.gx_syntax_tokens.specs.Writing.{WriterState, with_piece, with_pieces}
use Rattle.gx_syntax_tokens.specs.declared.symbol.Symbol.TheVariants as symbols

-- these pieces were written, unless memory ran out
abbrev pub Writes : {A E : Type 0} → Result A E → WriterState → WriterState → List Piece → Type 0
Writes result old new ps = OnOk result (new ≡ with_pieces old ps)

-- the parenthesis before an operand of level m, if level k is needed and m is less
abbrev pub with_operand_open : ℕ → ℕ → WriterState → WriterState
with_operand_open k m w = if nat_le k m then w else with_piece w (token (symbol symbols.OpenParen))

-- and the one after it
abbrev pub with_operand_close : ℕ → ℕ → WriterState → WriterState
with_operand_close k m w = if nat_le k m then w else with_piece w (token (symbol symbols.CloseParen))
