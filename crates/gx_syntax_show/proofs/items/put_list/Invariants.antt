use Rattle.std.proofs.Common.{◌≡◌, take}
use Rattle.gx_syntax_tokens.specs.SpacedText.{token}
use Rattle.gx_syntax_tokens.specs.Terminals.{symbol}
use Rattle.gx_syntax_tokens.specs.Writing.{with_piece, with_pieces}
use Rattle.gx_syntax_tokens.specs.declared.symbol.Symbol.TheVariants as symbols
use Rattle.gx_syntax_show.specs.ListPieces.{items_pieces}
use Rattle.gx_syntax_show.proofs.items.put_list.Given as goal

-- the items so far are written
abbrev pub invariant-items : goal.invariant-items
invariant-items g l = l.out ≡ with_pieces (with_piece l.fn.out (token (symbol symbols.OpenParen))) (items_pieces g.E.ListItem.pieces (take l.i l.item-items))
