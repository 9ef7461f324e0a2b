-- Pieces that are written after others.
use Rattle.std.proofs.Common.{◌≡◌, List, [], ◌∷◌, ◌++◌, refl}
use Rattle.gx_syntax_tokens.specs.SpacedText.{Piece}
use Rattle.gx_syntax_tokens.specs.Writing.{WriterState, with_piece, with_pieces}

pub pieces_append : (w : WriterState) (ps qs : List Piece) → with_pieces w (ps ++ qs) ≡ with_pieces (with_pieces w ps) qs
pieces_append w [] qs = refl
pieces_append w (p ∷ ps) qs = pieces_append (with_piece w p) ps qs
