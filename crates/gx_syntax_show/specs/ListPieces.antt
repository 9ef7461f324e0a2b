-- The pieces of lists, and of what may be left out.
use Rattle.std.specs.Prelude.{ℕ, Option, None, Some, List, [], ◌∷◌, ◌++◌}
use Rattle.std.specs.List.{flat_map}
use Rattle.gx_syntax_tokens.specs.Terminals.{word, symbol}
use Rattle.gx_syntax_tokens.specs.SpacedText.{Piece, token}
use Rattle.gx_syntax_tokens.specs.declared.symbol.Symbol.TheVariants as symbols

-- one word
abbrev pub word_pieces : List ℕ → List Piece
word_pieces w = token (word w) ∷ []

-- an item with a comma before it
abbrev pub next_item_pieces : {A : Type 0} → (A → List Piece) → A → List Piece
next_item_pieces item x = token (symbol symbols.Comma) ∷ item x

-- items with a comma between two
abbrev pub items_pieces : {A : Type 0} → (A → List Piece) → List A → List Piece
items_pieces item [] = []
items_pieces item (x ∷ xs) = item x ++ flat_map (next_item_pieces item) xs

-- items in parentheses
abbrev pub paren_list_pieces : {A : Type 0} → (A → List Piece) → List A → List Piece
paren_list_pieces item xs = token (symbol symbols.OpenParen) ∷ items_pieces item xs ++ token (symbol symbols.CloseParen) ∷ []

-- what may be left out
abbrev pub optional_pieces : {A : Type 0} → (A → List Piece) → Option A → List Piece
optional_pieces pieces None = []
optional_pieces pieces (Some x) = pieces x
