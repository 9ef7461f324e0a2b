-- Items of lists, and clauses, that are written one by one.
use Rattle.std.proofs.Common.{◌≡◌, ℕ, zero, suc, ◌+◌, ◌<◌, ◌≤◌, List, [], ◌∷◌, ◌++◌, length, take, get_or, arith, refl, sym, ap, ◌∙◌, append_assoc}
use Rattle.std.specs.List.{flat_map}
use Rattle.std.proofs.lemmas.Grind.{flat_map-append}
use Rattle.std.proofs.lemmas.List.{append-nil, take_more}
use Rattle.gx_syntax_tokens.specs.SpacedText.{Piece, token}
use Rattle.gx_syntax_tokens.specs.Terminals.{symbol}
use Rattle.gx_syntax_tokens.specs.Writing.{WriterState, with_pieces}
use Rattle.gx_syntax_tokens.specs.declared.symbol.Symbol.TheVariants as symbols
use Rattle.gx_syntax_show.specs.ListPieces.{next_item_pieces, items_pieces}
use Rattle.gx_syntax_show.proofs.PiecesLemmas.{pieces_append}

-- the comma before the item at an index
abbrev pub comma_before : ℕ → List Piece
comma_before zero = []
comma_before (suc i) = token (symbol symbols.Comma) ∷ []

pub comma-none : (i : ℕ) → i ≤ 0 → comma_before i ≡ []
comma-none zero h = refl
comma-none (suc i) h = absurd (omega arith)

pub comma-some : (i : ℕ) → 0 < i → comma_before i ≡ token (symbol symbols.Comma) ∷ []
comma-some zero h = absurd (omega arith)
comma-some (suc i) h = refl

module _ {A : Type 0} (item : A → List Piece) where
  flat_map-last : (f : A → List Piece) (xs : List A) (x : A) → flat_map f (xs ++ x ∷ []) ≡ flat_map f xs ++ f x
  flat_map-last f xs x = flat_map-append f xs (x ∷ []) ∙ ap (λ ps. flat_map f xs ++ ps) (append-nil (f x))

  -- one more piece list after those of the first i elements
  pub put_next : (xs : List A) (i : ℕ) (x : A) (w a b : WriterState) → i < length xs → x ≡ get_or xs i x
      → a ≡ with_pieces w (flat_map item (take i xs)) → b ≡ with_pieces a (item x) → b ≡ with_pieces w (flat_map item (take (i + 1) xs))
  put_next xs i x w a b below is ea eb =
      let next : take (i + 1) xs ≡ take i xs ++ x ∷ [] = take_more xs i x below ∙ ap (λ y. take i xs ++ y ∷ []) (sym is) in
      let all : b ≡ with_pieces (with_pieces w (flat_map item (take i xs))) (item x) = cc in
      all ∙ sym (pieces_append w (flat_map item (take i xs)) (item x)) ∙ ap (with_pieces w) (sym (ap (flat_map item) next ∙ flat_map-last item (take i xs) x))

  items_pieces-last : (xs : List A) (i : ℕ) (x : A) → i < length xs → items_pieces item (take i xs ++ x ∷ []) ≡ items_pieces item (take i xs) ++ (comma_before i ++ item x)
  items_pieces-last [] i x h = absurd (omega arith)
  items_pieces-last (y ∷ ys) zero x h = append-nil (item x)
  items_pieces-last (y ∷ ys) (suc i) x h = ap (λ ps. item y ++ ps) (flat_map-last (next_item_pieces item) (take i ys) x) ∙ simp append_assoc

  -- one more item, after its comma
  pub put_next_item : (xs : List A) (i : ℕ) (x : A) (w a b d : WriterState) → i < length xs → x ≡ get_or xs i x
      → a ≡ with_pieces w (items_pieces item (take i xs)) → b ≡ with_pieces a (comma_before i) → d ≡ with_pieces b (item x) → d ≡ with_pieces w (items_pieces item (take (i + 1) xs))
  put_next_item xs i x w a b d below is ea eb ed =
      let next : take (i + 1) xs ≡ take i xs ++ x ∷ [] = take_more xs i x below ∙ ap (λ y. take i xs ++ y ∷ []) (sym is) in
      let before : List Piece = items_pieces item (take i xs) in
      let all : d ≡ with_pieces (with_pieces (with_pieces w before) (comma_before i)) (item x) = cc in
      all
      ∙ sym (pieces_append (with_pieces w before) (comma_before i) (item x))
      ∙ sym (pieces_append w before (comma_before i ++ item x))
      ∙ ap (with_pieces w) (sym (ap (items_pieces item) next ∙ items_pieces-last xs i x below))
