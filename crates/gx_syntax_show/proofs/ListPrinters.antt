-- Printers of symbols, words, names, lists and named items.
use Rattle.std.proofs.Common.{◌≡◌, ℕ, Bool, true, false, Option, Some, None, List, [], ◌∷◌, ◌++◌, refl, ◌∙◌, ap}
use Rattle.std.specs.List.{flat_map}
use Rattle.std.proofs.lemmas.Slice.Eq.{bytes_eq-Decides}
use Rattle.gx_syntax_tokens.specs.Terminals.{Terminal, word, number, quoted, symbol, is_symbol, is_symbol-true}
use Rattle.gx_syntax_tokens.specs.SpacedText.{Piece, token, sign, function}
use Rattle.gx_syntax_tokens.specs.declared.symbol.Symbol.{Symbol}
use Rattle.gx_syntax_tokens.specs.declared.symbol.Symbol.TheVariants as symbols
use Rattle.gx_syntax_exprs.specs.Combinators.{Satisfies, Empty, Then}
use Rattle.gx_syntax_exprs.specs.TokenParsers.{is_word, unit_if, expected_symbol, expected_word, name_value}
use Rattle.gx_syntax_stmts.specs.Parts.{OneOrMore, CommaItem, CommaList, ParenList, NamedItem}
use Rattle.gx_syntax_show.specs.ItemPieces.{named_item_pieces}
use Rattle.gx_syntax_show.specs.ListPieces.{word_pieces, next_item_pieces, items_pieces, paren_list_pieces}
use Rattle.gx_syntax_show.proofs.Printers.{IsPrinter, prints_as, token_printer, then_printed, last_printed, either_printer, many_printed}

pub some_same : {A : Type 0} {a b : A} → ◌≡◌ {A = Option A} (Some a) (Some b) → a ≡ b
some_same e = cc

pub absent : {A B : Type 0} {x : A} → ◌≡◌ {A = Option A} None (Some x) → B
absent {A = A} {x = x} e = absurd (let lie : ◌≡◌ {A = Option A} None (Some x) = e in cc)

passed : (b : Bool) (u : Unit {0}) → unit_if b ≡ Some u → b ≡ true
passed true u e = refl
passed false u e = absent e

pub symbol_is : (s : Symbol) (t : Terminal) (u : Unit {0}) → expected_symbol s t ≡ Some u → t ≡ symbol s
symbol_is s t u e = is_symbol-true s t (passed (is_symbol s t) u e)

pub symbol_printer : (s : Symbol) → is_symbol symbols.Semicolon (symbol s) ≡ false → IsPrinter (Satisfies (expected_symbol s)) (λ _. token (symbol s) ∷ [])
symbol_printer s n = token_printer (expected_symbol s) (λ _. token (symbol s)) (symbol_is s) (λ _. n)

-- a `-` before a number
pub sign_printer : IsPrinter (Satisfies (expected_symbol symbols.Minus)) (λ _. sign ∷ [])
sign_printer = token_printer (expected_symbol symbols.Minus) (λ _. sign) (symbol_is symbols.Minus) (λ _. refl)

word_is : (w : List ℕ) (t : Terminal) → is_word w t ≡ true → t ≡ word w
word_is w (word v) e = ap word ((bytes_eq-Decides v w).0 e)
word_is w (number n) e = cc
word_is w (quoted s) e = cc
word_is w (symbol s) e = cc

pub word_printer : (w : List ℕ) → IsPrinter (Satisfies (expected_word w)) (λ _. word_pieces w)
word_printer w = token_printer (expected_word w) (λ _. token (word w)) (λ t u e. word_is w t (passed (is_word w t) u e)) (λ _. refl)

-- a word before parentheses
pub function_printer : (w : List ℕ) → IsPrinter (Satisfies (expected_word w)) (λ _. function w ∷ [])
function_printer w = token_printer (expected_word w) (λ _. function w) (λ t u e. word_is w t (passed (is_word w t) u e)) (λ _. refl)

pub name_printer : IsPrinter (Satisfies name_value) word_pieces
name_printer = token_printer name_value (λ w. token (word w)) name_is (λ w. refl)
  where
    name_is : (t : Terminal) (w : List ℕ) → name_value t ≡ Some w → t ≡ word w
    name_is (word v) w e = ap word (some_same e)
    name_is (number n) w e = cc
    name_is (quoted s) w e = cc
    name_is (symbol s) w e = cc

-- one word or more: the first of one language, the others of another
pub one_or_more_printer : {A : Type 0} (L M : List Terminal → A → Type 0) (item next : A → List Piece) (pieces : List A → List Piece)
    → ((x : A) (xs : List A) → pieces (x ∷ xs) ≡ item x ++ flat_map next xs) → IsPrinter L item → IsPrinter M next → IsPrinter (OneOrMore L M) pieces
one_or_more_printer L M item next pieces is P Q ts xs d =
    let more = d.tail in
    prints_as (ap pieces more.tail.given ∙ is d.value more.value) (then_printed d (P d.first d.value d.head) (last_printed more (many_printed M next Q more.head)))

-- items in parentheses
module _ {A : Type 0} (L : List Terminal → A → Type 0) (item : A → List Piece) (printer : IsPrinter L item) where
  comma_item_printer : IsPrinter (CommaItem L) (next_item_pieces item)
  comma_item_printer ts x d = then_printed d (symbol_printer symbols.Comma refl d.first d.value d.head) (printer d.second x d.tail)

  comma_list_printer : IsPrinter (CommaList L) (items_pieces item)
  unfolding CommaList
  comma_list_printer = one_or_more_printer L (CommaItem L) item (next_item_pieces item) (items_pieces item) (λ x xs. refl) printer comma_item_printer

  abbrev Closed : List A → List Terminal → List A → Type 0
  Closed xs = Then (Satisfies (expected_symbol symbols.CloseParen)) (λ _. Empty xs)

  abbrev closed_pieces : List A → List Piece
  closed_pieces xs = items_pieces item xs ++ token (symbol symbols.CloseParen) ∷ []

  closed_printer : (ys : List A) → IsPrinter (Closed ys) (λ _. token (symbol symbols.CloseParen) ∷ [])
  closed_printer ys ts xs d = last_printed d (symbol_printer symbols.CloseParen refl d.first d.value d.head)

  no_items_printer : IsPrinter (Closed []) closed_pieces
  no_items_printer ts xs d = prints_as (ap closed_pieces d.tail.given) (closed_printer [] ts xs d)

  items_printer : IsPrinter (Then (CommaList L) Closed) closed_pieces
  items_printer ts xs d = prints_as (ap closed_pieces d.tail.tail.given) (then_printed d (comma_list_printer d.first d.value d.head) (closed_printer d.value d.second xs d.tail))

  pub list_printer : IsPrinter (ParenList L) (paren_list_pieces item)
  unfolding ParenList
  list_printer ts xs d = then_printed d (symbol_printer symbols.OpenParen refl d.first d.value d.head) (either_printer (Closed []) (Then (CommaList L) Closed) closed_pieces no_items_printer items_printer d.second xs d.tail)

-- `NAME : item`
pub named_item_printer : {A B : Type 0} (make : List ℕ → A → B) (L : List Terminal → A → Type 0) (item : A → List Piece) (pieces : B → List Piece)
    → ((name : List ℕ) (x : A) → pieces (make name x) ≡ named_item_pieces name (item x)) → IsPrinter L item → IsPrinter (NamedItem make L) pieces
unfolding NamedItem
named_item_printer make L item pieces is P ts y d =
    let last = d.tail.tail in
    prints_as (ap pieces last.tail.given ∙ is d.value last.value)
    (then_printed d (name_printer d.first d.value d.head) (then_printed d.tail (symbol_printer symbols.Colon refl d.tail.first d.tail.value d.tail.head) (last_printed last (P last.first last.value last.head))))
