-- Printers of languages: for each value that some tokens spell, pieces that spell it too and may replace those tokens.
-- What is put together from languages with printers has one.
use Rattle.std.proofs.Common.{◌≡◌, false, Option, Some, None, inl, inr, List, [], ◌∷◌, ◌++◌, map, sym, ◌∙◌, ap, subst}
use Rattle.std.specs.List.{flat_map}
use Rattle.std.proofs.lemmas.List.{append-nil, map-append}
use Rattle.gx_syntax_tokens.specs.Terminals.{Terminal, is_symbol}
use Rattle.gx_syntax_tokens.specs.SpacedText.{Piece, terminal}
use Rattle.gx_syntax_tokens.specs.declared.symbol.Symbol.TheVariants as symbols
use Rattle.gx_syntax_exprs.specs.Combinators.{Satisfies, Empty, Then, Either, Many, none, more}
use Rattle.gx_syntax_show.specs.ListPieces.{optional_pieces}
use Rattle.gx_syntax_show.proofs.Replacing.{HasNoSemicolon, CanReplace, replaces-same, replaces-append}

-- the pieces print the value that the tokens spell
pub record Prints {A : Type 0} (L : List Terminal → A → Type 0) (ts : List Terminal) (ps : List Piece) (x : A) : Type 0 where
  pub spells : L (map terminal ps) x
  pub replaces : CanReplace ts ps

-- and so for each value
abbrev pub IsPrinter : {A : Type 0} → (List Terminal → A → Type 0) → (A → List Piece) → Type 0
IsPrinter {A = A} L pieces = (ts : List Terminal) (x : A) → L ts x → Prints L ts (pieces x) x

-- the same pieces in other words
pub prints_as : {A : Type 0} {L : List Terminal → A → Type 0} {ts : List Terminal} {ps qs : List Piece} {x : A} → qs ≡ ps → Prints L ts ps x → Prints L ts qs x
prints_as {L = L} {ts = ts} {x = x} e p = subst (λ l. Prints L ts l x) (sym e) p

-- tokens that are printed as they were read
pub prints_same : {A : Type 0} (L : List Terminal → A → Type 0) (ts : List Terminal) (ps : List Piece) (x : A) → L ts x → ts ≡ map terminal ps → HasNoSemicolon (map terminal ps) → Prints L ts ps x
prints_same L ts ps x d e n = record { spells = subst (λ l. L l x) e d; replaces = subst (λ l. CanReplace l ps) (sym e) (replaces-same ps n) }

-- one token
pub token_printer : {A : Type 0} (test : Terminal → Option A) (piece : A → Piece) → ((t : Terminal) (x : A) → test t ≡ Some x → t ≡ terminal (piece x)) → ((x : A) → is_symbol symbols.Semicolon (terminal (piece x)) ≡ false)
    → IsPrinter (Satisfies test) (λ x. piece x ∷ [])
token_printer test piece is n ts x d = prints_same (Satisfies test) ts (piece x ∷ []) x d (d.whole ∙ ap (λ t. t ∷ []) (is d.token x d.passes)) (n x, tt)

-- no token
pub empty_printed : {A : Type 0} {y x : A} {ts : List Terminal} → Empty y ts x → Prints (Empty y) ts [] x
empty_printed {y = y} {x = x} {ts = ts} d = prints_same (Empty y) ts [] x d d.empty tt

-- one language after another
pub then_printed : {A B : Type 0} {L : List Terminal → A → Type 0} {M : A → List Terminal → B → Type 0} {ts : List Terminal} {y : B} {ps qs : List Piece}
    → (d : Then L M ts y) → Prints L d.first ps d.value → Prints (M d.value) d.second qs y → Prints (Then L M) ts (ps ++ qs) y
then_printed {ps = ps} {qs = qs} d a b = record {
  spells = record { first = map terminal ps; second = map terminal qs; value = d.value; whole = map-append terminal ps qs; head = a.spells; tail = b.spells };
  replaces = subst (λ l. CanReplace l (ps ++ qs)) (sym d.whole) (replaces-append d.first d.second ps qs a.replaces b.replaces);
}

-- a language by whose value the value is made
pub last_printed : {A B : Type 0} {L : List Terminal → A → Type 0} {f : A → B} {ts : List Terminal} {y : B} {ps : List Piece}
    → (d : Then L (λ x. Empty (f x)) ts y) → Prints L d.first ps d.value → Prints (Then L (λ x. Empty (f x))) ts ps y
last_printed {ps = ps} d a = prints_as (sym (append-nil ps)) (then_printed d a (empty_printed d.tail))

-- one of two languages
pub either_printer : {A : Type 0} (L M : List Terminal → A → Type 0) (pieces : A → List Piece) → IsPrinter L pieces → IsPrinter M pieces → IsPrinter (Either L M) pieces
either_printer L M pieces P Q ts x (inl d) = let p = P ts x d in record { spells = inl p.spells; replaces = p.replaces }
either_printer L M pieces P Q ts x (inr d) = let q = Q ts x d in record { spells = inr q.spells; replaces = q.replaces }

-- what may be left out
abbrev pub Optional : {A : Type 0} → (List Terminal → A → Type 0) → List Terminal → Option A → Type 0
Optional L = Either (Then L (λ x. Empty (Some x))) (Empty None)

pub optional_printer : {A : Type 0} (L : List Terminal → A → Type 0) (pieces : A → List Piece) → IsPrinter L pieces → IsPrinter (Optional L) (optional_pieces pieces)
optional_printer {A = A} L pieces P = either_printer (Then L (λ x. Empty (Some x))) (Empty None) (optional_pieces pieces) given left_out
  where
    given : IsPrinter (Then L (λ x. Empty (Some x))) (optional_pieces pieces)
    given ts o d = prints_as (ap (optional_pieces pieces) d.tail.given) (last_printed d (P d.first d.value d.head))

    left_out : IsPrinter (Empty None) (optional_pieces pieces)
    left_out ts o d = prints_as (ap (optional_pieces pieces) d.given) (empty_printed d)

-- any number of words of a language
module _ {A : Type 0} (L : List Terminal → A → Type 0) (item : A → List Piece) where
  pub many_printed : IsPrinter L item → {ts : List Terminal} {xs : List A} → Many L ts xs → Prints (Many L) ts (flat_map item xs) xs
  many_printed P none = record { spells = none; replaces = replaces-same [] tt }
  many_printed P (more {w} {ws} {x} {xs} d ds) =
      let a = P w x d in
      let b = many_printed P ds in
      record { spells = rw (map-append terminal (item x) (flat_map item xs)) (more a.spells b.spells); replaces = replaces-append w ws (item x) (flat_map item xs) a.replaces b.replaces }
