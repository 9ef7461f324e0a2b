-- Symbols at the front of a text are spelled there.
use Rattle.std.specs.Prelude.{◌==◌, if◌then◌else◌}
use Rattle.std.proofs.Common.{◌≡◌, ◌-◌, ◌<◌, ℕ, List, [], ◌∷◌, ◌++◌, length, get_or, Option, None, Some, refl, ap, ◌∙◌, arith, inl, inr}
use Rattle.std.proofs.lemmas.Bool.Decides.{eqb_tells}
use Rattle.gx_syntax_tokens.specs.Symbols.{one_byte_symbol, longest_symbol, spelling, symbol_at, symbol_with_equals}
use Rattle.gx_syntax_tokens.specs.declared.symbol.Symbol.{Symbol}
use Rattle.gx_syntax_tokens.specs.declared.symbol.Symbol.TheVariants as symbols

-- the first and the last byte are ASCII characters
pub record HasAsciiBytes (text : List ℕ) : Type 0 where
  pub nonempty : 0 < length text
  pub first : get_or text 0 0 < 128
  pub last : get_or text (length text - 1) 0 < 128

pub spelling-ascii : (s : Symbol) → HasAsciiBytes (spelling s)
spelling-ascii symbols.OpenParen = record { nonempty = omega arith; first = omega arith; last = omega arith }
spelling-ascii _ = record { nonempty = omega arith; first = omega arith; last = omega arith }

-- one test of a byte, and the tests that come after it
chosen : (c k : ℕ) (tail : List ℕ) (s t : Symbol) (others : Option Symbol) → k ∷ tail ≡ spelling t → (if c == k then Some t else others) ≡ Some s
    → (others ≡ Some s → c ∷ tail ≡ spelling s) → c ∷ tail ≡ spelling s
chosen c k tail s t others spelled is later =
    elim (eqb_tells c k) [
      | inl same ↦ (let t_is : t ≡ s = cc (rw same.0 at is) in ap (λ b. b ∷ tail) same.1 ∙ spelled ∙ ap spelling t_is)
      | inr other ↦ later (rw other.0 at is)
    ]

one_byte_symbol-spelled : (c : ℕ) (s : Symbol) → one_byte_symbol c ≡ Some s → c ∷ [] ≡ spelling s
one_byte_symbol-spelled c s is =
    chosen c 40 [] s symbols.OpenParen _ refl is (λ is. chosen c 41 [] s symbols.CloseParen _ refl is (λ is. chosen c 44 [] s symbols.Comma _ refl is
    (λ is. chosen c 59 [] s symbols.Semicolon _ refl is (λ is. chosen c 58 [] s symbols.Colon _ refl is (λ is. chosen c 46 [] s symbols.Dot _ refl is
    (λ is. chosen c 61 [] s symbols.Assign _ refl is (λ is. chosen c 60 [] s symbols.Less _ refl is (λ is. chosen c 62 [] s symbols.Greater _ refl is
    (λ is. chosen c 43 [] s symbols.Plus _ refl is (λ is. chosen c 45 [] s symbols.Minus _ refl is (λ is. chosen c 42 [] s symbols.Star _ refl is
    (λ is. chosen c 47 [] s symbols.Slash _ refl is (λ is. chosen c 37 [] s symbols.Percent _ refl is (λ is. cc is))))))))))))))

symbol_with_equals-spelled : (c : ℕ) (s : Symbol) → symbol_with_equals c ≡ Some s → c ∷ 61 ∷ [] ≡ spelling s
symbol_with_equals-spelled c s is =
    chosen c 61 (61 ∷ []) s symbols.Equal _ refl is (λ is. chosen c 33 (61 ∷ []) s symbols.NotEqual _ refl is
    (λ is. chosen c 60 (61 ∷ []) s symbols.LessEqual _ refl is (λ is. chosen c 62 (61 ∷ []) s symbols.GreaterEqual _ refl is (λ is. cc is))))

-- a text begins with the bytes of its symbol
pub symbol_at-spelled : (text : List ℕ) (s : Symbol) → symbol_at text ≡ Some s → (rest : List ℕ) × (text ≡ spelling s ++ rest)
symbol_at-spelled [] s is = cc is
symbol_at-spelled (c ∷ []) s is = ([], ap (λ l. l ++ []) (one_byte_symbol-spelled c s is))
symbol_at-spelled (c ∷ d ∷ ds) s is =
    elim (eqb_tells d 61) [
      | inl equals ↦ two equals.1 (symbol_with_equals c) refl (rw equals.0 at is)
      | inr other ↦ single (rw other.0 at is)
    ]
  where
    single : one_byte_symbol c ≡ Some s → (rest : List ℕ) × (c ∷ d ∷ ds ≡ spelling s ++ rest)
    single is = (d ∷ ds, ap (λ l. l ++ d ∷ ds) (one_byte_symbol-spelled c s is))

    two : d ≡ 61 → (o : Option Symbol) → symbol_with_equals c ≡ o → longest_symbol o (one_byte_symbol c) ≡ Some s → (rest : List ℕ) × (c ∷ d ∷ ds ≡ spelling s ++ rest)
    two equals None e is = single is
    two equals (Some t) e is = (ds, ap (λ b. c ∷ b ∷ ds) equals ∙ ap (λ l. l ++ ds) (symbol_with_equals-spelled c s (e ∙ is)))
