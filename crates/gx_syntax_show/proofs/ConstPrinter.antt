-- Printers of texts, numbers and constants.
use Rattle.std.proofs.Common.{◌≡◌, ℕ, zero, suc, ℤ, pos, Bool, true, false, if◌then◌else◌, Option, Some, None, inl, inr, List, [], ◌∷◌, map, codes, refl, sym, ◌∙◌, ap, subst, arith}
use Rattle.gx_syntax_tokens.specs.Terminals.{Terminal, word, number, quoted, symbol}
use Rattle.gx_syntax_tokens.specs.SpacedText.{token, sign, terminal}
use Rattle.gx_syntax_tokens.specs.declared.symbol.Symbol.TheVariants as symbols
use Rattle.gx_syntax_exprs.specs.Combinators.{Satisfies}
use Rattle.gx_syntax_exprs.specs.Grammar.{fits_i64}
use Rattle.gx_syntax_exprs.specs.TokenParsers.{quoted_value, number_value}
use Rattle.gx_syntax_stmts.specs.Keywords.{truth_of}
use Rattle.gx_syntax_stmts.specs.Parts.{truth_const, literal_value, negative, SpellsNegative, SpellsNoIds, SpellsConst}
use Rattle.gx_syntax_tree.specs.declared.constant.Const.{Const}
use Rattle.gx_syntax_tree.specs.declared.constant.Const.TheVariants as consts
use Rattle.gx_syntax_show.specs.ExprPieces.{magnitude}
use Rattle.gx_syntax_show.specs.ItemPieces.{const_pieces}
use Rattle.gx_syntax_show.proofs.ListPrinters.{some_same, absent, symbol_printer, sign_printer, function_printer}
use Rattle.gx_syntax_show.proofs.Printers.{Prints, IsPrinter, prints_as, prints_same, token_printer, then_printed, last_printed, either_printer}
use Rattle.gx_syntax_show.proofs.Replacing.{HasNoSemicolon}
use Rattle.gx_syntax_show.proofs.WordPrinters.{truth_is}

pub text_printer : IsPrinter (Satisfies quoted_value) (λ s. token (quoted s) ∷ [])
text_printer = token_printer quoted_value (λ s. token (quoted s)) text_is (λ s. refl)
  where
    text_is : (t : Terminal) (s : List ℕ) → quoted_value t ≡ Some s → t ≡ quoted s
    text_is (word w) s e = absent e
    text_is (number n) s e = absent e
    text_is (quoted v) s e = ap quoted (some_same e)
    text_is (symbol v) s e = absent e

-- what is there only if a test is passed
some_if : {A : Type 0} (b : Bool) (a x : A) → (if b then Some a else None) ≡ Some x → a ≡ x
some_if true a x e = some_same e
some_if false a x e = absent e

-- the token of a number, and its value
record IsNumber (t : Terminal) (z : ℤ) : Type 0 where
  is_token : t ≡ number (magnitude z)
  is_natural : z ≡ pos (magnitude z)

number_is : (t : Terminal) (z : ℤ) → number_value t ≡ Some z → IsNumber t z
number_is (word w) z e = absent e
number_is (number n) z e = subst (IsNumber (number n)) (some_if (fits_i64 n) (pos n) z e) (record { is_token = refl; is_natural = refl })
number_is (quoted s) z e = absent e
number_is (symbol s) z e = absent e

pub number_printer : IsPrinter (Satisfies number_value) (λ z. token (number (magnitude z)) ∷ [])
number_printer = token_printer number_value (λ z. token (number (magnitude z))) (λ t z e. (number_is t z e).is_token) (λ z. refl)

-- the token of a constant that has one
record IsLiteral (t : Terminal) (c : Const) : Type 0 where
  is_token : t ∷ [] ≡ map terminal (const_pieces c)
  no_semicolon : HasNoSemicolon (map terminal (const_pieces c))

truth_literal : (w : List ℕ) (o : Option Bool) (c : Const) → truth_of w ≡ o → truth_const o ≡ Some c → IsLiteral (word w) c
truth_literal w None c e f = absent f
truth_literal w (Some b) c e f = subst (IsLiteral (word w)) (some_same f) (record { is_token = ap (λ v. word v ∷ []) (truth_is w b e); no_semicolon = (refl, tt) })

literal_is : (t : Terminal) (c : Const) → literal_value t ≡ Some c → IsLiteral t c
literal_is (word w) c e = truth_literal w (truth_of w) c refl e
literal_is (number n) c e = subst (IsLiteral (number n)) (some_if (fits_i64 n) (consts.Number (pos n)) c e) (record { is_token = refl; no_semicolon = (refl, tt) })
literal_is (quoted s) c e = subst (IsLiteral (quoted s)) (some_same e) (record { is_token = refl; no_semicolon = (refl, tt) })
literal_is (symbol s) c e = absent e

literal_printer : IsPrinter (Satisfies literal_value) const_pieces
literal_printer ts c d = let is = literal_is d.token c d.passes in prints_same (Satisfies literal_value) ts (const_pieces c) c d (d.whole ∙ is.is_token) is.no_semicolon

no_ids_printer : IsPrinter SpellsNoIds const_pieces
no_ids_printer ts c d =
    let open_paren = d.tail in
    let close = open_paren.tail in
    prints_as (ap const_pieces close.tail.given)
    (then_printed d (function_printer (codes "ids") d.first d.value d.head)
    (then_printed open_paren (symbol_printer symbols.OpenParen refl open_paren.first open_paren.value open_paren.head)
    (last_printed close (symbol_printer symbols.CloseParen refl close.first close.value close.head))))

-- a constant that is a number after a `-`: `-0` is printed as `0`
negative_printed : (n : ℕ) (ts : List Terminal) (c : Const) → negative (pos n) ≡ c → Prints SpellsNegative ts (sign ∷ token (number n) ∷ []) c → Prints SpellsConst ts (const_pieces c) c
unfolding SpellsConst
negative_printed zero ts c e p = subst (λ c. Prints SpellsConst ts (const_pieces c) c) e (record {
  spells = inr (inr (record { token = number 0; whole = refl; passes = refl }));
  replaces = record { no_more = omega (arith, p.replaces.no_more); valid = λ v. (p.replaces.valid v).1; read = p.replaces.read; written = (refl, tt) };
})
negative_printed (suc n) ts c e p = prints_as (ap const_pieces (sym e)) (record { spells = inl p.spells; replaces = p.replaces })

negative_printer : (ts : List Terminal) (c : Const) → SpellsNegative ts c → Prints SpellsConst ts (const_pieces c) c
negative_printer ts c d =
    let digits = d.tail in
    let z = digits.value in
    let is = number_is digits.head.token z digits.head.passes in
    negative_printed (magnitude z) ts c (sym (digits.tail.given ∙ ap negative is.is_natural))
    (then_printed d (sign_printer d.first d.value d.head) (last_printed digits (number_printer digits.first z digits.head)))

pub const_printer : IsPrinter SpellsConst const_pieces
unfolding SpellsConst
const_printer ts c (inl d) = negative_printer ts c d
const_printer ts c (inr d) = let p = either_printer SpellsNoIds (Satisfies literal_value) const_pieces no_ids_printer literal_printer ts c d in record { spells = inr p.spells; replaces = p.replaces }
