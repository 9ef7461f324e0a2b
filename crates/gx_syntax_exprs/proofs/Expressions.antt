-- The parser of expressions is exact.
use Rattle.std.proofs.Common.{◌≡◌, Bool, true, false, not, if◌then◌else◌, ◌||◌, Option, Some, None, Ok, Err, List, [], ◌∷◌, refl, ◌∙◌, ap, arith}
use Rattle.gx_syntax_tokens.specs.Terminals.{Terminal, is_symbol}
use Rattle.gx_syntax_tokens.specs.declared.symbol.Symbol.TheVariants as symbols
use Rattle.gx_syntax_exprs.specs.Operators.{operator}
use Rattle.gx_syntax_exprs.specs.Grammar.{Spells, int_literal, spells_at_looser}
use Rattle.gx_syntax_exprs.specs.Combinators.{IsParsed, IsRefused, StopsBefore, IsExact}
use Rattle.gx_syntax_exprs.specs.PrecedenceParser.{done, on_delimiter, on_close_paren, on_comma, on_end, transition, parse_from}
use Rattle.gx_syntax_exprs.specs.Expressions.{ExpressionsOpen, expression, goes_on, is_operator}
use Rattle.gx_syntax_tree.specs.declared.expr.Expr.{Expr}
use Rattle.gx_syntax_tree.specs.declared.expr.BinaryOp.{BinaryOp}
use Rattle.gx_syntax_exprs.specs.declared.steps.State.TheVariants as states
use Rattle.gx_syntax_exprs.specs.ExactParsers.{or_left, or_right, parsed, refused}
use Rattle.gx_syntax_exprs.proofs.Complete.{EndsLevel, First, complete, first_of}
use Rattle.gx_syntax_exprs.proofs.Local.{local}
use Rattle.gx_syntax_exprs.proofs.Sound.{sound}

no_operator : (t : Terminal) (o : Option BinaryOp) → operator t ≡ o → is_operator o ≡ false → operator t ≡ None
no_operator t None e h = e
no_operator t (Some o) e h = absurd (let lie : true ≡ false = h in cc)

stops : (rest : List Terminal) → StopsBefore goes_on rest → EndsLevel 1 rest
stops [] e = omega arith
stops (t ∷ ts) e =
    let none : operator t ≡ None = no_operator t (operator t) refl (or_left (is_operator (operator t)) (is_symbol symbols.Dot t || is_symbol symbols.OpenParen t) e) in
    let after : (is_symbol symbols.Dot t || is_symbol symbols.OpenParen t) ≡ false = or_right (is_operator (operator t)) (is_symbol symbols.Dot t || is_symbol symbols.OpenParen t) e in
    record { needed = rw none (omega arith); no_dot = or_left (is_symbol symbols.Dot t) (is_symbol symbols.OpenParen t) after; no_open = or_right (is_symbol symbols.Dot t) (is_symbol symbols.OpenParen t) after }

after_ends : (t : Terminal) (x : Expr) → on_delimiter t x [] ≡ done x
after_ends t x = go (is_symbol symbols.CloseParen t) (is_symbol symbols.Comma t)
  where
    go : (c d : Bool) → (if c then on_close_paren x [] else (if d then on_comma x [] else on_end x [])) ≡ done x
    go true d = refl
    go false true = refl
    go false false = refl

has_all : (x : Expr) (rest : List Terminal) → StopsBefore goes_on rest → parse_from (states.AfterOperand x) [] rest ≡ Ok (x, rest)
unfolding parse_from transition
has_all x [] e = refl
has_all x (t ∷ ts) e =
    let none : operator t ≡ None = no_operator t (operator t) refl (or_left (is_operator (operator t)) (is_symbol symbols.Dot t || is_symbol symbols.OpenParen t) e) in
    rw (none, after_ends t x) refl

pub expression_exact : IsExact (Spells 1) goes_on expression
unfolding expression
expression_exact = record {
  sound_and_local = record {
    nonempty = record { rest = _; value = _; spells = spells_at_looser 1 8 (omega arith) (int_literal 0 refl) };
    sound = sound;
    local = λ w t r s o e. local w states.ExpectOperand [] t r s o e;
  };
  complete = λ w rest x d e. complete d [] rest (omega arith) (stops rest e) ∙ has_all x rest e;
}

pub expressions_open : ExpressionsOpen
expressions_open w x d =
    let f : First w = first_of d in
    record { head = f.head; tail = f.tail; whole = f.whole; passes = ap not f.no_close }

pub expression_parsed : (ts : List Terminal) (x : Expr) (rest : List Terminal) → expression ts ≡ Ok (x, rest) → IsParsed (Spells 1) ts x rest
expression_parsed ts x rest e = parsed (Spells 1) goes_on expression expression_exact ts x rest e

pub expression_refused : (ts rest : List Terminal) → expression ts ≡ Err rest → IsRefused (Spells 1) ts rest
expression_refused ts rest e = refused (Spells 1) goes_on expression expression_exact ts rest e
