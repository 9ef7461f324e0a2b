-- The table of levels, and the reduction of pending operators.
use Rattle.std.proofs.Common.{◌≡◌, ℕ, ◌<◌, ◌≤◌, Bool, true, false, not, IsTrue, if◌then◌else◌, Option, Some, None, List, [], ◌∷◌, refl, arith, nat_le, bytes_eq}
use Rattle.std.proofs.lemmas.Bool.{le-leb, leb-true}
use Rattle.std.proofs.lemmas.Slice.Eq.{bytes_eq-Decides}
use Rattle.std.proofs.Common.{codes}
use Rattle.gx_syntax_tokens.specs.Terminals.{Terminal, word, number, quoted, symbol}
use Rattle.gx_syntax_tokens.specs.declared.symbol.Symbol.TheVariants as symbols
use Rattle.gx_syntax_exprs.specs.Operators.{operator, word_operator, infix_token, not_word}
use Rattle.gx_syntax_tree.specs.Precedence.{binary_precedence, left_precedence, right_precedence, unary_precedence, operand_precedence, left_precedence-at_most_8, right_precedence-at_most_8, operand_precedence-at_most_8}
use Rattle.gx_syntax_exprs.specs.Grammar.{truth_expr, matched_expr, Spells, true_literal, false_literal, matched_literal, is_call_name}
use Rattle.gx_syntax_exprs.specs.PrecedenceParser.{pending_precedence, pending_operand_precedence, apply, min_precedence, reduce, constant_word, left_precedence_of, precedence_before}
use Rattle.gx_syntax_tree.specs.declared.expr.Expr.{Expr}
use Rattle.gx_syntax_tree.specs.declared.expr.BinaryOp.{BinaryOp}
use Rattle.gx_syntax_tree.specs.declared.expr.BinaryOp.TheVariants as binary
use Rattle.gx_syntax_tree.specs.declared.expr.UnaryOp.{UnaryOp}
use Rattle.gx_syntax_tree.specs.declared.expr.UnaryOp.TheVariants as unary
use Rattle.gx_syntax_exprs.specs.declared.stack.Pending.{Pending}
use Rattle.gx_syntax_exprs.specs.declared.stack.Pending.TheVariants as pending
use Rattle.gx_syntax_exprs.specs.declared.stack.Frame.{Frame}
use Rattle.gx_syntax_exprs.specs.declared.stack.Frame.TheVariants as frames

-- the table
pub binary_precedence-left_precedence : (o : BinaryOp) → binary_precedence o ≤ left_precedence o
binary_precedence-left_precedence binary.Or = omega arith
binary_precedence-left_precedence _ = omega arith

pub binary_precedence-right_precedence : (o : BinaryOp) → binary_precedence o < right_precedence o
binary_precedence-right_precedence binary.Or = omega arith
binary_precedence-right_precedence _ = omega arith

pub unary_precedence-operand_precedence : (o : UnaryOp) → unary_precedence o < operand_precedence o
unary_precedence-operand_precedence unary.Not = omega arith
unary_precedence-operand_precedence unary.Neg = omega arith

pub pending_precedence-pending_operand_precedence : (w : Pending) → pending_precedence w < pending_operand_precedence w
pending_precedence-pending_operand_precedence (pending.Infix a o) = binary_precedence-right_precedence o
pending_precedence-pending_operand_precedence (pending.Prefix o) = unary_precedence-operand_precedence o

pub min_precedence-at_most_8 : (st : List Frame) → min_precedence st ≤ 8
min_precedence-at_most_8 [] = omega arith
min_precedence-at_most_8 (frames.Operator (pending.Infix a o) ∷ st) = right_precedence-at_most_8 o
min_precedence-at_most_8 (frames.Operator (pending.Prefix o) ∷ st) = operand_precedence-at_most_8 o
min_precedence-at_most_8 (frames.Paren ∷ st) = omega arith
min_precedence-at_most_8 (frames.Call f xs ∷ st) = omega arith

pub left_precedence_of-at_most_8 : (o : Option BinaryOp) → left_precedence_of o ≤ 8
left_precedence_of-at_most_8 None = omega arith
left_precedence_of-at_most_8 (Some o) = left_precedence-at_most_8 o

pub precedence_before-at_most_8 : (t : Option Terminal) → precedence_before t ≤ 8
precedence_before-at_most_8 None = omega arith
precedence_before-at_most_8 (Some t) = left_precedence_of-at_most_8 (operator t)

-- tests of numbers and words
pub not_le : (a b : ℕ) → b < a → nat_le a b ≡ false
not_le a b h = go (nat_le a b) refl
  where
    go : (c : Bool) → nat_le a b ≡ c → c ≡ false
    go true e = absurd (let up : a ≤ b = leb-true a b e in omega arith)
    go false e = refl

pub call_name : (w : List ℕ) → bytes_eq w not_word ≡ false → IsTrue (is_call_name w)
call_name w e = rw e refl

pub not_true : (b : Bool) → IsTrue (not b) → b ≡ false
not_true true h = cc
not_true false h = refl

-- the token of an operator
pub operator-infix_token : (o : BinaryOp) → operator (infix_token o) ≡ Some o
operator-infix_token binary.Or = refl
operator-infix_token _ = refl

same_word : (a b : List ℕ) → bytes_eq a b ≡ true → a ≡ b
same_word a b e = (bytes_eq-Decides a b).0 e

symbol_operator_is : (s : _) (o : BinaryOp) → operator (symbol s) ≡ Some o → symbol s ≡ infix_token o
symbol_operator_is symbols.Equal o e = let same : binary.Eq ≡ o = cc in rw (← same) refl
symbol_operator_is symbols.NotEqual o e = let same : binary.Ne ≡ o = cc in rw (← same) refl
symbol_operator_is symbols.Less o e = let same : binary.Lt ≡ o = cc in rw (← same) refl
symbol_operator_is symbols.LessEqual o e = let same : binary.Le ≡ o = cc in rw (← same) refl
symbol_operator_is symbols.Greater o e = let same : binary.Gt ≡ o = cc in rw (← same) refl
symbol_operator_is symbols.GreaterEqual o e = let same : binary.Ge ≡ o = cc in rw (← same) refl
symbol_operator_is symbols.Plus o e = let same : binary.Add ≡ o = cc in rw (← same) refl
symbol_operator_is symbols.Minus o e = let same : binary.Sub ≡ o = cc in rw (← same) refl
symbol_operator_is symbols.Star o e = let same : binary.Mul ≡ o = cc in rw (← same) refl
symbol_operator_is symbols.Slash o e = let same : binary.Div ≡ o = cc in rw (← same) refl
symbol_operator_is symbols.Percent o e = let same : binary.Rem ≡ o = cc in rw (← same) refl
symbol_operator_is _ o e = cc

word_operator_is : (w : List ℕ) (o : BinaryOp) → word_operator w ≡ Some o → word w ≡ infix_token o
word_operator_is w o e = go (bytes_eq w _) refl e
  where
    next : (c : Bool) → bytes_eq w (codes "and") ≡ c → (if c then Some binary.And else None) ≡ Some o → word w ≡ infix_token o
    next true h e = let same : binary.And ≡ o = cc in rw (← same, same_word w (codes "and") h) refl
    next false h e = cc

    go : (c : Bool) → bytes_eq w (codes "or") ≡ c → (if c then Some binary.Or else (if bytes_eq w (codes "and") then Some binary.And else None)) ≡ Some o → word w ≡ infix_token o
    go true h e = let same : binary.Or ≡ o = cc in rw (← same, same_word w (codes "or") h) refl
    go false h e = next (bytes_eq w (codes "and")) refl e

pub operator_is : (t : Terminal) (o : BinaryOp) → operator t ≡ Some o → t ≡ infix_token o
operator_is (word w) o e = word_operator_is w o e
operator_is (number n) o e = cc
operator_is (quoted s) o e = cc
operator_is (symbol s) o e = symbol_operator_is s o e

-- a word that is a literal
pub constant_spells : (w : List ℕ) (x : Expr) → constant_word w ≡ Some x → Spells 8 (word w ∷ []) x
constant_spells w x e = go (bytes_eq w (codes "true")) refl e
  where
    matched : (c : Bool) → bytes_eq w (codes "matched") ≡ c → (if c then Some matched_expr else None) ≡ Some x → Spells 8 (word w ∷ []) x
    matched true h e = let same : matched_expr ≡ x = cc in rw (← same, same_word w (codes "matched") h) matched_literal
    matched false h e = cc

    falsehood : (c : Bool) → bytes_eq w (codes "false") ≡ c → (if c then Some (truth_expr false) else (if bytes_eq w (codes "matched") then Some matched_expr else None)) ≡ Some x → Spells 8 (word w ∷ []) x
    falsehood true h e = let same : truth_expr false ≡ x = cc in rw (← same, same_word w (codes "false") h) false_literal
    falsehood false h e = matched (bytes_eq w (codes "matched")) refl e

    go : (c : Bool) → bytes_eq w (codes "true") ≡ c → (if c then Some (truth_expr true) else (if bytes_eq w (codes "false") then Some (truth_expr false) else (if bytes_eq w (codes "matched") then Some matched_expr else None))) ≡ Some x → Spells 8 (word w ∷ []) x
    go true h e = let same : truth_expr true ≡ x = cc in rw (← same, same_word w (codes "true") h) true_literal
    go false h e = falsehood (bytes_eq w (codes "false")) refl e

-- pending operators that stay, and that are applied
pub reduce_stays : (k : ℕ) (x : Expr) (st : List Frame) → min_precedence st ≤ k → reduce k x st ≡ (x, st)
reduce_stays k x [] h = refl
reduce_stays k x (frames.Operator w ∷ st) h =
    let below : pending_precedence w < pending_operand_precedence w = pending_precedence-pending_operand_precedence w in
    let test : nat_le k (pending_precedence w) ≡ false = not_le k (pending_precedence w) (omega arith) in
    rw test refl
reduce_stays k x (frames.Paren ∷ st) h = refl
reduce_stays k x (frames.Call f xs ∷ st) h = refl

pub reduce_applies : (k : ℕ) (w : Pending) (x : Expr) (st : List Frame) → k ≤ pending_precedence w → reduce k x (frames.Operator w ∷ st) ≡ reduce k (apply w x) st
reduce_applies k w x st h = let test : nat_le k (pending_precedence w) ≡ true = le-leb k (pending_precedence w) h in rw test refl
