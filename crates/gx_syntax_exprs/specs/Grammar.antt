-- The grammar of expressions: which tokens spell which tree.
--
-- To add an infix operator, give it a token in specs/Operators.antt and its levels in
-- specs/Precedence.antt of gx_syntax_tree; this file stays as it is. To add a kind of operand, add a
-- constructor of level 8 to `Spells`, a branch to `on_atom` or `after_word` of
-- specs/PrecedenceParser.antt and its function in src/steps.rt, and a case to the lemmas `complete`
-- (proofs/Complete.antt) and `justified` (proofs/Sound.antt).
use Rattle.std.specs.Prelude.{◌≡◌, ◌≤◌, ◌+◌, ◌-◌, ℕ, zero, suc, Bool, true, false, not, nat_lt, IsTrue, List, [], ◌∷◌, ◌++◌, codes, bytes_eq, pos, refl}
use Rattle.std.proofs.Common.{subst, arith}
use Rattle.gx_syntax_tokens.specs.Terminals.{Terminal, word, number, quoted, symbol}
use Rattle.gx_syntax_tokens.specs.declared.symbol.Symbol.TheVariants as symbols
use Rattle.gx_syntax_exprs.specs.Operators.{infix_token, prefix_token, not_word}
use Rattle.gx_syntax_tree.specs.Precedence.{binary_precedence, left_precedence, right_precedence, unary_precedence, operand_precedence}
use Rattle.gx_syntax_tree.specs.declared.expr.BinaryOp.{BinaryOp}
use Rattle.gx_syntax_tree.specs.declared.expr.UnaryOp.{UnaryOp}
use Rattle.gx_syntax_tree.specs.declared.expr.Expr.{Expr, roll-Expr}
use Rattle.gx_syntax_tree.specs.declared.expr.Expr.TheOpen.{Expr-F}
use Rattle.gx_syntax_tree.specs.declared.expr.Expr.TheOpen as layer

-- the trees by the constructors of the grammar

abbrev pub number_expr : ℕ → Expr
number_expr n = roll-Expr (layer.Number (pos n))

abbrev pub quoted_expr : List ℕ → Expr
quoted_expr s = roll-Expr (layer.Quoted s)

abbrev pub truth_expr : Bool → Expr
truth_expr b = roll-Expr (layer.Truth b)

abbrev pub matched_expr : Expr
matched_expr = roll-Expr layer.Matched

abbrev pub column_expr : List ℕ → List ℕ → Expr
column_expr side name = roll-Expr (layer.Column side name)

abbrev pub call_expr : List ℕ → List Expr → Expr
call_expr name xs = roll-Expr (layer.Call name xs)

abbrev pub unary_expr : UnaryOp → Expr → Expr
unary_expr o a = roll-Expr (layer.Unary o a)

abbrev pub binary_expr : BinaryOp → Expr → Expr → Expr
binary_expr o a b = roll-Expr (layer.Binary o a b)

-- a number that an `i64` holds
abbrev pub fits_i64 : ℕ → Bool
fits_i64 n = nat_lt n 9223372036854775808

-- a name that may precede the arguments of a call: each word but `not`
abbrev pub is_call_name : List ℕ → Bool
is_call_name w = not (bytes_eq w not_word)

mutual
  -- tokens spell an expression whose level, from 1 to 8, is at least this one
  pub data Spells : ℕ → List Terminal → Expr → Type 0 where
    looser : {l : ℕ} {ts : List Terminal} {x : Expr} → Spells (suc l) ts x → Spells l ts x
    infix_op : {ts us : List Terminal} {a b : Expr} → (o : BinaryOp) → Spells (left_precedence o) ts a → Spells (right_precedence o) us b → Spells (binary_precedence o) (ts ++ infix_token o ∷ us) (binary_expr o a b)
    prefix_op : {ts : List Terminal} {a : Expr} → (o : UnaryOp) → Spells (operand_precedence o) ts a → Spells (unary_precedence o) (prefix_token o ∷ ts) (unary_expr o a)
    int_literal : (n : ℕ) → IsTrue (fits_i64 n) → Spells 8 (number n ∷ []) (number_expr n)
    text_literal : (s : List ℕ) → Spells 8 (quoted s ∷ []) (quoted_expr s)
    true_literal : Spells 8 (word (codes "true") ∷ []) (truth_expr true)
    false_literal : Spells 8 (word (codes "false") ∷ []) (truth_expr false)
    matched_literal : Spells 8 (word (codes "matched") ∷ []) matched_expr
    column_ref : (side name : List ℕ) → Spells 8 (word side ∷ symbol symbols.Dot ∷ word name ∷ []) (column_expr side name)
    call : {ts : List Terminal} {xs : List Expr} → (name : List ℕ) → IsTrue (is_call_name name) → SpellsArguments ts xs → Spells 8 (word name ∷ symbol symbols.OpenParen ∷ ts ++ symbol symbols.CloseParen ∷ []) (call_expr name xs)
    parenthesized : {ts : List Terminal} {x : Expr} → Spells 1 ts x → Spells 8 (symbol symbols.OpenParen ∷ ts ++ symbol symbols.CloseParen ∷ []) x

  -- the arguments of a call, separated by commas
  pub data SpellsArguments : List Terminal → List Expr → Type 0 where
    no_arguments : SpellsArguments [] []
    arguments : {ts us : List Terminal} {xs : List Expr} {x : Expr} → SpellsLeading ts xs → Spells 1 us x → SpellsArguments (ts ++ us) (xs ++ x ∷ [])

  -- arguments, each followed by a comma
  pub data SpellsLeading : List Terminal → List Expr → Type 0 where
    no_leading : SpellsLeading [] []
    leading : {ts us : List Terminal} {xs : List Expr} {x : Expr} → SpellsLeading ts xs → Spells 1 us x → SpellsLeading (ts ++ us ++ symbol symbols.Comma ∷ []) (xs ++ x ∷ [])

lower : (d k l : ℕ) {ts : List Terminal} {x : Expr} → d + k ≡ l → Spells l ts x → Spells k ts x
lower zero k l {ts} {x} e s = let same : l ≡ k = omega arith in subst (λ m. Spells m ts x) same s
lower (suc d) k l {ts} {x} e s =
    let same : l ≡ suc (d + k) = omega arith in
    lower d k (d + k) refl (looser (subst (λ m. Spells m ts x) same s))

-- what is spelled at a level is spelled at each looser one
pub spells_at_looser : (k l : ℕ) {ts : List Terminal} {x : Expr} → k ≤ l → Spells l ts x → Spells k ts x
spells_at_looser k l h s = lower (l - k) k l (omega arith) s
