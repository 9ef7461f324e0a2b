-- Expressions of one form: operators on numbers, and calls with more arguments than any function takes.
use Rattle.std.proofs.Common.{◌≡◌, ℕ, ◌≤◌, ℤ, pos, true, Result, Ok, Err, List, [], ◌∷◌, length, map, refl, sym, ap, subst, ◌∙◌, arith}
use Rattle.std.proofs.lemmas.List.{length-map}
use Rattle.gx_rows.specs.declared.cause.Cause.{Cause}
use Rattle.gx_rows.specs.declared.eval_stop.EvalStop.{EvalStop}
use Rattle.gx_rows.specs.declared.value.Value.TheVariants as value
use Rattle.gx_rows.specs.Results.{◌>>=◌}
use Rattle.gx_expr.specs.Evaluates.{EvaluatesTo}
use Rattle.gx_expr.specs.Evaluation.{ScopeValues, EvalResult, arithmetic_result, at_node, eval_binary, eval_call, eval_result, eval_result-roll, int_of_value, int_result, is_arithmetic, number_result}
use Rattle.gx_expr.specs.declared.expr.Expr.{Expr}
use Rattle.gx_expr.specs.declared.expr.Expr.TheOpen as layer
use Rattle.gx_expr.specs.declared.expr.Expr.TheVariants as expr
use Rattle.gx_expr.specs.declared.expr.Expr.TheVariants.{rolls-Binary, rolls-Call}
use Rattle.gx_expr.specs.declared.operators.BinaryOp.{BinaryOp}
use Rattle.gx_expr.specs.declared.operators.BinaryOp.TheVariants as binary
use Rattle.gx_expr.specs.declared.operators.Function.{Function}

many-none : (n : ℕ) (f : Function) (xs : List EvalResult) → 4 ≤ length xs → eval_call n f xs ≡ Ok (value.Int (pos 0))
many-none n f [] h = absurd (omega arith)
many-none n f (a ∷ []) h = absurd (omega arith)
many-none n f (a ∷ b ∷ []) h = absurd (omega arith)
many-none n f (a ∷ b ∷ c ∷ []) h = absurd (omega arith)
many-none n f (a ∷ b ∷ c ∷ d ∷ rest) h = refl

pub eval_many : (s : ScopeValues) (n : ℕ) (f : Function) (xs : List Expr) → 4 ≤ length xs → eval_result s (expr.Call n f xs) ≡ Ok (value.Int (pos 0))
eval_many s n f xs h =
    ap (eval_result s) (sym (rolls-Call n f xs))
    ∙ eval_result-roll s (layer.Call n f xs)
    ∙ many-none n f (map (eval_result s) xs) (simp length-map h)

arithmetic-binary : (n : ℕ) (o : BinaryOp) → is_arithmetic o ≡ true → (r q : EvalResult) → eval_binary n o r q ≡ (r >>= λ x. q >>= λ y. at_node n (int_result (arithmetic_result o (int_of_value x) (int_of_value y))))
arithmetic-binary n o h (Err f) q = refl
arithmetic-binary n binary.Add h (Ok x) q = refl
arithmetic-binary n binary.Sub h (Ok x) q = refl
arithmetic-binary n binary.Mul h (Ok x) q = refl
arithmetic-binary n binary.Div h (Ok x) q = refl
arithmetic-binary n binary.Rem h (Ok x) q = refl
arithmetic-binary n _ h (Ok x) q = cc

pub eval_arithmetic : (s : ScopeValues) (n : ℕ) (o : BinaryOp) (a b : Expr) → is_arithmetic o ≡ true
    → eval_result s (expr.Binary n o a b) ≡ (eval_result s a >>= λ x. eval_result s b >>= λ y. at_node n (int_result (arithmetic_result o (int_of_value x) (int_of_value y))))
eval_arithmetic s n o a b h =
    ap (eval_result s) (sym (rolls-Binary n o a b))
    ∙ eval_result-roll s (layer.Binary n o a b)
    ∙ arithmetic-binary n o h (eval_result s a) (eval_result s b)

number-back : (n : ℕ) (r : Result ℤ Cause) → (at_node n (int_result r) >>= λ v. Ok (int_of_value v)) ≡ at_node n r
number-back n (Ok z) = refl
number-back n (Err c) = refl

arithmetic-number : (n : ℕ) (o : BinaryOp) (r q : EvalResult) (x y : ℤ) → (r >>= λ v. Ok (int_of_value v)) ≡ Ok x → (q >>= λ v. Ok (int_of_value v)) ≡ Ok y
    → ((r >>= λ u. q >>= λ v. at_node n (int_result (arithmetic_result o (int_of_value u) (int_of_value v)))) >>= λ v. Ok (int_of_value v)) ≡ at_node n (arithmetic_result o x y)
arithmetic-number n o (Err f) q x y h k = cc
arithmetic-number n o (Ok u) (Err f) x y h k = cc
arithmetic-number n o (Ok u) (Ok v) x y h k =
    let left : int_of_value u ≡ x = cc in
    let right : int_of_value v ≡ y = cc in
    number-back n (arithmetic_result o (int_of_value u) (int_of_value v)) ∙ rw (left, right) refl

-- the number of an operation on numbers, from those of its operands
pub evaluates_arithmetic : (s : ScopeValues) (n : ℕ) (o : BinaryOp) (a b : Expr) (x y : ℤ) (r : Result ℤ EvalStop) → is_arithmetic o ≡ true
    → number_result s a ≡ Ok x → number_result s b ≡ Ok y → EvaluatesTo r (at_node n (arithmetic_result o x y)) → EvaluatesTo r (number_result s (expr.Binary n o a b))
evaluates_arithmetic s n o a b x y r arithmetic h k d =
    subst (EvaluatesTo r) (sym (ap (λ v. v >>= λ v. Ok (int_of_value v)) (eval_arithmetic s n o a b arithmetic) ∙ arithmetic-number n o (eval_result s a) (eval_result s b) x y h k)) d
