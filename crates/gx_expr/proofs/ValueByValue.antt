-- Rows that are made value by value.
use Rattle.std.proofs.Common.{◌≡◌, ℕ, ◌+◌, ◌<◌, Ok, List, [], ◌∷◌, ◌++◌, length, get_or, drop, drop-cons, add-one, refl, sym, ap, ◌∙◌}
use Rattle.gx_rows.specs.Results.{try_append, try_append-try_cons, try_cons}
use Rattle.gx_rows.specs.declared.value.Value.{Value}
use Rattle.gx_expr.specs.Evaluation.{ScopeValues, eval_result, row_result}
use Rattle.gx_expr.specs.declared.expr.Expr.{Expr}

-- the rest of a row, from the next expression on
pub row-step : (s : ScopeValues) (es : List Expr) (i : ℕ) (e : Expr) → i < length es → e ≡ get_or es i e → row_result s (drop i es) ≡ try_cons (eval_result s e) (row_result s (drop (i + 1) es))
row-step s es i e h is = rw (add-one, drop-cons es i e, ← is) refl

-- one value more
pub row-more : (s : ScopeValues) (es : List Expr) (i : ℕ) (e : Expr) (front new : List Value) (v : Value) → i < length es → e ≡ get_or es i e
    → eval_result s e ≡ Ok v → new ≡ front ++ v ∷ []
    → try_append front (row_result s (drop i es)) ≡ row_result s es → try_append new (row_result s (drop (i + 1) es)) ≡ row_result s es
row-more s es i e front new v h is value more so_far =
    ap (λ vs. try_append vs (row_result s (drop (i + 1) es))) more
    ∙ sym (try_append-try_cons front v (eval_result s e) (row_result s (drop (i + 1) es)) value)
    ∙ sym (ap (try_append front) (row-step s es i e h is))
    ∙ so_far
