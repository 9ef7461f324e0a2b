-- Shapes of expressions: what a form that is found once gives in each scope in which all that it
-- reads is a number.
use Rattle.std.specs.Prelude.{◌≡◌, ℕ, ℤ, Bool, Option, None, Some, Result, Ok, Err, ⊤}
use Rattle.std.specs.Option.{option_map}
use Rattle.std.specs.Ordering.{int_cmp}
use Rattle.gx_rows.specs.Results.{◌>>=◌}
use Rattle.gx_rows.specs.declared.cause.Cause.{Cause}
use Rattle.gx_rows.specs.declared.eval_stop.EvalStop.{EvalStop}
use Rattle.gx_rows.specs.declared.eval_stop.EvalStop.TheVariants as stop
use Rattle.gx_rows.specs.declared.value.Value.{Value}
use Rattle.gx_rows.specs.declared.value.Value.TheVariants as value
use Rattle.gx_expr.specs.Evaluation.{EvalResult, ScopeValues, arithmetic_result, at_node, comparison, eval_result}
use Rattle.gx_expr.specs.Numbers.{number_at}
use Rattle.gx_expr.specs.declared.expr.Expr.{Expr}
use Rattle.gx_expr.specs.declared.leaf.Leaf.{Leaf}
use Rattle.gx_expr.specs.declared.leaf.Leaf.TheVariants as leaf
use Rattle.gx_expr.specs.declared.operators.BinaryOp.{BinaryOp}
use Rattle.gx_expr.specs.declared.shape.Form.{Form}
use Rattle.gx_expr.specs.declared.shape.Form.TheVariants as form
use Rattle.gx_expr.specs.declared.term.Term.{Term}
use Rattle.gx_expr.specs.declared.term.Term.TheVariants as term

-- a number or its fault, if all that it reads is a number
abbrev pub Found : Type 0 → Type 0
Found A = Option (Result A (Cause × ℕ))

-- what is found of a number, if that is found and has no fault
abbrev pub then_found : {A B : Type 0} → Found A → (A → Found B) → Found B
then_found None next = None
then_found (Some (Err f)) next = Some (Err f)
then_found (Some (Ok x)) next = next x

-- the number of a leaf
abbrev pub leaf_number : ScopeValues → Leaf → Option ℤ
leaf_number s (leaf.Number z) = Some z
leaf_number s (leaf.Column side i) = number_at s side i
leaf_number s (leaf.Id side) = option_map (λ v. v.0) (s.id side)

abbrev pub found_number : Option ℤ → Found ℤ
found_number number = option_map Ok number

-- the number of a term
abbrev pub term_result : ScopeValues → Term → Found ℤ
term_result s (term.Leaf l) = found_number (leaf_number s l)
term_result s (term.Arithmetic n o a b) =
    then_found (found_number (leaf_number s a)) (λ x.
    then_found (found_number (leaf_number s b)) (λ y. Some (at_node n (arithmetic_result o x y))))

-- whether a comparison holds of two terms
abbrev pub comparison_result : ScopeValues → BinaryOp → Term → Term → Found Bool
comparison_result s o a b =
    then_found (term_result s a) (λ x. then_found (term_result s b) (λ y. Some (Ok (comparison o (int_cmp x y)))))

abbrev pub int_value : Result ℤ (Cause × ℕ) → EvalResult
int_value r = r >>= λ z. Ok (value.Int z)

abbrev pub bool_value : Result Bool (Cause × ℕ) → EvalResult
bool_value r = r >>= λ truth. Ok (value.Bool truth)

-- the value of a form
abbrev pub form_result : ScopeValues → Form → Found Value
form_result s (form.Term t) = option_map int_value (term_result s t)
form_result s (form.Comparison o a b) = option_map bool_value (comparison_result s o a b)
form_result s form.Tree = None

-- in each scope in which the leaf, the term or the form has a result, the expression has it too
abbrev pub IsLeafOf : Leaf → Expr → Type 0
IsLeafOf l e = (s : ScopeValues) (z : ℤ) → leaf_number s l ≡ Some z → eval_result s e ≡ Ok (value.Int z)

abbrev pub IsTermOf : Term → Expr → Type 0
IsTermOf t e = (s : ScopeValues) (r : Result ℤ (Cause × ℕ)) → term_result s t ≡ Some r → eval_result s e ≡ int_value r

abbrev pub IsFormOf : Form → Expr → Type 0
IsFormOf f e = (s : ScopeValues) (r : EvalResult) → form_result s f ≡ Some r → eval_result s e ≡ r

-- what a call returns is what is found
abbrev pub AgreesWith : {A : Type 0} → Result (Option A) EvalStop → Found A → Type 0
AgreesWith (Ok None) found = found ≡ None
AgreesWith (Ok (Some x)) found = found ≡ Some (Ok x)
AgreesWith (Err (stop.Fault cause n)) found = found ≡ Some (Err (cause, n))
AgreesWith (Err stop.NoMemory) found = ⊤
