-- What each form of expression gives, in every scope.
use Rattle.std.proofs.Common.{◌≡◌, ℕ, ℤ, Bool, true, Option, None, Some, Result, Ok, Err, refl, sym, ap, ◌∙◌}
use Rattle.std.specs.Option.{option_map}
use Rattle.std.specs.Ordering.{int_cmp}
use Rattle.gx_rows.specs.Results.{◌>>=◌}
use Rattle.gx_rows.specs.declared.cause.Cause.{Cause}
use Rattle.gx_rows.specs.declared.eval_stop.EvalStop.{EvalStop}
use Rattle.gx_rows.specs.declared.eval_stop.EvalStop.TheVariants as stop
use Rattle.gx_rows.specs.declared.value.Value.{Value}
use Rattle.gx_rows.specs.declared.value.Value.TheVariants as value
use Rattle.gx_rows.specs.declared.vid.Vid.{Vid}
use Rattle.gx_expr.specs.Evaluates.{EvaluatesTo}
use Rattle.gx_expr.specs.Evaluation.{EvalResult, ScopeValues, arithmetic_result, at_node, comparison, eval_binary, eval_result, eval_result-roll, id_value, int_result, is_arithmetic, is_comparison, truth_of_value, value_or_zero}
use Rattle.gx_expr.specs.Numbers.{number_in}
use Rattle.gx_expr.specs.Shapes.{AgreesWith, Found, IsFormOf, IsLeafOf, IsTermOf, bool_value, comparison_result, form_result, found_number, int_value, leaf_number, term_result, then_found}
use Rattle.gx_expr.specs.declared.expr.Expr.{Expr}
use Rattle.gx_expr.specs.declared.expr.Expr.TheOpen as layer
use Rattle.gx_expr.specs.declared.expr.Expr.TheVariants as expr
use Rattle.gx_expr.specs.declared.expr.Expr.TheVariants.{rolls-Const, rolls-Column, rolls-Id, rolls-Binary}
use Rattle.gx_expr.specs.declared.leaf.Leaf.{Leaf}
use Rattle.gx_expr.specs.declared.leaf.Leaf.TheVariants as leaf
use Rattle.gx_expr.specs.declared.operators.BinaryOp.{BinaryOp}
use Rattle.gx_expr.specs.declared.operators.BinaryOp.TheVariants as binary
use Rattle.gx_expr.specs.declared.shape.Form.{Form}
use Rattle.gx_expr.specs.declared.shape.Form.TheVariants as form
use Rattle.gx_expr.specs.declared.side.Side.{Side}
use Rattle.gx_expr.specs.declared.term.Term.{Term}
use Rattle.gx_expr.specs.declared.term.Term.TheVariants as term
use Rattle.gx_expr.proofs.Calls.{eval_arithmetic}

-- ---- leaves

column-is : (o : Option Value) (z : ℤ) → number_in o ≡ Some z → value_or_zero o ≡ value.Int z
column-is None z h = cc
column-is (Some (value.Int y)) z h = cc
column-is (Some (value.Text bytes)) z h = cc
column-is (Some (value.Bool truth)) z h = cc
column-is (Some (value.Ids ids)) z h = cc

id-is : (o : Option Vid) (z : ℤ) → option_map (λ v. v.0) o ≡ Some z → id_value o ≡ value.Int z
id-is None z h = cc
id-is (Some v) z h = cc

pub leaf-number : (n : ℕ) (z : ℤ) → IsLeafOf (leaf.Number z) (expr.Const n (value.Int z))
leaf-number n z s y h =
    let same : z ≡ y = cc in
    ap (eval_result s) (sym (rolls-Const n (value.Int z))) ∙ eval_result-roll s (layer.Const n (value.Int z)) ∙ ap (λ x. Ok (value.Int x)) same

pub leaf-column : (n : ℕ) (side : Side) (i : ℕ) → IsLeafOf (leaf.Column side i) (expr.Column n side i)
leaf-column n side i s z h =
    ap (eval_result s) (sym (rolls-Column n side i)) ∙ eval_result-roll s (layer.Column n side i) ∙ ap (λ v. Ok v) (column-is _ z h)

pub leaf-id : (n : ℕ) (side : Side) → IsLeafOf (leaf.Id side) (expr.Id n side)
leaf-id n side s z h =
    ap (eval_result s) (sym (rolls-Id n side)) ∙ eval_result-roll s (layer.Id n side) ∙ ap (λ v. Ok v) (id-is _ z h)

-- ---- terms

pub term-leaf : (l : Leaf) (e : Expr) → IsLeafOf l e → IsTermOf (term.Leaf l) e
term-leaf l e is s r h = go (leaf_number s l) refl h
  where
    go : (o : Option ℤ) → leaf_number s l ≡ o → found_number o ≡ Some r → eval_result s e ≡ int_value r
    go None was h = cc
    go (Some z) was h = let same : Ok z ≡ r = cc in is s z was ∙ ap int_value same

int-at : (n : ℕ) (r : Result ℤ Cause) → at_node n (int_result r) ≡ int_value (at_node n r)
int-at n (Ok z) = refl
int-at n (Err c) = refl

pub term-arithmetic : (n : ℕ) (o : BinaryOp) (a b : Expr) (l m : Leaf) → is_arithmetic o ≡ true → IsLeafOf l a → IsLeafOf m b → IsTermOf (term.Arithmetic n o l m) (expr.Binary n o a b)
term-arithmetic n o a b l m arithmetic left right s r h = go (leaf_number s l) refl (leaf_number s m) refl h
  where
    go : (p : Option ℤ) → leaf_number s l ≡ p → (q : Option ℤ) → leaf_number s m ≡ q
        → then_found (found_number p) (λ x. then_found (found_number q) (λ y. Some (at_node n (arithmetic_result o x y)))) ≡ Some r
        → eval_result s (expr.Binary n o a b) ≡ int_value r
    go None was q also h = cc
    go (Some x) was None also h = cc
    go (Some x) was (Some y) also h =
        let same : at_node n (arithmetic_result o x y) ≡ r = cc in
        eval_arithmetic s n o a b arithmetic
        ∙ rw (left s x was, right s y also) refl
        ∙ int-at n (arithmetic_result o x y)
        ∙ ap int_value same

-- ---- forms

pub form-tree : (e : Expr) → IsFormOf form.Tree e
form-tree e s r h = cc

pub form-term : (t : Term) (e : Expr) → IsTermOf t e → IsFormOf (form.Term t) e
form-term t e is s r h = go (term_result s t) refl h
  where
    go : (o : Found ℤ) → term_result s t ≡ o → option_map int_value o ≡ Some r → eval_result s e ≡ r
    go None was h = cc
    go (Some q) was h = let same : int_value q ≡ r = cc in is s q was ∙ same

binary-is : (s : ScopeValues) (n : ℕ) (o : BinaryOp) (a b : Expr) → eval_result s (expr.Binary n o a b) ≡ eval_binary n o (eval_result s a) (eval_result s b)
binary-is s n o a b = ap (eval_result s) (sym (rolls-Binary n o a b)) ∙ eval_result-roll s (layer.Binary n o a b)

-- the value of a comparison of two numbers
compare-ints : (n : ℕ) (o : BinaryOp) → is_comparison o ≡ true → (x : ℤ) (q : Result ℤ (Cause × ℕ))
    → eval_binary n o (Ok (value.Int x)) (int_value q) ≡ bool_value (q >>= λ y. Ok (comparison o (int_cmp x y)))
compare-ints n binary.Eq h x (Ok y) = refl
compare-ints n binary.Ne h x (Ok y) = refl
compare-ints n binary.Lt h x (Ok y) = refl
compare-ints n binary.Le h x (Ok y) = refl
compare-ints n binary.Gt h x (Ok y) = refl
compare-ints n binary.Ge h x (Ok y) = refl
compare-ints n binary.Eq h x (Err f) = refl
compare-ints n binary.Ne h x (Err f) = refl
compare-ints n binary.Lt h x (Err f) = refl
compare-ints n binary.Le h x (Err f) = refl
compare-ints n binary.Gt h x (Err f) = refl
compare-ints n binary.Ge h x (Err f) = refl
compare-ints n _ h x q = cc

pub form-comparison : (n : ℕ) (o : BinaryOp) (a b : Expr) (t u : Term) → is_comparison o ≡ true → IsTermOf t a → IsTermOf u b → IsFormOf (form.Comparison o t u) (expr.Binary n o a b)
form-comparison n o a b t u compares left right s r h = go (term_result s t) refl (term_result s u) refl h
  where
    go : (p : Found ℤ) → term_result s t ≡ p → (q : Found ℤ) → term_result s u ≡ q
        → option_map bool_value (then_found p (λ x. then_found q (λ y. Some (Ok (comparison o (int_cmp x y)))))) ≡ Some r
        → eval_result s (expr.Binary n o a b) ≡ r
    go None was q also h = cc
    go (Some (Err f)) was q also h =
        let same : Err f ≡ r = cc in
        binary-is s n o a b ∙ rw (left s (Err f) was) refl ∙ same
    go (Some (Ok x)) was None also h = cc
    go (Some (Ok x)) was (Some (Err f)) also h =
        let same : Err f ≡ r = cc in
        binary-is s n o a b ∙ rw (left s (Ok x) was, right s (Err f) also) (compare-ints n o compares x (Err f)) ∙ same
    go (Some (Ok x)) was (Some (Ok y)) also h =
        let same : Ok (value.Bool (comparison o (int_cmp x y))) ≡ r = cc in
        binary-is s n o a b ∙ rw (left s (Ok x) was, right s (Ok y) also) (compare-ints n o compares x (Ok y)) ∙ same

-- ---- what a shape returns

pub term-finds : (s : ScopeValues) (f : Form) (e : Expr) (t : Term) (o : Option ℤ) (z : ℤ) → IsFormOf f e → f ≡ form.Term t → AgreesWith (Ok o) (term_result s t) → o ≡ Some z
    → eval_result s e ≡ Ok (value.Int z)
term-finds s f e t None z is kind h same = cc
term-finds s f e t (Some y) z is kind h same =
    let equal : y ≡ z = cc in
    is s (Ok (value.Int y)) (ap (form_result s) kind ∙ ap (option_map int_value) h) ∙ ap (λ x. Ok (value.Int x)) equal

pub term-stops : (s : ScopeValues) (f : Form) (e : Expr) (t : Term) (end : EvalStop) → IsFormOf f e → f ≡ form.Term t → AgreesWith (Err end) (term_result s t)
    → EvaluatesTo {A = Value} (Err end) (eval_result s e)
term-stops s f e t (stop.Fault cause n) is kind h = is s (Err (cause, n)) (ap (form_result s) kind ∙ ap (option_map int_value) h)
term-stops s f e t stop.NoMemory is kind h = tt

pub comparison-finds : (s : ScopeValues) (f : Form) (e : Expr) (c : BinaryOp) (t u : Term) (o : Option Bool) (truth : Bool) → IsFormOf f e → f ≡ form.Comparison c t u
    → AgreesWith (Ok o) (comparison_result s c t u) → o ≡ Some truth → eval_result s e ≡ Ok (value.Bool truth)
comparison-finds s f e c t u None truth is kind h same = cc
comparison-finds s f e c t u (Some found) truth is kind h same =
    let equal : found ≡ truth = cc in
    is s (Ok (value.Bool found)) (ap (form_result s) kind ∙ ap (option_map bool_value) h) ∙ ap (λ x. Ok (value.Bool x)) equal

pub comparison-stops : (s : ScopeValues) (f : Form) (e : Expr) (c : BinaryOp) (t u : Term) (end : EvalStop) → IsFormOf f e → f ≡ form.Comparison c t u
    → AgreesWith (Err end) (comparison_result s c t u) → EvaluatesTo {A = Value} (Err end) (eval_result s e)
comparison-stops s f e c t u (stop.Fault cause n) is kind h = is s (Err (cause, n)) (ap (form_result s) kind ∙ ap (option_map bool_value) h)
comparison-stops s f e c t u stop.NoMemory is kind h = tt

-- the truth of a value that faults
pub truth-stops : (r : EvalResult) (end : EvalStop) → EvaluatesTo {A = Value} (Err end) r → EvaluatesTo {A = Bool} (Err end) (r >>= λ v. Ok (truth_of_value v))
truth-stops r (stop.Fault cause n) h = ap (λ r. r >>= λ v. Ok (truth_of_value v)) h
truth-stops r stop.NoMemory h = tt
