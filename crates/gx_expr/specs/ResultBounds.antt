-- Values within bounds give a value within bounds.
use Rattle.std.specs.Prelude.{◌≡◌, ℕ, ℤ, pos, neg_ℤ, Bool, true, false, if◌then◌else◌, nat_le, Option, None, Some, Result, Ok, Err, IfOk, List, [], ◌∷◌, ◌++◌, length, map, flat_map, slice_get, All, ⊤, refl}
use Rattle.std.proofs.Common.{subst, lit≤}
use Rattle.std.proofs.lemmas.Bool.{leb-true}
use Rattle.std.proofs.lemmas.List.Elements.{All-cons, All-head, All-nil, All-tail}
use Rattle.std.specs.Fmt.{signed_decimal}
use Rattle.std.specs.Ordering.{is_le}
use Rattle.gx_rows.specs.Bounds.{IsBoundedValue}
use Rattle.gx_rows.specs.Order.{value_cmp}
use Rattle.gx_rows.specs.Results.{◌>>=◌}
use Rattle.gx_rows.specs.declared.cause.Cause.{Cause}
use Rattle.gx_rows.specs.declared.cause.Cause.TheVariants as cause
use Rattle.gx_rows.specs.declared.eval_stop.EvalStop.{EvalStop}
use Rattle.gx_rows.specs.declared.value.Value.{Value}
use Rattle.gx_rows.specs.declared.value.Value.TheVariants as value
use Rattle.gx_rows.specs.declared.vid.Vid.{Vid}
use Rattle.gx_expr.specs.Evaluates.{EvaluatesTo}
use Rattle.gx_expr.specs.Evaluation.{EvalResult, ScopeValues, arithmetic_result, at_node, binary_result, bounded_list, bounded_text, bytes_of, call_result, decided, ids_of, eval_binary, eval_call, eval_layer, eval_result, eval_result-roll, eval_right, eval_three, exact_int, id_value, int_of_value, int_result, absolute, size_of, truth_of_value, unary_result, value_or_zero, with_entry}
use Rattle.gx_expr.specs.declared.expr.Expr.{Expr, roll-Expr, map-Expr}
use Rattle.gx_expr.specs.declared.expr.Expr.TheOpen.{Expr-F}
use Rattle.gx_expr.specs.declared.expr.Expr.TheOpen as layer
use Rattle.gx_expr.specs.declared.expr.Expr.TheFolds.{ind-Expr}
use Rattle.gx_expr.specs.declared.operators.BinaryOp.{BinaryOp}
use Rattle.gx_expr.specs.declared.operators.BinaryOp.TheVariants as binary
use Rattle.gx_expr.specs.declared.operators.Function.{Function}
use Rattle.gx_expr.specs.declared.operators.Function.TheVariants as function
use Rattle.gx_expr.specs.declared.operators.UnaryOp.{UnaryOp}
use Rattle.gx_expr.specs.declared.operators.UnaryOp.TheVariants as unary
use Rattle.gx_expr.specs.Soundness.{IsBoundedResult, IsBoundedScope, constants_in, constants_in_layer, constants_in-roll}

abbrev HasBoundedValue : EvalResult → Type 0
HasBoundedValue (Ok v) = IsBoundedValue v
HasBoundedValue (Err f) = ⊤

int-bounded : (n : ℕ) (r : Result ℤ Cause) → HasBoundedValue (at_node n (int_result r))
int-bounded n (Ok z) = tt
int-bounded n (Err c) = tt

text-bounded : (n : ℕ) (bytes : List ℕ) → HasBoundedValue (at_node n (bounded_text bytes))
text-bounded n bytes = go (nat_le (length bytes) 1024) refl
  where
    go : (b : Bool) → nat_le (length bytes) 1024 ≡ b → HasBoundedValue (at_node n (if b then Ok (value.Text bytes) else Err cause.TextTooLong))
    go true e = leb-true (length bytes) 1024 e
    go false e = tt

list-bounded : (n : ℕ) (ids : List ℤ) → HasBoundedValue (at_node n (bounded_list ids))
list-bounded n ids = go (nat_le (length ids) 1000000) refl
  where
    go : (b : Bool) → nat_le (length ids) 1000000 ≡ b → HasBoundedValue (at_node n (if b then Ok (value.Ids ids) else Err cause.ListTooLong))
    go true e = leb-true (length ids) 1000000 e
    go false e = tt

unary-bounded : (n : ℕ) (o : UnaryOp) (x : Value) → HasBoundedValue (at_node n (unary_result o x))
unary-bounded n unary.Neg x = int-bounded n (exact_int (neg_ℤ (int_of_value x)))
unary-bounded n unary.Not x = tt

binary-bounded : (n : ℕ) (o : BinaryOp) (x y : Value) → HasBoundedValue (at_node n (binary_result o x y))
binary-bounded n binary.Add x y = int-bounded n (arithmetic_result binary.Add (int_of_value x) (int_of_value y))
binary-bounded n binary.Sub x y = int-bounded n (arithmetic_result binary.Sub (int_of_value x) (int_of_value y))
binary-bounded n binary.Mul x y = int-bounded n (arithmetic_result binary.Mul (int_of_value x) (int_of_value y))
binary-bounded n binary.Div x y = int-bounded n (arithmetic_result binary.Div (int_of_value x) (int_of_value y))
binary-bounded n binary.Rem x y = int-bounded n (arithmetic_result binary.Rem (int_of_value x) (int_of_value y))
binary-bounded n _ x y = tt

right-bounded : (n : ℕ) (o : BinaryOp) (x : Value) (truth : Option Bool) (r : EvalResult) → HasBoundedValue (eval_right n o x truth r)
right-bounded n o x (Some truth) r = tt
right-bounded n o x None (Ok y) = binary-bounded n o x y
right-bounded n o x None (Err f) = tt

call_none-bounded : (n : ℕ) (f : Function) → HasBoundedValue (at_node n (call_result f []))
call_none-bounded n function.Ids = lit≤ tt
call_none-bounded n _ = tt

call_one-bounded : (n : ℕ) (f : Function) (x : Value) → HasBoundedValue (at_node n (call_result f (x ∷ [])))
call_one-bounded n function.Abs x = int-bounded n (exact_int (absolute (int_of_value x)))
call_one-bounded n function.Len x = int-bounded n (exact_int (pos (size_of x)))
call_one-bounded n function.Text x = text-bounded n (signed_decimal (int_of_value x))
call_one-bounded n _ x = tt

call_two-bounded : (n : ℕ) (f : Function) (x y : Value) → IsBoundedValue x → IsBoundedValue y → HasBoundedValue (at_node n (call_result f (x ∷ y ∷ [])))
call_two-bounded n function.Min x y h k = pick (is_le (value_cmp x y))
  where
    pick : (c : Bool) → IsBoundedValue (if c then x else y)
    pick true = h
    pick false = k
call_two-bounded n function.Max x y h k = pick (is_le (value_cmp x y))
  where
    pick : (c : Bool) → IsBoundedValue (if c then y else x)
    pick true = k
    pick false = h
call_two-bounded n function.Concat x y h k = text-bounded n (bytes_of x ++ bytes_of y)
call_two-bounded n function.Add x y h k = list-bounded n (with_entry (ids_of x) (int_of_value y))
call_two-bounded n _ x y h k = tt

eval_call-bounded : (n : ℕ) (f : Function) (rs : List EvalResult) → All HasBoundedValue rs → HasBoundedValue (eval_call n f rs)
eval_call-bounded n f [] all = call_none-bounded n f
eval_call-bounded n f (Err e ∷ []) all = tt
eval_call-bounded n f (Ok x ∷ []) all = call_one-bounded n f x
eval_call-bounded n f (Err e ∷ q ∷ []) all = tt
eval_call-bounded n f (Ok x ∷ Err e ∷ []) all = tt
eval_call-bounded n f (Ok x ∷ Ok y ∷ []) all =
    call_two-bounded n f x y (All-head HasBoundedValue (Ok x) (Ok y ∷ []) all) (All-head HasBoundedValue (Ok y) [] (All-tail HasBoundedValue (Ok x) (Ok y ∷ []) all))
eval_call-bounded n f (p ∷ r ∷ q ∷ []) all =
    let rest = All-tail HasBoundedValue p (r ∷ q ∷ []) all in
    three f p (All-head HasBoundedValue r (q ∷ []) rest) (All-head HasBoundedValue q [] (All-tail HasBoundedValue r (q ∷ []) rest))
  where
    pick : (c : Bool) → HasBoundedValue r → HasBoundedValue q → HasBoundedValue (if c then r else q)
    pick true h k = h
    pick false h k = k

    three : (f : Function) (p : EvalResult) → HasBoundedValue r → HasBoundedValue q → HasBoundedValue (eval_three f p r q)
    three function.If (Ok x) h k = pick (truth_of_value x) h k
    three function.If (Err e) h k = tt
    three _ p h k = tt
eval_call-bounded n f (a ∷ b ∷ c ∷ d ∷ rs) all = tt

all-left : {A : Type 0} (P : A → Type 0) (xs ys : List A) → All P (xs ++ ys) → All P xs
all-left P [] ys all = All-nil P
all-left P (x ∷ xs) ys all = All-cons P x xs (All-head P x (xs ++ ys) all) (all-left P xs ys (All-tail P x (xs ++ ys) all))

all-right : {A : Type 0} (P : A → Type 0) (xs ys : List A) → All P (xs ++ ys) → All P ys
all-right P [] ys all = all
all-right P (x ∷ xs) ys all = all-right P xs ys (All-tail P x (xs ++ ys) all)

module _ (s : ScopeValues) (bounded : IsBoundedScope s) where
  abbrev GivesBounded : Expr → Type 0
  GivesBounded e = All IsBoundedValue (constants_in e) → HasBoundedValue (eval_result s e)

  abbrev BoundedOperand : Type 0
  BoundedOperand = (e : Expr) × GivesBounded e

  column-bounded : (v : Option Value) → ((x : Value) → v ≡ Some x → IsBoundedValue x) → IsBoundedValue (value_or_zero v)
  column-bounded (Some x) h = h x refl
  column-bounded None h = tt

  id-bounded : (v : Option Vid) → IsBoundedValue (id_value v)
  id-bounded (Some v) = tt
  id-bounded None = tt

  unary_layer-bounded : (n : ℕ) (o : UnaryOp) (r : EvalResult) → HasBoundedValue (r >>= λ x. at_node n (unary_result o x))
  unary_layer-bounded n o (Ok x) = unary-bounded n o x
  unary_layer-bounded n o (Err f) = tt

  binary_layer-bounded : (n : ℕ) (o : BinaryOp) (r q : EvalResult) → HasBoundedValue (eval_binary n o r q)
  binary_layer-bounded n o (Ok x) q = right-bounded n o x (decided o (truth_of_value x)) q
  binary_layer-bounded n o (Err f) q = tt

  operands-bounded : (ys : List BoundedOperand) → All IsBoundedValue (flat_map (λ x. x) (map constants_in (map (λ y. y.0) ys))) → All HasBoundedValue (map (eval_result s) (map (λ y. y.0) ys))
  operands-bounded [] all = All-nil HasBoundedValue
  operands-bounded (y ∷ ys) all =
      let rest = flat_map (λ x. x) (map constants_in (map (λ y. y.0) ys)) in
      All-cons HasBoundedValue (eval_result s y.0) (map (eval_result s) (map (λ y. y.0) ys))
      (y.1 (all-left IsBoundedValue (constants_in y.0) rest all))
      (operands-bounded ys (all-right IsBoundedValue (constants_in y.0) rest all))

  layer-bounded : (y : Expr-F BoundedOperand) → let z = map-Expr BoundedOperand Expr (λ y. y.0) y in
      All IsBoundedValue (constants_in_layer (map-Expr Expr (List Value) constants_in z)) → HasBoundedValue (eval_layer s (map-Expr Expr EvalResult (eval_result s) z))
  layer-bounded (layer.Const n v) all = All-head IsBoundedValue v [] all
  layer-bounded (layer.Column n side i) all = column-bounded (slice_get (s.columns side) i) (bounded side i)
  layer-bounded (layer.Id n side) all = id-bounded (s.id side)
  layer-bounded (layer.Matched n) all = tt
  layer-bounded (layer.Unary n o a) all = unary_layer-bounded n o (eval_result s a.0)
  layer-bounded (layer.Binary n o a b) all = binary_layer-bounded n o (eval_result s a.0) (eval_result s b.0)
  layer-bounded (layer.Call n f ys) all = eval_call-bounded n f (map (eval_result s) (map (λ y. y.0) ys)) (operands-bounded ys all)

  each-bounded : (e : Expr) → GivesBounded e
  each-bounded = ind-Expr GivesBounded (λ x y is.
      let z = map-Expr BoundedOperand Expr (λ y. y.0) y in
      let rolled : GivesBounded (roll-Expr z) = rw (constants_in-roll z, eval_result-roll s z) (layer-bounded y) in
      subst (λ z. GivesBounded (roll-Expr z)) is rolled)

pub eval_result-bounded : (s : ScopeValues) (e : Expr) (v : Value) → IsBoundedScope s → All IsBoundedValue (constants_in e) → eval_result s e ≡ Ok v → IsBoundedValue v
eval_result-bounded s e v bounded constants result = let h = each-bounded s bounded e constants in rw result at h

pub evaluates-bounded : (s : ScopeValues) (e : Expr) (r : Result Value EvalStop) → EvaluatesTo r (eval_result s e) → IfOk r (IsBoundedResult s e)
evaluates-bounded s e (Ok v) h = λ bounded constants. eval_result-bounded s e v bounded constants h
evaluates-bounded s e (Err f) h = tt
