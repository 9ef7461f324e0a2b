-- A well-typed expression has a value of its kind.
use Rattle.std.specs.Prelude.{◌≡◌, ℕ, ℤ, pos, neg_ℤ, Bool, true, false, if◌then◌else◌, nat_le, Option, None, Some, Result, Ok, Err, IfOk, List, [], ◌∷◌, ◌++◌, length, map, slice_get, ⊤, refl}
use Rattle.std.proofs.Common.{subst}
use Rattle.std.specs.Fmt.{signed_decimal}
use Rattle.std.specs.Ordering.{is_le}
use Rattle.std.specs.Option.{option_and_then, option_map}
use Rattle.gx_rows.specs.Bounds.{MOST_LIST_ENTRIES, MOST_TEXT_BYTES}
use Rattle.gx_rows.specs.Kinds.{kind_of}
use Rattle.gx_rows.specs.Order.{value_cmp}
use Rattle.gx_rows.specs.Results.{◌>>=◌}
use Rattle.gx_rows.specs.declared.cause.Cause.{Cause}
use Rattle.gx_rows.specs.declared.cause.Cause.TheVariants as cause
use Rattle.gx_rows.specs.declared.eval_stop.EvalStop.{EvalStop}
use Rattle.gx_rows.specs.declared.value.Value.{Value}
use Rattle.gx_rows.specs.declared.value.Value.TheVariants as value
use Rattle.gx_rows.specs.declared.value.ValueKind.{ValueKind}
use Rattle.gx_rows.specs.declared.value.ValueKind.TheVariants as kind
use Rattle.gx_rows.specs.declared.vid.Vid.{Vid}
use Rattle.gx_expr.specs.Evaluates.{EvaluatesTo}
use Rattle.gx_expr.specs.Evaluation.{EvalResult, ScopeValues, arithmetic_result, at_node, binary_result, bounded_list, bounded_text, bytes_of, call_result, decided, ids_of, eval_binary, eval_call, eval_layer, eval_result, eval_result-roll, eval_right, eval_three, exact_int, id_value, int_of_value, int_result, absolute, size_of, truth_of_value, unary_result, value_or_zero, with_entry}
use Rattle.gx_expr.specs.Typing.{ScopeType, all_some, kind_of_binary, kind_of_call, kind_of_expr, kind_of_expr-roll, kind_of_layer, kind_of_unary, of_alike, of_bools, of_ints}
use Rattle.gx_expr.specs.declared.expr.Expr.{Expr, roll-Expr, map-Expr}
use Rattle.gx_expr.specs.declared.expr.Expr.TheOpen.{Expr-F}
use Rattle.gx_expr.specs.declared.expr.Expr.TheOpen as layer
use Rattle.gx_expr.specs.declared.expr.Expr.TheFolds.{ind-Expr}
use Rattle.gx_expr.specs.declared.operators.BinaryOp.{BinaryOp}
use Rattle.gx_expr.specs.declared.operators.BinaryOp.TheVariants as binary
use Rattle.gx_expr.specs.declared.operators.Function.{Function}
use Rattle.gx_expr.specs.declared.operators.Function.TheVariants as function
use Rattle.gx_expr.specs.declared.operators.UnaryOp.{UnaryOp}
use Rattle.gx_expr.specs.declared.operators.UnaryOp.TheVariants as unary
use Rattle.gx_expr.specs.Soundness.{HasItsKind, Suits}

-- the value of a result, if it has one, is of the kind, if there is one
abbrev HasKind : Option ValueKind → EvalResult → Type 0
HasKind None r = ⊤
HasKind (Some k) (Ok v) = kind_of v ≡ k
HasKind (Some k) (Err f) = ⊤

fault-has : (o : Option ValueKind) (f : Cause × ℕ) → HasKind o (Err f)
fault-has None f = tt
fault-has (Some k) f = tt

int-has : (n : ℕ) (r : Result ℤ Cause) → HasKind (Some kind.Int) (at_node n (int_result r))
int-has n (Ok z) = refl
int-has n (Err c) = tt

text-has : (n : ℕ) (bytes : List ℕ) → HasKind (Some kind.Text) (at_node n (bounded_text bytes))
text-has n bytes = go (nat_le (length bytes) MOST_TEXT_BYTES)
  where
    go : (b : Bool) → HasKind (Some kind.Text) (at_node n (if b then Ok (value.Text bytes) else Err cause.TextTooLong))
    go true = refl
    go false = tt

list-has : (n : ℕ) (ids : List ℤ) → HasKind (Some kind.Ids) (at_node n (bounded_list ids))
list-has n ids = go (nat_le (length ids) MOST_LIST_ENTRIES)
  where
    go : (b : Bool) → HasKind (Some kind.Ids) (at_node n (if b then Ok (value.Ids ids) else Err cause.ListTooLong))
    go true = refl
    go false = tt

ints-have : (a b g : ValueKind) (r : EvalResult) → HasKind (Some g) r → HasKind (of_ints a b g) r
ints-have kind.Int kind.Int g r h = h
ints-have _ _ g r h = tt

bools-have : (a b g : ValueKind) (r : EvalResult) → HasKind (Some g) r → HasKind (of_bools a b g) r
bools-have kind.Bool kind.Bool g r h = h
bools-have _ _ g r h = tt

alike-have : (a b g : ValueKind) (r : EvalResult) → HasKind (Some g) r → HasKind (of_alike a b g) r
alike-have kind.Int kind.Int g r h = h
alike-have kind.Text kind.Text g r h = h
alike-have kind.Bool kind.Bool g r h = h
alike-have kind.Ids kind.Ids g r h = h
alike-have _ _ g r h = tt

alike-have_right : (a b : ValueKind) (r : EvalResult) → HasKind (Some b) r → HasKind (of_alike a b a) r
alike-have_right kind.Int kind.Int r h = h
alike-have_right kind.Text kind.Text r h = h
alike-have_right kind.Bool kind.Bool r h = h
alike-have_right kind.Ids kind.Ids r h = h
alike-have_right _ _ r h = tt

alike-have_one : (a b : ValueKind) (r q : EvalResult) (c : Bool) → HasKind (Some a) r → HasKind (Some b) q → HasKind (of_alike a b a) (if c then r else q)
alike-have_one a b r q true h k = alike-have a b a r h
alike-have_one a b r q false h k = alike-have_right a b q k

unary-has : (n : ℕ) (o : UnaryOp) (x : Value) (a : ValueKind) → HasKind (kind_of_unary o a) (at_node n (unary_result o x))
unary-has n unary.Neg x kind.Int = int-has n (exact_int (neg_ℤ (int_of_value x)))
unary-has n unary.Neg x _ = tt
unary-has n unary.Not x kind.Bool = refl
unary-has n unary.Not x _ = tt

binary-has : (n : ℕ) (o : BinaryOp) (x y : Value) (a b : ValueKind) → HasKind (kind_of_binary o a b) (at_node n (binary_result o x y))
binary-has n binary.Add x y a b = ints-have a b kind.Int (at_node n (binary_result binary.Add x y)) (int-has n (arithmetic_result binary.Add (int_of_value x) (int_of_value y)))
binary-has n binary.Sub x y a b = ints-have a b kind.Int (at_node n (binary_result binary.Sub x y)) (int-has n (arithmetic_result binary.Sub (int_of_value x) (int_of_value y)))
binary-has n binary.Mul x y a b = ints-have a b kind.Int (at_node n (binary_result binary.Mul x y)) (int-has n (arithmetic_result binary.Mul (int_of_value x) (int_of_value y)))
binary-has n binary.Div x y a b = ints-have a b kind.Int (at_node n (binary_result binary.Div x y)) (int-has n (arithmetic_result binary.Div (int_of_value x) (int_of_value y)))
binary-has n binary.Rem x y a b = ints-have a b kind.Int (at_node n (binary_result binary.Rem x y)) (int-has n (arithmetic_result binary.Rem (int_of_value x) (int_of_value y)))
binary-has n binary.And x y a b = bools-have a b kind.Bool (at_node n (binary_result binary.And x y)) refl
binary-has n binary.Or x y a b = bools-have a b kind.Bool (at_node n (binary_result binary.Or x y)) refl
binary-has n o x y a b = alike-have a b kind.Bool (at_node n (binary_result o x y)) refl

undecided-has : (n : ℕ) (o : BinaryOp) (x : Value) (a b : ValueKind) (r : EvalResult) → HasKind (kind_of_binary o a b) (eval_right n o x None r)
undecided-has n o x a b (Ok y) = binary-has n o x y a b
undecided-has n o x a b (Err f) = fault-has (kind_of_binary o a b) f

right-has : (n : ℕ) (o : BinaryOp) (x : Value) (a b : ValueKind) (truth : Bool) (r : EvalResult) → HasKind (kind_of_binary o a b) (eval_right n o x (decided o truth) r)
right-has n binary.And x a b false r = bools-have a b kind.Bool (Ok (value.Bool false)) refl
right-has n binary.And x a b true r = undecided-has n binary.And x a b r
right-has n binary.Or x a b true r = bools-have a b kind.Bool (Ok (value.Bool true)) refl
right-has n binary.Or x a b false r = undecided-has n binary.Or x a b r
right-has n o x a b truth r = undecided-has n o x a b r

eval_binary-has : (n : ℕ) (o : BinaryOp) (a b : Option ValueKind) (r q : EvalResult) → HasKind (option_and_then (λ x. option_and_then (kind_of_binary o x) b) a) (eval_binary n o r q)
eval_binary-has n o None b r q = tt
eval_binary-has n o (Some a) None r q = tt
eval_binary-has n o (Some a) (Some b) (Err f) q = fault-has (kind_of_binary o a b) f
eval_binary-has n o (Some a) (Some b) (Ok x) q = right-has n o x a b (truth_of_value x) q

-- the kind of a call with these kinds of arguments, each of which there may not be
abbrev call_kind : Function → List (Option ValueKind) → Option ValueKind
call_kind f os = option_and_then (kind_of_call f) (all_some os)

one-has : (n : ℕ) (f : Function) (a : ValueKind) (x : Value) → HasKind (kind_of_call f (a ∷ [])) (at_node n (call_result f (x ∷ [])))
one-has n function.Abs kind.Int x = int-has n (exact_int (absolute (int_of_value x)))
one-has n function.Abs _ x = tt
one-has n function.Len kind.Text x = int-has n (exact_int (pos (size_of x)))
one-has n function.Len kind.Ids x = int-has n (exact_int (pos (size_of x)))
one-has n function.Len _ x = tt
one-has n function.Text kind.Int x = text-has n (signed_decimal (int_of_value x))
one-has n function.Text _ x = tt
one-has n function.If kind.Bool x = tt
one-has n function.Concat kind.Text x = tt
one-has n function.Add kind.Ids x = tt
one-has n function.Has kind.Ids x = tt
one-has n _ _ x = tt

two-has : (n : ℕ) (f : Function) (a b : ValueKind) (x y : Value) → kind_of x ≡ a → kind_of y ≡ b → HasKind (kind_of_call f (a ∷ b ∷ [])) (at_node n (call_result f (x ∷ y ∷ [])))
two-has n function.Min a b x y h k = pick (is_le (value_cmp x y))
  where
    pick : (c : Bool) → HasKind (of_alike a b a) (Ok (if c then x else y))
    pick true = alike-have a b a (Ok x) h
    pick false = alike-have_right a b (Ok y) k
two-has n function.Max a b x y h k = pick (is_le (value_cmp x y))
  where
    pick : (c : Bool) → HasKind (of_alike a b a) (Ok (if c then y else x))
    pick true = alike-have_right a b (Ok y) k
    pick false = alike-have a b a (Ok x) h
two-has n function.Concat kind.Text kind.Text x y h k = text-has n (bytes_of x ++ bytes_of y)
two-has n function.Concat kind.Text _ x y h k = tt
two-has n function.Concat _ _ x y h k = tt
two-has n function.Add kind.Ids kind.Int x y h k = list-has n (with_entry (ids_of x) (int_of_value y))
two-has n function.Add kind.Ids _ x y h k = tt
two-has n function.Add _ _ x y h k = tt
two-has n function.Has kind.Ids kind.Int x y h k = refl
two-has n function.Has kind.Ids _ x y h k = tt
two-has n function.Has _ _ x y h k = tt
two-has n function.If kind.Bool _ x y h k = tt
two-has n function.Abs kind.Int _ x y h k = tt
two-has n function.Len kind.Text _ x y h k = tt
two-has n function.Len kind.Ids _ x y h k = tt
two-has n function.Text kind.Int _ x y h k = tt
two-has n _ _ _ x y h k = tt

three-has : (n : ℕ) (f : Function) (c a b : ValueKind) (p r q : EvalResult) → HasKind (Some a) r → HasKind (Some b) q → HasKind (kind_of_call f (c ∷ a ∷ b ∷ [])) (eval_three f p r q)
three-has n function.If kind.Bool a b (Ok x) r q h k = alike-have_one a b r q (truth_of_value x) h k
three-has n function.If kind.Bool a b (Err f) r q h k = fault-has (of_alike a b a) f
three-has n function.Min c a b p r q h k = tt
three-has n function.Max c a b p r q h k = tt
three-has n function.Abs kind.Int a b p r q h k = tt
three-has n function.Len kind.Text a b p r q h k = tt
three-has n function.Len kind.Ids a b p r q h k = tt
three-has n function.Text kind.Int a b p r q h k = tt
three-has n function.Concat kind.Text kind.Text b p r q h k = tt
three-has n function.Add kind.Ids kind.Int b p r q h k = tt
three-has n function.Has kind.Ids kind.Int b p r q h k = tt
three-has n _ _ _ _ p r q h k = tt

many-have : (f : Function) (a b c d : ValueKind) (rest : List ValueKind) (r : EvalResult) → HasKind (kind_of_call f (a ∷ b ∷ c ∷ d ∷ rest)) r
many-have function.If kind.Bool b c d rest r = tt
many-have function.Abs kind.Int b c d rest r = tt
many-have function.Len kind.Text b c d rest r = tt
many-have function.Len kind.Ids b c d rest r = tt
many-have function.Text kind.Int b c d rest r = tt
many-have function.Add kind.Ids kind.Int c d rest r = tt
many-have function.Has kind.Ids kind.Int c d rest r = tt
many-have function.Concat kind.Text kind.Text c d rest r = tt
many-have _ _ _ c d rest r = tt

column-has : (o : Option ValueKind) (v : Option Value) → ((k : ValueKind) → o ≡ Some k → option_map kind_of v ≡ Some k) → HasKind o (Ok (value_or_zero v))
column-has None v h = tt
column-has (Some k) (Some x) h = let e = h k refl in cc
column-has (Some k) None h = let e = h k refl in cc

id-has : (has : Bool) (v : Option Vid) → HasKind (if has then Some kind.Int else None) (Ok (id_value v))
id-has true (Some v) = refl
id-has true None = refl
id-has false v = tt

matched-has : (has : Bool) (truth : Bool) → HasKind (if has then Some kind.Bool else None) (Ok (value.Bool truth))
matched-has true truth = refl
matched-has false truth = tt

eval_unary-has : (n : ℕ) (o : UnaryOp) (a : Option ValueKind) (r : EvalResult) → HasKind (option_and_then (kind_of_unary o) a) (r >>= λ x. at_node n (unary_result o x))
eval_unary-has n o None r = tt
eval_unary-has n o (Some a) (Ok x) = unary-has n o x a
eval_unary-has n o (Some a) (Err f) = fault-has (kind_of_unary o a) f

none-has : (n : ℕ) (f : Function) → HasKind (kind_of_call f []) (at_node n (call_result f []))
none-has n function.Ids = refl
none-has n _ = tt

call_one-has : (n : ℕ) (f : Function) (a : Option ValueKind) (r : EvalResult) → HasKind (call_kind f (a ∷ [])) (eval_call n f (r ∷ []))
call_one-has n f None r = tt
call_one-has n f (Some a) (Ok x) = one-has n f a x
call_one-has n f (Some a) (Err e) = fault-has (kind_of_call f (a ∷ [])) e

call_two-has : (n : ℕ) (f : Function) (a b : Option ValueKind) (r q : EvalResult) → HasKind a r → HasKind b q → HasKind (call_kind f (a ∷ b ∷ [])) (eval_call n f (r ∷ q ∷ []))
call_two-has n f None b r q h k = tt
call_two-has n f (Some a) None r q h k = tt
call_two-has n f (Some a) (Some b) (Err e) q h k = fault-has (kind_of_call f (a ∷ b ∷ [])) e
call_two-has n f (Some a) (Some b) (Ok x) (Err e) h k = fault-has (kind_of_call f (a ∷ b ∷ [])) e
call_two-has n f (Some a) (Some b) (Ok x) (Ok y) h k = two-has n f a b x y h k

call_three-has : (n : ℕ) (f : Function) (c a b : Option ValueKind) (p r q : EvalResult) → HasKind a r → HasKind b q → HasKind (call_kind f (c ∷ a ∷ b ∷ [])) (eval_call n f (p ∷ r ∷ q ∷ []))
call_three-has n f None a b p r q h k = tt
call_three-has n f (Some c) None b p r q h k = tt
call_three-has n f (Some c) (Some a) None p r q h k = tt
call_three-has n f (Some c) (Some a) (Some b) p r q h k = three-has n f c a b p r q h k

-- the kinds of four arguments and of the rest
abbrev all_some-four : (a b c d : Option ValueKind) → Option (List ValueKind) → Option (List ValueKind)
all_some-four None b c d rest = None
all_some-four (Some a) None c d rest = None
all_some-four (Some a) (Some b) None d rest = None
all_some-four (Some a) (Some b) (Some c) None rest = None
all_some-four (Some a) (Some b) (Some c) (Some d) rest = option_map (λ xs. a ∷ b ∷ c ∷ d ∷ xs) rest

four-is : (a b c d : Option ValueKind) (rest : List (Option ValueKind)) → all_some (a ∷ b ∷ c ∷ d ∷ rest) ≡ all_some-four a b c d (all_some rest)
four-is None b c d rest = refl
four-is (Some a) None c d rest = refl
four-is (Some a) (Some b) None d rest = refl
four-is (Some a) (Some b) (Some c) None rest = refl
four-is (Some a) (Some b) (Some c) (Some d) rest = go (all_some rest)
  where
    go : (o : Option (List ValueKind)) → option_map (λ xs. a ∷ xs) (option_map (λ xs. b ∷ xs) (option_map (λ xs. c ∷ xs) (option_map (λ xs. d ∷ xs) o))) ≡ option_map (λ xs. a ∷ b ∷ c ∷ d ∷ xs) o
    go (Some xs) = refl
    go None = refl

call_many-has : (f : Function) (a b c d : Option ValueKind) (rest : Option (List ValueKind)) (r : EvalResult)
    → HasKind (option_and_then (kind_of_call f) (all_some-four a b c d rest)) r
call_many-has f None b c d rest r = tt
call_many-has f (Some a) None c d rest r = tt
call_many-has f (Some a) (Some b) None d rest r = tt
call_many-has f (Some a) (Some b) (Some c) None rest r = tt
call_many-has f (Some a) (Some b) (Some c) (Some d) None r = tt
call_many-has f (Some a) (Some b) (Some c) (Some d) (Some rest) r = many-have f a b c d rest r

-- ---- trees

module _ (t : ScopeType) (s : ScopeValues) (suits : Suits t s) where
  abbrev HasItsKindIn : Expr → Type 0
  HasItsKindIn e = HasKind (kind_of_expr t e) (eval_result s e)

  abbrev Operand : Type 0
  Operand = (e : Expr) × HasItsKindIn e

  abbrev HasItsKindLayer : Expr-F Expr → Type 0
  HasItsKindLayer x = HasKind (kind_of_layer t (map-Expr Expr (Option ValueKind) (kind_of_expr t) x)) (eval_layer s (map-Expr Expr EvalResult (eval_result s) x))

  call-has : (n : ℕ) (f : Function) (ys : List Operand) → HasItsKindLayer (layer.Call n f (map (λ y. y.0) ys))
  call-has n f [] = none-has n f
  call-has n f (a ∷ []) = call_one-has n f (kind_of_expr t a.0) (eval_result s a.0)
  call-has n f (a ∷ b ∷ []) = call_two-has n f (kind_of_expr t a.0) (kind_of_expr t b.0) (eval_result s a.0) (eval_result s b.0) a.1 b.1
  call-has n f (c ∷ a ∷ b ∷ []) = call_three-has n f (kind_of_expr t c.0) (kind_of_expr t a.0) (kind_of_expr t b.0) (eval_result s c.0) (eval_result s a.0) (eval_result s b.0) a.1 b.1
  call-has n f (a ∷ b ∷ c ∷ d ∷ ys) =
      rw (four-is (kind_of_expr t a.0) (kind_of_expr t b.0) (kind_of_expr t c.0) (kind_of_expr t d.0) (map (kind_of_expr t) (map (λ y. y.0) ys)))
      (call_many-has f (kind_of_expr t a.0) (kind_of_expr t b.0) (kind_of_expr t c.0) (kind_of_expr t d.0) (all_some (map (kind_of_expr t) (map (λ y. y.0) ys))) (Ok (value.Int (pos 0))))

  layer-has : (y : Expr-F Operand) → HasItsKindLayer (map-Expr Operand Expr (λ y. y.0) y)
  layer-has (layer.Const n v) = refl
  layer-has (layer.Column n side i) = column-has (slice_get (t.columns side) i) (slice_get (s.columns side) i) (suits.columns side i)
  layer-has (layer.Id n side) = id-has (t.has_id side) (s.id side)
  layer-has (layer.Matched n) = matched-has t.has_matched s.matched
  layer-has (layer.Unary n o a) = eval_unary-has n o (kind_of_expr t a.0) (eval_result s a.0)
  layer-has (layer.Binary n o a b) = eval_binary-has n o (kind_of_expr t a.0) (kind_of_expr t b.0) (eval_result s a.0) (eval_result s b.0)
  layer-has (layer.Call n f ys) = call-has n f ys

  each-has : (e : Expr) → HasItsKindIn e
  each-has = ind-Expr HasItsKindIn (λ x y is.
      let z = map-Expr Operand Expr (λ y. y.0) y in
      let rolled : HasItsKindIn (roll-Expr z) = rw (kind_of_expr-roll t z, eval_result-roll s z) (layer-has y) in
      subst (λ z. HasItsKindIn (roll-Expr z)) is rolled)

pub eval_result-kind : (t : ScopeType) (s : ScopeValues) (e : Expr) (k : ValueKind) (v : Value) → Suits t s → kind_of_expr t e ≡ Some k → eval_result s e ≡ Ok v → kind_of v ≡ k
eval_result-kind t s e k v suits typed result = let h = each-has t s suits e in rw (typed, result) at h

pub evaluates-kind : (s : ScopeValues) (e : Expr) (r : Result Value EvalStop) → EvaluatesTo r (eval_result s e) → IfOk r (HasItsKind s e)
evaluates-kind s e (Ok v) h = λ t k suits typed. eval_result-kind t s e k v suits typed h
evaluates-kind s e (Err f) h = tt
