-- What an expression evaluates to.
--
-- To add an operator or a function, add its line here and in specs/Typing.antt. Every expression has
-- a result, so that a definition needs no premise: what a scope does not have counts as the number
-- 0, and so does a call with a wrong number of arguments; an operand of a kind that an operation
-- does not take counts as 0, false or empty. A well-typed expression meets none of these.
use Rattle.std.specs.Prelude.{◌≡◌, ℕ, ◌^◌, ◌++◌, nat_lt, nat_le, ℤ, pos, negsuc, ◌+ℤ◌, ◌-ℤ◌, ◌*ℤ◌, neg_ℤ, unsigned_abs, int_le, int_div, int_rem, Bool, true, false, not, ◌&&◌, ◌||◌, if◌then◌else◌, Option, None, Some, Result, Ok, Err, List, [], ◌∷◌, length, slice_get, replicate, codes, refl}
use Rattle.std.specs.Fmt.{signed_decimal}
use Rattle.std.specs.List.{list_any}
use Rattle.std.specs.Ordering.{int_eq, is_eq, is_ne, is_lt, is_le, is_gt, is_ge}
use Rattle.std.specs.declared.cmp.Ordering.{Ordering}
use Rattle.gx_rows.specs.Bounds.{MOST_TEXT_BYTES, MOST_LIST_ENTRIES}
use Rattle.gx_rows.specs.Order.{value_cmp}
use Rattle.gx_rows.specs.Results.{◌>>=◌, try_cons}
use Rattle.gx_rows.specs.declared.cause.Cause.{Cause}
use Rattle.gx_rows.specs.declared.cause.Cause.TheVariants as cause
use Rattle.gx_rows.specs.declared.value.Value.{Value}
use Rattle.gx_rows.specs.declared.value.Value.TheVariants as value
use Rattle.gx_rows.specs.declared.vid.Vid.{Vid}
use Rattle.gx_expr.specs.declared.expr.Expr.{Expr, roll-Expr, map-Expr}
use Rattle.gx_expr.specs.declared.expr.Expr.TheOpen.{Expr-F}
use Rattle.gx_expr.specs.declared.expr.Expr.TheOpen as layer
use Rattle.gx_expr.specs.declared.expr.Expr.TheFolds.{fold-Expr, fold-roll-Expr}
use Rattle.gx_expr.specs.declared.operators.BinaryOp.{BinaryOp}
use Rattle.gx_expr.specs.declared.operators.BinaryOp.TheVariants as binary
use Rattle.gx_expr.specs.declared.operators.Function.{Function}
use Rattle.gx_expr.specs.declared.operators.Function.TheVariants as function
use Rattle.gx_expr.specs.declared.operators.UnaryOp.{UnaryOp}
use Rattle.gx_expr.specs.declared.operators.UnaryOp.TheVariants as unary
use Rattle.gx_expr.specs.declared.side.Side.{Side}

-- what an expression may read: the columns and the identifier of each side, and `matched`
pub record ScopeValues : Type 0 where
  pub columns : Side → List Value
  pub id : Side → Option Vid
  pub matched : Bool

-- the number of a value
abbrev pub int_of_value : Value → ℤ
int_of_value (value.Int number) = number
int_of_value _ = pos 0

-- the truth of a value
abbrev pub truth_of_value : Value → Bool
truth_of_value (value.Bool truth) = truth
truth_of_value _ = false

-- the bytes of a text
abbrev pub bytes_of : Value → List ℕ
bytes_of (value.Text bytes) = bytes
bytes_of _ = []

-- the entries of a list
abbrev pub ids_of : Value → List ℤ
ids_of (value.Ids ids) = ids
ids_of _ = []

-- ---- operators on numbers

-- a signed number of 64 bits
abbrev pub fits_signed_64 : ℤ → Bool
fits_signed_64 (pos n) = nat_lt n (2 ^ 63)
fits_signed_64 (negsuc n) = nat_lt n (2 ^ 63)

-- the exact number, if 64 bits have it
abbrev pub exact_int : ℤ → Result ℤ Cause
exact_int z = if fits_signed_64 z then Ok z else Err cause.Overflow

-- truncated toward zero
abbrev pub quotient : ℤ → ℤ → Result ℤ Cause
quotient a b = if int_eq b (pos 0) then Err cause.DivideByZero else exact_int (int_div a b)

-- with the sign of the dividend
abbrev pub remainder : ℤ → ℤ → Result ℤ Cause
remainder a b = if int_eq b (pos 0) then Err cause.DivideByZero else Ok (int_rem a b)

-- the number that an operator on numbers gives
abbrev pub arithmetic_result : BinaryOp → ℤ → ℤ → Result ℤ Cause
arithmetic_result binary.Add a b = exact_int (a +ℤ b)
arithmetic_result binary.Sub a b = exact_int (a -ℤ b)
arithmetic_result binary.Mul a b = exact_int (a *ℤ b)
arithmetic_result binary.Div a b = quotient a b
arithmetic_result binary.Rem a b = remainder a b
arithmetic_result _ a b = Ok (pos 0)

-- the operators on numbers
abbrev pub is_arithmetic : BinaryOp → Bool
is_arithmetic binary.Add = true
is_arithmetic binary.Sub = true
is_arithmetic binary.Mul = true
is_arithmetic binary.Div = true
is_arithmetic binary.Rem = true
is_arithmetic _ = false

-- the operators that compare two values
abbrev pub is_comparison : BinaryOp → Bool
is_comparison binary.Eq = true
is_comparison binary.Ne = true
is_comparison binary.Lt = true
is_comparison binary.Le = true
is_comparison binary.Gt = true
is_comparison binary.Ge = true
is_comparison _ = false

abbrev pub int_result : Result ℤ Cause → Result Value Cause
int_result step = step >>= λ z. Ok (value.Int z)

-- the absolute value
abbrev pub absolute : ℤ → ℤ
absolute z = pos (unsigned_abs z)

-- ---- operators on values of any kind

-- whether a comparison holds of two values, by their order
abbrev pub comparison : BinaryOp → Ordering → Bool
comparison binary.Eq order = is_eq order
comparison binary.Ne order = is_ne order
comparison binary.Lt order = is_lt order
comparison binary.Le order = is_le order
comparison binary.Gt order = is_gt order
comparison binary.Ge order = is_ge order
comparison _ order = false

-- the lesser and the greater of two values
abbrev pub lesser : Value → Value → Value
lesser a b = if is_le (value_cmp a b) then a else b

abbrev pub greater : Value → Value → Value
greater a b = if is_le (value_cmp a b) then b else a

-- the bytes of a text, or the entries of a list
abbrev pub size_of : Value → ℕ
size_of (value.Text bytes) = length bytes
size_of (value.Ids ids) = length ids
size_of _ = 0

-- ---- functions on texts and lists

-- a text that is not too long; that of a number of 64 bits never is
abbrev pub bounded_text : List ℕ → Result Value Cause
bounded_text bytes = if nat_le (length bytes) MOST_TEXT_BYTES then Ok (value.Text bytes) else Err cause.TextTooLong

abbrev pub bounded_list : List ℤ → Result Value Cause
bounded_list ids = if nat_le (length ids) MOST_LIST_ENTRIES then Ok (value.Ids ids) else Err cause.ListTooLong

-- an ascending list with one entry more, in its position
abbrev pub with_entry : List ℤ → ℤ → List ℤ
with_entry [] z = z ∷ []
with_entry (x ∷ xs) z = if int_le z x then z ∷ x ∷ xs else x ∷ with_entry xs z

-- whether an entry of the list is the number
abbrev pub has_entry : List ℤ → ℤ → Bool
has_entry ids z = list_any (λ x. int_eq x z) ids

-- ---- operations, from the values of their operands

abbrev pub unary_result : UnaryOp → Value → Result Value Cause
unary_result unary.Neg a = int_result (exact_int (neg_ℤ (int_of_value a)))
unary_result unary.Not a = Ok (value.Bool (not (truth_of_value a)))

abbrev pub binary_result : BinaryOp → Value → Value → Result Value Cause
binary_result binary.Add a b = int_result (arithmetic_result binary.Add (int_of_value a) (int_of_value b))
binary_result binary.Sub a b = int_result (arithmetic_result binary.Sub (int_of_value a) (int_of_value b))
binary_result binary.Mul a b = int_result (arithmetic_result binary.Mul (int_of_value a) (int_of_value b))
binary_result binary.Div a b = int_result (arithmetic_result binary.Div (int_of_value a) (int_of_value b))
binary_result binary.Rem a b = int_result (arithmetic_result binary.Rem (int_of_value a) (int_of_value b))
binary_result binary.And a b = Ok (value.Bool (truth_of_value a && truth_of_value b))
binary_result binary.Or a b = Ok (value.Bool (truth_of_value a || truth_of_value b))
binary_result operator a b = Ok (value.Bool (comparison operator (value_cmp a b)))

-- `if` is no part of it, since it does not evaluate all of its arguments
abbrev pub call_result : Function → List Value → Result Value Cause
call_result function.Min (a ∷ b ∷ []) = Ok (lesser a b)
call_result function.Max (a ∷ b ∷ []) = Ok (greater a b)
call_result function.Abs (a ∷ []) = int_result (exact_int (absolute (int_of_value a)))
call_result function.Len (a ∷ []) = int_result (exact_int (pos (size_of a)))
call_result function.Concat (a ∷ b ∷ []) = bounded_text (bytes_of a ++ bytes_of b)
call_result function.Text (a ∷ []) = bounded_text (signed_decimal (int_of_value a))
call_result function.Ids [] = Ok (value.Ids [])
call_result function.Add (a ∷ b ∷ []) = bounded_list (with_entry (ids_of a) (int_of_value b))
call_result function.Has (a ∷ b ∷ []) = Ok (value.Bool (has_entry (ids_of a) (int_of_value b)))
call_result _ _ = Ok (value.Int (pos 0))

-- ---- expressions

-- a value, or the cause of a fault with the number of the node that faults
abbrev pub EvalResult : Type 0
EvalResult = Result Value (Cause × ℕ)

-- a fault of the operation itself has the number of its node
abbrev pub at_node : {A : Type 0} → ℕ → Result A Cause → Result A (Cause × ℕ)
at_node n (Ok x) = Ok x
at_node n (Err c) = Err (c, n)

-- a value that the scope has
abbrev pub value_or_zero : Option Value → Value
value_or_zero (Some v) = v
value_or_zero None = value.Int (pos 0)

abbrev pub id_value : Option Vid → Value
id_value (Some v) = value.Int v.0
id_value None = value.Int (pos 0)

-- what the left side of `and` or `or` decides alone
abbrev pub decided : BinaryOp → Bool → Option Bool
decided binary.And false = Some false
decided binary.Or true = Some true
decided _ _ = None

-- the right side of an operation whose left side has the value x; it is evaluated only if nothing is
-- decided
abbrev pub eval_right : ℕ → BinaryOp → Value → Option Bool → EvalResult → EvalResult
eval_right n operator x (Some truth) b = Ok (value.Bool truth)
eval_right n operator x None b = b >>= λ y. at_node n (binary_result operator x y)

abbrev pub eval_binary : ℕ → BinaryOp → EvalResult → EvalResult → EvalResult
eval_binary n operator a b = a >>= λ x. eval_right n operator x (decided operator (truth_of_value x)) b

-- `if` evaluates its condition and one branch
abbrev pub eval_three : Function → EvalResult → EvalResult → EvalResult → EvalResult
eval_three function.If c a b = c >>= λ x. if truth_of_value x then a else b
eval_three _ c a b = Ok (value.Int (pos 0))

-- all others evaluate their arguments from left to right
abbrev pub eval_call : ℕ → Function → List EvalResult → EvalResult
eval_call n f [] = at_node n (call_result f [])
eval_call n f (a ∷ []) = a >>= λ x. at_node n (call_result f (x ∷ []))
eval_call n f (a ∷ b ∷ []) = a >>= λ x. b >>= λ y. at_node n (call_result f (x ∷ y ∷ []))
eval_call n f (c ∷ a ∷ b ∷ []) = eval_three f c a b
eval_call n f _ = Ok (value.Int (pos 0))

-- the result of an expression, from the results of its operands
abbrev pub eval_layer : ScopeValues → Expr-F EvalResult → EvalResult
eval_layer s (layer.Const n v) = Ok v
eval_layer s (layer.Column n side i) = Ok (value_or_zero (slice_get (s.columns side) i))
eval_layer s (layer.Id n side) = Ok (id_value (s.id side))
eval_layer s (layer.Matched n) = Ok (value.Bool s.matched)
eval_layer s (layer.Unary n operator a) = a >>= λ x. at_node n (unary_result operator x)
eval_layer s (layer.Binary n operator a b) = eval_binary n operator a b
eval_layer s (layer.Call n f xs) = eval_call n f xs

-- the value of an expression, or the fault that comes first
abbrev pub eval_result : ScopeValues → Expr → EvalResult
eval_result s e = fold-Expr EvalResult (eval_layer s) e

-- the number of an expression, or its fault
abbrev pub number_result : ScopeValues → Expr → Result ℤ (Cause × ℕ)
number_result s e = eval_result s e >>= λ v. Ok (int_of_value v)

-- the truth of a condition, or its fault
abbrev pub truth_result : ScopeValues → Expr → Result Bool (Cause × ℕ)
truth_result s e = eval_result s e >>= λ v. Ok (truth_of_value v)

-- the values of expressions in order, or the fault of the first that has one
abbrev pub row_result : ScopeValues → List Expr → Result (List Value) (Cause × ℕ)
row_result s [] = Ok []
row_result s (e ∷ es) = try_cons (eval_result s e) (row_result s es)

-- the result of an expression, by those of its operands
pub eval_result-roll : (s : ScopeValues) (x : Expr-F Expr)
    → eval_result s (roll-Expr x) ≡ eval_layer s (map-Expr Expr EvalResult (eval_result s) x)
eval_result-roll s x = fold-roll-Expr EvalResult (eval_layer s) x

-- ---- examples

least_int : Value
least_int = value.Int (negsuc 9223372036854775807)

greatest_int : Value
greatest_int = value.Int (pos 9223372036854775807)

minus_one : Value
minus_one = value.Int (negsuc 0)

minus_seven : Value
minus_seven = value.Int (negsuc 6)

two : Value
two = value.Int (pos 2)

sums : (binary_result binary.Add greatest_int minus_one ≡ Ok (value.Int (pos 9223372036854775806)))
    × (binary_result binary.Add greatest_int two ≡ Err cause.Overflow)
    × (binary_result binary.Sub least_int two ≡ Err cause.Overflow)
    × (binary_result binary.Mul least_int minus_one ≡ Err cause.Overflow)
    × (unary_result unary.Neg least_int ≡ Err cause.Overflow)
    × (call_result function.Abs (least_int ∷ []) ≡ Err cause.Overflow)
unfolding least_int greatest_int minus_one two
sums = (refl, refl, refl, refl, refl, refl)

-- -7 is -3 times 2 and -1
quotients : (binary_result binary.Div minus_seven two ≡ Ok (value.Int (negsuc 2)))
    × (binary_result binary.Rem minus_seven two ≡ Ok minus_one)
    × (binary_result binary.Div least_int minus_one ≡ Err cause.Overflow)
    × (binary_result binary.Rem least_int minus_one ≡ Ok (value.Int (pos 0)))
    × (binary_result binary.Div two (value.Int (pos 0)) ≡ Err cause.DivideByZero)
    × (binary_result binary.Rem two (value.Int (pos 0)) ≡ Err cause.DivideByZero)
unfolding least_int minus_one minus_seven two
quotients = (refl, refl, refl, refl, refl, refl)

comparisons : (binary_result binary.Lt minus_one two ≡ Ok (value.Bool true))
    × (binary_result binary.Lt (value.Text (codes "ab")) (value.Text (codes "a")) ≡ Ok (value.Bool false))
    × (binary_result binary.Eq (value.Ids []) (value.Ids []) ≡ Ok (value.Bool true))
    × (call_result function.Min (two ∷ minus_one ∷ []) ≡ Ok minus_one)
    × (call_result function.Max (two ∷ minus_one ∷ []) ≡ Ok two)
unfolding minus_one two
comparisons = (refl, refl, refl, refl, refl)

long_text : Value
long_text = value.Text (replicate 1000 97)

texts : (call_result function.Concat (long_text ∷ value.Text (replicate 24 98) ∷ []) ≡ Ok (value.Text (replicate 1000 97 ++ replicate 24 98)))
    × (call_result function.Concat (long_text ∷ value.Text (replicate 25 98) ∷ []) ≡ Err cause.TextTooLong)
    × (call_result function.Len (long_text ∷ []) ≡ Ok (value.Int (pos 1000)))
unfolding long_text
texts = (refl, refl, refl)

lists : (call_result function.Add (value.Ids (pos 1 ∷ pos 3 ∷ []) ∷ two ∷ []) ≡ Ok (value.Ids (pos 1 ∷ pos 2 ∷ pos 3 ∷ [])))
    × (call_result function.Has (value.Ids (pos 1 ∷ pos 2 ∷ []) ∷ two ∷ []) ≡ Ok (value.Bool true))
    × (call_result function.Has (value.Ids [] ∷ two ∷ []) ≡ Ok (value.Bool false))
unfolding two
lists = (refl, refl, refl)

-- a fault of the left operand comes first; what is not needed has none
faulty : ℕ → EvalResult
faulty n = Err (cause.DivideByZero, n)

faults : (eval_binary 0 binary.Add (faulty 1) (faulty 4) ≡ faulty 1)
    × (eval_binary 0 binary.And (Ok (value.Bool false)) (faulty 4) ≡ Ok (value.Bool false))
    × (eval_binary 0 binary.Or (Ok (value.Bool true)) (faulty 4) ≡ Ok (value.Bool true))
    × (eval_binary 0 binary.And (Ok (value.Bool true)) (faulty 4) ≡ faulty 4)
    × (eval_binary 0 binary.Div (Ok two) (Ok (value.Int (pos 0))) ≡ faulty 0)
    × (eval_call 0 function.If (Ok (value.Bool true) ∷ Ok two ∷ faulty 3 ∷ []) ≡ Ok two)
unfolding two faulty
faults = (refl, refl, refl, refl, refl, refl)
