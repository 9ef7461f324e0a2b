-- What holds of each expression that is accepted.
use Rattle.std.specs.Prelude.{◌≡◌, ℕ, zero, suc, ◌+◌, ◌≤◌, max, All, Some, Ok, List, [], ◌∷◌, ◌++◌, flat_map, refl}
use Rattle.gx_rows.specs.Bounds.{IsBoundedValue}
use Rattle.gx_expr.specs.Soundness.{constants_in}
use Rattle.gx_expr.specs.Typing.{kind_of_expr}
use Rattle.gx_expr.specs.declared.expr.Expr.{Expr}
use Rattle.gx_expr.specs.declared.expr.Expr.TheFolds.{fold-Expr}
use Rattle.gx_expr.specs.declared.expr.Expr.TheOpen.{Expr-F}
use Rattle.gx_expr.specs.declared.expr.Expr.TheOpen as layer
use Rattle.gx_syntax_tree.specs.Bounds.{greatest, node_count, texts_in_expr, IsBoundedText}
use Rattle.gx_syntax_tree.specs.declared.expr.Expr.{Expr as Written}
use Rattle.gx_types_exprs.specs.ExprScopes.{ScopeNames, scope_type}
use Rattle.gx_types_exprs.specs.ExprTyping.{typed_expr}
use Rattle.gx_types_exprs.specs.declared.typed_expr.TypedExpr.{TypedExpr}

-- the depth of a numbered tree
abbrev pub numbered_depth_of_layer : Expr-F ℕ → ℕ
numbered_depth_of_layer (layer.Unary n o a) = suc a
numbered_depth_of_layer (layer.Binary n o a b) = suc (max a b)
numbered_depth_of_layer (layer.Call n f xs) = suc (greatest xs)
numbered_depth_of_layer _ = 1

abbrev pub numbered_depth : Expr → ℕ
numbered_depth e = fold-Expr ℕ numbered_depth_of_layer e

-- the numbers of its nodes in text order, an operation before its operands
abbrev pub numbers_of_layer : Expr-F (List ℕ) → List ℕ
numbers_of_layer (layer.Const n v) = n ∷ []
numbers_of_layer (layer.Column n d i) = n ∷ []
numbers_of_layer (layer.Id n d) = n ∷ []
numbers_of_layer (layer.Matched n) = n ∷ []
numbers_of_layer (layer.Unary n o a) = n ∷ a
numbers_of_layer (layer.Binary n o a b) = n ∷ a ++ b
numbers_of_layer (layer.Call n f xs) = n ∷ flat_map (λ x. x) xs

abbrev pub numbers_of : Expr → List ℕ
numbers_of e = fold-Expr (List ℕ) numbers_of_layer e

-- so many numbers, one after the other
abbrev pub numbers_from : ℕ → ℕ → List ℕ
numbers_from first zero = []
numbers_from first (suc count) = first ∷ numbers_from (first + 1) count

two_numbers : numbers_from 3 2 ≡ 3 ∷ 4 ∷ []
two_numbers = refl

-- the tree is well typed in the scope, of the kind beside it, and at most 64 deep; its texts are
-- those of values
pub record IsWellTyped (s : ScopeNames) (t : TypedExpr) : Type 0 where
  pub kind_is : kind_of_expr (scope_type s) t.expr ≡ Some t.kind
  pub constants_bounded : All IsBoundedValue (constants_in t.expr)
  pub depth_bounded : numbered_depth t.expr ≤ 64

-- the nodes are numbered from the first number on, in text order, and so many numbers are used
pub record IsNumbered (first count : ℕ) (t : TypedExpr) : Type 0 where
  pub numbers_are : numbers_of t.expr ≡ numbers_from first count
  pub next_is : t.next ≡ first + count

-- each expression with short texts that is accepted is well typed, and its nodes are numbered
abbrev pub AcceptedIsWellTyped : Type 0
AcceptedIsWellTyped =
    (s : ScopeNames) (n : ℕ) (e : Written) (t : TypedExpr) → All IsBoundedText (texts_in_expr e)
    → typed_expr s n e ≡ Ok t → IsWellTyped s t × IsNumbered n (node_count e) t
