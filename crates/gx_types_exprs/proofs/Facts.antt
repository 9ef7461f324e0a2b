-- The kind, the constants and the depth of a numbered tree, by its operands.
use Rattle.std.proofs.Common.{◌≡◌, ℕ, suc, true, Option, Some, List, [], ◌∷◌, ◌++◌, map, max, refl, sym, ap, subst, ◌∙◌}
use Rattle.std.specs.Prelude.{All, flat_map, slice_get}
use Rattle.std.proofs.lemmas.List.Elements.{All-nil, All-cons, All-append}
use Rattle.gx_rows.specs.Bounds.{IsBoundedValue}
use Rattle.gx_rows.specs.Kinds.{kind_of}
use Rattle.gx_rows.specs.declared.value.Value.{Value}
use Rattle.gx_rows.specs.declared.value.ValueKind.{ValueKind}
use Rattle.gx_rows.specs.declared.value.ValueKind.TheVariants as kind
use Rattle.gx_expr.specs.Soundness.{constants_in, constants_in-roll, constants_in_layer}
use Rattle.gx_expr.specs.Typing.{ScopeType, all_some, kind_of_binary, kind_of_call, kind_of_expr, kind_of_expr-roll, kind_of_layer, kind_of_unary}
use Rattle.gx_expr.specs.declared.expr.Expr.{Expr, map-Expr, roll-Expr}
use Rattle.gx_expr.specs.declared.expr.Expr.TheFolds.{fold-roll-Expr}
use Rattle.gx_expr.specs.declared.expr.Expr.TheOpen.{Expr-F}
use Rattle.gx_expr.specs.declared.expr.Expr.TheOpen as layer
use Rattle.gx_expr.specs.declared.expr.Expr.TheVariants as expr
use Rattle.gx_expr.specs.declared.expr.Expr.TheVariants.{rolls-Const, rolls-Column, rolls-Id, rolls-Matched, rolls-Unary, rolls-Binary, rolls-Call}
use Rattle.gx_expr.specs.declared.operators.BinaryOp.{BinaryOp}
use Rattle.gx_expr.specs.declared.operators.Function.{Function}
use Rattle.gx_expr.specs.declared.operators.UnaryOp.{UnaryOp}
use Rattle.gx_expr.specs.declared.side.Side.{Side}
use Rattle.gx_syntax_tree.specs.Bounds.{greatest}
use Rattle.gx_types_exprs.specs.ExprLaws.{numbered_depth, numbered_depth_of_layer, numbers_of, numbers_of_layer}

-- a tree of this kind and depth, with these numbers of nodes, whose constants are bounded
pub record HasFacts (s : ScopeType) (d : ℕ) (ns : List ℕ) (e : Expr) (k : ValueKind) : Type 0 where
  pub kind_is : kind_of_expr s e ≡ Some k
  pub constants_bounded : All IsBoundedValue (constants_in e)
  pub depth_is : numbered_depth e ≡ d
  pub numbers_are : numbers_of e ≡ ns

facts-roll : (s : ScopeType) (d : ℕ) (ns : List ℕ) (e : Expr) (k : ValueKind) (y : Expr-F Expr) → roll-Expr y ≡ e
    → kind_of_layer s (map-Expr Expr (Option ValueKind) (kind_of_expr s) y) ≡ Some k
    → All IsBoundedValue (constants_in_layer (map-Expr Expr (List Value) constants_in y))
    → numbered_depth_of_layer (map-Expr Expr ℕ numbered_depth y) ≡ d
    → numbers_of_layer (map-Expr Expr (List ℕ) numbers_of y) ≡ ns
    → HasFacts s d ns e k
facts-roll s d ns e k y rolled kind bounded deep numbered = subst (λ x. HasFacts s d ns x k) rolled (record {
  kind_is = kind_of_expr-roll s y ∙ kind;
  constants_bounded = subst (All IsBoundedValue) (sym (constants_in-roll y)) bounded;
  depth_is = fold-roll-Expr ℕ numbered_depth_of_layer y ∙ deep;
  numbers_are = fold-roll-Expr (List ℕ) numbers_of_layer y ∙ numbered;
})

module _ (s : ScopeType) (n : ℕ) where
  pub facts-const : (v : Value) → IsBoundedValue v → HasFacts s 1 (n ∷ []) (expr.Const n v) (kind_of v)
  facts-const v h = facts-roll s 1 (n ∷ []) (expr.Const n v) (kind_of v) (layer.Const n v) (rolls-Const n v) refl (All-cons IsBoundedValue v [] h (All-nil IsBoundedValue)) refl refl

  pub facts-column : (d : Side) (i : ℕ) (k : ValueKind) → slice_get (s.columns d) i ≡ Some k → HasFacts s 1 (n ∷ []) (expr.Column n d i) k
  facts-column d i k e = facts-roll s 1 (n ∷ []) (expr.Column n d i) k (layer.Column n d i) (rolls-Column n d i) e (All-nil IsBoundedValue) refl refl

  pub facts-id : (d : Side) → s.has_id d ≡ true → HasFacts s 1 (n ∷ []) (expr.Id n d) kind.Int
  facts-id d e = facts-roll s 1 (n ∷ []) (expr.Id n d) kind.Int (layer.Id n d) (rolls-Id n d) (rw e refl) (All-nil IsBoundedValue) refl refl

  pub facts-matched : s.has_matched ≡ true → HasFacts s 1 (n ∷ []) (expr.Matched n) kind.Bool
  facts-matched e = facts-roll s 1 (n ∷ []) (expr.Matched n) kind.Bool (layer.Matched n) (rolls-Matched n) (rw e refl) (All-nil IsBoundedValue) refl refl

  pub facts-unary : (o : UnaryOp) (a : Expr) (d : ℕ) (ns : List ℕ) (ka k : ValueKind) → HasFacts s d ns a ka → kind_of_unary o ka ≡ Some k → HasFacts s (suc d) (n ∷ ns) (expr.Unary n o a) k
  facts-unary o a d ns ka k h e =
      facts-roll s (suc d) (n ∷ ns) (expr.Unary n o a) k (layer.Unary n o a) (rolls-Unary n o a) (rw h.kind_is e) h.constants_bounded (ap suc h.depth_is) (ap (λ ms. n ∷ ms) h.numbers_are)

  pub facts-binary : (o : BinaryOp) (a b : Expr) (d e : ℕ) (ns ms : List ℕ) (ka kb k : ValueKind) → HasFacts s d ns a ka → HasFacts s e ms b kb → kind_of_binary o ka kb ≡ Some k
      → HasFacts s (suc (max d e)) (n ∷ ns ++ ms) (expr.Binary n o a b) k
  facts-binary o a b d e ns ms ka kb k h g same =
      facts-roll s (suc (max d e)) (n ∷ ns ++ ms) (expr.Binary n o a b) k (layer.Binary n o a b) (rolls-Binary n o a b) (rw (h.kind_is, g.kind_is) same)
      (All-append IsBoundedValue (constants_in a) (constants_in b) h.constants_bounded g.constants_bounded) (rw (h.depth_is, g.depth_is) refl) (rw (h.numbers_are, g.numbers_are) refl)

-- the same of the arguments of a call
pub record HaveFacts (s : ScopeType) (ds ns : List ℕ) (es : List Expr) (ks : List ValueKind) : Type 0 where
  pub kinds_are : all_some (map (kind_of_expr s) es) ≡ Some ks
  pub constants_bounded : All IsBoundedValue (flat_map (λ x. x) (map constants_in es))
  pub depths_are : map numbered_depth es ≡ ds
  pub numbers_are : flat_map (λ x. x) (map numbers_of es) ≡ ns

pub facts-none : (s : ScopeType) → HaveFacts s [] [] [] []
facts-none s = record { kinds_are = refl; constants_bounded = All-nil IsBoundedValue; depths_are = refl; numbers_are = refl }

pub facts-more : (s : ScopeType) (d : ℕ) (ds ms ns : List ℕ) (e : Expr) (es : List Expr) (k : ValueKind) (ks : List ValueKind) → HasFacts s d ms e k → HaveFacts s ds ns es ks
    → HaveFacts s (d ∷ ds) (ms ++ ns) (e ∷ es) (k ∷ ks)
facts-more s d ds ms ns e es k ks h g = record {
  kinds_are = rw (h.kind_is, g.kinds_are) refl;
  constants_bounded = All-append IsBoundedValue (constants_in e) (flat_map (λ x. x) (map constants_in es)) h.constants_bounded g.constants_bounded;
  depths_are = rw (h.depth_is, g.depths_are) refl;
  numbers_are = rw (h.numbers_are, g.numbers_are) refl;
}

pub facts-call : (s : ScopeType) (n : ℕ) (f : Function) (ds ns : List ℕ) (es : List Expr) (ks : List ValueKind) (k : ValueKind) → HaveFacts s ds ns es ks → kind_of_call f ks ≡ Some k
    → HasFacts s (suc (greatest ds)) (n ∷ ns) (expr.Call n f es) k
facts-call s n f ds ns es ks k h e =
    facts-roll s (suc (greatest ds)) (n ∷ ns) (expr.Call n f es) k (layer.Call n f es) (rolls-Call n f es) (rw h.kinds_are e) h.constants_bounded (ap (λ xs. suc (greatest xs)) h.depths_are)
    (ap (λ ms. n ∷ ms) h.numbers_are)
