-- What a tree is checked to, by its operands.
use Rattle.std.proofs.Common.{◌≡◌, ℕ, suc, ◌+◌, List, map, sym, ap, ◌∙◌}
use Rattle.std.specs.Prelude.{sum}
use Rattle.gx_rows.specs.Results.{◌>>=◌}
use Rattle.gx_syntax_tree.specs.Bounds.{node_count, node_count-roll, depth, depth-roll, greatest}
use Rattle.gx_syntax_tree.specs.declared.expr.BinaryOp.{BinaryOp}
use Rattle.gx_syntax_tree.specs.declared.expr.Expr.{Expr, roll-Expr, map-Expr}
use Rattle.gx_syntax_tree.specs.declared.expr.Expr.TheOpen.{Expr-F}
use Rattle.gx_syntax_tree.specs.declared.expr.Expr.TheOpen as layer
use Rattle.gx_syntax_tree.specs.declared.expr.Expr.TheVariants as exprs
use Rattle.gx_syntax_tree.specs.declared.expr.Expr.TheVariants.{rolls-Call, rolls-Unary, rolls-Binary}
use Rattle.gx_syntax_tree.specs.declared.expr.UnaryOp.{UnaryOp}
use Rattle.gx_types_exprs.specs.ExprScopes.{ScopeNames}
use Rattle.gx_types_exprs.specs.ExprTyping.{Typing, tree_typing, tree_typing-roll, tree_typing_of_layer, typed_tree, typed_args, typed_call, typed_unary, typed_binary}
use Rattle.gx_types_exprs.specs.ExprWords.{binary_of_written, unary_of_written}

pub tree-roll : (s : ScopeNames) (n : ℕ) (x : Expr-F Expr) → typed_tree s n (roll-Expr x) ≡ tree_typing_of_layer s (map-Expr Expr Typing (tree_typing s) x) n
tree-roll s n x = ap (λ (t : Typing). t n) (tree_typing-roll s x)

pub tree-call : (s : ScopeNames) (n : ℕ) (name : List ℕ) (xs : List Expr) → typed_tree s n (exprs.Call name xs) ≡ (typed_args (map (tree_typing s) xs) (n + 1) >>= typed_call n name)
tree-call s n name xs = ap (typed_tree s n) (sym (rolls-Call name xs)) ∙ tree-roll s n (layer.Call name xs)

pub tree-unary : (s : ScopeNames) (n : ℕ) (o : UnaryOp) (a : Expr) → typed_tree s n (exprs.Unary o a) ≡ (typed_tree s (n + 1) a >>= typed_unary n (unary_of_written o))
tree-unary s n o a = ap (typed_tree s n) (sym (rolls-Unary o a)) ∙ tree-roll s n (layer.Unary o a)

pub tree-binary : (s : ScopeNames) (n : ℕ) (o : BinaryOp) (a b : Expr)
    → typed_tree s n (exprs.Binary o a b) ≡ (typed_tree s (n + 1) a >>= λ x. typed_tree s x.next b >>= typed_binary n (binary_of_written o) x)
tree-binary s n o a b = ap (typed_tree s n) (sym (rolls-Binary o a b)) ∙ tree-roll s n (layer.Binary o a b)

-- the numbers of nodes

pub count-call : (name : List ℕ) (xs : List Expr) → node_count (exprs.Call name xs) ≡ suc (sum (map node_count xs))
count-call name xs = ap node_count (sym (rolls-Call name xs)) ∙ node_count-roll (layer.Call name xs)

pub count-unary : (o : UnaryOp) (a : Expr) → node_count (exprs.Unary o a) ≡ suc (node_count a)
count-unary o a = ap node_count (sym (rolls-Unary o a)) ∙ node_count-roll (layer.Unary o a)

pub count-binary : (o : BinaryOp) (a b : Expr) → node_count (exprs.Binary o a b) ≡ suc (node_count a + node_count b)
count-binary o a b = ap node_count (sym (rolls-Binary o a b)) ∙ node_count-roll (layer.Binary o a b)

-- the depths

pub depth-call : (name : List ℕ) (xs : List Expr) → depth (exprs.Call name xs) ≡ suc (greatest (map depth xs))
depth-call name xs = ap depth (sym (rolls-Call name xs)) ∙ depth-roll (layer.Call name xs)
