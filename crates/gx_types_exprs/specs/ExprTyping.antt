-- Whether an expression is well typed, by rules, and the numbered tree that it then stands for.
--
-- A tree is checked node by node. Its root has the first number, and each operand is numbered after
-- the nodes of those before it. The operands are checked from left to right, and then the operation;
-- the first check that fails is the result, with the number of its node.
use Rattle.std.specs.Prelude.{◌≡◌, ℕ, ◌+◌, nat_eq, nat_le, ◌&&◌, if◌then◌else◌, Option, None, Some, Result, Ok, Err, List, [], ◌∷◌, length, slice_get, codes, bytes_eq}
use Rattle.std.proofs.Common.{ap, ◌∙◌}
use Rattle.std.specs.Option.{option_and_then, option_map}
use Rattle.gx_rows.specs.Columns.{Column, names_of, position_of}
use Rattle.gx_rows.specs.Limits.{most_of}
use Rattle.gx_rows.specs.Results.{◌>>=◌}
use Rattle.gx_rows.specs.declared.limit_kind.LimitKind.TheVariants as limit
use Rattle.gx_rows.specs.declared.value.Value.TheVariants as value
use Rattle.gx_rows.specs.declared.value.ValueKind.{ValueKind}
use Rattle.gx_rows.specs.declared.value.ValueKind.TheVariants as kind
use Rattle.gx_expr.specs.Typing.{kind_of_unary, kind_of_binary, kind_of_call}
use Rattle.gx_expr.specs.declared.expr.Expr.{Expr}
use Rattle.gx_expr.specs.declared.expr.Expr.TheVariants as expr
use Rattle.gx_expr.specs.declared.operators.BinaryOp.{BinaryOp}
use Rattle.gx_expr.specs.declared.operators.BinaryOp.TheVariants as binary
use Rattle.gx_expr.specs.declared.operators.Function.{Function}
use Rattle.gx_expr.specs.declared.operators.UnaryOp.{UnaryOp}
use Rattle.gx_expr.specs.declared.side.Side.{Side}
use Rattle.gx_expr.specs.declared.side.Side.TheVariants as side
use Rattle.gx_syntax_tree.specs.Bounds.{depth}
use Rattle.gx_syntax_tree.specs.declared.expr.BinaryOp.TheVariants as written_binary
use Rattle.gx_syntax_tree.specs.declared.expr.Expr.{Expr as Written, map-Expr, roll-Expr}
use Rattle.gx_syntax_tree.specs.declared.expr.Expr.TheFolds.{fold-Expr, fold-roll-Expr}
use Rattle.gx_syntax_tree.specs.declared.expr.Expr.TheOpen.{Expr-F as Written-F}
use Rattle.gx_syntax_tree.specs.declared.expr.Expr.TheOpen as written
use Rattle.gx_types_exprs.specs.ExprScopes.{ScopeNames, has_side, readable_columns, side_has_id, vertex_scope}
use Rattle.gx_types_exprs.specs.ExprWords.{side_of_word, function_of_word, arity_of, binary_of_written, unary_of_written}
use Rattle.gx_types_exprs.specs.declared.expr_stop.ExprStop.{ExprStop}
use Rattle.gx_types_exprs.specs.declared.expr_stop.ExprStop.TheVariants as stop
use Rattle.gx_types_exprs.specs.declared.type_kind.TypeKind.{TypeKind}
use Rattle.gx_types_exprs.specs.declared.type_kind.TypeKind.TheVariants as type_kind
use Rattle.gx_types_exprs.specs.declared.typed_expr.TypedExpr.{TypedExpr}

-- a tree, checked and numbered from a given number on
abbrev pub Typing : Type 0
Typing = ℕ → Result TypedExpr ExprStop

-- the check of the node of this number fails
abbrev pub refusal : {A : Type 0} → ℕ → TypeKind → Result A ExprStop
refusal n kind = Err (stop.At n kind)

-- a node without operands
abbrev pub leaf : ℕ → Expr → ValueKind → Result TypedExpr ExprStop
leaf n e kind = Ok (record { expr = e; kind = kind; next = n + 1 })

-- an operation, if it takes the kinds of its operands
abbrev pub operation : ℕ → Expr → ℕ → Option ValueKind → Result TypedExpr ExprStop
operation n e next (Some kind) = Ok (record { expr = e; kind = kind; next = next })
operation n e next None = refusal n type_kind.KindWrong

-- ---- columns

-- the position and the kind of the column of a name
abbrev pub column_of : List ℕ → List Column → Option (ℕ × ValueKind)
column_of name columns =
    option_and_then (λ i. option_map (λ c. (i, c.1)) (slice_get columns i)) (position_of name (names_of columns))

abbrev pub typed_column : ℕ → Side → Option (ℕ × ValueKind) → Result TypedExpr ExprStop
typed_column n d (Some c) = leaf n (expr.Column n d c.0) c.1
typed_column n d None = refusal n type_kind.ColumnUnknown

-- a name after a side and a dot
abbrev pub typed_field : ScopeNames → ℕ → List ℕ → Side → Result TypedExpr ExprStop
typed_field s n name d =
    if has_side s d then
    (if side_has_id d && bytes_eq name (codes "id") then leaf n (expr.Id n d) kind.Int
    else typed_column n d (column_of name (readable_columns s d)))
    else refusal n type_kind.SideUnknown

-- a name after a word and a dot, by the side that the word names
abbrev pub typed_name : ScopeNames → ℕ → List ℕ → Option Side → Result TypedExpr ExprStop
typed_name s n name (Some d) = typed_field s n name d
typed_name s n name None = refusal n type_kind.SideUnknown

abbrev pub typed_matched : ScopeNames → ℕ → Result TypedExpr ExprStop
typed_matched s n =
    if s.has_matched then leaf n (expr.Matched n) kind.Bool else refusal n type_kind.SideUnknown

-- ---- operations

abbrev pub typed_unary : ℕ → UnaryOp → TypedExpr → Result TypedExpr ExprStop
typed_unary n o a = operation n (expr.Unary n o a.expr) a.next (kind_of_unary o a.kind)

abbrev pub typed_binary : ℕ → BinaryOp → TypedExpr → TypedExpr → Result TypedExpr ExprStop
typed_binary n o a b = operation n (expr.Binary n o a.expr b.expr) b.next (kind_of_binary o a.kind b.kind)

-- the arguments of a call: their trees, their kinds, and the number after those of their nodes
pub record TypedArgs : Type 0 where
  pub exprs : List Expr
  pub kinds : List ValueKind
  pub next : ℕ

abbrev pub typed_args : List Typing → ℕ → Result TypedArgs ExprStop
typed_args [] n = Ok (record { exprs = []; kinds = []; next = n })
typed_args (a ∷ rest) n =
    a n >>= λ x. typed_args rest x.next >>= λ xs.
    Ok (record { exprs = x.expr ∷ xs.exprs; kinds = x.kind ∷ xs.kinds; next = xs.next })

-- the function of this name and of this number of arguments
abbrev pub function_of : List ℕ → ℕ → Option Function
function_of name count =
    option_and_then (λ f. if nat_eq count (arity_of f) then Some f else None) (function_of_word name)

abbrev pub typed_function : ℕ → TypedArgs → Option Function → Result TypedExpr ExprStop
typed_function n xs (Some f) = operation n (expr.Call n f xs.exprs) xs.next (kind_of_call f xs.kinds)
typed_function n xs None = refusal n type_kind.FunctionUnknown

abbrev pub typed_call : ℕ → List ℕ → TypedArgs → Result TypedExpr ExprStop
typed_call n name xs = typed_function n xs (function_of name (length xs.kinds))

-- ---- trees

-- a tree, from its operands
abbrev pub tree_typing_of_layer : ScopeNames → Written-F Typing → Typing
tree_typing_of_layer s (written.Number z) n = leaf n (expr.Const n (value.Int z)) kind.Int
tree_typing_of_layer s (written.Quoted t) n = leaf n (expr.Const n (value.Text t)) kind.Text
tree_typing_of_layer s (written.Truth b) n = leaf n (expr.Const n (value.Bool b)) kind.Bool
tree_typing_of_layer s written.Matched n = typed_matched s n
tree_typing_of_layer s (written.Column word name) n = typed_name s n name (side_of_word word)
tree_typing_of_layer s (written.Call name xs) n = typed_args xs (n + 1) >>= typed_call n name
tree_typing_of_layer s (written.Unary o a) n = a (n + 1) >>= typed_unary n (unary_of_written o)
tree_typing_of_layer s (written.Binary o a b) n =
    a (n + 1) >>= λ x. b x.next >>= typed_binary n (binary_of_written o) x

-- a tree of any depth
abbrev pub tree_typing : ScopeNames → Written → Typing
tree_typing s e = fold-Expr Typing (tree_typing_of_layer s) e

abbrev pub typed_tree : ScopeNames → ℕ → Written → Result TypedExpr ExprStop
typed_tree s n e = tree_typing s e n

-- an expression: its depth is tested before all else
abbrev pub typed_expr : ScopeNames → ℕ → Written → Result TypedExpr ExprStop
typed_expr s n e = if nat_le (depth e) (most_of limit.Depth) then typed_tree s n e else Err stop.Depth

-- a condition has to be a truth value
abbrev pub truth_typed : ℕ → TypedExpr → ValueKind → Result TypedExpr ExprStop
truth_typed n t kind.Bool = Ok t
truth_typed n t _ = refusal n type_kind.KindWrong

abbrev pub typed_predicate : ScopeNames → ℕ → Written → Result TypedExpr ExprStop
typed_predicate s n e = typed_expr s n e >>= λ t. truth_typed n t t.kind

-- what a tree is checked to, by its operands
pub tree_typing-roll : (s : ScopeNames) (x : Written-F Written)
    → tree_typing s (roll-Expr x) ≡ tree_typing_of_layer s (map-Expr Written Typing (tree_typing s) x)
tree_typing-roll s x = fold-roll-Expr Typing (tree_typing_of_layer s) x

-- ---- examples: a vertex with a number `a` and a text `t`

abbrev example_scope : ScopeNames
example_scope = vertex_scope ((codes "a", kind.Int) ∷ (codes "t", kind.Text) ∷ [])

abbrev example_column : List ℕ → Result TypedExpr ExprStop
example_column name = typed_name example_scope 1 name (side_of_word (codes "v"))

abbrev column_layer : List ℕ → Written-F Written
column_layer name = written.Column (codes "v") name

-- `v.a + v.NAME` is a number; its left operand has number 1, and its right operand number 2
example_sum : List ℕ → Written
example_sum name = roll-Expr (written.Binary written_binary.Add (roll-Expr (column_layer (codes "a"))) (roll-Expr (column_layer name)))

sum-typed : (name : List ℕ) → typed_tree example_scope 0 (example_sum name)
    ≡ (example_column (codes "a") >>= λ x. typed_name example_scope x.next name (side_of_word (codes "v")) >>= typed_binary 0 binary.Add x)
unfolding example_sum
sum-typed name =
    let a : Written = roll-Expr (column_layer (codes "a")) in
    let b : Written = roll-Expr (column_layer name) in
    ap (λ (t : Typing). t 0) (tree_typing-roll example_scope (written.Binary written_binary.Add a b))
    ∙ ap (λ (t : Typing). t 1 >>= λ x. tree_typing example_scope b x.next >>= typed_binary 0 binary.Add x) (tree_typing-roll example_scope (column_layer (codes "a")))
    ∙ ap (λ (t : Typing). example_column (codes "a") >>= λ x. t x.next >>= typed_binary 0 binary.Add x) (tree_typing-roll example_scope (column_layer name))

sums-typed :
    (typed_tree example_scope 0 (example_sum (codes "a"))
    ≡ Ok (record { expr = expr.Binary 0 binary.Add (expr.Column 1 side.Vertex 0) (expr.Column 2 side.Vertex 0); kind = kind.Int; next = 3 }))
    × (typed_tree example_scope 0 (example_sum (codes "t")) ≡ refusal 0 type_kind.KindWrong)
    × (typed_tree example_scope 0 (example_sum (codes "b")) ≡ refusal 2 type_kind.ColumnUnknown)
sums-typed = (sum-typed (codes "a"), sum-typed (codes "t"), sum-typed (codes "b"))

-- `foo(v.NAME)`: the argument is checked before the name of the function
example_call : List ℕ → Written
example_call name = roll-Expr (written.Call (codes "foo") (roll-Expr (column_layer name) ∷ []))

call-typed : (name : List ℕ) → typed_tree example_scope 0 (example_call name)
    ≡ (typed_args ((λ n. typed_name example_scope n name (side_of_word (codes "v"))) ∷ []) 1 >>= typed_call 0 (codes "foo"))
unfolding example_call
call-typed name =
    ap (λ (t : Typing). t 0) (tree_typing-roll example_scope (written.Call (codes "foo") (roll-Expr (column_layer name) ∷ [])))
    ∙ ap (λ (t : Typing). typed_args (t ∷ []) 1 >>= typed_call 0 (codes "foo")) (tree_typing-roll example_scope (column_layer name))

calls-typed :
    (typed_tree example_scope 0 (example_call (codes "a")) ≡ refusal 0 type_kind.FunctionUnknown)
    × (typed_tree example_scope 0 (example_call (codes "b")) ≡ refusal 1 type_kind.ColumnUnknown)
calls-typed = (call-typed (codes "a"), call-typed (codes "b"))
