use Rattle.std.proofs.Common.{◌≡◌, ◌+◌, ◌∙◌, IfOk, ap, sym, subst, arith}
use Rattle.gx_syntax_tree.specs.Bounds.{node_count}
use Rattle.gx_rows.specs.Results.{◌>>=◌}
use Rattle.gx_types_exprs.specs.ExprScopes.{scope_names}
use Rattle.gx_types_exprs.specs.ExprTyping.{typed_call, typed_tree}
use Rattle.gx_types_exprs.specs.Returns.{args_record}
use Rattle.gx_types_exprs.proofs.Trees.{count-call, tree-call}
use Rattle.gx_types_exprs.proofs.tree.+tree.Goals as goal

pub type_tree-returns-in_ok-arguments-in-Call-clause-typed :
    goal.type_tree-returns-in_ok-arguments-in-Call-clause-typed
type_tree-returns-in_ok-arguments-in-Call-clause-typed t c =
    let s = scope_names c.args.scope.now in
    let whole : typed_tree s c.args.first c.args.expression.now ≡ typed_call c.args.first c.as_str-in-Call.result.now (args_record c.in_ok-arguments-in-Call.arguments) =
    ap (typed_tree s c.args.first) c.in-Call.is
    ∙ tree-call s c.args.first c.in-Call.name c.in-Call.arguments
    ∙ ap (λ r. r >>= typed_call c.args.first c.in-Call.name) c.in_ok-arguments-in-Call.ensures.typed
    ∙ ap (λ w. typed_call c.args.first w (args_record c.in_ok-arguments-in-Call.arguments)) (sym c.as_str-in-Call.ensures.bytes) in
    rw whole c.type_call.ensures.typed

pub type_tree-returns-in_ok-arguments-in-Call-clause-counted :
    goal.type_tree-returns-in_ok-arguments-in-Call-clause-counted
type_tree-returns-in_ok-arguments-in-Call-clause-counted t c =
    let nodes = ap node_count c.in-Call.is ∙ count-call c.in-Call.name c.in-Call.arguments in
    let next : c.in_ok-arguments-in-Call.arguments.next ≡ c.args.first + node_count c.args.expression.now = omega (arith, nodes, c.in_ok-arguments-in-Call.ensures.counted) in
    subst (λ n. IfOk c.type_call.result (λ r. r.next ≡ n)) next c.type_call.ensures.counted
