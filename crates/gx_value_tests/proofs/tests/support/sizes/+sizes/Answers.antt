use Rattle.std.proofs.Common.{◌∙◌, ap, arith}
use Rattle.gx_syntax_tree.specs.Bounds.{node_count, texts_in_expr}
use Rattle.gx_value_tests.proofs.NodeSizes.{count-call, counted-moved, short-joined, texts-binary}
use Rattle.gx_value_tests.proofs.tests.support.sizes.+sizes.Goals as goal

pub remaining_nodes-returns-in-Call-clause-counted :
    goal.remaining_nodes-returns-in-Call-clause-counted
remaining_nodes-returns-in-Call-clause-counted t c =
    counted-moved c.remaining_of_all.result _ c.in_ok-most.most c.args.most _ (omega arith)
    (ap node_count c.in-Call.is ∙ count-call c.in-Call.field-0 c.in-Call.arguments) c.remaining_of_all.ensures.counted

pub remaining_nodes-returns-in_ok-most-in-Binary-clause-short :
    goal.remaining_nodes-returns-in_ok-most-in-Binary-clause-short
remaining_nodes-returns-in_ok-most-in-Binary-clause-short t c =
    let texts = ap texts_in_expr c.in-Binary.is ∙ texts-binary c.in-Binary.field-0 c.in-Binary.left c.in-Binary.right in
    rw (texts, ← c.get-in-Binary.ensures, ← c.get-in-Binary-2.ensures)
    (short-joined c.remaining_nodes-in-Binary-2.result (texts_in_expr c.get-in-Binary.result.now) (texts_in_expr c.get-in-Binary-2.result.now) c.in_ok-most-in-Binary.ensures.short c.remaining_nodes-in-Binary-2.ensures.short)
