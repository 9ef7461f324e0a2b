use Rattle.gx_syntax_tree.specs.Bounds.{exprs_if}
use Rattle.gx_types_clauses.specs.BoundLaws.{right_short}
use Rattle.gx_types_clauses.proofs.sending.type_send.Goals as goal

pub type_test-requires-clause-short_texts : goal.type_test-requires-clause-short_texts
type_test-requires-clause-short_texts c =
    right_short c.args.clause.now.values (exprs_if c.args.clause.now.when) c.requires.short_texts
