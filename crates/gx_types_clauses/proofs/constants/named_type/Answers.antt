use Rattle.gx_syntax_tree.specs.declared.constant.ColumnConst.{ColumnConst}
use Rattle.gx_types_clauses.specs.Constants.{const_kind}
use Rattle.gx_types_clauses.proofs.ColumnLemmas.{made-distinct}
use Rattle.gx_types_clauses.proofs.constants.named_type.Goals as goal

pub of-requires-clause-distinct : goal.of-requires-clause-distinct
of-requires-clause-distinct c =
    made-distinct (λ (x : ColumnConst). x.name) (λ (x : ColumnConst). const_kind x.value) c.args.row.now c.in_ok-const_columns.field-0.items c.in_ok-const_columns.ensures c.requires.distinct
