use Rattle.gx_merge.specs.Kinds.{kind_given}
use Rattle.gx_rows.specs.Columns.{Column}
use Rattle.gx_rows.specs.declared.value.ValueKind.{ValueKind}
use Rattle.gx_syntax_tree.specs.declared.parts.ColumnMerge.{ColumnMerge}
use Rattle.gx_types_clauses.specs.Merging as merging
use Rattle.gx_types_clauses.specs.StmtWords.{merge_of_written}
use Rattle.gx_types_clauses.proofs.ColumnLemmas.{made-all}
use Rattle.gx_types_clauses.proofs.merging.given_columns.Goals as goal

pub returns : goal.returns
returns c =
    let given : ColumnMerge × ValueKind → Column = λ p. (p.0.name, kind_given (merge_of_written p.0.by) p.1) in
    made-all given c.merges.columns.items (merging.given_columns c.args.merges.now c.args.kinds.now) c.merges.merge-iterator c.next.new.self c.next.result c.in-None.is c.next.ensures.steps c.merges.invariant
