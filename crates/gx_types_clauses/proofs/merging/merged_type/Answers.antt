use Rattle.std.proofs.Common.{List, ℕ, arith}
use Rattle.gx_merge.specs.Kinds.{kind_given}
use Rattle.gx_rows.specs.declared.value.ValueKind.{ValueKind}
use Rattle.gx_syntax_tree.specs.declared.parts.ColumnMerge.{ColumnMerge}
use Rattle.gx_types_clauses.specs.StmtWords.{merge_of_written}
use Rattle.gx_types_clauses.proofs.ColumnLemmas.{made-paired}
use Rattle.gx_types_clauses.proofs.merging.merged_type.Goals as goal

abbrev name_in : ColumnMerge → List ℕ
name_in m = m.name

abbrev kind_in : ColumnMerge × ValueKind → ValueKind
kind_in p = kind_given (merge_of_written p.0.by) p.1

pub of-requires-clause-few : goal.of-requires-clause-few
of-requires-clause-few c = omega (arith, (made-paired name_in kind_in c.args.merges.now c.args.kinds.now c.in_ok-columns.columns.items c.in_ok-columns.ensures c.requires).0)

pub of-requires-clause-distinct : goal.of-requires-clause-distinct
of-requires-clause-distinct c = (made-paired name_in kind_in c.args.merges.now c.args.kinds.now c.in_ok-columns.columns.items c.in_ok-columns.ensures c.requires).1
