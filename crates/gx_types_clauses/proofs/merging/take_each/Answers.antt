use Rattle.std.proofs.Common.{◌∙◌, ap, sym}
use Rattle.std.specs.List.{list_all}
use Rattle.gx_merge.specs.Kinds.{takes_kind}
use Rattle.gx_rows.specs.declared.value.ValueKind.{ValueKind}
use Rattle.gx_syntax_tree.specs.declared.parts.ColumnMerge.{ColumnMerge}
use Rattle.gx_types_clauses.specs.StmtWords.{merge_of_written}
use Rattle.gx_types_clauses.proofs.ColumnLemmas.{pairs-none}
use Rattle.gx_types_clauses.proofs.merging.take_each.Goals as goal

pub returns : goal.returns
returns c =
    let takes = λ (p : ColumnMerge × ValueKind). takes_kind (merge_of_written p.0.by) p.1 in
    sym (ap (list_all takes) (pairs-none c.merges.merge-iterator c.next.new.self c.next.result c.in-None.is c.next.ensures.steps)) ∙ c.merges.invariant
