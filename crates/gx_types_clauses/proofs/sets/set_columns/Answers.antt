use Rattle.std.proofs.Common.{◌∙◌, map}
use Rattle.std.specs.Prelude.{zip}
use Rattle.gx_rows.specs.Columns.{Column}
use Rattle.gx_rows.specs.declared.value.ValueKind.{ValueKind}
use Rattle.gx_syntax_tree.specs.declared.parts.ColumnExpr.{ColumnExpr}
use Rattle.gx_types_clauses.proofs.ColumnLemmas.{made-all, map-firsts}
use Rattle.gx_types_clauses.proofs.sets.set_columns.Goals as goal

pub returns : goal.returns
returns c =
    let named : ColumnExpr × ValueKind → Column = λ p. (p.0.name, p.1) in
    made-all named c.sets.columns.items (map named (zip c.args.sets.now c.args.kinds.now)) c.sets.set-iterator c.next.new.self c.next.result c.in-None.is c.next.ensures.steps c.sets.invariant
    ∙ map-firsts (λ (s : ColumnExpr). s.name) c.args.sets.now c.args.kinds.now
