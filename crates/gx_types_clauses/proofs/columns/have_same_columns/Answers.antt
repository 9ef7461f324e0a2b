use Rattle.gx_types_clauses.proofs.ColumnLemmas.{other-kind, other-name, same-column}
use Rattle.gx_types_clauses.proofs.columns.have_same_columns.Goals as goal
use Rattle.gx_types_clauses.proofs.columns.have_same_columns.Goals.{then-ne-via-then-ne, then-ne-via-else-ne+then-not-is_same_kind}

pub returns-then-ne : goal.returns-then-ne
returns-then-ne c =
    elim c.then-ne.branch [
      | then-ne-via-then-ne w ↦
          other-name c.args.a.now c.args.b.now c.columns.i c.len-i-end.result c.name.result.now c.name-in-columns.result.now c.columns.invariant c.name.ensures c.name-in-columns.ensures w.if-ne.ensures
      | then-ne-via-else-ne+then-not-is_same_kind w ↦
          other-kind c.args.a.now c.args.b.now c.columns.i c.len-i-end.result c.name.result.now c.name-in-columns.result.now w.kind.result w.kind-else-ne.result c.columns.invariant c.name.ensures c.name-in-columns.ensures w.kind.ensures w.kind-else-ne.ensures (cc)
    ]

pub columns-preserved : goal.columns-preserved
columns-preserved c =
    same-column c.args.a.now c.args.b.now c.columns.i c.len-i-end.result c.name.result.now c.name-in-columns.result.now c.kind.result c.kind-else-ne.result c.columns.invariant c.name.ensures c.name-in-columns.ensures c.kind.ensures c.kind-else-ne.ensures c.if-ne.ensures (cc)
