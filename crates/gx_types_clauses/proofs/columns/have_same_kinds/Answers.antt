use Rattle.gx_types_clauses.specs.SameColumns as same
use Rattle.gx_types_clauses.proofs.ColumnLemmas.{compared-next, compared-stop, kind-at}
use Rattle.gx_types_clauses.proofs.columns.have_same_kinds.Goals as goal

pub returns-then-not-is_same_kind : goal.returns-then-not-is_same_kind
returns-then-not-is_same_kind c =
    compared-stop same.is_same_kind (same.kinds_in c.args.a.now) (same.kinds_in c.args.b.now) c.columns.i c.len-i-end.result c.kind.result c.kind-in-columns.result c.columns.invariant
    (kind-at c.args.a.now c.columns.i c.kind.result c.kind.ensures) (kind-at c.args.b.now c.columns.i c.kind-in-columns.result c.kind-in-columns.ensures) (cc)

pub columns-preserved : goal.columns-preserved
columns-preserved c =
    compared-next same.is_same_kind (same.kinds_in c.args.a.now) (same.kinds_in c.args.b.now) c.columns.i c.len-i-end.result c.kind.result c.kind-in-columns.result c.columns.invariant
    (kind-at c.args.a.now c.columns.i c.kind.result c.kind.ensures) (kind-at c.args.b.now c.columns.i c.kind-in-columns.result c.kind-in-columns.ensures) (cc)
