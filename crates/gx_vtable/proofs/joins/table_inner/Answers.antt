use Rattle.std.proofs.Common.{rules}
use Rattle.gx_traverse.specs.Traversal.{exact}
use Rattle.gx_vpart.specs.Operators.{inner_join}
use Rattle.gx_vtable.specs.NewRows.{inner_row, join_id}
use Rattle.gx_vtable.proofs.FirstFaults.{agrees, keeps_ids, makes_rows}
use Rattle.gx_vtable.proofs.joins.table_inner.Goals as goal

pub returns-clause-exact : goal.returns-clause-exact
returns-clause-exact c =
    makes_rows join_id (inner_row c.args.sets.now) (inner_join c.args.table.now c.args.other.now) c.inner_join.result
    (exact (inner_row c.args.sets.now) c.inner_join.ensures (λ x s r. agrees s _ (search rules)))

pub returns-clause-ids_of_both : goal.returns-clause-ids_of_both
returns-clause-ids_of_both c =
    keeps_ids join_id (inner_row c.args.sets.now) (inner_join c.args.table.now c.args.other.now) c.inner_join.result (returns-clause-exact c)
