use Rattle.std.proofs.Common.{rules}
use Rattle.gx_traverse.specs.Traversal.{exact}
use Rattle.gx_vpart.specs.Operators.{left_join}
use Rattle.gx_vtable.specs.NewRows.{join_id, left_row}
use Rattle.gx_vtable.proofs.FirstFaults.{agrees, ids-left_join, keeps_ids, makes_rows}
use Rattle.gx_vtable.proofs.joins.table_left.Goals as goal

pub returns-clause-exact : goal.returns-clause-exact
returns-clause-exact c =
    makes_rows join_id (left_row c.args.sets.now c.args.default.now) (left_join c.args.table.now c.args.other.now) c.left_join.result
    (rw (ids-left_join c.args.table.now c.args.other.now)
    (exact (left_row c.args.sets.now c.args.default.now) c.left_join.ensures (λ x s r. agrees s _ (search rules))))

pub returns-clause-ids_kept : goal.returns-clause-ids_kept
returns-clause-ids_kept c =
    rw (ids-left_join c.args.table.now c.args.other.now) at
    (keeps_ids join_id (left_row c.args.sets.now c.args.default.now) (left_join c.args.table.now c.args.other.now) c.left_join.result (returns-clause-exact c))
