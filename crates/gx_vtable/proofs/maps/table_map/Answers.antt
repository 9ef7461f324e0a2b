use Rattle.std.proofs.Common.{rules}
use Rattle.gx_expr.specs.Evaluates.{EvaluatesTo}
use Rattle.gx_traverse.specs.Traversal.{exact}
use Rattle.gx_vtable.specs.NewRows.{mapped_row, vertex_id}
use Rattle.gx_vtable.proofs.FirstFaults.{agrees, keeps_ids, makes_rows}
use Rattle.gx_vtable.proofs.maps.table_map.Goals as goal

pub returns-clause-exact : goal.returns-clause-exact
returns-clause-exact c =
    makes_rows vertex_id (mapped_row c.args.sets.now) c.args.table.now c.map.result
    (exact (mapped_row c.args.sets.now) c.map.ensures (λ v s r.
    let made : EvaluatesTo s (mapped_row c.args.sets.now (v.0, r.0.now)) = search rules in
    agrees s _ (rw r.1 at made)))

pub returns-clause-ids_kept : goal.returns-clause-ids_kept
returns-clause-ids_kept c = keeps_ids vertex_id (mapped_row c.args.sets.now) c.args.table.now c.map.result (returns-clause-exact c)
