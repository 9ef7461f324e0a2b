use Rattle.std.proofs.Common.{rules}
use Rattle.gx_traverse.specs.Traversal.{exact}
use Rattle.gx_vtable.specs.NewRows.{test_result}
use Rattle.gx_vtable.proofs.FirstFaults.{agrees, keeps_rows}
use Rattle.gx_vtable.proofs.maps.table_filter.Goals as goal

pub returns : goal.returns
returns c = record {
  exact = keeps_rows (test_result c.args.test.now) c.args.table.now c.filter.result
      (exact (test_result c.args.test.now) c.filter.ensures (λ v s r. agrees s _ (search rules)));
}
