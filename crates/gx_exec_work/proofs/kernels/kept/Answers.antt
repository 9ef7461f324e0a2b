use Rattle.std.proofs.Common.{rules, ◌≡◌, Some, sym, ap, ◌∙◌}
use Rattle.std.proofs.lemmas.Result.{IfOk-weaker}
use Rattle.gx_cluster_state.specs.Values.{pointed_values}
use Rattle.gx_exec_contents.specs.MadeBlocks.{vertices_kept}
use Rattle.gx_exec_work.specs.MadeTables.{first_table, made_if}
use Rattle.gx_exec_work.specs.Works.{shown, shown_blocks}
use Rattle.gx_vtable.specs.Kernels.{earliest_fault, rows_kept}
use Rattle.gx_vtable.specs.NewRows.{test_result, vertex_id}
use Rattle.gx_exec_work.proofs.kernels.kept.Goals as goal

pub returns : goal.returns
returns c =
    let contents = shown_blocks (pointed_values c.args.inputs.now) in
    let given : first_table contents ≡ Some c.deref.result.now = search rules in
    IfOk-weaker c.table_or_stop.result (λ b. shown b ≡ vertices_kept (test_result c.args.test.now) c.deref.result.now) (λ b. shown b ≡ made_if (vertices_kept (test_result c.args.test.now)) (first_table contents))
    (λ b e. e ∙ sym (ap (made_if (vertices_kept (test_result c.args.test.now))) given))
    (c.table_or_stop.ensures (rows_kept (test_result c.args.test.now) c.deref.result.now) (earliest_fault vertex_id (test_result c.args.test.now) c.deref.result.now) c.table_filter.ensures.exact)
