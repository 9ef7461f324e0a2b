use Rattle.std.proofs.Common.{rules, ◌≡◌, Some, sym, ap, ◌∙◌}
use Rattle.std.proofs.lemmas.Result.{IfOk-weaker}
use Rattle.gx_cluster_state.specs.Values.{pointed_values}
use Rattle.gx_exec_work.specs.MadeTables.{inner_made, made_if, two_tables}
use Rattle.gx_exec_work.specs.Works.{shown, shown_blocks}
use Rattle.gx_vpart.specs.Operators.{inner_join}
use Rattle.gx_vtable.specs.Kernels.{earliest_fault, rows_made}
use Rattle.gx_vtable.specs.NewRows.{inner_row, join_id}
use Rattle.gx_exec_work.proofs.kernels.joined.Goals as goal

pub returns : goal.returns
returns c =
    let contents = shown_blocks (pointed_values c.args.inputs.now) in
    let given : two_tables contents ≡ Some (c.deref.result.now, c.deref-2.result.now) = search rules in
    IfOk-weaker c.table_or_stop.result (λ b. shown b ≡ inner_made c.args.sets.now (c.deref.result.now, c.deref-2.result.now)) (λ b. shown b ≡ made_if (inner_made c.args.sets.now) (two_tables contents))
    (λ b e. e ∙ sym (ap (made_if (inner_made c.args.sets.now)) given))
    (c.table_or_stop.ensures (rows_made join_id (inner_row c.args.sets.now) (inner_join c.deref.result.now c.deref-2.result.now)) (earliest_fault join_id (inner_row c.args.sets.now) (inner_join c.deref.result.now c.deref-2.result.now)) c.table_inner.ensures.exact)
