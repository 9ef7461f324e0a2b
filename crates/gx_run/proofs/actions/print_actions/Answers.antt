use Rattle.std.proofs.Common.{◌≡◌, Err, rules, arith, ◌∙◌}
use Rattle.gx_exec_contents.specs.Worlds.{loaded_in}
use Rattle.gx_run.specs.ActionLogs.{moment_of}
use Rattle.gx_run.proofs.ActionRuns.{logged_more, logged_stop}
use Rattle.gx_run.proofs.ReadFiles.{counted_since}
use Rattle.gx_run.proofs.PrintedTexts.{printed_more, printed_until}
use Rattle.gx_run.proofs.actions.print_actions.Goals as goal

pub loop-before-preserved : goal.loop-before-preserved
loop-before-preserved g c =
    let step = c.in_ok-print_if_action.ensures in
    let so_far = c.loop-before.invariant in
    let written = g.O.Sink.written in
    let w = c.args.engine.now.world in
    let n = c.loop-before.before in
    record {
      world = step.world_kept ∙ so_far.world;
      may = step.may_go_on;
      no_events = step.events_kept ∙ so_far.no_events;
      known = (λ h. so_far.known.0 (step.stays_known.0 h), λ h. step.stays_known.1 (so_far.known.1 h));
      rise = omega (arith, so_far.rise, step.faults_only_rise);
      printed =
          printed_more (loaded_in w) n (written c.args.out.now) (written c.loop-before.out) (written c.print_if_action.new.out) (Unit {0})
          (rw c.len-before-end.ensures.count at c.loop-before-test.true) so_far.printed
          (rw so_far.world at step.printed);
      logged =
          logged_more w (loaded_in w) n (moment_of c.args.engine.now c.args.cluster.now c.args.events.now (written c.args.out.now))
          (moment_of c.loop-before.engine c.loop-before.cluster c.loop-before.events (written c.loop-before.out))
          (moment_of c.print_if_action.new.engine c.print_if_action.new.cluster c.print_if_action.new.events (written c.print_if_action.new.out))
          so_far.logged (rw so_far.world at step.logged);
    }

pub returns-in_err-print_if_action-clause-printed : goal.returns-in_err-print_if_action-clause-printed
returns-in_err-print_if_action-clause-printed g c =
    let step = c.in_err-print_if_action.ensures in
    let so_far = c.loop-before.invariant in
    let written = g.O.Sink.written in
    let end = (c.in_err-print_if_action.field-0).0 in
    let same : c.from_residual.result ≡ Err end = search rules in
    rw same
    (printed_until (loaded_in c.args.engine.now.world) c.loop-before.before (written c.args.out.now) (written c.loop-before.out) (written c.print_if_action.new.out) _ _ end
    (rw c.len-before-end.ensures.count at c.loop-before-test.true) so_far.printed
    (counted_since _ _ _ so_far.rise) step.never_done
    (rw so_far.world at step.printed))

pub returns-in_err-print_if_action-clause-logged : goal.returns-in_err-print_if_action-clause-logged
returns-in_err-print_if_action-clause-logged g c =
    let step = c.in_err-print_if_action.ensures in
    let so_far = c.loop-before.invariant in
    let written = g.O.Sink.written in
    let w = c.args.engine.now.world in
    let end = (c.in_err-print_if_action.field-0).0 in
    let same : c.from_residual.result ≡ Err end = search rules in
    rw same
    (logged_stop w (loaded_in w) c.loop-before.before end (moment_of c.args.engine.now c.args.cluster.now c.args.events.now (written c.args.out.now))
    (moment_of c.loop-before.engine c.loop-before.cluster c.loop-before.events (written c.loop-before.out))
    (moment_of c.print_if_action.new.engine c.print_if_action.new.cluster c.print_if_action.new.events (written c.print_if_action.new.out))
    (rw c.len-before-end.ensures.count at c.loop-before-test.true) so_far.printed step.never_done so_far.logged
    (rw so_far.world at step.logged))
