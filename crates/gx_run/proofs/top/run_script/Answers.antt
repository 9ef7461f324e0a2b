use Rattle.gx_print.specs.declared.status.Status.TheVariants as status
use Rattle.gx_run.proofs.LogEnds.{logged_from, refused_logs, start_may_answer}
use Rattle.gx_run.proofs.RunEnds.{printed_ends, refused_ends}
use Rattle.gx_run.proofs.top.run_script.Goals as goal
use Rattle.gx_run_args.specs.RunCommands.{command_view}

pub returns-in-Ok-clause-ends : goal.returns-in-Ok-clause-ends
returns-in-Ok-clause-ends g c =
    printed_ends (g.F.Files.contents c.args.files.now) (command_view c.args.command.now) _ _ c.in-Ok.engine _ c.in-Err-print_actions.end _ _
    c.in-Ok.ensures.loaded c.in-Err-print_actions.ensures.printed

pub returns-clause-ends : goal.returns-clause-ends
returns-clause-ends g c =
    refused_ends (g.F.Files.contents c.args.files.now) (command_view c.args.command.now) _ _ _ c.in-Err.refusal _ c.in-Err.ensures.loaded

pub returns-in-Ok-clause-logged : goal.returns-in-Ok-clause-logged
returns-in-Ok-clause-logged g c =
    logged_from (g.F.Files.contents c.args.files.now) (command_view c.args.command.now) _ _ c.in-Ok.engine c.print_actions.new.engine c.start.new.cluster c.print_actions.new.cluster c.args.cluster.now _ c.print_actions.new.events
    c.in-Err-print_actions.end _ _ c.none-events.ensures c.in-Ok.ensures.loaded c.in-Ok.ensures.started c.in-Err-print_actions.ensures.world_kept c.in-Err-print_actions.ensures.contents_kept c.in-Err-print_actions.ensures.logged

pub returns-clause-logged : goal.returns-clause-logged
returns-clause-logged g c =
    refused_logs (g.F.Files.contents c.args.files.now) (command_view c.args.command.now) _ _ c.in-Err.refusal _ _ _ _ c.in-Err.ensures.loaded c.in-Err.ensures.cluster_kept

pub print_actions-requires-clause-may : goal.print_actions-requires-clause-may
print_actions-requires-clause-may g c = start_may_answer (command_view c.args.command.now) c.in-Ok.engine c.start.new.cluster c.in-Ok.ensures.started

pub returns-in-Ok-print_actions-clause-logged : goal.returns-in-Ok-print_actions-clause-logged
returns-in-Ok-print_actions-clause-logged g c =
    logged_from (g.F.Files.contents c.args.files.now) (command_view c.args.command.now) _ _ c.in-Ok.engine c.print_actions.new.engine c.start.new.cluster c.print_actions.new.cluster c.args.cluster.now _ c.print_actions.new.events
    status.Done (g.O.Sink.written c.args.out.now) (g.O.Sink.written c.print_actions.new.out) c.none-events.ensures c.in-Ok.ensures.loaded c.in-Ok.ensures.started c.in-Ok-print_actions.ensures.world_kept c.in-Ok-print_actions.ensures.contents_kept c.in-Ok-print_actions.ensures.logged
