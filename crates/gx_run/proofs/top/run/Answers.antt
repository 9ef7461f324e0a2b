use Rattle.gx_print.specs.declared.status.Status.TheVariants as status
use Rattle.gx_run.proofs.LogEnds.{kept_if_refused, log_at, told_logs}
use Rattle.gx_run.proofs.RunEnds.{no_memory_ends, told_ends}
use Rattle.gx_run.proofs.top.run.Goals as goal
use Rattle.gx_run_args.specs.RunCommands.{arg_bytes, run_command}

pub returns-clause-output_if_no_memory : goal.returns-clause-output_if_no_memory
returns-clause-output_if_no_memory g c e =
    let command = run_command (arg_bytes c.args.args.now) in
    let contents = g.F.Files.contents c.args.files.now in
    no_memory_ends command contents _ _ c.tell.result _ _
    (told_ends command contents _ _ c.end_of_run-end.result c.tell.result _ _ c.tell.ensures.same c.end_of_run-end.ensures.ends) e

pub returns-clause-log_if_done : goal.returns-clause-log_if_done
returns-clause-log_if_done g c e =
    let command = run_command (arg_bytes c.args.args.now) in
    let contents = g.F.Files.contents c.args.files.now in
    let before = g.O.Sink.written c.args.out.now in
    let after = g.O.Sink.written c.end_of_run-end.new.out in
    log_at command contents c.tell.result status.Done before after c.args.cluster.now c.end_of_run-end.new.cluster (λ u. absurd (cc u))
    (told_logs command contents c.end_of_run-end.result c.tell.result before after c.args.cluster.now c.end_of_run-end.new.cluster c.tell.ensures.same c.end_of_run-end.ensures.logged) e

pub returns-clause-log_if_fault : goal.returns-clause-log_if_fault
returns-clause-log_if_fault g c fault e =
    let command = run_command (arg_bytes c.args.args.now) in
    let contents = g.F.Files.contents c.args.files.now in
    let before = g.O.Sink.written c.args.out.now in
    let after = g.O.Sink.written c.end_of_run-end.new.out in
    log_at command contents c.tell.result (status.Fault fault) before after c.args.cluster.now c.end_of_run-end.new.cluster (λ u. absurd (cc u))
    (told_logs command contents c.end_of_run-end.result c.tell.result before after c.args.cluster.now c.end_of_run-end.new.cluster c.tell.ensures.same c.end_of_run-end.ensures.logged) e

pub returns-clause-log_if_sink : goal.returns-clause-log_if_sink
returns-clause-log_if_sink g c e =
    let command = run_command (arg_bytes c.args.args.now) in
    let contents = g.F.Files.contents c.args.files.now in
    let before = g.O.Sink.written c.args.out.now in
    let after = g.O.Sink.written c.end_of_run-end.new.out in
    log_at command contents c.tell.result status.Sink before after c.args.cluster.now c.end_of_run-end.new.cluster (λ u. absurd (cc u))
    (told_logs command contents c.end_of_run-end.result c.tell.result before after c.args.cluster.now c.end_of_run-end.new.cluster c.tell.ensures.same c.end_of_run-end.ensures.logged) e

pub returns-clause-log_if_no_memory : goal.returns-clause-log_if_no_memory
returns-clause-log_if_no_memory g c e =
    let command = run_command (arg_bytes c.args.args.now) in
    let contents = g.F.Files.contents c.args.files.now in
    let before = g.O.Sink.written c.args.out.now in
    let after = g.O.Sink.written c.end_of_run-end.new.out in
    log_at command contents c.tell.result status.NoMemory before after c.args.cluster.now c.end_of_run-end.new.cluster (λ u. absurd (cc u))
    (told_logs command contents c.end_of_run-end.result c.tell.result before after c.args.cluster.now c.end_of_run-end.new.cluster c.tell.ensures.same c.end_of_run-end.ensures.logged) e

pub returns-clause-log_kept_if_refused : goal.returns-clause-log_kept_if_refused
returns-clause-log_kept_if_refused g c =
    let command = run_command (arg_bytes c.args.args.now) in
    let contents = g.F.Files.contents c.args.files.now in
    let before = g.O.Sink.written c.args.out.now in
    let after = g.O.Sink.written c.end_of_run-end.new.out in
    kept_if_refused command contents c.tell.result before after c.args.cluster.now c.end_of_run-end.new.cluster
    (told_logs command contents c.end_of_run-end.result c.tell.result before after c.args.cluster.now c.end_of_run-end.new.cluster c.tell.ensures.same c.end_of_run-end.ensures.logged)
