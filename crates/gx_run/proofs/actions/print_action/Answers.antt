use Rattle.std.proofs.Common.{◌≡◌, Err, None, rules}
use Rattle.gx_exec.specs.Courses.{answered}
use Rattle.gx_exec.specs.Engines.{point_of}
use Rattle.gx_exec_contents.specs.Worlds.{loaded_in}
use Rattle.gx_exec_answers.specs.AnswerRows.{answer_record}
use Rattle.gx_outside.specs.Prefixes.{AppendsProperPrefix}
use Rattle.gx_print.specs.RowTexts.{text_of_rows}
use Rattle.gx_print.specs.declared.status.Status.TheVariants as status
use Rattle.gx_run.specs.ActionLogs.{moment_of}
use Rattle.gx_run.specs.ActionTexts.{meaning_of_number}
use Rattle.gx_run.proofs.ActionRuns.{ends_passes, single_passes, single_stops, text_of_action}
use Rattle.gx_run.proofs.actions.print_action.Goals as goal

pub returns-in-Err-NoMemory-clause-logged : goal.returns-in-Err-NoMemory-clause-logged
returns-in-Err-NoMemory-clause-logged g c =
    let e = c.args.engine.now in
    single_passes e.world e.planned c.args.s (point_of c.args.cluster.now c.args.events.now) (point_of c.answer_action.new.cluster c.answer_action.new.events)
    (rw c.in-Err-NoMemory.field-0-is at c.in-Err-NoMemory.ensures.stop)

-- memory for the text ran out
pub returns-in_err-text-clause-logged : goal.returns-in_err-text-clause-logged
returns-in_err-text-clause-logged g c =
    let e = c.args.engine.now in
    let before = point_of c.args.cluster.now c.args.events.now in
    let after = point_of c.answer_action.new.cluster c.answer_action.new.events in
    let same : c.from_residual.result ≡ Err status.NoMemory = search rules in
    rw same
    (single_passes e.world e.planned c.args.s before after
    (ends_passes e.world (answered e.world e.planned c.args.s) None c.answer_action.new.engine.planned before after c.in-Ok.ensures.ok))

-- the sink failed
pub returns-clause-logged : goal.returns-clause-logged
returns-clause-logged g c =
    let e = c.args.engine.now in
    let l = loaded_in e.world in
    let answer = answer_record c.in-Ok.answer in
    let text = text_of_rows answer.header answer.rows in
    let before = g.O.Sink.written c.args.out.now in
    let after = g.O.Sink.written c.write_all.new.sink in
    let part : AppendsProperPrefix before after text = search rules in
    single_stops e.world c.args.s (meaning_of_number l c.args.s).texts text
    (moment_of e c.args.cluster.now c.args.events.now before) (moment_of c.answer_action.new.engine c.answer_action.new.cluster c.answer_action.new.events after)
    (text_of_action l c.args.s answer c.in-Ok.ensures.answer c.in-Ok.ensures.exact) part c.in-Ok.ensures.ok
