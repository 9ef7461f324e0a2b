use Rattle.std.proofs.Common.{subst}
use Rattle.gx_exec_reads.specs.Actions.{IsAction}
use Rattle.gx_exec_reads.specs.HeldAnswers.{answer_of_blocks}
use Rattle.gx_exec_reads.specs.ScriptNameLaws.{action-at, names-in_script}
use Rattle.gx_exec_reads.proofs.reading.read_answer.Goals as goal

pub answer_of-requires-clause-is_action : goal.answer_of-requires-clause-is_action
answer_of-requires-clause-is_action c =
    subst IsAction (action-at c.args.typed.now c.args.a c.statement.result.now c.statement.ensures.at) c.requires.is_action

pub answer_of-requires-clause-names : goal.answer_of-requires-clause-names
answer_of-requires-clause-names c =
    names-in_script c.args.typed.now c.args.a c.statement.result.now c.statements_are_sound.ensures.earlier c.requires.within c.statement.ensures.named

pub returns : goal.returns
unfolding answer_of_blocks
returns c = rw (action-at c.args.typed.now c.args.a c.statement.result.now c.statement.ensures.at) c.answer_of.ensures
