-- Each step keeps what remains to be parsed.
use Rattle.std.proofs.Common.{◌∙◌, sym}
use Rattle.gx_syntax_exprs.proofs.Expressions.{expression_parsed, expression_refused}
use Rattle.gx_syntax_exprs.proofs.StepLemmas.{step_continues, step_shortens, step_done, step_rejects}
use Rattle.gx_syntax_exprs.proofs.cursor.Cursor.expression.Goals as goal

pub loop-stack-smaller : goal.loop-stack-smaller
loop-stack-smaller c = step_shortens c.loop-stack.state c.loop-stack.stack c.loop-stack.self c.in-Continue.next c.step.new.stack c.step.new.self (rw c.in-Continue.is at c.in_ok-next.ensures)

pub loop-stack-preserved : goal.loop-stack-preserved
loop-stack-preserved c = step_continues c.loop-stack.state c.loop-stack.stack c.loop-stack.self c.in-Continue.next c.step.new.stack c.step.new.self (rw c.in-Continue.is at c.in_ok-next.ensures) ∙ c.loop-stack.invariant

pub returns-in-Done-clause-parsed : goal.returns-in-Done-clause-parsed
returns-in-Done-clause-parsed c = sym c.loop-stack.invariant ∙ step_done c.loop-stack.state c.loop-stack.stack c.loop-stack.self c.in-Done.x c.step.new.self (rw c.in-Done.is at c.in_ok-next.ensures)

pub returns-in-Done-clause-spelled : goal.returns-in-Done-clause-spelled
returns-in-Done-clause-spelled c = expression_parsed _ c.in-Done.x c.step.new.self (returns-in-Done-clause-parsed c)

pub returns-in-Reject-clause-parsed : goal.returns-in-Reject-clause-parsed
returns-in-Reject-clause-parsed c = sym c.loop-stack.invariant ∙ step_rejects c.loop-stack.state c.loop-stack.stack c.loop-stack.self c.step.new.self (rw c.in-Reject.is at c.in_ok-next.ensures)

pub returns-in-Reject-clause-spelled : goal.returns-in-Reject-clause-spelled
returns-in-Reject-clause-spelled c = expression_refused _ c.step.new.self (returns-in-Reject-clause-parsed c)
