use Rattle.gx_syntax_exprs.proofs.Expressions.{expression_exact, expressions_open}
use Rattle.gx_syntax_exprs.proofs.laws.expressions_are_parsed_exactly.Goals as goal

pub returns-clause-exact : goal.returns-clause-exact
returns-clause-exact c = expression_exact

pub returns-clause-starts : goal.returns-clause-starts
returns-clause-starts c = expressions_open
