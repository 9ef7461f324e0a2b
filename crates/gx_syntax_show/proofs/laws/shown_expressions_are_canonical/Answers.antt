use Rattle.gx_syntax_show.proofs.ExprPrinter.{shown_expr_spells_it, shown_expr_is_shortest, shown_expr_has_valid_tokens}
use Rattle.gx_syntax_show.proofs.laws.shown_expressions_are_canonical.Goals as goal

pub returns-clause-spells_it : goal.returns-clause-spells_it
returns-clause-spells_it c = shown_expr_spells_it

pub returns-clause-is_shortest : goal.returns-clause-is_shortest
returns-clause-is_shortest c = shown_expr_is_shortest

pub returns-clause-has_valid_tokens : goal.returns-clause-has_valid_tokens
returns-clause-has_valid_tokens c = shown_expr_has_valid_tokens
