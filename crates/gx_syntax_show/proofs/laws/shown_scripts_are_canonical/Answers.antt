use Rattle.gx_syntax_show.proofs.ScriptPrinter.{shown_script_spells_it, shown_script_is_shortest, shown_script_is_within_limit, shown_script_has_valid_tokens}
use Rattle.gx_syntax_show.proofs.laws.shown_scripts_are_canonical.Goals as goal

pub returns-clause-spells_it : goal.returns-clause-spells_it
returns-clause-spells_it c = shown_script_spells_it c.statements_are_made_of_their_views.ensures.seen

pub returns-clause-is_shortest : goal.returns-clause-is_shortest
returns-clause-is_shortest c = shown_script_is_shortest c.statements_are_made_of_their_views.ensures.seen

pub returns-clause-is_within_limit : goal.returns-clause-is_within_limit
returns-clause-is_within_limit c = shown_script_is_within_limit c.statements_are_made_of_their_views.ensures.seen

pub returns-clause-has_valid_tokens : goal.returns-clause-has_valid_tokens
returns-clause-has_valid_tokens c = shown_script_has_valid_tokens c.statements_are_made_of_their_views.ensures.seen
