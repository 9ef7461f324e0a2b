use Rattle.gx_syntax_tree.proofs.Views.{made_of_its_view, views_what_it_is_made_of}
use Rattle.gx_syntax_tree.proofs.laws.statements_are_made_of_their_views.Goals as goal

pub returns-clause-made : goal.returns-clause-made
returns-clause-made c = made_of_its_view

pub returns-clause-seen : goal.returns-clause-seen
returns-clause-seen c = views_what_it_is_made_of
