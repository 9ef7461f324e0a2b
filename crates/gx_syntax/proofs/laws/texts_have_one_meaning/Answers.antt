use Rattle.gx_syntax.proofs.ComputedMeanings.{has_one_meaning}
use Rattle.gx_syntax.proofs.laws.texts_have_one_meaning.Goals as goal

pub returns : goal.returns
returns c = has_one_meaning c.scripts_are_parsed.ensures c.scripts_are_unique.ensures
