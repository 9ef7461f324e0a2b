use Rattle.gx_run.proofs.ParsedScripts.{parsed_may_be_checked}
use Rattle.gx_run.proofs.script.parse_text.Goals as goal

pub returns-in-Ok-clause-typable : goal.returns-in-Ok-clause-typable
returns-in-Ok-clause-typable c =
    parsed_may_be_checked c.args.text.now c.in-Ok.script.statements c.texts_have_one_meaning.ensures c.parsed_scripts_are_bounded.ensures c.parsed_scripts_are_typable.ensures c.in-Ok.ensures.means
