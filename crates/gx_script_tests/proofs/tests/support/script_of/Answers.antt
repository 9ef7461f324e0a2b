use Rattle.gx_script_tests.proofs.ParsedScripts.{parsed-typable}
use Rattle.gx_script_tests.proofs.tests.support.script_of.Goals as goal

pub returns-in-Ok : goal.returns-in-Ok
returns-in-Ok c =
    parsed-typable c.args.text.now c.in-Ok.script c.texts_have_one_meaning.ensures c.parsed_scripts_are_bounded.ensures c.parsed_scripts_are_typable.ensures c.in-Ok.ensures.means
