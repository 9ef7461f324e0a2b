use Rattle.gx_run_args.proofs.CountLemmas.{count_value-unparsed}
use Rattle.gx_run_args.proofs.options.count_value.Goals as goal

pub returns-in_default-3-clause-exact : goal.returns-in_default-3-clause-exact
returns-in_default-3-clause-exact c = count_value-unparsed c.args.word.now c.in_default.field-0 (rw c.in_default.is at c.parse.ensures.value.0)
