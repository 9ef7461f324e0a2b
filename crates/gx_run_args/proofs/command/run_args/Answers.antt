use Rattle.std.proofs.Common.{◌∙◌, refl, sym}
use Rattle.gx_run_args.proofs.GivenLemmas.{command-begins, no-command, other-command}
use Rattle.gx_run_args.proofs.command.run_args.Goals as goal

pub returns-in_default-clause-exact : goal.returns-in_default-clause-exact
returns-in_default-clause-exact c = no-command c.args.args.now c.in_default.len_below

pub returns-then-eq-clause-exact : goal.returns-then-eq-clause-exact
returns-then-eq-clause-exact c =
    c.run_args_after.ensures.exact
    ∙ command-begins c.args.args.now c.as_str.result.now _
    (record { item = c.command-item.result; some = c.in-len1-up.len_at_least; is = c.command-item.is; bytes = c.as_str.ensures.value; ends = refl })
    (sym c.if-eq.ensures)

pub returns-else-eq-clause-exact : goal.returns-else-eq-clause-exact
returns-else-eq-clause-exact c =
    other-command c.args.args.now c.as_str.result.now _
    (record { item = c.command-item.result; some = c.in-len1-up.len_at_least; is = c.command-item.is; bytes = c.as_str.ensures.value; ends = refl })
    (sym c.if-eq.ensures)
