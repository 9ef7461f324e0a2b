use Rattle.std.proofs.Common.{◌≡◌, take}
use Rattle.gx_syntax_show.proofs.ScriptWriting.{after_script}
use Rattle.gx_syntax_show.proofs.script.show.Given as goal

-- the lines so far are written
abbrev pub invariant-statements : goal.invariant-statements
invariant-statements l = l.out ≡ after_script (take l.statement-index l.statement-items)
