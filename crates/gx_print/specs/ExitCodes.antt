-- The exit status of each end of a run.
use Rattle.std.specs.Prelude.{ℕ}
use Rattle.gx_print.specs.declared.status.Status.{Status}
use Rattle.gx_print.specs.declared.status.Status.TheVariants as status

-- 0 if the run is done, 1 if the script, the schedule, a file or a row was refused, and a number of
-- its own for each other end
abbrev pub exit_code : Status → ℕ
exit_code status.Done = 0
exit_code (status.Script stop) = 1
exit_code (status.Schedule line) = 1
exit_code (status.Data stop) = 1
exit_code (status.Fault fault) = 1
exit_code status.Usage = 2
exit_code (status.Limit kind) = 3
exit_code (status.Source name) = 4
exit_code status.Sink = 5
exit_code status.NoMemory = 6
