-- What a run means, by its arguments and the contents of its files: the texts that it prints, one for
-- each action, and its end.
use Rattle.std.specs.Prelude.{ℕ, List, Option, None, Some, Result, Ok, Err}
use Rattle.gx_rows.specs.Results.{◌>>=◌}
use Rattle.gx_outside.specs.Contents.{Contents}
use Rattle.gx_print.specs.declared.status.Status.{Status}
use Rattle.gx_print.specs.declared.status.Status.TheVariants as status
use Rattle.gx_types_stmts.specs.declared.checked_stmt.CheckedStmt.{CheckedStmt}
use Rattle.gx_model.specs.DataFiles.{rows_of_script}
use Rattle.gx_model.specs.ScriptMeaning.{Loaded, RunMeaning, meaning_of_script, refused_with}
use Rattle.gx_run.specs.ScriptFile.{script_under}
use Rattle.gx_run_args.specs.RunCommands.{RunCommand, run_command}

-- that of a checked script, or of its refusal
abbrev pub meaning_if_checked : Result (List CheckedStmt) Status → Contents → RunMeaning
meaning_if_checked (Ok checked) contents = meaning_of_script contents checked
meaning_if_checked (Err refusal) contents = refused_with refusal

-- that of a command `run`, whose script is in the file that it names
abbrev pub meaning_under : RunCommand → Contents → RunMeaning
meaning_under c contents = meaning_if_checked (script_under c.script contents) contents

-- that of a command `run`, or of arguments that are none
abbrev pub meaning_if_command : Option RunCommand → Contents → RunMeaning
meaning_if_command None contents = refused_with status.Usage
meaning_if_command (Some c) contents = meaning_under c contents

-- what a run with these arguments means over these files
abbrev pub meaning : List (List ℕ) → Contents → RunMeaning
meaning args contents = meaning_if_command (run_command args) contents

-- the script of a command with its loaded rows: what is known before the first action
abbrev pub loaded_under : RunCommand → Contents → Result Loaded Status
loaded_under c contents =
    script_under c.script contents >>= λ checked.
    rows_of_script contents checked >>= λ loads. Ok (record { checked = checked; loads = loads })
