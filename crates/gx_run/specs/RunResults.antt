-- The end of a run and what it wrote, beside what the run means over the contents of its files.
use Rattle.std.specs.Prelude.{◌≡◌, ◌⊎◌, ℕ, List, take, Option, None, Some, Ok, ⊤, IfSome}
use Rattle.std.specs.Io.KnownBytes.{Appends}
use Rattle.std.specs.List.{concat}
use Rattle.gx_outside.specs.Contents.{Contents}
use Rattle.gx_outside.specs.Prefixes.{AppendsProperPrefix}
use Rattle.gx_print.specs.StatusLines.{text_of_status}
use Rattle.gx_print.specs.declared.status.Status.{Status}
use Rattle.gx_print.specs.declared.status.Status.TheVariants as status
use Rattle.gx_types_stmts.specs.declared.checked_stmt.CheckedStmt.{CheckedStmt}
use Rattle.gx_model.specs.ScriptMeaning.{RunMeaning, refused_with}
use Rattle.gx_run.specs.LoadedFiles.{IsLoaded}
use Rattle.gx_run.specs.Meaning.{meaning_under}
use Rattle.gx_run.specs.ScriptFile.{script_under}
use Rattle.gx_run_args.specs.RunCommands.{RunCommand, run_command}

-- if the contents of the files are known, this is what the run means
abbrev pub RunMeans : Option Contents → (Contents → RunMeaning) → RunMeaning → Type 0
RunMeans None meaning m = ⊤
RunMeans (Some contents) meaning m = meaning contents ≡ m

-- the contents are known, and the run means that this file is refused for its source
abbrev pub IsMissing : Option Contents → (Contents → RunMeaning) → List ℕ → Type 0
IsMissing None meaning name = ⊥
IsMissing (Some contents) meaning name = meaning contents ≡ refused_with (status.Source name)

-- ---- what was written to out

-- all texts of the run, which has this end
abbrev pub WritesAll : Option Contents → (Contents → RunMeaning) → Status → Option (List ℕ) → Option (List ℕ) → Type 0
WritesAll contents meaning end before after =
    (texts : List (List ℕ)) × RunMeans contents meaning (record { texts = texts; end = end })
    × Appends before after (concat texts)

-- the texts of the first actions, each of them whole
abbrev pub WritesFirst : Option Contents → (Contents → RunMeaning) → Option (List ℕ) → Option (List ℕ) → Type 0
WritesFirst contents meaning before after =
    (m : RunMeaning) × (k : ℕ) × RunMeans contents meaning m × Appends before after (concat (take k m.texts))

-- a proper prefix of all texts
abbrev pub WritesProperPrefix : Option Contents → (Contents → RunMeaning) → Option (List ℕ) → Option (List ℕ) → Type 0
WritesProperPrefix contents meaning before after =
    (m : RunMeaning) × RunMeans contents meaning m × AppendsProperPrefix before after (concat m.texts)

-- nothing, and the run is refused so before any action
abbrev pub IsRefused : Option Contents → (Contents → RunMeaning) → Status → Option (List ℕ) → Option (List ℕ) → Type 0
IsRefused contents meaning refusal before after = RunMeans contents meaning (refused_with refusal) × (after ≡ before)

-- How a run with a script ended, by what its files and its sink counted, and by what was written
-- before and after
abbrev pub Ends : Option Contents → (Contents → RunMeaning) → Type 0 → Type 0 → Status → Option (List ℕ) → Option (List ℕ) → Type 0
Ends contents meaning read_fault write_fault status.Done before after = WritesAll contents meaning status.Done before after
Ends contents meaning read_fault write_fault status.Usage before after = ⊥
Ends contents meaning read_fault write_fault (status.Script stop) before after =
    IsRefused contents meaning (status.Script stop) before after
Ends contents meaning read_fault write_fault (status.Schedule line) before after = ⊥
Ends contents meaning read_fault write_fault (status.Data stop) before after =
    IsRefused contents meaning (status.Data stop) before after
Ends contents meaning read_fault write_fault (status.Fault fault) before after =
    WritesAll contents meaning (status.Fault fault) before after
Ends contents meaning read_fault write_fault (status.Limit kind) before after =
    IsRefused contents meaning (status.Limit kind) before after
Ends contents meaning read_fault write_fault (status.Source name) before after =
    (read_fault ⊎ IsMissing contents meaning name) × (after ≡ before)
Ends contents meaning read_fault write_fault status.Sink before after =
    write_fault × WritesProperPrefix contents meaning before after
Ends contents meaning read_fault write_fault status.NoMemory before after = WritesFirst contents meaning before after

-- how a run ended with this command or, if there is none, with other arguments; the clauses of the top
-- call take this apart
abbrev pub RunEnds : Option RunCommand → Option Contents → Type 0 → Type 0 → Status → Option (List ℕ) → Option (List ℕ) → Type 0
RunEnds None contents read_fault write_fault end before after = (end ≡ status.Usage) × (after ≡ before)
RunEnds (Some c) contents read_fault write_fault end before after =
    Ends contents (meaning_under c) read_fault write_fault end before after

-- ---- what was written to err

-- this text, or a proper prefix of it if a fault was counted
abbrev pub WritesOrFails : Type 0 → List ℕ → Option (List ℕ) → Option (List ℕ) → Type 0
WritesOrFails counted text before after =
    Appends before after text ⊎ (counted × AppendsProperPrefix before after text)

-- the text of the end
abbrev pub Tells : Type 0 → Status → Option (List ℕ) → Option (List ℕ) → Type 0
Tells counted end before after = WritesOrFails counted (text_of_status end) before after

-- ---- names of files

-- the name is the script's or, if the contents are known, that of a file which the script loads
abbrev pub IsScriptOrLoaded : RunCommand → Option Contents → List ℕ → Type 0
IsScriptOrLoaded c None name = ⊤
IsScriptOrLoaded c (Some contents) name =
    (name ≡ c.script)
    ⊎ ((checked : List CheckedStmt) × (script_under c.script contents ≡ Ok checked)
    × IsLoaded checked name)

-- a run with these arguments requests the file of this name
abbrev pub IsRequested : List (List ℕ) → Option Contents → List ℕ → Type 0
IsRequested args contents name = IfSome (run_command args) (λ c. IsScriptOrLoaded c contents name)
