-- From the results of the steps of a run to its end, and from its end to the clauses of the top call.
use Rattle.std.proofs.Common.{◌≡◌, ℕ, ◌⊎◌, inl, inr, false, List, [], length, Option, None, Some, Result, Ok, Err, refl, sym, ◌∙◌, ap, subst}
use Rattle.std.specs.Io.KnownBytes.{Appends}
use Rattle.std.specs.List.{concat}
use Rattle.std.proofs.Math.Seq.{take-length}
use Rattle.gx_rows.specs.Results.{◌>>=◌}
use Rattle.gx_outside.specs.Contents.{Contents}
use Rattle.gx_outside.specs.Faults.{FaultCounted}
use Rattle.gx_print.specs.StatusLines.{has_fixed_text}
use Rattle.gx_print.specs.declared.status.Status.{Status}
use Rattle.gx_print.specs.declared.status.Status.TheVariants as status
use Rattle.gx_types_stmts.specs.declared.checked_stmt.CheckedStmt.{CheckedStmt}
use Rattle.gx_exec_contents.specs.Worlds.{loaded_in}
use Rattle.gx_exec_work.specs.Works.{PlannedWorld}
use Rattle.gx_model.specs.DataFiles.{rows_of_script}
use Rattle.gx_model.specs.ScriptMeaning.{Loaded, RunMeaning, answers_of_script, meaning_by_loads, meaning_of_answers, refused_with}
use Rattle.gx_model.specs.Values.{LoadedRows}
use Rattle.gx_run.specs.ActionTexts.{Prints}
use Rattle.gx_run.specs.Meaning.{loaded_under, meaning_if_checked, meaning_if_command, meaning_under}
use Rattle.gx_run.specs.RunResults.{Ends, RunMeans, RunEnds, WritesFirst}
use Rattle.gx_run.specs.ScriptFile.{script_under}
use Rattle.gx_run_args.specs.RunCommands.{RunCommand}
use Rattle.gx_run.specs.Steps.{Reads, Refuses, RefusesUnknown}
use Rattle.gx_run.proofs.PrintedTexts.{appends_nothing}

-- ---- what a script means, by what was loaded

abbrev loaded_with : List CheckedStmt → LoadedRows → Loaded
loaded_with checked loads = record { checked = checked; loads = loads }

loads_refused : (checked : List CheckedStmt) (loads : Result LoadedRows Status) (t : Status)
    → (loads >>= λ rows. Ok (loaded_with checked rows)) ≡ Err t
    → meaning_by_loads checked loads ≡ refused_with t
loads_refused checked (Ok rows) t e = absurd (cc e)
loads_refused checked (Err s) t e = let same : s ≡ t = cc e in ap refused_with same

script_refused : (script : Result (List CheckedStmt) Status) (contents : Contents) (t : Status)
    → (script >>= λ checked. rows_of_script contents checked >>= λ rows. Ok (loaded_with checked rows)) ≡ Err t
    → meaning_if_checked script contents ≡ refused_with t
script_refused (Ok checked) contents t e = loads_refused checked (rows_of_script contents checked) t e
script_refused (Err s) contents t e = let same : s ≡ t = cc e in ap refused_with same

loads_known : (checked : List CheckedStmt) (loads : Result LoadedRows Status) (l : Loaded)
    → (loads >>= λ rows. Ok (loaded_with checked rows)) ≡ Ok l
    → meaning_by_loads checked loads ≡ meaning_of_answers (answers_of_script l)
loads_known checked (Ok rows) l e =
    let same : loaded_with checked rows ≡ l = cc e in
    ap (λ (k : Loaded). meaning_of_answers (answers_of_script k)) same
loads_known checked (Err s) l e = absurd (cc e)

script_known : (script : Result (List CheckedStmt) Status) (contents : Contents) (l : Loaded)
    → (script >>= λ checked. rows_of_script contents checked >>= λ rows. Ok (loaded_with checked rows)) ≡ Ok l
    → meaning_if_checked script contents ≡ meaning_of_answers (answers_of_script l)
script_known (Ok checked) contents l e = loads_known checked (rows_of_script contents checked) l e
script_known (Err s) contents l e = absurd (cc e)

means_some : (contents : Option Contents) (meaning : Contents → RunMeaning) → (m : RunMeaning) × RunMeans contents meaning m
means_some None meaning = (refused_with status.NoMemory, tt)
means_some (Some held) meaning = (meaning held, refl)

-- ---- no action was begun

writes_none : (contents : Option Contents) (meaning : Contents → RunMeaning) (before after : Option (List ℕ))
    → after ≡ before → WritesFirst contents meaning before after
writes_none contents meaning before after same =
    let m = means_some contents meaning in
    (m.0, 0, m.1, subst (λ w. Appends before w []) (sym same) (appends_nothing before))

refused_unknown : (command : RunCommand) (read write : Type 0) (s : Status) (w : Option (List ℕ))
    → RefusesUnknown read s → Ends None (meaning_under command) read write s w w
refused_unknown command read write status.Done w h = absurd h
refused_unknown command read write status.Usage w h = h
refused_unknown command read write (status.Script stop) w h = (tt, refl)
refused_unknown command read write (status.Schedule line) w h = h
refused_unknown command read write (status.Data stop) w h = (tt, refl)
refused_unknown command read write (status.Fault fault) w h = absurd h
refused_unknown command read write (status.Limit kind) w h = (tt, refl)
refused_unknown command read write (status.Source file) w h = (inl h, refl)
refused_unknown command read write status.Sink w h = absurd h
refused_unknown command read write status.NoMemory w h = writes_none None (meaning_under command) w w refl

source_refused : (command : RunCommand) (file : List ℕ) (contents : Contents) (read : Type 0)
    → read ⊎ (loaded_under command contents ≡ Err (status.Source file))
    → read ⊎ (meaning_under command contents ≡ refused_with (status.Source file))
source_refused command file contents read (inl was) = inl was
source_refused command file contents read (inr is) = inr (script_refused (script_under command.script contents) contents _ is)

refused_known : (command : RunCommand) (contents : Contents) (read write : Type 0) (s : Status) (w : Option (List ℕ))
    → Refuses read s (loaded_under command contents) → Ends (Some contents) (meaning_under command) read write s w w
refused_known command contents read write status.Done w h = absurd h
refused_known command contents read write status.Usage w h = h
refused_known command contents read write (status.Script stop) w h =
    (script_refused (script_under command.script contents) contents _ h, refl)
refused_known command contents read write (status.Schedule line) w h = h
refused_known command contents read write (status.Data stop) w h =
    (script_refused (script_under command.script contents) contents _ h, refl)
refused_known command contents read write (status.Fault fault) w h = absurd h
refused_known command contents read write (status.Limit kind) w h =
    (script_refused (script_under command.script contents) contents _ h, refl)
refused_known command contents read write (status.Source file) w h = (source_refused command file contents read h, refl)
refused_known command contents read write status.Sink w h = absurd h
refused_known command contents read write status.NoMemory w h = writes_none (Some contents) (meaning_under command) w w refl

pub refused_ends : (contents : Option Contents) (command : RunCommand) (a b : ℕ) (write : Type 0) (s : Status) (w : Option (List ℕ))
    → Reads contents a b (λ (e : PlannedWorld). loaded_in e.world) (Err s) (loaded_under command)
    → Ends contents (meaning_under command) (FaultCounted a b) write s w w
refused_ends None command a b write s w r = refused_unknown command (FaultCounted a b) write s w r
refused_ends (Some held) command a b write s w r = refused_known command held (FaultCounted a b) write s w r

-- ---- the actions were begun

means_loaded : (contents : Option Contents) (command : RunCommand) (a b : ℕ) (e : PlannedWorld)
    → Reads contents a b (λ (x : PlannedWorld). loaded_in x.world) (Ok e) (loaded_under command)
    → RunMeans contents (meaning_under command) (meaning_of_answers (answers_of_script (loaded_in e.world)))
means_loaded None command a b e r = tt
means_loaded (Some held) command a b e r = script_known (script_under command.script held) held (loaded_in e.world) r

means_ended : (contents : Option Contents) (meaning : Contents → RunMeaning) (m : RunMeaning) (end : Status)
    → m.end ≡ end → RunMeans contents meaning m → RunMeans contents meaning (record { texts = m.texts; end = end })
means_ended contents meaning m end is h = subst (λ e. RunMeans contents meaning (record { texts = m.texts; end = e })) is h

pub printed_ends : (contents : Option Contents) (command : RunCommand) (a b : ℕ) (e : PlannedWorld) (write : Type 0) (end : Status) (before after : Option (List ℕ))
    → Reads contents a b (λ (x : PlannedWorld). loaded_in x.world) (Ok e) (loaded_under command)
    → Prints (meaning_of_answers (answers_of_script (loaded_in e.world))) write end before after
    → Ends contents (meaning_under command) (FaultCounted a b) write end before after
printed_ends contents command a b e write status.Done before after r p =
    let m = meaning_of_answers (answers_of_script (loaded_in e.world)) in
    (m.texts, means_ended contents (meaning_under command) m _ p.0 (means_loaded contents command a b e r), p.1)
printed_ends contents command a b e write status.Usage before after r p = absurd p
printed_ends contents command a b e write (status.Script stop) before after r p = absurd p
printed_ends contents command a b e write (status.Schedule line) before after r p = absurd p
printed_ends contents command a b e write (status.Data stop) before after r p = absurd p
printed_ends contents command a b e write (status.Fault fault) before after r p =
    let m = meaning_of_answers (answers_of_script (loaded_in e.world)) in
    (m.texts, means_ended contents (meaning_under command) m _ p.0 (means_loaded contents command a b e r), p.1)
printed_ends contents command a b e write (status.Limit kind) before after r p = absurd p
printed_ends contents command a b e write (status.Source file) before after r p = absurd p
printed_ends contents command a b e write status.Sink before after r p =
    (p.0, (meaning_of_answers (answers_of_script (loaded_in e.world)), means_loaded contents command a b e r, p.1))
printed_ends contents command a b e write status.NoMemory before after r p =
    (meaning_of_answers (answers_of_script (loaded_in e.world)), p.0, means_loaded contents command a b e r, p.2)

-- ---- memory for the text of the end ran out

no_memory_instead : (contents : Option Contents) (meaning : Contents → RunMeaning) (read write : Type 0) (end : Status) (before after : Option (List ℕ))
    → has_fixed_text end ≡ false → Ends contents meaning read write end before after → WritesFirst contents meaning before after
no_memory_instead contents meaning read write status.Done before after f h = absurd (cc f)
no_memory_instead contents meaning read write status.Usage before after f h = absurd (cc f)
no_memory_instead contents meaning read write (status.Script stop) before after f h = writes_none contents meaning before after h.1
no_memory_instead contents meaning read write (status.Schedule line) before after f h = absurd h
no_memory_instead contents meaning read write (status.Data stop) before after f h = writes_none contents meaning before after h.1
no_memory_instead contents meaning read write (status.Fault fault) before after f h =
    (record { texts = h.0; end = status.Fault fault }, length h.0, h.1, subst (λ t. Appends before after (concat t)) (sym (take-length h.0)) h.2)
no_memory_instead contents meaning read write (status.Limit kind) before after f h = writes_none contents meaning before after h.1
no_memory_instead contents meaning read write (status.Source file) before after f h = writes_none contents meaning before after h.1
no_memory_instead contents meaning read write status.Sink before after f h = absurd (cc f)
no_memory_instead contents meaning read write status.NoMemory before after f h = absurd (cc f)

pub told_ends : (command : Option RunCommand) (contents : Option Contents) (read write : Type 0) (end told : Status) (before after : Option (List ℕ))
    → (told ≡ end) ⊎ ((told ≡ status.NoMemory) × (has_fixed_text end ≡ false))
    → RunEnds command contents read write end before after → RunEnds command contents read write told before after
told_ends None contents read write end told before after (inl same) h = (same ∙ h.0, h.1)
told_ends None contents read write end told before after (inr none) h = absurd (cc (h.0, none.1))
told_ends (Some command) contents read write end told before after (inl same) h =
    subst (λ s. Ends contents (meaning_under command) read write s before after) (sym same) h
told_ends (Some command) contents read write end told before after (inr none) h =
    subst (λ s. Ends contents (meaning_under command) read write s before after) (sym none.0)
    (no_memory_instead contents (meaning_under command) read write end before after none.1 h)

pub no_memory_ends : (command : Option RunCommand) (contents : Option Contents) (read write : Type 0) (told : Status) (before after : Option (List ℕ))
    → RunEnds command contents read write told before after → told ≡ status.NoMemory
    → WritesFirst contents (meaning_if_command command) before after
no_memory_ends None contents read write told before after h e = absurd (cc (h.0, e))
no_memory_ends (Some command) contents read write told before after h e =
    subst (λ s. Ends contents (meaning_under command) read write s before after) e h
