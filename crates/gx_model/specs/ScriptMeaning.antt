-- What a script means over plain lists: what its actions print, up to the first that has a fault.
use Rattle.std.specs.Prelude.{ℕ, ◌+◌, ◌-◌, List, [], ◌∷◌, map, slice_get, Option, None, Some, Result, Ok, Err}
use Rattle.std.specs.Option.{option_and_then}
use Rattle.gx_rows.specs.declared.fault.Fault.{Fault}
use Rattle.gx_outside.specs.Contents.{Contents}
use Rattle.gx_print.specs.RowTexts.{text_of_rows}
use Rattle.gx_print.specs.declared.status.Status.{Status}
use Rattle.gx_print.specs.declared.status.Status.TheVariants as status
use Rattle.gx_types_stmts.specs.declared.checked_stmt.CheckedStmt.{CheckedStmt}
use Rattle.gx_types_stmts.specs.declared.typed_stmt.TypedStmt.{TypedStmt}
use Rattle.gx_model.specs.Graphs.{Graph, unplaced}
use Rattle.gx_model.specs.DataFiles.{rows_of_script}
use Rattle.gx_model.specs.NamesUsed.{stmts_used}
use Rattle.gx_model.specs.ActionAnswers.{Answer, answer_of_stmt}
use Rattle.gx_model.specs.StmtFaults.{fault_of_stmt}
use Rattle.gx_model.specs.Values.{LoadedRows, values_of_script}

-- what is known once all files are loaded
pub record Loaded : Type 0 where
  pub checked : List CheckedStmt
  pub loads : LoadedRows

abbrev pub stmts_in : Loaded → List TypedStmt
stmts_in l = map (λ c. c.stmt) l.checked

-- the values of all names, without places
abbrev pub plain_values : Loaded → List (Graph (Unit {0}))
plain_values l = values_of_script unplaced l.loads (stmts_in l)

-- ---- the fault of an action

-- the fault of statement s, if there is one
abbrev pub fault_of_number : Loaded → ℕ → Option Fault
fault_of_number l s = option_and_then (fault_of_stmt (plain_values l) s) (slice_get (stmts_in l) (s - 1))

abbrev pub first_fault : Option Fault → Option Fault → Option Fault
first_fault (Some f) others = Some f
first_fault None others = others

-- the first fault of these statements
abbrev pub fault_among : Loaded → List ℕ → Option Fault
fault_among l [] = None
fault_among l (s ∷ stmts) = first_fault (fault_of_number l s) (fault_among l stmts)

-- the fault of an action: that of the first statement that it uses and that has one
abbrev pub fault_of_action : Loaded → ℕ → Option Fault
fault_of_action l s = fault_among l (stmts_used l.checked s)

-- ---- the actions, in order

-- what was printed, and the fault that ended it, if one did
pub record ScriptAnswers : Type 0 where
  pub answers : List Answer
  pub fault : Option Fault

-- an action that has this fault, or prints this before the others
abbrev pub answered : Option Fault → Answer → ScriptAnswers → ScriptAnswers
answered (Some f) answer others = record { answers = []; fault = Some f }
answered None answer others = record { answers = answer ∷ others.answers; fault = others.fault }

-- a statement that prints this, if it is an action, before the others
abbrev pub answered_if : Loaded → ℕ → Option Answer → ScriptAnswers → ScriptAnswers
answered_if l s None others = others
answered_if l s (Some answer) others = answered (fault_of_action l s) answer others

-- the answers of the statements from number s on
abbrev pub answers_from : Loaded → ℕ → List CheckedStmt → ScriptAnswers
answers_from l s [] = record { answers = []; fault = None }
answers_from l s (c ∷ checked) =
    answered_if l s (answer_of_stmt l.checked (plain_values l) c.stmt) (answers_from l (s + 1) checked)

-- what a script prints
abbrev pub answers_of_script : Loaded → ScriptAnswers
answers_of_script l = answers_from l 1 l.checked

-- ---- the meaning of a script

-- the texts that a script prints, one for each action up to the end, and the end
pub record RunMeaning : Type 0 where
  pub texts : List (List ℕ)
  pub end : Status

-- a refusal before any action
abbrev pub refused_with : Status → RunMeaning
refused_with s = record { texts = []; end = s }

abbrev pub end_by : Option Fault → Status
end_by None = status.Done
end_by (Some f) = status.Fault f

abbrev pub meaning_of_answers : ScriptAnswers → RunMeaning
meaning_of_answers a = record {
  texts = map (λ answer. text_of_rows answer.header answer.rows) a.answers;
  end = end_by a.fault;
}

abbrev pub meaning_by_loads : List CheckedStmt → Result LoadedRows Status → RunMeaning
meaning_by_loads checked (Ok loads) = meaning_of_answers (answers_of_script (record { checked = checked; loads = loads }))
meaning_by_loads checked (Err s) = refused_with s

-- what a checked script means over these files: all loads first, and then the actions
abbrev pub meaning_of_script : Contents → List CheckedStmt → RunMeaning
meaning_of_script contents checked = meaning_by_loads checked (rows_of_script contents checked)
