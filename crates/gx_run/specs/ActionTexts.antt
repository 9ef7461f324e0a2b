-- Texts of actions on a sink.
use Rattle.std.specs.Prelude.{◌≡◌, ℕ, ◌+◌, ◌≤◌, List, [], ◌++◌, drop, length, take, Option, None, Result, Ok, Err}
use Rattle.std.specs.Io.KnownBytes.{Appends}
use Rattle.std.specs.List.{concat, range_with_len}
use Rattle.gx_outside.specs.Prefixes.{AppendsProperPrefix}
use Rattle.gx_model.specs.ScriptMeaning.{Loaded, RunMeaning, ScriptAnswers, answered_if, answers_from, answers_of_script, meaning_of_answers}
use Rattle.gx_print.specs.declared.status.Status.{Status}
use Rattle.gx_print.specs.declared.status.Status.TheVariants as status
use Rattle.gx_exec.specs.Engines.{action_answer}
use Rattle.gx_run.specs.ActionLogs.{actions_among}

abbrev pub nothing_answered : ScriptAnswers
nothing_answered = record { answers = []; fault = None }

-- what statement s alone means: a text or a fault if it is an action, and nothing if it is none
abbrev pub meaning_of_number : Loaded → ℕ → RunMeaning
meaning_of_number l s = meaning_of_answers (answered_if l s (action_answer l s) nothing_answered)

abbrev pub end_of : Result (Unit {0}) Status → Status
end_of (Ok done) = status.Done
end_of (Err end) = end

-- What was written of texts that m means, and how that ended: all texts up to the end of m; or a
-- proper prefix of them, for a fault of the sink; or the first of them, whole, until memory ran out.
abbrev pub Prints : RunMeaning → Type 0 → Status → Option (List ℕ) → Option (List ℕ) → Type 0
Prints m counted status.Done before after = (m.end ≡ status.Done) × Appends before after (concat m.texts)
Prints m counted status.Usage before after = ⊥
Prints m counted (status.Script stop) before after = ⊥
Prints m counted (status.Schedule line) before after = ⊥
Prints m counted (status.Data stop) before after = ⊥
Prints m counted (status.Fault fault) before after =
    (m.end ≡ status.Fault fault) × Appends before after (concat m.texts)
Prints m counted (status.Limit kind) before after = ⊥
Prints m counted (status.Source name) before after = ⊥
Prints m counted status.Sink before after = counted × AppendsProperPrefix before after (concat m.texts)
Prints m counted status.NoMemory before after =
    (k : ℕ) × (k ≤ length m.texts) × Appends before after (concat (take k m.texts))

-- ---- on the way

-- these texts, and then what m means
abbrev pub with_texts : List (List ℕ) → RunMeaning → RunMeaning
with_texts texts m = record { texts = texts ++ m.texts; end = m.end }

-- the first n statements have printed what was written, a text for each action, and none of them ended the run
pub record HasPrinted (l : Loaded) (n : ℕ) (before after : Option (List ℕ)) : Type 0 where
  pub texts : List (List ℕ)
  pub one_each : length texts ≡ length (actions_among l (range_with_len 1 n))
  pub written : Appends before after (concat texts)
  pub rest : meaning_of_answers (answers_of_script l)
      ≡ with_texts texts (meaning_of_answers (answers_from l (n + 1) (drop n l.checked)))
