-- Texts that are printed one after another.
use Rattle.std.proofs.Common.{◌≡◌, ◌≢◌, ℕ, ◌+◌, ◌-◌, ◌<◌, List, [], ◌∷◌, ◌++◌, length, take, drop, Option, None, Some, refl, sym, ◌∙◌, ap, ap₂, subst, arith, append_assoc, append-nil, length-append}
use Rattle.std.specs.Prelude.{cond, is_some}
use Rattle.std.specs.Io.KnownBytes.{Appends}
use Rattle.std.specs.List.{concat, range_with_len}
use Rattle.std.proofs.Math.Seq.{drop-length, take-append-add}
use Rattle.std.proofs.lemmas.List.{take-append-le}
use Rattle.std.proofs.lemmas.List.Folds.{concat-append}
use Rattle.std.proofs.lemmas.Option.{slice_get-map}
use Rattle.gx_rows.specs.declared.fault.Fault.{Fault}
use Rattle.gx_outside.specs.Prefixes.{AppendsProperPrefix}
use Rattle.gx_model.specs.ActionAnswers.{Answer, answer_of_stmt}
use Rattle.gx_model.specs.ScriptMeaning.{Loaded, RunMeaning, ScriptAnswers, answered, answered_if, answers_from, answers_of_script, fault_of_action, meaning_of_answers, plain_values}
use Rattle.gx_print.specs.declared.status.Status.{Status}
use Rattle.gx_print.specs.declared.status.Status.TheVariants as status
use Rattle.gx_types_stmts.specs.declared.checked_stmt.CheckedStmt.{CheckedStmt}
use Rattle.gx_exec.specs.Engines.{action_answer}
use Rattle.gx_run.specs.ActionLogs.{actions_among}
use Rattle.gx_run.specs.ActionTexts.{HasPrinted, Prints, meaning_of_number, nothing_answered, with_texts}
use Rattle.gx_run.proofs.ActionsAmong.{actions_more}
use Rattle.gx_run.proofs.LaterStatements.{next_of}

-- ---- bytes

pub appends_both : (before mid after : Option (List ℕ)) (xs ys : List ℕ)
    → Appends before mid xs → Appends mid after ys → Appends before after (xs ++ ys)
appends_both None mid after xs ys h k = tt
appends_both (Some b) None after xs ys h k = absurd h
appends_both (Some b) (Some m) None xs ys h k = absurd k
appends_both (Some b) (Some m) (Some a) xs ys h k = k ∙ (ap (λ t. t ++ ys) h ∙ append_assoc b xs ys)

appends_more : (before mid after : Option (List ℕ)) (xs ys : List ℕ)
    → Appends before mid xs → AppendsProperPrefix mid after ys → AppendsProperPrefix before after (xs ++ ys)
appends_more None mid after xs ys h k = tt
appends_more (Some b) None after xs ys h k = absurd h
appends_more (Some b) (Some m) None xs ys h k = absurd k
appends_more (Some b) (Some m) (Some a) xs ys h k =
    let size : length (xs ++ ys) ≡ length xs + length ys = length-append xs ys in
    let front : a ≡ b ++ (xs ++ take k.0 ys) =
    k.2 ∙ (ap (λ t. t ++ take k.0 ys) h ∙ append_assoc b xs (take k.0 ys)) in
    (length xs + k.0, rw size (omega (arith, k.1)), front ∙ ap (λ t. b ++ t) (sym (take-append-add xs ys k.0)))

-- a proper prefix of a text is one of a longer text
prefix_of_more : (before after : Option (List ℕ)) (xs ys : List ℕ)
    → AppendsProperPrefix before after xs → AppendsProperPrefix before after (xs ++ ys)
prefix_of_more None after xs ys h = tt
prefix_of_more (Some b) None xs ys h = absurd h
prefix_of_more (Some b) (Some a) xs ys h =
    let size : length (xs ++ ys) ≡ length xs + length ys = length-append xs ys in
    let front : take h.0 (xs ++ ys) ≡ take h.0 xs = take-append-le h.0 xs ys (omega (arith, h.1)) in
    (h.0, rw size (omega (arith, h.1)), h.2 ∙ ap (λ t. b ++ t) (sym front))

pub appends_nothing : (before : Option (List ℕ)) → Appends before before []
appends_nothing None = tt
appends_nothing (Some b) = sym (append-nil b)

-- ---- one statement, and those after it

-- what a statement means begins what it means with those after it
pub record Begins (m whole rest : RunMeaning) : Type 0 where
  pub more : List (List ℕ)
  pub texts : whole.texts ≡ m.texts ++ more
  pub done : m.end ≡ status.Done → whole ≡ with_texts m.texts rest
  pub fault : (f : Fault) → m.end ≡ status.Fault f → whole ≡ m

answered_begins : (fault : Option Fault) (a : Answer) (others : ScriptAnswers)
    → Begins (meaning_of_answers (answered fault a nothing_answered)) (meaning_of_answers (answered fault a others)) (meaning_of_answers others)
answered_begins None a others = record {
  more = (meaning_of_answers others).texts;
  texts = refl;
  done = λ e. refl;
  fault = λ f e. absurd (cc e);
}
answered_begins (Some g) a others = record {
  more = [];
  texts = refl;
  done = λ e. absurd (cc e);
  fault = λ f e. refl;
}

stmt_begins : (l : Loaded) (s : ℕ) (answer : Option Answer) (others : ScriptAnswers)
    → Begins (meaning_of_answers (answered_if l s answer nothing_answered)) (meaning_of_answers (answered_if l s answer others)) (meaning_of_answers others)
stmt_begins l s None others = record {
  more = (meaning_of_answers others).texts;
  texts = refl;
  done = λ e. refl;
  fault = λ f e. absurd (cc e);
}
stmt_begins l s (Some a) others = answered_begins (fault_of_action l s) a others

-- statement n + 1 begins what the statements from it on mean
pub number_begins : (l : Loaded) (n : ℕ) → n < length l.checked
    → Begins (meaning_of_number l (n + 1)) (meaning_of_answers (answers_from l (n + 1) (drop n l.checked)))
    (meaning_of_answers (answers_from l (n + 1 + 1) (drop (n + 1) l.checked)))
number_begins l n within =
    let next = next_of l.checked n within in
    let number : n + 1 - 1 ≡ n = omega arith in
    let is_answer : action_answer l (n + 1) ≡ answer_of_stmt l.checked (plain_values l) (next.0).stmt =
    rw (number, slice_get-map (λ (c : CheckedStmt). c.stmt) l.checked n, next.1) refl in
    rw (next.2, is_answer)
    (stmt_begins l (n + 1) (answer_of_stmt l.checked (plain_values l) (next.0).stmt) (answers_from l (n + 1 + 1) (drop (n + 1) l.checked)))

-- ---- the loop over statements

pub printed_nothing : (l : Loaded) (before : Option (List ℕ)) → HasPrinted l 0 before before
printed_nothing l before = record { texts = []; one_each = refl; written = appends_nothing before; rest = refl }

-- a statement that ends without a fault prints one text if it is an action
one_text : (l : Loaded) (s : ℕ) → (meaning_of_number l s).end ≡ status.Done
    → length (meaning_of_number l s).texts ≡ length (actions_among l (s ∷ []))
one_text l s done = by_answer (action_answer l s) done
  where
    by_fault : (fault : Option Fault) (a : Answer) → (meaning_of_answers (answered fault a nothing_answered)).end ≡ status.Done
        → length (meaning_of_answers (answered fault a nothing_answered)).texts ≡ 1
    by_fault None a h = refl
    by_fault (Some f) a h = absurd (cc h)

    by_answer : (o : Option Answer) → (meaning_of_answers (answered_if l s o nothing_answered)).end ≡ status.Done
        → length (meaning_of_answers (answered_if l s o nothing_answered)).texts ≡ length (cond (is_some o) (s ∷ []) [])
    by_answer None h = refl
    by_answer (Some a) h = by_fault (fault_of_action l s) a h

texts_more : (l : Loaded) (n : ℕ) (ts ms : List (List ℕ)) → length ts ≡ length (actions_among l (range_with_len 1 n))
    → length ms ≡ length (actions_among l ((n + 1) ∷ []))
    → length (ts ++ ms) ≡ length (actions_among l (range_with_len 1 (n + 1)))
texts_more l n ts ms h k =
    length-append ts ms ∙ (ap₂ (λ a b. a + b) h k
    ∙ (sym (length-append (actions_among l (range_with_len 1 n)) (actions_among l ((n + 1) ∷ []))) ∙ ap length (sym (actions_more l n))))

pub printed_more : (l : Loaded) (n : ℕ) (before mid after : Option (List ℕ)) (counted : Type 0)
    → n < length l.checked → HasPrinted l n before mid
    → Prints (meaning_of_number l (n + 1)) counted status.Done mid after → HasPrinted l (n + 1) before after
printed_more l n before mid after counted within h p =
    let m = meaning_of_number l (n + 1) in
    let rest = meaning_of_answers (answers_from l (n + 1 + 1) (drop (n + 1) l.checked)) in
    let now = (number_begins l n within).done p.0 in
    record {
      texts = h.texts ++ m.texts;
      one_each = texts_more l n h.texts m.texts h.one_each (one_text l (n + 1) p.0);
      written =
          subst (Appends before after) (sym (concat-append h.texts m.texts))
          (appends_both before mid after _ _ h.written p.1);
      rest = h.rest ∙ (ap (with_texts h.texts) now ∙ ap (λ t. record { texts = t; end = rest.end }) (sym (append_assoc h.texts m.texts rest.texts)));
    }

pub printed_all : (l : Loaded) (before after : Option (List ℕ)) (counted : Type 0)
    → HasPrinted l (length l.checked) before after
    → Prints (meaning_of_answers (answers_of_script l)) counted status.Done before after
printed_all l before after counted h =
    let whole = meaning_of_answers (answers_of_script l) in
    let all : whole ≡ with_texts h.texts (meaning_of_answers (answers_from l (length l.checked + 1) [])) =
    h.rest ∙ rw (drop-length l.checked) refl in
    let texts : whole.texts ≡ h.texts = ap (λ (m : RunMeaning). m.texts) all ∙ append-nil h.texts in
    (ap (λ (m : RunMeaning). m.end) all, rw texts h.written)

-- what the run means, by what statement n + 1 means
pub texts_of_all : (l : Loaded) (n : ℕ) (before mid : Option (List ℕ)) (within : n < length l.checked) (h : HasPrinted l n before mid)
    → (meaning_of_answers (answers_of_script l)).texts
    ≡ h.texts ++ ((meaning_of_number l (n + 1)).texts ++ (number_begins l n within).more)
texts_of_all l n before mid within h =
    ap (λ (m : RunMeaning). m.texts) h.rest ∙ ap (λ t. h.texts ++ t) (number_begins l n within).texts

-- an end of a statement that ends the run
pub printed_until : (l : Loaded) (n : ℕ) (before mid after : Option (List ℕ)) (counted later : Type 0) (end : Status)
    → n < length l.checked → HasPrinted l n before mid → (counted → later) → end ≢ status.Done
    → Prints (meaning_of_number l (n + 1)) counted end mid after
    → Prints (meaning_of_answers (answers_of_script l)) later end before after
printed_until l n before mid after counted later status.Done within h up ends p = absurd (ends refl)
printed_until l n before mid after counted later status.Usage within h up ends p = p
printed_until l n before mid after counted later (status.Script stop) within h up ends p = p
printed_until l n before mid after counted later (status.Schedule line) within h up ends p = p
printed_until l n before mid after counted later (status.Data stop) within h up ends p = p
printed_until l n before mid after counted later (status.Fault fault) within h up ends p =
    let m = meaning_of_number l (n + 1) in
    let now = h.rest ∙ ap (with_texts h.texts) ((number_begins l n within).fault fault p.0) in (
      ap (λ (w : RunMeaning). w.end) now ∙ p.0,
      rw (ap (λ (w : RunMeaning). w.texts) now, concat-append h.texts m.texts)
          (appends_both before mid after _ _ h.written p.1),
    )
printed_until l n before mid after counted later (status.Limit kind) within h up ends p = p
printed_until l n before mid after counted later (status.Source name) within h up ends p = p
printed_until l n before mid after counted later status.Sink within h up ends p =
    let m = meaning_of_number l (n + 1) in
    let more = (number_begins l n within).more in
    let text : concat (meaning_of_answers (answers_of_script l)).texts ≡ concat h.texts ++ (concat m.texts ++ concat more) =
    rw (texts_of_all l n before mid within h, concat-append h.texts (m.texts ++ more), concat-append m.texts more) refl in
    (up p.0, rw text (appends_more before mid after _ _ h.written (prefix_of_more mid after _ _ p.1)))
printed_until l n before mid after counted later status.NoMemory within h up ends p =
    let m = meaning_of_number l (n + 1) in
    let more = (number_begins l n within).more in
    let texts = texts_of_all l n before mid within h in
    let size : length (h.texts ++ (m.texts ++ more)) ≡ length h.texts + (length m.texts + length more) =
    length-append h.texts (m.texts ++ more) ∙ ap (λ k. length h.texts + k) (length-append m.texts more) in
    let first : take (length h.texts + p.0) (h.texts ++ (m.texts ++ more)) ≡ h.texts ++ take p.0 m.texts =
    take-append-add h.texts (m.texts ++ more) p.0 ∙ ap (λ t. h.texts ++ t) (take-append-le p.0 m.texts more p.1) in (
      length h.texts + p.0,
      rw (texts, size) (omega (arith, p.1)),
      rw (texts, first, concat-append h.texts (take p.0 m.texts)) (appends_both before mid after _ _ h.written p.2),
    )
