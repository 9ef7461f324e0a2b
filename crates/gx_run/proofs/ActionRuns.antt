-- What was done for some actions, and then for more of them.
use Rattle.std.proofs.Common.{◌≡◌, ◌≢◌, ℕ, zero, suc, ◌+◌, ◌≤◌, ◌<◌, List, [], ◌∷◌, ◌++◌, length, take, Option, None, Some, refl, sym, ◌∙◌, ap, ap₂, subst, arith, append-nil, length-append}
use Rattle.std.specs.Prelude.{slice_get}
use Rattle.std.specs.Io.KnownBytes.{Appends}
use Rattle.std.specs.List.{concat, range_with_len}
use Rattle.std.proofs.Math.Seq.{take-append-add}
use Rattle.std.proofs.lemmas.List.{take-append-le}
use Rattle.std.proofs.lemmas.List.Folds.{concat-append}
use Rattle.gx_cluster_state.specs.PositionLaws.{slice_get-below}
use Rattle.gx_cluster_state.specs.Runs.{Command, Point}
use Rattle.gx_exec.specs.Courses.{Course, EndsAs, PassesAs, and_then, answered, answered_all, joined, still}
use Rattle.gx_exec.specs.Engines.{action_answer}
use Rattle.gx_exec_contents.specs.Worlds.{World}
use Rattle.gx_exec_work.specs.Works.{net_in}
use Rattle.gx_model.specs.ActionAnswers.{Answer}
use Rattle.gx_model.specs.ScriptMeaning.{Loaded, fault_of_action}
use Rattle.gx_outside.specs.Prefixes.{AppendsProperPrefix}
use Rattle.gx_plan.specs.PlanInvariant.{IsFrontOf}
use Rattle.gx_plan.specs.Plans.{Planned}
use Rattle.gx_plan.specs.FrontLaws.{fronts-joined}
use Rattle.gx_plan.specs.NodeLaws.{slice_get-front}
use Rattle.gx_print.specs.RowTexts.{text_of_rows}
use Rattle.gx_print.specs.declared.status.Status.{Status}
use Rattle.gx_print.specs.declared.status.Status.TheVariants as status
use Rattle.gx_rows.specs.declared.fault.Fault.{Fault}
use Rattle.gx_run.specs.ActionLogs.{LogsAs, Moment, StopsInAction, StopsInText, actions_among, actions_of, texts_of}
use Rattle.gx_run.specs.ActionTexts.{HasPrinted, meaning_of_number}
use Rattle.gx_run.proofs.ActionsAmong.{actions_after, actions_more, actions_parted, after_from_one, single_from_one}
use Rattle.gx_exec.specs.CourseRunLaws.{passes-all, passes-front, passes-then, run-then}
use Rattle.gx_run.proofs.ActionCourses.{AllFromOne, answered_all_front, answered_both}
use Rattle.gx_run.proofs.PrintedTexts.{appends_both, appends_nothing, number_begins, texts_of_all}

-- ---- one course after another

goes_on : (c : Course) (f : Planned → Course) (mid : Planned) → c.fault ≡ None → mid ≡ c.planned → and_then c f ≡ joined None c (f mid)
goes_on c f mid none is = ap₂ (λ (x : Option Fault) (q : Planned). joined x c (f q)) none (sym is)

stops : (c : Course) (f : Planned → Course) (e : Fault) → c.fault ≡ Some e → and_then c f ≡ c
stops c f e is = ap (λ (x : Option Fault). joined x c (f c.planned)) is

ends_after : (w : World) (c : Course) (f : Planned → Course) (stop : Option Fault) (mid left : Planned) (p m q : Point)
    → IsFrontOf mid (f mid).planned → EndsAs w c None mid p m → EndsAs w (f mid) stop left m q → EndsAs w (and_then c f) stop left p q
ends_after w c f stop mid left p m q front h k =
    let before : IsFrontOf c.planned (f mid).planned = subst (λ (x : Planned). IsFrontOf x (f mid).planned) h.planned front in
    subst (λ (d : Course). EndsAs w d stop left p q) (sym (goes_on c f mid h.fault h.planned)) (record {
      fault = k.fault;
      planned = k.planned;
      run =
          λ o on. run-then (net_in w o) c.commands (f mid).commands p m q
          (h.run o (fronts-joined c.planned (f mid).planned o before on)) (k.run o on);
    })

passes_on : (w : World) (c : Course) (f : Planned → Course) (mid : Planned) (p m q : Point)
    → IsFrontOf mid (f mid).planned → EndsAs w c None mid p m → PassesAs w (f mid) m q → PassesAs w (and_then c f) p q
passes_on w c f mid p m q front h k =
    let before : IsFrontOf c.planned (f mid).planned = subst (λ (x : Planned). IsFrontOf x (f mid).planned) h.planned front in
    subst (λ (d : Course). PassesAs w d p q) (sym (goes_on c f mid h.fault h.planned))
    (λ o on. passes-then (net_in w o) c.commands (f mid).commands p m q
    (h.run o (fronts-joined c.planned (f mid).planned o before on)) (k o on))

-- a course that stops with a fault, or part-way, before another
ends_first : (w : World) (c : Course) (f : Planned → Course) (e : Fault) (left : Planned) (p q : Point)
    → EndsAs w c (Some e) left p q → EndsAs w (and_then c f) (Some e) left p q
ends_first w c f e left p q h = subst (λ (d : Course). EndsAs w d (Some e) left p q) (sym (stops c f e h.fault)) h

passes_first : (w : World) (c : Course) (f : Planned → Course) (p q : Point)
    → IsFrontOf c.planned (f c.planned).planned → PassesAs w c p q → PassesAs w (and_then c f) p q
passes_first w c f p q front h = by_fault c.fault refl
  where
    by_fault : (x : Option Fault) → c.fault ≡ x → PassesAs w (and_then c f) p q
    by_fault (Some e) is = subst (λ (d : Course). PassesAs w d p q) (sym (stops c f e is)) h
    by_fault None is =
        subst (λ (d : Course). PassesAs w d p q) (sym (goes_on c f c.planned is refl))
        (λ o on. passes-front (net_in w o) c.commands (f c.planned).commands p q
        (h o (fronts-joined c.planned (f c.planned).planned o front on)))

pub ends_passes : (w : World) (c : Course) (stop : Option Fault) (left : Planned) (p q : Point) → EndsAs w c stop left p q → PassesAs w c p q
ends_passes w c stop left p q h = λ o on. passes-all (net_in w o) c.commands p q (h.run o on)

-- ---- one action

single_by : (p : Planned) (cs : List Command) (x : Option Fault)
    → and_then (record { planned = p; commands = cs; fault = x }) still ≡ record { planned = p; commands = cs; fault = x }
single_by p cs (Some f) = refl
single_by p cs None = ap (λ es. record { planned = p; commands = es; fault = None }) (append-nil cs)

pub single_action : (w : World) (p : Planned) (a : ℕ) → answered_all w p (a ∷ []) ≡ answered w p a
single_action w p a = let c = answered w p a in single_by c.planned c.commands c.fault

-- ---- some actions, and more after them

abbrev Done : World → List ℕ → Moment → Moment → Type 0
Done w actions before after = EndsAs w (answered_all w before.planned actions) None after.planned before.point after.point

pub logged_nothing : (w : World) (p : Planned) (at : Point) → EndsAs w (answered_all w p []) None p at at
logged_nothing w p at = record { fault = refl; planned = refl; run = λ o on. refl }

ends_both : (w : World) (xs ys : List ℕ) (stop : Option Fault) (before mid after : Moment)
    → AllFromOne ys → Done w xs before mid
    → EndsAs w (answered_all w mid.planned ys) stop after.planned mid.point after.point
    → EndsAs w (answered_all w before.planned (xs ++ ys)) stop after.planned before.point after.point
ends_both w xs ys stop before mid after from_one h k =
    subst (λ (d : Course). EndsAs w d stop after.planned before.point after.point) (sym (answered_both w before.planned xs ys))
    (ends_after w (answered_all w before.planned xs) (λ q. answered_all w q ys) stop mid.planned after.planned before.point mid.point after.point
    (answered_all_front w mid.planned ys from_one) h k)

pub logged_more : (w : World) (l : Loaded) (n : ℕ) (before mid after : Moment)
    → Done w (actions_among l (range_with_len 1 n)) before mid → Done w (actions_among l ((n + 1) ∷ [])) mid after
    → Done w (actions_among l (range_with_len 1 (n + 1))) before after
logged_more w l n before mid after h k =
    subst (λ actions. Done w actions before after) (sym (actions_more l n))
    (ends_both w (actions_among l (range_with_len 1 n)) (actions_among l ((n + 1) ∷ [])) None before mid after (single_from_one l n) h k)

-- ---- the action that ends the run

slice_get-after : {X : Type 0} (xs ys : List X) (k : ℕ) → slice_get (xs ++ ys) (length xs + k) ≡ slice_get ys k
slice_get-after {X} [] ys k = let same : length {A = X} [] + k ≡ k = omega arith in ap (slice_get ys) same
slice_get-after (x ∷ xs) ys k =
    let same : length (x ∷ xs) + k ≡ suc (length xs + k) = omega arith in
    ap (slice_get (x ∷ (xs ++ ys))) same ∙ slice_get-after xs ys k

stops_in_text : (ts ms more : List (List ℕ)) (k : ℕ) (before mid after : Option (List ℕ))
    → Appends before mid (concat ts) → StopsInText ms k mid after
    → StopsInText (ts ++ (ms ++ more)) (length ts + k) before after
stops_in_text ts ms more k before mid after h s =
    let within : k < length ms = slice_get-below ms k s.text s.next in
    let short : k ≤ length ms = omega (arith, within) in
    let first : take (length ts + k) (ts ++ (ms ++ more)) ≡ ts ++ take k ms =
    take-append-add ts (ms ++ more) k ∙ ap (λ t. ts ++ t) (take-append-le k ms more short) in
    record {
      text = s.text;
      next = slice_get-after ts (ms ++ more) k ∙ (slice_get-front ms more k within ∙ s.next);
      between = s.between;
      first =
          subst (λ t. Appends before s.between (concat t)) (sym first)
          (subst (Appends before s.between) (sym (concat-append ts (take k ms)))
          (appends_both before mid s.between _ _ h s.first));
      part = s.part;
    }

from_one_take : (n : ℕ) (xs : List ℕ) → AllFromOne xs → AllFromOne (take n xs)
from_one_take zero xs h = tt
from_one_take (suc n) [] h = tt
from_one_take (suc n) (x ∷ xs) h = (h.0, from_one_take n xs h.1)

stops_in_action : (w : World) (xs zs ys : List ℕ) (ts ms more : List (List ℕ)) (before mid after : Moment)
    → AllFromOne zs → length ts ≡ length xs → Appends before.written mid.written (concat ts)
    → Done w xs before mid → StopsInAction w zs ms mid after
    → StopsInAction w ((xs ++ zs) ++ ys) (ts ++ (ms ++ more)) before after
stops_in_action w xs zs ys ts ms more before mid after from_one count written h s =
    let k = s.whole in
    let size : length (xs ++ zs) ≡ length xs + length zs = length-append xs zs in
    let all : length ((xs ++ zs) ++ ys) ≡ length (xs ++ zs) + length ys = length-append (xs ++ zs) ys in
    let short : length ts + k + 1 ≤ length (xs ++ zs) = omega (arith, s.within, size, count) in
    let number : length ts + k + 1 ≡ length xs + (k + 1) = omega (arith, count) in
    let first : take (length ts + k + 1) ((xs ++ zs) ++ ys) ≡ xs ++ take (k + 1) zs =
    take-append-le (length ts + k + 1) (xs ++ zs) ys short ∙ (ap (λ n. take n (xs ++ zs)) number ∙ take-append-add xs zs (k + 1)) in
    record {
      whole = length ts + k;
      within = omega (arith, short, all);
      course =
          subst (λ actions. Done w actions before after) (sym first)
          (ends_both w xs (take (k + 1) zs) None before mid after (from_one_take (k + 1) zs from_one) h s.course);
      text = stops_in_text ts ms more k before.written mid.written after.written written s.text;
    }

pub logged_until : (w : World) (xs zs ys : List ℕ) (ts ms more : List (List ℕ)) (end : Status) (before mid after : Moment)
    → AllFromOne zs → AllFromOne ys → length ts ≡ length xs → Appends before.written mid.written (concat ts) → end ≢ status.Done
    → Done w xs before mid → LogsAs w zs ms end mid after
    → LogsAs w ((xs ++ zs) ++ ys) (ts ++ (ms ++ more)) end before after
logged_until w xs zs ys ts ms more status.Done before mid after zs_from ys_from count written ends h k = absurd (ends refl)
logged_until w xs zs ys ts ms more status.Usage before mid after zs_from ys_from count written ends h k = k
logged_until w xs zs ys ts ms more (status.Script stop) before mid after zs_from ys_from count written ends h k = k
logged_until w xs zs ys ts ms more (status.Schedule line) before mid after zs_from ys_from count written ends h k = k
logged_until w xs zs ys ts ms more (status.Data stop) before mid after zs_from ys_from count written ends h k = k
logged_until w xs zs ys ts ms more (status.Fault fault) before mid after zs_from ys_from count written ends h k =
    let both = ends_both w xs zs (Some fault) before mid after zs_from h k in
    subst (λ (d : Course). EndsAs w d (Some fault) after.planned before.point after.point) (sym (answered_both w before.planned (xs ++ zs) ys))
    (ends_first w (answered_all w before.planned (xs ++ zs)) (λ q. answered_all w q ys) fault after.planned before.point after.point both)
logged_until w xs zs ys ts ms more (status.Limit kind) before mid after zs_from ys_from count written ends h k = k
logged_until w xs zs ys ts ms more (status.Source name) before mid after zs_from ys_from count written ends h k = k
logged_until w xs zs ys ts ms more status.Sink before mid after zs_from ys_from count written ends h k =
    stops_in_action w xs zs ys ts ms more before mid after zs_from count written h k
logged_until w xs zs ys ts ms more status.NoMemory before mid after zs_from ys_from count written ends h k =
    let both : PassesAs w (answered_all w before.planned (xs ++ zs)) before.point after.point =
    subst (λ (d : Course). PassesAs w d before.point after.point) (sym (answered_both w before.planned xs zs))
    (passes_on w (answered_all w before.planned xs) (λ q. answered_all w q zs) mid.planned before.point mid.point after.point
    (answered_all_front w mid.planned zs zs_from) h k) in
    subst (λ (d : Course). PassesAs w d before.point after.point) (sym (answered_both w before.planned (xs ++ zs) ys))
    (passes_first w (answered_all w before.planned (xs ++ zs)) (λ q. answered_all w q ys) before.point after.point
    (answered_all_front w _ ys ys_from) both)

-- ---- one action, as one of several

pub single_ends : (w : World) (p : Planned) (a : ℕ) (stop : Option Fault) (left : Planned) (before after : Point)
    → EndsAs w (answered w p a) stop left before after → EndsAs w (answered_all w p (a ∷ [])) stop left before after
single_ends w p a stop left before after h = subst (λ (c : Course). EndsAs w c stop left before after) (sym (single_action w p a)) h

pub single_passes : (w : World) (p : Planned) (a : ℕ) (before after : Point)
    → PassesAs w (answered w p a) before after → PassesAs w (answered_all w p (a ∷ [])) before after
single_passes w p a before after h = subst (λ (c : Course). PassesAs w c before after) (sym (single_action w p a)) h

-- the action was answered, and a proper prefix of its text was written
pub single_stops : (w : World) (a : ℕ) (texts : List (List ℕ)) (text : List ℕ) (before after : Moment)
    → texts ≡ text ∷ [] → AppendsProperPrefix before.written after.written text
    → EndsAs w (answered w before.planned a) None after.planned before.point after.point
    → StopsInAction w (a ∷ []) texts before after
single_stops w a texts text before after is part h = record {
  whole = 0;
  within = omega arith;
  course = single_ends w before.planned a None after.planned before.point after.point h;
  text = record {
    text = text;
    next = ap (λ ts. slice_get ts 0) is;
    between = before.written;
    first = appends_nothing before.written;
    part = part;
  };
}

pub text_of_action : (l : Loaded) (a : ℕ) (answer : Answer) → action_answer l a ≡ Some answer → fault_of_action l a ≡ None
    → (meaning_of_number l a).texts ≡ text_of_rows answer.header answer.rows ∷ []
text_of_action l a answer is none = rw (is, none) refl

-- ---- the loop over statements

pub logged_stop : (w : World) (l : Loaded) (n : ℕ) (end : Status) (before mid after : Moment)
    → n < length l.checked → HasPrinted l n before.written mid.written → end ≢ status.Done
    → Done w (actions_among l (range_with_len 1 n)) before mid
    → LogsAs w (actions_among l ((n + 1) ∷ [])) (meaning_of_number l (n + 1)).texts end mid after
    → LogsAs w (actions_of l) (texts_of l) end before after
logged_stop w l n end before mid after within h ends done k =
    let so_far = actions_among l (range_with_len 1 n) in
    let this = actions_among l ((n + 1) ∷ []) in
    subst (λ actions. LogsAs w actions (texts_of l) end before after) (sym (actions_parted l n within))
    (subst (λ texts. LogsAs w ((so_far ++ this) ++ actions_after l n) texts end before after) (sym (texts_of_all l n before.written mid.written within h))
    (logged_until w so_far this (actions_after l n) h.texts (meaning_of_number l (n + 1)).texts (number_begins l n within).more end before mid after
    (single_from_one l n) (after_from_one l n) h.one_each h.written ends done k))
