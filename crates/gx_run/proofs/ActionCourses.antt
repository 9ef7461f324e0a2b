-- Courses of several actions, one after the other.
use Rattle.std.proofs.Common.{◌≡◌, ℕ, ◌+◌, ◌-◌, ◌≤◌, inl, inr, true, false, Bool, List, [], ◌∷◌, ◌++◌, length, reverse, take, Option, None, Some, refl, sym, ◌∙◌, ap, subst, arith, append_assoc, slice_get, unwrap_or, option_map}
use Rattle.std.specs.Prelude.{◌==◌}
use Rattle.std.specs.List.{AllByRecursion, list_any}
use Rattle.gx_cluster_state.specs.Nets.{Net}
use Rattle.gx_cluster_state.specs.Runs.{Command, Passes, Point, Run}
use Rattle.gx_exec.specs.Courses.{Course, and_then, answered, answered_all, forced, forced_all, joined}
use Rattle.gx_exec.specs.CourseFaultLaws.{front-forced, front-forced_all}
use Rattle.gx_exec.specs.CourseRunLaws.{front-same, joined-front}
use Rattle.gx_exec_contents.specs.Worlds.{World}
use Rattle.gx_model.specs.NamesUsed.{stmts_used, stmts_wanted}
use Rattle.gx_plan.specs.PlanInvariant.{IsFrontOf}
use Rattle.gx_plan.specs.Plans.{Planned}
use Rattle.gx_rows.specs.declared.fault.Fault.{Fault}
use Rattle.gx_types_stmts.specs.declared.checked_stmt.CheckedStmt.{CheckedStmt}

-- ---- courses

both_by : (cs ds : List Command) (p : Planned) (x : Option Fault) (c : Course)
    → joined x (record { planned = p; commands = cs ++ ds; fault = x }) c
    ≡ record {
      planned = (joined x (record { planned = p; commands = ds; fault = x }) c).planned;
      commands = cs ++ (joined x (record { planned = p; commands = ds; fault = x }) c).commands;
      fault = (joined x (record { planned = p; commands = ds; fault = x }) c).fault;
    }
both_by cs ds p (Some f) c = refl
both_by cs ds p None c = ap (λ es. record { planned = c.planned; commands = es; fault = c.fault }) (append_assoc cs ds c.commands)

assoc_by : (p : Planned) (cs : List Command) (x : Option Fault) (f g : Planned → Course)
    → and_then (and_then (record { planned = p; commands = cs; fault = x }) f) g
    ≡ and_then (record { planned = p; commands = cs; fault = x }) (λ q. and_then (f q) g)
assoc_by p cs (Some e) f g = refl
assoc_by p cs None f g = both_by cs (f p).commands (f p).planned (f p).fault (g (f p).planned)

pub and_then-assoc : (a : Course) (f g : Planned → Course) → and_then (and_then a f) g ≡ and_then a (λ q. and_then (f q) g)
and_then-assoc a f g = assoc_by a.planned a.commands a.fault f g

-- some actions, and others after them
pub answered_both : (w : World) (p : Planned) (xs ys : List ℕ)
    → answered_all w p (xs ++ ys) ≡ and_then (answered_all w p xs) (λ q. answered_all w q ys)
answered_both w p [] ys = refl
answered_both w p (x ∷ xs) ys =
    let first = answered w p x in
    ap (joined first.fault first) (answered_both w first.planned xs ys)
    ∙ sym (and_then-assoc first (λ q. answered_all w q xs) (λ q. answered_all w q ys))

-- ---- what is planned is the beginning of what is planned later

-- each number is at least 1
abbrev pub AllFromOne : List ℕ → Type 0
AllFromOne ns = AllByRecursion (λ n. 1 ≤ n) ns

from_one_both : (xs ys : List ℕ) → AllFromOne xs → AllFromOne ys → AllFromOne (xs ++ ys)
from_one_both [] ys h k = k
from_one_both (x ∷ xs) ys h k = (h.0, from_one_both xs ys h.1 k)

wanted_from_one : (cs : List CheckedStmt) (wanted : List ℕ) → AllFromOne (stmts_wanted cs wanted)
wanted_from_one [] wanted = tt
wanted_from_one (c ∷ earlier) wanted =
    by_test (list_any (λ n. n == length earlier + 1) wanted) refl (wanted_from_one earlier (wanted ++ c.uses)) (wanted_from_one earlier wanted)
  where
    by_test : (t : Bool) → list_any (λ n. n == length earlier + 1) wanted ≡ t
        → AllFromOne (stmts_wanted earlier (wanted ++ c.uses)) → AllFromOne (stmts_wanted earlier wanted) → AllFromOne (stmts_wanted (c ∷ earlier) wanted)
    by_test true is h k = rw is (from_one_both (stmts_wanted earlier (wanted ++ c.uses)) ((length earlier + 1) ∷ []) h (omega arith, tt))
    by_test false is h k = rw is k

pub answered_front : (w : World) (p : Planned) (a : ℕ) → 1 ≤ a → IsFrontOf p (answered w p a).planned
answered_front w p a from_one =
    let used = forced_all w p (stmts_used w.script a) in
    let from = wanted_from_one (reverse (take (a - 1) w.script)) (unwrap_or (option_map (λ (c : CheckedStmt). c.uses) (slice_get w.script (a - 1))) []) in
    joined-front used.fault used (forced w used.planned a) p (front-forced_all w p (stmts_used w.script a) from) (front-forced w used.planned a from_one)

pub answered_all_front : (w : World) (p : Planned) (xs : List ℕ) → AllFromOne xs → IsFrontOf p (answered_all w p xs).planned
answered_all_front w p [] h = front-same p
answered_all_front w p (a ∷ xs) h =
    joined-front (answered w p a).fault (answered w p a) (answered_all w (answered w p a).planned xs) p (answered_front w p a h.0) (answered_all_front w (answered w p a).planned xs h.1)
