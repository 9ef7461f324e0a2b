-- An agenda after a turn.
use Rattle.std.proofs.Common.{◌≡◌, ◌∙◌, ℕ, Bool, true, false, ◌||◌, cond, List, [], Some, None, refl, ap, sym, subst}
use Rattle.std.specs.Prelude.{All, Contains, slice_get}
use Rattle.std.proofs.lemmas.List.Elements.{All-contains, All-weaker}
use Rattle.gx_rows.specs.declared.vid.Vid.{Vid}
use Rattle.gx_lineage.specs.declared.block_id.BlockId.{BlockId}
use Rattle.gx_cluster_state.specs.Blocks.{same_block}
use Rattle.gx_cluster_state.specs.Nets.{Net, IsLeastReady, IsReady, IsStuck, Wanted}
use Rattle.gx_cluster_state.specs.Shapes.{Shape, finished, is_held, is_running, started}
use Rattle.gx_cluster_state.specs.ChangeLaws.{is_held-finished, is_held-started, is_running-busy, is_running-finished, is_running-started}
use Rattle.gx_cluster_state.specs.BlockLaws.{same_exact}
use Rattle.gx_cluster_state.specs.WantedBlockLaws.{wanted_missing, wanted_moves}
use Rattle.gx_cluster.specs.Agendas.{BlockAgenda, IsAgenda, IsListed, IsOpen, Pops, Waits, has_block, is_pending, is_ready, is_waiting, waiting_for}
use Rattle.gx_cluster.proofs.Members.{both, or_second, same_sym}

none_listed : {A : Type 0} (b : BlockId) → has_block [] b ≡ true → A
none_listed b h = both h refl

neither : (a b : Bool) → (a || b) ≡ false → (a ≡ false) × (b ≡ false)
neither true b h = both refl h
neither false b h = (refl, h)

or_neither : (a b : Bool) → a ≡ false → b ≡ false → (a || b) ≡ false
or_neither a b p q = ap (λ (x : Bool). x || b) p ∙ q

kept_by_cond : (t u : Bool) → t ≡ false → u ≡ true → cond t false u ≡ true
kept_by_cond t u p q = ap (λ (x : Bool). cond x false u) p ∙ q

from_cond : (t u : Bool) → cond t false u ≡ true → (t ≡ false) × (u ≡ true)
from_cond true u h = both h refl
from_cond false u h = (refl, h)

-- ---- ready blocks are those of the agenda
by_listed : (n : Net) (ts : List BlockId) (s : Shape) (a : BlockAgenda) → IsAgenda n ts s a [] → (b : BlockId) → IsReady n ts s b
    → IsListed a [] b → has_block a.ready b ≡ true
by_listed n ts s a r b is (is_ready h) = h
by_listed n ts s a r b is (is_waiting c h) =
    let waits = r.waiting c b h in both (All-contains (λ x. is_held s x ≡ true) (n.inputs b) c is.inputs waits.is_input) waits.missing
by_listed n ts s a r b is (is_pending h) = none_listed b h

pub ready_is_listed : (n : Net) (ts : List BlockId) (s : Shape) (a : BlockAgenda) → IsAgenda n ts s a [] → (b : BlockId) → IsReady n ts s b
    → has_block a.ready b ≡ true
ready_is_listed n ts s a r b is = by_listed n ts s a r b is (r.complete b (record { wanted = is.wanted; idle = is.idle }))

pub least_ready : (n : Net) (ts : List BlockId) (s : Shape) (a new : BlockAgenda) (b : BlockId) → IsAgenda n ts s a [] → Pops a new b → IsLeastReady n ts s b
least_ready n ts s a new b r p = record { ready = r.ready b p.there; least = λ c is. p.least c (ready_is_listed n ts s a r c is) }

pub stuck_by_empty : (n : Net) (ts : List BlockId) (s : Shape) (a : BlockAgenda) → IsAgenda n ts s a [] → a.ready ≡ [] → IsStuck n ts s
stuck_by_empty n ts s a r empty b is =
    none_listed b (subst (λ (bs : List BlockId). has_block bs b ≡ true) empty (ready_is_listed n ts s a r b is))

-- ---- a worker starts a block
other_input : (n : Net) (s : Shape) (b c d : BlockId) (t : Bool) → same_block c b ≡ t → All (λ x. is_held s x ≡ true) (n.inputs b)
    → Contains (n.inputs c) d → is_held s d ≡ false → t ≡ false
other_input n s b c d true same held inside missing =
    let at_b : Contains (n.inputs b) d = subst (λ (x : BlockId). Contains (n.inputs x) d) (same_exact c b same) inside in
    both (All-contains (λ x. is_held s x ≡ true) (n.inputs b) d held at_b) missing
other_input n s b c d false same held inside missing = refl

idle_started : (s : Shape) (w : ℕ) (b q : BlockId) → slice_get s.running w ≡ Some None → same_block q b ≡ false → is_running s q ≡ false
    → is_running (started s w b) q ≡ false
idle_started s w b q idle apart h = is_running-started s w b q idle ∙ or_neither (same_block q b) (is_running s q) apart h

was_idle : (s : Shape) (w : ℕ) (b q : BlockId) → slice_get s.running w ≡ Some None → is_running (started s w b) q ≡ false
    → (same_block q b ≡ false) × (is_running s q ≡ false)
was_idle s w b q idle h = neither (same_block q b) (is_running s q) (sym (is_running-started s w b q idle) ∙ h)

started_wanted : (n : Net) (ts : List BlockId) (s : Shape) (w : ℕ) (b q : BlockId) → slice_get s.running w ≡ Some None
    → All (λ x. is_held s x ≡ true) (n.inputs b) → Wanted n ts s q → Wanted n ts (started s w b) q
started_wanted n ts s w b q idle held h =
    wanted_moves (λ x. Unit) (λ x k missing. is_held-started s w b x ∙ missing)
    (λ c d missing runs inside lacks. (tt, idle_started s w b c idle (other_input n s b c d (same_block c b) refl held inside lacks) runs)) tt h

wanted_started : (n : Net) (ts : List BlockId) (s : Shape) (w : ℕ) (b q : BlockId) → slice_get s.running w ≡ Some None
    → Wanted n ts (started s w b) q → Wanted n ts s q
wanted_started n ts s w b q idle h =
    wanted_moves (λ x. Unit) (λ x k missing. sym (is_held-started s w b x) ∙ missing)
    (λ c d missing runs inside lacks. (tt, (was_idle s w b c idle runs).1)) tt h

started_listed : (a new : BlockAgenda) (b q : BlockId) → Pops a new b → same_block b q ≡ false → IsListed a [] q → IsListed new [] q
started_listed a new b q p apart (is_ready h) = is_ready (p.rest q ∙ kept_by_cond (same_block b q) (has_block a.ready q) apart h)
started_listed a new b q p apart (is_waiting c h) = is_waiting c (ap (λ w. has_block (waiting_for w c) q) p.waiting_kept ∙ h)
started_listed a new b q p apart (is_pending h) = none_listed q h

waits_started : (n : Net) (ts : List BlockId) (s : Shape) (w : ℕ) (b c q : BlockId) → slice_get s.running w ≡ Some None
    → All (λ x. is_held s x ≡ true) (n.inputs b) → Waits n ts s c q → Waits n ts (started s w b) c q
waits_started n ts s w b c q idle held is = record {
  wanted = started_wanted n ts s w b q idle held is.wanted;
  idle = idle_started s w b q idle (other_input n s b q c (same_block q b) refl held is.is_input is.missing) is.idle;
  is_input = is.is_input;
  missing = is_held-started s w b c ∙ is.missing;
}

ready_started : (n : Net) (ts : List BlockId) (s : Shape) (w : ℕ) (b q : BlockId) → slice_get s.running w ≡ Some None
    → All (λ x. is_held s x ≡ true) (n.inputs b) → same_block q b ≡ false → IsReady n ts s q → IsReady n ts (started s w b) q
ready_started n ts s w b q idle held apart is = record {
  wanted = started_wanted n ts s w b q idle held is.wanted;
  idle = idle_started s w b q idle apart is.idle;
  inputs = All-weaker (λ x. is_held s x ≡ true) (λ x. is_held (started s w b) x ≡ true) (λ x h. is_held-started s w b x ∙ h) (n.inputs q) is.inputs;
}

pub started_agenda : (n : Net) (ts : List BlockId) (s : Shape) (a new : BlockAgenda) (w : ℕ) (b : BlockId) → slice_get s.running w ≡ Some None
    → Pops a new b → IsAgenda n ts s a [] → IsAgenda n ts (started s w b) new []
started_agenda n ts s a new w b idle p r =
    let held = (r.ready b p.there).inputs in
    record {
      ready = λ q h. let was = from_cond (same_block b q) (has_block a.ready q) (sym (p.rest q) ∙ h) in
          ready_started n ts s w b q idle held (same_sym q b ∙ was.0) (r.ready q was.1);
      waiting = λ c q h. waits_started n ts s w b c q idle held (r.waiting c q (sym (ap (λ x. has_block (waiting_for x c) q) p.waiting_kept) ∙ h));
      unfiled = λ q h. none_listed q h;
      complete = λ q o. let was = was_idle s w b q idle o.idle in
          started_listed a new b q p (same_sym b q ∙ was.0)
          (r.complete q (record { wanted = wanted_started n ts s w b q idle o.wanted; idle = was.1 }));
    }

-- ---- a worker finishes a block
not_busy : (s : Shape) (w : ℕ) (b q : BlockId) (t : Bool) → same_block q b ≡ t → slice_get s.running w ≡ Some (Some b) → is_running s q ≡ false → t ≡ false
not_busy s w b q true same busy h = both (is_running-busy s w b q busy same) h
not_busy s w b q false same busy h = refl

idle_finished : (s : Shape) (w : ℕ) (b : BlockId) (cargo : List (ℕ × Vid)) (q : BlockId) → slice_get s.running w ≡ Some (Some b) → is_running s q ≡ false
    → is_running (finished s w b cargo) q ≡ false
idle_finished s w b cargo q busy h = is_running-finished s w b cargo q busy (not_busy s w b q (same_block q b) refl busy h) ∙ h

missing_finished : (s : Shape) (w : ℕ) (b : BlockId) (cargo : List (ℕ × Vid)) (q : BlockId) → same_block b q ≡ false → is_held s q ≡ false
    → is_held (finished s w b cargo) q ≡ false
missing_finished s w b cargo q apart h = is_held-finished s w b cargo q ∙ or_neither (same_block b q) (is_held s q) apart h

was_missing : (s : Shape) (w : ℕ) (b : BlockId) (cargo : List (ℕ × Vid)) (q : BlockId) → is_held (finished s w b cargo) q ≡ false
    → (same_block b q ≡ false) × (is_held s q ≡ false)
was_missing s w b cargo q h = neither (same_block b q) (is_held s q) (sym (is_held-finished s w b cargo q) ∙ h)

finished_wanted : (n : Net) (ts : List BlockId) (s : Shape) (w : ℕ) (b : BlockId) (cargo : List (ℕ × Vid)) (q : BlockId) → slice_get s.running w ≡ Some (Some b)
    → is_running s q ≡ false → Wanted n ts s q → Wanted n ts (finished s w b cargo) q
finished_wanted n ts s w b cargo q busy idle h =
    wanted_moves (λ x. same_block b x ≡ false) (λ x k missing. missing_finished s w b cargo x k missing)
    (λ c d missing runs inside lacks. (same_sym b c ∙ not_busy s w b c (same_block c b) refl busy runs, idle_finished s w b cargo c busy runs))
    (same_sym b q ∙ not_busy s w b q (same_block q b) refl busy idle) h

was_idle_finished : (s : Shape) (w : ℕ) (b : BlockId) (cargo : List (ℕ × Vid)) (q : BlockId) → slice_get s.running w ≡ Some (Some b)
    → is_held (finished s w b cargo) q ≡ false → is_running (finished s w b cargo) q ≡ false → is_running s q ≡ false
was_idle_finished s w b cargo q busy missing h =
    sym (is_running-finished s w b cargo q busy (same_sym q b ∙ (was_missing s w b cargo q missing).0)) ∙ h

wanted_finished : (n : Net) (ts : List BlockId) (s : Shape) (w : ℕ) (b : BlockId) (cargo : List (ℕ × Vid)) (q : BlockId) → slice_get s.running w ≡ Some (Some b)
    → Wanted n ts (finished s w b cargo) q → Wanted n ts s q
wanted_finished n ts s w b cargo q busy h =
    wanted_moves (λ x. Unit) (λ x k missing. (was_missing s w b cargo x missing).1)
    (λ c d missing runs inside lacks. (tt, was_idle_finished s w b cargo c busy missing runs)) tt h

-- the agenda without the blocks that wait for b
pub record TakesWaiting (old new : BlockAgenda) (b : BlockId) : Type 0 where
  pub ready_kept : new.ready ≡ old.ready
  pub others : (c : BlockId) → waiting_for new.waiting c ≡ cond (same_block b c) [] (waiting_for old.waiting c)

still_waits : (a new : BlockAgenda) (b c q : BlockId) (t : Bool) → same_block b c ≡ t → waiting_for new.waiting c ≡ cond t [] (waiting_for a.waiting c)
    → has_block (waiting_for new.waiting c) q ≡ true → (same_block b c ≡ false) × (has_block (waiting_for a.waiting c) q ≡ true)
still_waits a new b c q true same is h = none_listed q (sym (ap (λ bs. has_block bs q) is) ∙ h)
still_waits a new b c q false same is h = (same, sym (ap (λ bs. has_block bs q) is) ∙ h)

still_listed : (a new : BlockAgenda) (b c q : BlockId) (t : Bool) → same_block b c ≡ t → waiting_for new.waiting c ≡ cond t [] (waiting_for a.waiting c)
    → has_block (waiting_for a.waiting c) q ≡ true → IsListed new (waiting_for a.waiting b) q
still_listed a new b c q true same is h =
    is_pending (subst (λ (x : BlockId). has_block (waiting_for a.waiting x) q ≡ true) (sym (same_exact b c same)) h)
still_listed a new b c q false same is h = is_waiting c (ap (λ bs. has_block bs q) is ∙ h)

finished_listed : (a new : BlockAgenda) (b q : BlockId) → TakesWaiting a new b → IsListed a [] q → IsListed new (waiting_for a.waiting b) q
finished_listed a new b q p (is_ready h) = is_ready (ap (λ bs. has_block bs q) p.ready_kept ∙ h)
finished_listed a new b q p (is_waiting c h) = still_listed a new b c q (same_block b c) refl (p.others c) h
finished_listed a new b q p (is_pending h) = none_listed q h

pub finished_agenda : (n : Net) (ts : List BlockId) (s : Shape) (a new : BlockAgenda) (w : ℕ) (b : BlockId) (cargo : List (ℕ × Vid))
    → slice_get s.running w ≡ Some (Some b) → TakesWaiting a new b → IsAgenda n ts s a []
    → IsAgenda n ts (finished s w b cargo) new (waiting_for a.waiting b)
finished_agenda n ts s a new w b cargo busy p r = record {
  ready = λ q h. let is = r.ready q (sym (ap (λ bs. has_block bs q) p.ready_kept) ∙ h) in record {
    wanted = finished_wanted n ts s w b cargo q busy is.idle is.wanted;
    idle = idle_finished s w b cargo q busy is.idle;
    inputs = All-weaker (λ x. is_held s x ≡ true) (λ x. is_held (finished s w b cargo) x ≡ true)
        (λ x held. is_held-finished s w b cargo x ∙ or_second (same_block b x) (is_held s x) held) (n.inputs q) is.inputs;
  };
  waiting = λ c q h. let was = still_waits a new b c q (same_block b c) refl (p.others c) h in let is = r.waiting c q was.1 in record {
    wanted = finished_wanted n ts s w b cargo q busy is.idle is.wanted;
    idle = idle_finished s w b cargo q busy is.idle;
    is_input = is.is_input;
    missing = missing_finished s w b cargo c was.0 is.missing;
  };
  unfiled = λ q h. let is = r.waiting b q h in record {
    wanted = finished_wanted n ts s w b cargo q busy is.idle is.wanted;
    idle = idle_finished s w b cargo q busy is.idle;
  };
  complete = λ q o. finished_listed a new b q p (r.complete q (record {
    wanted = wanted_finished n ts s w b cargo q busy o.wanted;
    idle = was_idle_finished s w b cargo q busy (wanted_missing o.wanted) o.idle;
  }));
}

-- ---- an agenda without blocks, before all are filed
pub first_agenda : (n : Net) (ts : List BlockId) (s : Shape) (bs : List BlockId) → ((b : BlockId) → has_block bs b ≡ true → IsOpen n ts s b)
    → ((b : BlockId) → IsOpen n ts s b → has_block bs b ≡ true) → IsAgenda n ts s (record { ready = []; waiting = [] }) bs
first_agenda n ts s bs sound complete = record {
  ready = λ b h. none_listed b h;
  waiting = λ c b h. none_listed b h;
  unfiled = sound;
  complete = λ b o. is_pending (complete b o);
}
