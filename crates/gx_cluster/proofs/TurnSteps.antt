-- What one turn leads to, and one turn after others.
use Rattle.std.proofs.Common.{◌≡◌, ◌∙◌, ◌⊎◌, inl, inr, ℕ, false, List, [], Some, None, length, refl, ap, sym, subst}
use Rattle.std.specs.Prelude.{is_none, is_some, position, slice_get}
use Rattle.gx_rows.specs.declared.vid.Vid.{Vid}
use Rattle.gx_lineage.specs.declared.block_id.BlockId.{BlockId}
use Rattle.gx_lineage.specs.Lineage.{Lineage}
use Rattle.gx_cluster_state.specs.Blocks.{same_block}
use Rattle.gx_cluster_state.specs.Nets.{Net, IsLeastReady, IsStuck, net_of}
use Rattle.gx_cluster_state.specs.Shapes.{Shape, all_held, finished, is_held, started}
use Rattle.gx_cluster_state.specs.Turns.{ended, taken}
use Rattle.gx_cluster_state.specs.ChangeLaws.{is_held-finished, is_held-started}
use Rattle.gx_cluster_state.specs.WantedBlockLaws.{turns_then}
use Rattle.gx_cluster.specs.Agendas.{BlockAgenda, IsAgenda, waiting_for}
use Rattle.gx_cluster.specs.States.{HoldsContents, IsAfterTurns, State, shape}
use Rattle.gx_cluster.proofs.AgendaTurns.{TakesWaiting, finished_agenda, stuck_by_empty}
use Rattle.gx_cluster.proofs.Members.{or_second}

pub after_none : {A : Type 0} {content : BlockId → A → Type 0} {l : Lineage} (f : BlockId → List (ℕ × Vid)) (ts : List BlockId) (s : State A)
    → HoldsContents content l s → IsAfterTurns content l f ts s s
after_none f ts s c = record { contents = c; turns = ended; held_kept = λ b h. h; spare_kept = refl; workers_kept = refl }

pub after_same : {A : Type 0} {content : BlockId → A → Type 0} {l : Lineage} (f : BlockId → List (ℕ × Vid)) (ts : List BlockId) (s new : State A)
    → HoldsContents content l s → new ≡ s → IsAfterTurns content l f ts s new
after_same {content = content} {l = l} f ts s new c e = subst (λ (x : State _). IsAfterTurns content l f ts s x) (sym e) (after_none f ts s c)

pub after_then : {A : Type 0} {content : BlockId → A → Type 0} {l : Lineage} {f : BlockId → List (ℕ × Vid)} {ts : List BlockId} {old mid new : State A}
    → IsAfterTurns content l f ts old mid → IsAfterTurns content l f ts mid new → IsAfterTurns content l f ts old new
after_then a b = record {
  contents = b.contents;
  turns = turns_then a.turns b.turns;
  held_kept = λ q h. b.held_kept q (a.held_kept q h);
  spare_kept = b.spare_kept ∙ a.spare_kept;
  workers_kept = b.workers_kept ∙ a.workers_kept;
}

pub after_start : {A : Type 0} (content : BlockId → A → Type 0) (l : Lineage) (f : BlockId → List (ℕ × Vid)) (ts : List BlockId) (old new : State A)
    (w : ℕ) (b : BlockId) → all_held (shape old) ts ≡ false → position is_none (shape old).running ≡ Some w → slice_get (shape old).running w ≡ Some None
    → IsLeastReady (net_of l f) ts (shape old) b → shape new ≡ started (shape old) w b → HoldsContents content l new → new.spare ≡ old.spare
    → length new.running ≡ length old.running → IsAfterTurns content l f ts old new
after_start content l f ts old new w b unheld first idle least is contents spare workers = record {
  contents = contents;
  turns = taken unheld (inl (record { worker = w; block = b; first = first; starts = record { idle = idle; least = least; is = is } })) ended;
  held_kept = λ q h. ap (λ (s : Shape). is_held s q) is ∙ (is_held-started (shape old) w b q ∙ h);
  spare_kept = spare;
  workers_kept = workers;
}

pub after_finish : {A : Type 0} (content : BlockId → A → Type 0) (l : Lineage) (f : BlockId → List (ℕ × Vid)) (ts : List BlockId) (old new : State A)
    (w : ℕ) (b : BlockId) → all_held (shape old) ts ≡ false → (position is_none (shape old).running ≡ None) ⊎ IsStuck (net_of l f) ts (shape old)
    → position is_some (shape old).running ≡ Some w → slice_get (shape old).running w ≡ Some (Some b)
    → shape new ≡ finished (shape old) w b (f b) → HoldsContents content l new → new.spare ≡ old.spare
    → length new.running ≡ length old.running → IsAfterTurns content l f ts old new
after_finish content l f ts old new w b unheld no_start first busy is contents spare workers = record {
  contents = contents;
  turns = taken unheld (inr (record { no_start = no_start; worker = w; block = b; first = first; finishes = record { busy = busy; is = is } })) ended;
  held_kept = λ q h. ap (λ (s : Shape). is_held s q) is ∙ (is_held-finished (shape old) w b (f b) q ∙ or_second (same_block b q) (is_held (shape old) q) h);
  spare_kept = spare;
  workers_kept = workers;
}

-- the blocks that waited for a finished block are filed again
pub refiled : (l dag : Lineage) (f : BlockId → List (ℕ × Vid)) (ts : List BlockId) (s new_shape : Shape) (a mid new : BlockAgenda) (w : ℕ) (b : BlockId)
    (bs : List BlockId) → dag ≡ l → new_shape ≡ finished s w b (f b) → bs ≡ waiting_for a.waiting b → slice_get s.running w ≡ Some (Some b)
    → TakesWaiting a mid b → IsAgenda (net_of l f) ts s a []
    → ((g : BlockId → List (ℕ × Vid)) (us : List BlockId) → IsAgenda (net_of dag g) us new_shape mid bs → IsAgenda (net_of dag g) us new_shape new [])
    → IsAgenda (net_of l f) ts new_shape new []
refiled l dag f ts s new_shape a mid new w b bs same is blocks busy takes r files =
    let before : IsAgenda (net_of l f) ts (finished s w b (f b)) mid (waiting_for a.waiting b) = finished_agenda (net_of l f) ts s a mid w b (f b) busy takes r in
    let at_shape : IsAgenda (net_of l f) ts new_shape mid (waiting_for a.waiting b) =
    subst (λ (x : Shape). IsAgenda (net_of l f) ts x mid (waiting_for a.waiting b)) (sym is) before in
    let at_blocks : IsAgenda (net_of l f) ts new_shape mid bs = subst (λ (x : List BlockId). IsAgenda (net_of l f) ts new_shape mid x) (sym blocks) at_shape in
    let at_dag : IsAgenda (net_of dag f) ts new_shape mid bs = subst (λ (x : Lineage). IsAgenda (net_of x f) ts new_shape mid bs) (sym same) at_blocks in
    subst (λ (x : Lineage). IsAgenda (net_of x f) ts new_shape new []) same (files f ts at_dag)

-- if the agenda has no ready block, none is ready
pub no_start_is_stuck : (n : Net) (ts : List BlockId) (s : Shape) (a : BlockAgenda) → IsAgenda n ts s a []
    → (position is_none s.running ≡ None) ⊎ (a.ready ≡ []) → (position is_none s.running ≡ None) ⊎ IsStuck n ts s
no_start_is_stuck n ts s a r (inl h) = inl h
no_start_is_stuck n ts s a r (inr h) = inr (stuck_by_empty n ts s a r h)
