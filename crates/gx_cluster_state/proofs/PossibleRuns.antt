-- A turn is possible while a target is not held, and commands have a run.
use Rattle.std.proofs.Common.{
  ◌≡◌,
  ◌≢◌,
  ◌∙◌,
  ◌⊎◌,
  inl,
  inr,
  ⊎_elim,
  ℕ,
  ◌<◌,
  ◌≤◌,
  suc,
  zero,
  Bool,
  true,
  false,
  List,
  [],
  ◌∷◌,
  length,
  Option,
  Some,
  None,
  refl,
  ap,
  sym,
  subst,
  arith,
}
use Rattle.std.specs.Prelude.{All, Contains, is_none, is_some, nat_lt, position, slice_get}
use Rattle.std.specs.List.{list_any}
use Rattle.std.proofs.lemmas.Bool.Decides.{nat_tests}
use Rattle.std.proofs.lemmas.List.{length-set}
use Rattle.gx_rows.specs.declared.vid.Vid.{Vid}
use Rattle.gx_lineage.specs.declared.block_id.BlockId.{BlockId}
use Rattle.gx_lineage.specs.Lineage.{Lineage, IsBlock, IsSound}
use Rattle.gx_cluster_state.specs.declared.event.Event.{Event}
use Rattle.gx_cluster_state.specs.declared.event.Event.TheVariants.{Start, Finish, Lose, Next}
use Rattle.gx_cluster_state.specs.Blocks.{same_block}
use Rattle.gx_cluster_state.specs.LineageBlockLaws.{block_is_listed}
use Rattle.gx_cluster_state.specs.Measures.{lineage_blocks, turns_left}
use Rattle.gx_cluster_state.specs.Nets.{Net, IsLeastReady, IsStuck, Wanted, net_of}
use Rattle.gx_cluster_state.specs.ProgressLaws.{a_worker_is_busy, busy_at, idle_at, idle_or_busy}
use Rattle.gx_cluster_state.specs.Runs.{Command, Demand, Release, Point, Run, Step, TargetsAreIn}
use Rattle.gx_cluster_state.specs.Shapes.{
  Shape,
  all_held,
  finished,
  lost,
  released,
  started,
  with_nothing,
}
use Rattle.gx_cluster_state.specs.Turns.{Turn, Turns, coming, ended, taken}
use Rattle.gx_cluster_state.specs.WantedBlockLaws.{wanted_in}
use Rattle.gx_cluster_state.proofs.ReadyBlocks.{AreEarlier, ListsWanted, least_or_stuck}
use Rattle.gx_cluster_state.proofs.TurnBounds.{next_lowers}

-- ---- one turn

abbrev IsTurnPossible : Net → List BlockId → Shape → Event → Type 0
IsTurnPossible n ts s e = (new : Shape) × Turn n ts s e new

abbrev HasLeast : Net → List BlockId → Shape → Type 0
HasLeast n ts s = (b : BlockId) × IsLeastReady n ts s b

no_worker_left : (n : Net) (ts : List BlockId) (s : Shape) → AreEarlier n → 1 ≤ length s.running
    → all_held s ts ≡ false
    → (position is_none s.running ≡ None) ⊎ IsStuck n ts s → position is_some s.running ≡ None → ⊥
no_worker_left n ts s earlier workers unheld (inl full) none =
    idle_or_busy s.running (omega (arith, workers)) full none
no_worker_left n ts s earlier workers unheld (inr stuck) none =
    a_worker_is_busy n ts s earlier unheld stuck none

first_finishes : (n : Net) (ts : List BlockId) (s : Shape) (o : Option ℕ)
    → position is_some s.running ≡ o → AreEarlier n → 1 ≤ length s.running
    → all_held s ts ≡ false → (position is_none s.running ≡ None) ⊎ IsStuck n ts s
    → IsTurnPossible n ts s Next
first_finishes n ts s (Some w) e earlier workers unheld no_start =
    let busy = busy_at s.running w e in (
      finished s w busy.0 (n.freight busy.0),
      inr (record {
        no_start = no_start;
        worker = w;
        block = busy.0;
        first = e;
        finishes = record { busy = busy.1; is = refl };
      }),
    )
first_finishes n ts s None e earlier workers unheld no_start =
    absurd (no_worker_left n ts s earlier workers unheld no_start e)

next_possible : (n : Net) (ts : List BlockId) (s : Shape) (o : Option ℕ)
    → position is_none s.running ≡ o → AreEarlier n → 1 ≤ length s.running
    → all_held s ts ≡ false → HasLeast n ts s ⊎ IsStuck n ts s → IsTurnPossible n ts s Next
next_possible n ts s (Some w) e earlier workers unheld (inl l) = (
  started s w l.0,
  inl (record {
    worker = w;
    block = l.0;
    first = e;
    starts = record { idle = idle_at s.running w e; least = l.1; is = refl };
  }),
)
next_possible n ts s (Some w) e earlier workers unheld (inr stuck) =
    first_finishes n ts s (position is_some s.running) refl earlier workers unheld (inr stuck)
next_possible n ts s None e earlier workers unheld least =
    first_finishes n ts s (position is_some s.running) refl earlier workers unheld (inl e)

-- whether a worker is there and idle, or there and busy
abbrev is_idle : Option (Option BlockId) → Bool
is_idle (Some None) = true
is_idle (Some (Some b)) = false
is_idle None = false

abbrev is_busy : Option (Option BlockId) → Bool
is_busy (Some None) = false
is_busy (Some (Some b)) = true
is_busy None = false

not_idle : (o : Option (Option BlockId)) → is_idle o ≡ false → o ≢ Some None
not_idle o e h = let contrary : true ≡ false = sym (ap is_idle h) ∙ e in absurd (cc)

not_busy : (o : Option (Option BlockId)) → is_busy o ≡ false → (b : BlockId) → o ≢ Some (Some b)
not_busy o e b h = let contrary : true ≡ false = sym (ap is_busy h) ∙ e in absurd (cc)

start_possible : (n : Net) (ts : List BlockId) (s : Shape) (w : ℕ) (o : Option (Option BlockId))
    → slice_get s.running w ≡ o
    → HasLeast n ts s ⊎ IsStuck n ts s → IsTurnPossible n ts s (Start w)
start_possible n ts s w (Some None) e (inl l) =
    (started s w l.0, inl (l.0, record { idle = e; least = l.1; is = refl }))
start_possible n ts s w (Some None) e (inr stuck) = (with_nothing s w, inr (inr stuck, refl))
start_possible n ts s w (Some (Some b)) e least =
    (with_nothing s w, inr (inl (not_idle (slice_get s.running w) (ap is_idle e)), refl))
start_possible n ts s w None e least =
    (with_nothing s w, inr (inl (not_idle (slice_get s.running w) (ap is_idle e)), refl))

finish_possible : (n : Net) (ts : List BlockId) (s : Shape) (w : ℕ) (o : Option (Option BlockId))
    → slice_get s.running w ≡ o
    → IsTurnPossible n ts s (Finish w)
finish_possible n ts s w (Some (Some b)) e =
    (finished s w b (n.freight b), inl (b, record { busy = e; is = refl }))
finish_possible n ts s w (Some None) e =
    (with_nothing s w, inr (not_busy (slice_get s.running w) (ap is_busy e), refl))
finish_possible n ts s w None e =
    (with_nothing s w, inr (not_busy (slice_get s.running w) (ap is_busy e), refl))

loss_possible : (n : Net) (ts : List BlockId) (s : Shape) (w : ℕ) (t : Bool)
    → nat_lt w (length s.running) ≡ t → IsTurnPossible n ts s (Lose w)
loss_possible n ts s w true e = (lost s w, inl (grind (arith, nat_tests), refl))
loss_possible n ts s w false e = (with_nothing s w, inr (grind (arith, nat_tests), refl))

-- under each event, while a target is not held
pub turn_possible : (n : Net) (ts bs : List BlockId) (s : Shape) (e : Event) → AreEarlier n
    → ListsWanted n ts bs → 1 ≤ length s.running
    → all_held s ts ≡ false → (new : Shape) × Turn n ts s e new
turn_possible n ts bs s (Start w) earlier listed workers unheld =
    start_possible n ts s w (slice_get s.running w) refl (least_or_stuck n ts s bs earlier listed)
turn_possible n ts bs s (Finish w) earlier listed workers unheld =
    finish_possible n ts s w (slice_get s.running w) refl
turn_possible n ts bs s (Lose w) earlier listed workers unheld =
    loss_possible n ts s w (nat_lt w (length s.running)) refl
turn_possible n ts bs s Next earlier listed workers unheld =
    next_possible n ts s (position is_none s.running) refl earlier workers unheld
    (least_or_stuck n ts s bs earlier listed)

-- ---- a turn keeps the number of workers

started_workers : (s new : Shape) (w : ℕ) (b : BlockId) → new ≡ started s w b
    → length new.running ≡ length s.running
unfolding started
started_workers s new w b h =
    ap (λ (x : Shape). length x.running) h ∙ length-set s.running w (Some b)

finished_workers : (n : Net) (s new : Shape) (w : ℕ) (b : BlockId)
    → new ≡ finished s w b (n.freight b) → length new.running ≡ length s.running
unfolding finished
finished_workers n s new w b h =
    ap (λ (x : Shape). length x.running) h ∙ length-set s.running w None

lost_workers : (s new : Shape) (w : ℕ) → new ≡ lost s w → length new.running ≡ length s.running
unfolding lost
lost_workers s new w h = ap (λ (x : Shape). length x.running) h ∙ length-set s.running w None

nothing_workers : (s new : Shape) (w : ℕ) → new ≡ with_nothing s w
    → length new.running ≡ length s.running
unfolding with_nothing
nothing_workers s new w h = ap (λ (x : Shape). length x.running) h

released_workers : (s : Shape) (k : _) → 1 ≤ length s.running → 1 ≤ length (released s k).running
unfolding released
released_workers s k h = h

turn_workers : (n : Net) (ts : List BlockId) (s new : Shape) (e : Event) → Turn n ts s e new
    → length new.running ≡ length s.running
turn_workers n ts s new (Start w) (inl p) = started_workers s new w p.0 p.1.is
turn_workers n ts s new (Start w) (inr p) = nothing_workers s new w p.1
turn_workers n ts s new (Finish w) (inl p) = finished_workers n s new w p.0 p.1.is
turn_workers n ts s new (Finish w) (inr p) = nothing_workers s new w p.1
turn_workers n ts s new (Lose w) (inl p) = lost_workers s new w p.1
turn_workers n ts s new (Lose w) (inr p) = nothing_workers s new w p.1
turn_workers n ts s new Next (inl p) = started_workers s new p.worker p.block p.starts.is
turn_workers n ts s new Next (inr p) = finished_workers n s new p.worker p.block p.finishes.is

turns_workers : {n : Net} {ts : List BlockId} {last : Shape} {left : List Event} {s : Shape}
    {es : List Event} → Turns n ts last left s es
    → length last.running ≡ length s.running
turns_workers ended = refl
turns_workers {n = n} {ts = ts} {s = s} (taken {new = x} {es = es} h t rest) =
    turns_workers rest ∙ turn_workers n ts s x (coming es) t

-- ---- a demand

-- what a demand leads to
record HasDemand (n : Net) (ts : List BlockId) (s : Shape) (es : List Event) : Type 0 where
  last : Shape
  left : List Event
  turns : Turns n ts last left s es
  held : all_held last ts ≡ true

-- without events, each turn leaves fewer
demand_without : (n : Net) (ts bs : List BlockId) → AreEarlier n → ListsWanted n ts bs
    → (k : ℕ) (s : Shape) → turns_left bs s ≤ k
    → 1 ≤ length s.running → (t : Bool) → all_held s ts ≡ t → HasDemand n ts s []
demand_without n ts bs earlier listed k s few workers true e =
    record { last = s; left = []; turns = ended; held = e }
demand_without n ts bs earlier listed zero s few workers false e =
    let turn = turn_possible n ts bs s Next earlier listed workers e in
    let lower = next_lowers n ts bs s turn.0 (listed s) turn.1 in
    absurd (omega (arith, few, lower))
demand_without n ts bs earlier listed (suc k) s few workers false e =
    let turn = turn_possible n ts bs s Next earlier listed workers e in
    let lower = next_lowers n ts bs s turn.0 (listed s) turn.1 in
    let same = turn_workers n ts s turn.0 Next turn.1 in
    let rest = demand_without n ts bs earlier listed k turn.0 (omega (arith, few, lower))
    (omega (arith, same, workers)) (all_held turn.0 ts) refl in
    record {
      last = rest.last;
      left = rest.left;
      turns = taken e turn.1 rest.turns;
      held =
          rest.held;
    }

demand_possible : (n : Net) (ts bs : List BlockId) → AreEarlier n → ListsWanted n ts bs
    → (es : List Event) (s : Shape)
    → 1 ≤ length s.running → (t : Bool) → all_held s ts ≡ t → HasDemand n ts s es
demand_possible n ts bs earlier listed es s workers true e =
    record { last = s; left = es; turns = ended; held = e }
demand_possible n ts bs earlier listed [] s workers false e =
    demand_without n ts bs earlier listed (turns_left bs s) s (omega arith) workers false e
demand_possible n ts bs earlier listed (x ∷ es) s workers false e =
    let turn = turn_possible n ts bs s x earlier listed workers e in
    let same = turn_workers n ts s turn.0 x turn.1 in
    let rest = demand_possible n ts bs earlier listed es turn.0 (omega (arith, same, workers))
    (all_held turn.0 ts) refl in
    record {
      last = rest.last;
      left = rest.left;
      turns = taken e turn.1 rest.turns;
      held =
          rest.held;
    }

-- ---- commands, in a lineage

pub lists_wanted : (l : Lineage) (f : BlockId → List (ℕ × Vid)) (ts : List BlockId) → IsSound l
    → All (IsBlock l) ts
    → ListsWanted (net_of l f) ts (lineage_blocks l)
lists_wanted l f ts sound inside s b w = block_is_listed l b (wanted_in inside sound.blocks w)

record HasStep (n : Net) (c : Command) (p : Point) : Type 0 where
  end : Point
  step : Step n c p end
  workers : 1 ≤ length end.shape.running

demand_step : (l : Lineage) (f : BlockId → List (ℕ × Vid)) (ts : List BlockId) (p : Point)
    → IsSound l → All (IsBlock l) ts
    → 1 ≤ length p.shape.running → HasStep (net_of l f) (Demand ts) p
demand_step l f ts p sound inside workers =
    let d = demand_possible (net_of l f) ts (lineage_blocks l) sound.earlier
    (lists_wanted l f ts sound inside) p.events p.shape workers (all_held p.shape ts) refl in
    let same = turns_workers d.turns in
    record {
      end = record { shape = d.last; events = d.left };
      step = record { inside = inside; turns = d.turns; held = d.held };
      workers = omega (arith, same, workers);
    }

pub run_possible : (l : Lineage) (f : BlockId → List (ℕ × Vid)) (cs : List Command) (p : Point)
    → IsSound l → TargetsAreIn (net_of l f) cs
    → 1 ≤ length p.shape.running → (q : Point) × Run (net_of l f) cs p q
run_possible l f [] p sound inside workers = (p, refl)
run_possible l f (Demand ts ∷ cs) p sound inside workers =
    let first = demand_step l f ts p sound inside.0 workers in
    let rest = run_possible l f cs first.end sound inside.1 first.workers in
    (rest.0, (first.end, first.step, rest.1))
run_possible l f (Release k ∷ cs) p sound inside workers =
    let end : Point = record { shape = released p.shape k; events = p.events } in
    let rest = run_possible l f cs end sound inside (released_workers p.shape k workers) in
    (rest.0, (end, (refl, refl), rest.1))
