-- A run under a net is one under each larger net.
use Rattle.std.proofs.Common.{
  ◌≡◌,
  ◌∙◌,
  ◌⊎◌,
  inl,
  inr,
  ⊎_elim,
  ℕ,
  true,
  List,
  [],
  ◌∷◌,
  Option,
  Some,
  None,
  ap,
  sym,
  subst,
}
use Rattle.std.specs.Prelude.{All, Contains, set, slice_get}
use Rattle.std.proofs.lemmas.List.Elements.{All-contains, All-weaker}
use Rattle.gx_lineage.specs.declared.block_id.BlockId.{BlockId}
use Rattle.gx_lineage.specs.declared.node_id.NodeId.{NodeId}
use Rattle.gx_cluster_state.specs.declared.event.Event.{Event}
use Rattle.gx_cluster_state.specs.declared.event.Event.TheVariants.{Start, Finish, Lose, Next}
use Rattle.gx_cluster_state.specs.Nets.{Net, IsLeastReady, IsReady, IsStuck, Wanted, target, input}
use Rattle.gx_cluster_state.specs.Runs.{
  Command,
  Demand,
  Release,
  Grows,
  Part,
  Passes,
  Point,
  Run,
  RunsIn,
  Step,
}
use Rattle.gx_cluster_state.specs.Shapes.{
  Shape,
  finished,
  is_held,
  lost,
  released,
  started,
  with_nothing,
}
use Rattle.gx_cluster_state.specs.PositionLaws.{get-set}
use Rattle.gx_cluster_state.specs.Turns.{Finishes, Starts, Turn, Turns, ended, taken, coming}

wanted_up : {n m : Net} {ts : List BlockId} {s : Shape} {b : BlockId} → Grows n m → All n.has ts
    → Wanted n ts s b → n.has b × Wanted m ts s b
wanted_up {n = n} {ts = ts} g a (target h f) = (All-contains n.has ts _ a h, target h f)
wanted_up {n = n} {s = s} g a (input {b = b} {c = c} w i h f) =
    let up = wanted_up g a w in (
      g.closed c b up.0 h,
      input up.1 i
          (subst (λ (bs : List BlockId). Contains bs b) (sym (g.inputs c up.0)) h) f,
    )

wanted_down : {n m : Net} {ts : List BlockId} {s : Shape} {b : BlockId} → Grows n m → All n.has ts
    → Wanted m ts s b → n.has b × Wanted n ts s b
wanted_down {n = n} {ts = ts} g a (target h f) = (All-contains n.has ts _ a h, target h f)
wanted_down {n = n} {s = s} g a (input {b = b} {c = c} w i h f) =
    let down = wanted_down g a w in
    let inside : Contains (n.inputs c) b =
    subst (λ (bs : List BlockId). Contains bs b) (g.inputs c down.0) h in
    (g.closed c b down.0 inside, input down.1 i inside f)

ready_up : {n m : Net} {ts : List BlockId} {s : Shape} {b : BlockId} → Grows n m → All n.has ts
    → IsReady n ts s b → IsReady m ts s b
ready_up {s = s} {b = b} g a r = let up = wanted_up g a r.wanted in record {
  wanted = up.1;
  idle = r.idle;
  inputs = subst (λ (bs : List BlockId). All (λ c. is_held s c ≡ true) bs)
      (sym (g.inputs b up.0)) r.inputs;
}

ready_down : {n m : Net} {ts : List BlockId} {s : Shape} {b : BlockId} → Grows n m → All n.has ts
    → IsReady m ts s b → IsReady n ts s b
ready_down {s = s} {b = b} g a r = let down = wanted_down g a r.wanted in record {
  wanted = down.1;
  idle = r.idle;
  inputs = subst (λ (bs : List BlockId). All (λ c. is_held s c ≡ true) bs)
      (g.inputs b down.0) r.inputs;
}

least_up : {n m : Net} {ts : List BlockId} {s : Shape} {b : BlockId} → Grows n m → All n.has ts
    → IsLeastReady n ts s b → IsLeastReady m ts s b
least_up g a l = record {
  ready = ready_up g a l.ready;
  least =
      λ c r. l.least c (ready_down g a r);
}

stuck_up : {n m : Net} {ts : List BlockId} {s : Shape} → Grows n m → All n.has ts → IsStuck n ts s
    → IsStuck m ts s
stuck_up g a stuck b r = stuck b (ready_down g a r)

set_runs : (n : Net) (xs : List (Option BlockId)) (w : ℕ) (y : Option BlockId)
    → ((b : BlockId) → y ≡ Some b → n.has b)
    → ((v : ℕ) (b : BlockId) → slice_get xs v ≡ Some (Some b) → n.has b)
    → (v : ℕ) (b : BlockId) → slice_get (set xs w y) v ≡ Some (Some b) → n.has b
set_runs n xs w y h r v b e = ⊎_elim (h b) (r v b) (get-set xs w v y b e)

started_runs : (n : Net) (s : Shape) (w : ℕ) (b : BlockId) → n.has b → RunsIn n s
    → RunsIn n (started s w b)
unfolding started
started_runs n s w b h r =
    set_runs n s.running w (Some b) (λ c e. let same : b ≡ c = cc in subst n.has same h) r

finished_runs : (n : Net) (s : Shape) (w : ℕ) (b : BlockId) → RunsIn n s
    → RunsIn n (finished s w b (n.freight b))
unfolding finished
finished_runs n s w b r =
    set_runs n s.running w None (λ c e. let none : None ≡ Some c = e in absurd (cc)) r

lost_runs : (n : Net) (s : Shape) (w : ℕ) → RunsIn n s → RunsIn n (lost s w)
unfolding lost
lost_runs n s w r = set_runs n s.running w None (λ c e. let none : None ≡ Some c = e in
    absurd (cc)) r

nothing_runs : (n : Net) (s : Shape) (w : ℕ) → RunsIn n s → RunsIn n (with_nothing s w)
unfolding with_nothing
nothing_runs n s w r = r

released_runs : (n : Net) (s : Shape) (k : NodeId) → RunsIn n s → RunsIn n (released s k)
unfolding released
released_runs n s k r = r

by_runs : (n : Net) (x y : Shape) → x ≡ y → RunsIn n y → RunsIn n x
by_runs n x y e r = subst (RunsIn n) (sym e) r

least_in : {n m : Net} {ts : List BlockId} {s : Shape} {b : BlockId} → Grows n m → All n.has ts
    → IsLeastReady n ts s b → n.has b
least_in g a l = (wanted_up g a l.ready.wanted).0

starts_up : {n m : Net} {ts : List BlockId} {s : Shape} {w : ℕ} {b : BlockId} {new : Shape}
    → Grows n m → All n.has ts
    → Starts n ts s w b new → Starts m ts s w b new
starts_up g a p = record { idle = p.idle; least = least_up g a p.least; is = p.is }

finishes_up : {n m : Net} {s : Shape} {w : ℕ} {b : BlockId} {new : Shape} → Grows n m → RunsIn n s
    → Finishes n s w b new → Finishes m s w b new
finishes_up {s = s} {w = w} {b = b} g r p = record {
  busy = p.busy;
  is = p.is ∙ ap (finished s w b) (sym (g.freight b (r w b p.busy)));
}

starts_runs : {n m : Net} {ts : List BlockId} {s : Shape} {w : ℕ} {b : BlockId} {new : Shape}
    → Grows n m → All n.has ts → RunsIn n s
    → Starts n ts s w b new → RunsIn n new
starts_runs {n = n} {s = s} {w = w} {b = b} {new = new} g a r p =
    by_runs n new _ p.is (started_runs n s w b (least_in g a p.least) r)

finishes_runs : {n : Net} {s : Shape} {w : ℕ} {b : BlockId} {new : Shape} → RunsIn n s
    → Finishes n s w b new → RunsIn n new
finishes_runs {n = n} {s = s} {w = w} {b = b} {new = new} r p =
    by_runs n new _ p.is (finished_runs n s w b r)

no_start_up : {A : Type 0} {n m : Net} {ts : List BlockId} {s : Shape} → Grows n m → All n.has ts
    → A ⊎ IsStuck n ts s → A ⊎ IsStuck m ts s
no_start_up g a (inl h) = inl h
no_start_up g a (inr h) = inr (stuck_up g a h)

turn_up : (n m : Net) (ts : List BlockId) (s new : Shape) (e : Event) → Grows n m → All n.has ts
    → RunsIn n s → Turn n ts s e new → Turn m ts s e new
turn_up n m ts s new (Start w) g a r (inl p) = inl (p.0, starts_up g a p.1)
turn_up n m ts s new (Start w) g a r (inr p) = inr (no_start_up g a p.0, p.1)
turn_up n m ts s new (Finish w) g a r (inl p) = inl (p.0, finishes_up g r p.1)
turn_up n m ts s new (Finish w) g a r (inr p) = inr p
turn_up n m ts s new (Lose w) g a r p = p
turn_up n m ts s new Next g a r (inl p) =
    inl (record {
      worker = p.worker;
      block = p.block;
      first = p.first;
      starts =
          starts_up g a p.starts;
    })
turn_up n m ts s new Next g a r (inr p) = inr (record {
  no_start = no_start_up g a p.no_start;
  worker = p.worker;
  block = p.block;
  first = p.first;
  finishes = finishes_up g r p.finishes;
})

turn_runs : (n m : Net) (ts : List BlockId) (s new : Shape) (e : Event) → Grows n m → All n.has ts
    → RunsIn n s → Turn n ts s e new → RunsIn n new
turn_runs n m ts s new (Start w) g a r (inl p) = starts_runs g a r p.1
turn_runs n m ts s new (Start w) g a r (inr p) = by_runs n new _ p.1 (nothing_runs n s w r)
turn_runs n m ts s new (Finish w) g a r (inl p) = finishes_runs r p.1
turn_runs n m ts s new (Finish w) g a r (inr p) = by_runs n new _ p.1 (nothing_runs n s w r)
turn_runs n m ts s new (Lose w) g a r (inl p) = by_runs n new _ p.1 (lost_runs n s w r)
turn_runs n m ts s new (Lose w) g a r (inr p) = by_runs n new _ p.1 (nothing_runs n s w r)
turn_runs n m ts s new Next g a r (inl p) = starts_runs g a r p.starts
turn_runs n m ts s new Next g a r (inr p) = finishes_runs r p.finishes

-- turns under a net are turns under each larger net
pub turns_up : {n m : Net} {ts : List BlockId} {last : Shape} {left : List Event} {s : Shape}
    {es : List Event} → Grows n m → All n.has ts → RunsIn n s
    → Turns n ts last left s es → Turns m ts last left s es
turns_up g a r ended = ended
turns_up {n = n} {m = m} {ts = ts} {s = s} g a r (taken {new = x} {es = es} h t rest) =
    taken h (turn_up n m ts s x (coming es) g a r t)
    (turns_up g a (turn_runs n m ts s x (coming es) g a r t) rest)

-- and what runs after them is in the net
turns_run_in : {n m : Net} {ts : List BlockId} {last : Shape} {left : List Event} {s : Shape}
    {es : List Event} → Grows n m → All n.has ts → RunsIn n s
    → Turns n ts last left s es → RunsIn n last
turns_run_in g a r ended = r
turns_run_in {n = n} {m = m} {ts = ts} {s = s} g a r (taken {new = x} {es = es} h t rest) =
    turns_run_in g a (turn_runs n m ts s x (coming es) g a r t) rest

all_up : {n m : Net} → Grows n m → (ts : List BlockId) → All n.has ts → All m.has ts
all_up {n = n} {m = m} g ts a = All-weaker n.has m.has g.has ts a

step_up : (n m : Net) (c : Command) (p q : Point) → Grows n m → RunsIn n p.shape → Step n c p q
    → Step m c p q × RunsIn n q.shape
step_up n m (Demand ts) p q g r h = (
  record { inside = all_up g ts h.inside; turns = turns_up g h.inside r h.turns; held = h.held },
  turns_run_in g h.inside r h.turns,
)
step_up n m (Release k) p q g r h = (h, by_runs n q.shape _ h.0 (released_runs n p.shape k r))

pub run_up : (n m : Net) (cs : List Command) (p q : Point) → Grows n m → RunsIn n p.shape
    → Run n cs p q → Run m cs p q
run_up n m [] p q g r h = h
run_up n m (c ∷ cs) p q g r h = let up = step_up n m c p h.0 g r h.1 in
    (h.0, up.0, run_up n m cs h.0 q g up.1 h.2)

part_up : (n m : Net) (c : Command) (p q : Point) → Grows n m → RunsIn n p.shape → Part n c p q
    → Part m c p q
part_up n m (Demand ts) p q g r (inl h) = inl h
part_up n m (Demand ts) p q g r (inr h) =
    inr (record { inside = all_up g ts h.inside; turns = turns_up g h.inside r h.turns })
part_up n m (Release k) p q g r h = h

pub passes_up : (n m : Net) (cs : List Command) (p q : Point) → Grows n m → RunsIn n p.shape
    → Passes n cs p q → Passes m cs p q
passes_up n m [] p q g r h = h
passes_up n m (c ∷ cs) p q g r (inl h) = inl (part_up n m c p q g r h)
passes_up n m (c ∷ cs) p q g r (inr h) =
    let up = step_up n m c p h.0 g r h.1 in inr (h.0, up.0, passes_up n m cs h.0 q g up.1 h.2)
