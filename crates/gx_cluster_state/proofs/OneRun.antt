-- A list of commands has one run.
use Rattle.std.proofs.Common.{◌≡◌, ◌≢◌, ◌∙◌, ◌⊎◌, inl, inr, ℕ, Bool, true, false, List, [], ◌∷◌, ◌++◌, Option, Some, None, refl, ap, sym, subst, append_assoc, append-nil, arith}
use Rattle.std.specs.Prelude.{is_none, position, slice_get}
use Rattle.gx_lineage.specs.declared.block_id.BlockId.{BlockId}
use Rattle.gx_lineage.specs.declared.node_id.NodeId.{NodeId}
use Rattle.gx_cluster_state.specs.declared.event.Event.{Event}
use Rattle.gx_cluster_state.specs.declared.event.Event.TheVariants.{Start, Finish, Lose, Next}
use Rattle.gx_cluster_state.specs.declared.log_entry.LogEntry.{LogEntry}
use Rattle.gx_cluster_state.specs.Nets.{Net, IsLeastReady, IsStuck}
use Rattle.gx_cluster_state.specs.Runs.{Command, Demand, Release, LogExtends, Part, Passes, Point, Run, Step}
use Rattle.gx_cluster_state.specs.Shapes.{Shape, all_held, finished, lost, released, started, with_nothing}
use Rattle.gx_cluster_state.specs.Turns.{Finishes, Starts, Turn, Turns, ended, taken, coming, remaining}
use Rattle.gx_cluster_state.specs.BlockLaws.{not_greater_same}

one_least : {n : Net} {ts : List BlockId} {s : Shape} {b c : BlockId} → IsLeastReady n ts s b → IsLeastReady n ts s c → b ≡ c
one_least {b = b} {c = c} x y = not_greater_same b c (x.least c y.ready) (y.least b x.ready)

one_start : {n : Net} {ts : List BlockId} {s : Shape} {w : ℕ} {b c : BlockId} {x y : Shape} → Starts n ts s w b x → Starts n ts s w c y → x ≡ y
one_start {s = s} {w = w} p q = p.is ∙ (ap (started s w) (one_least p.least q.least) ∙ sym q.is)

one_finish : {n : Net} {s : Shape} {w : ℕ} {b c : BlockId} {x y : Shape} → Finishes n s w b x → Finishes n s w c y → x ≡ y
one_finish {n = n} {s = s} {w = w} {b = b} {c = c} p q =
    let found : Some (Some b) ≡ Some (Some c) = sym p.busy ∙ q.busy in
    let same : b ≡ c = cc in
    p.is ∙ (ap (λ (d : BlockId). finished s w d (n.freight d)) same ∙ sym q.is)

start_or_nothing : {n : Net} {ts : List BlockId} {s : Shape} {w : ℕ} {b : BlockId} {x : Shape} {A : Type 0} → Starts n ts s w b x
    → (slice_get s.running w ≢ Some None) ⊎ IsStuck n ts s → A
start_or_nothing p (inl busy) = absurd (busy p.idle)
start_or_nothing {b = b} p (inr stuck) = absurd (stuck b p.least.ready)

first_start_or_finish : {n : Net} {ts : List BlockId} {s : Shape} {w : ℕ} {b : BlockId} {x : Shape} {A : Type 0} → position is_none s.running ≡ Some w
    → Starts n ts s w b x → (position is_none s.running ≡ None) ⊎ IsStuck n ts s → A
first_start_or_finish {w = w} h p (inl none) = let contrary : Some w ≡ None = sym h ∙ none in absurd (cc)
first_start_or_finish {b = b} h p (inr stuck) = absurd (stuck b p.least.ready)

same_worker : {o : Option ℕ} {v w : ℕ} → o ≡ Some v → o ≡ Some w → v ≡ w
same_worker {v = v} {w = w} g h = let found : Some v ≡ Some w = sym g ∙ h in cc

-- a turn has one effect
pub one_turn : (n : Net) (ts : List BlockId) (s x y : Shape) (e : Event) → Turn n ts s e x → Turn n ts s e y → x ≡ y
one_turn n ts s x y (Start w) (inl p) (inl q) = one_start p.1 q.1
one_turn n ts s x y (Start w) (inl p) (inr q) = start_or_nothing p.1 q.0
one_turn n ts s x y (Start w) (inr p) (inl q) = start_or_nothing q.1 p.0
one_turn n ts s x y (Start w) (inr p) (inr q) = p.1 ∙ sym q.1
one_turn n ts s x y (Finish w) (inl p) (inl q) = one_finish p.1 q.1
one_turn n ts s x y (Finish w) (inl p) (inr q) = absurd (q.0 p.0 p.1.busy)
one_turn n ts s x y (Finish w) (inr p) (inl q) = absurd (p.0 q.0 q.1.busy)
one_turn n ts s x y (Finish w) (inr p) (inr q) = p.1 ∙ sym q.1
one_turn n ts s x y (Lose w) (inl p) (inl q) = p.1 ∙ sym q.1
one_turn n ts s x y (Lose w) (inl p) (inr q) = let below = p.0 in let above = q.0 in absurd (omega arith)
one_turn n ts s x y (Lose w) (inr p) (inl q) = let above = p.0 in let below = q.0 in absurd (omega arith)
one_turn n ts s x y (Lose w) (inr p) (inr q) = p.1 ∙ sym q.1
one_turn n ts s x y Next (inl p) (inl q) =
    one_start p.starts (subst (λ (v : ℕ). Starts n ts s v q.block y) (same_worker q.first p.first) q.starts)
one_turn n ts s x y Next (inl p) (inr q) = first_start_or_finish p.first p.starts q.no_start
one_turn n ts s x y Next (inr p) (inl q) = first_start_or_finish q.first q.starts p.no_start
one_turn n ts s x y Next (inr p) (inr q) =
    one_finish p.finishes (subst (λ (v : ℕ). Finishes n s v q.block y) (same_worker q.first p.first) q.finishes)

not_both : {b : Bool} {A : Type 0} → b ≡ true → b ≡ false → A
not_both {b = b} t f = let contrary : true ≡ false = sym t ∙ f in absurd (cc)

-- the turns of a demand have one end
pub one_end : {n : Net} {ts : List BlockId} {a b : Shape} {la lb : List Event} {s : Shape} {es : List Event} → Turns n ts a la s es → Turns n ts b lb s es
    → all_held a ts ≡ true → all_held b ts ≡ true → (a ≡ b) × (la ≡ lb)
one_end ended ended f g = (refl, refl)
one_end ended (taken h t rest) f g = not_both f h
one_end (taken h t rest) ended f g = not_both g h
one_end {n = n} {ts = ts} {b = b} {lb = lb} {s = s} (taken {new = x} {es = es} h t rest) (taken {new = y} i u more) f g =
    one_end rest (subst (λ (z : Shape). Turns n ts b lb z (remaining es)) (one_turn n ts s y x (coming es) u t) more) f g

same_point : (p q : Point) → p.shape ≡ q.shape → p.events ≡ q.events → p ≡ q
same_point p q s e =
    ap (λ (a : Shape). let x : Point = record { shape = a; events = p.events } in x) s
    ∙ ap (λ (b : List Event). let x : Point = record { shape = q.shape; events = b } in x) e

one_step : (n : Net) (c : Command) (p x y : Point) → Step n c p x → Step n c p y → x ≡ y
one_step n (Demand ts) p x y g h = let same = one_end g.turns h.turns g.held h.held in same_point x y same.0 same.1
one_step n (Release k) p x y g h = same_point x y (g.0 ∙ sym h.0) (g.1 ∙ sym h.1)

pub one_run : (n : Net) (cs : List Command) (p x y : Point) → Run n cs p x → Run n cs p y → x ≡ y
one_run n [] p x y g h = g ∙ sym h
one_run n (c ∷ cs) p x y g h = one_run n cs g.0 x y g.2 (subst (λ (m : Point). Run n cs m y) (one_step n c p h.0 g.0 h.1 g.1) h.2)

-- logs only grow
extends_nothing : (log : List LogEntry) → LogExtends log log
extends_nothing log = ([], sym (append-nil log))

extends_more : (a b c : List LogEntry) → LogExtends a b → LogExtends b c → LogExtends a c
extends_more a b c g h = (g.0 ++ h.0, h.1 ∙ (ap (λ (l : List LogEntry). l ++ h.0) g.1 ∙ append_assoc a g.0 h.0))

started_extends : (s : Shape) (w : ℕ) (b : BlockId) → LogExtends s.log (started s w b).log
unfolding started
started_extends s w b = (_, refl)

finished_extends : (n : Net) (s : Shape) (w : ℕ) (b : BlockId) → LogExtends s.log (finished s w b (n.freight b)).log
unfolding finished
finished_extends n s w b = (_, refl)

lost_extends : (s : Shape) (w : ℕ) → LogExtends s.log (lost s w).log
unfolding lost
lost_extends s w = (_, refl)

nothing_extends : (s : Shape) (w : ℕ) → LogExtends s.log (with_nothing s w).log
unfolding with_nothing
nothing_extends s w = (_, refl)

released_extends : (s : Shape) (k : NodeId) → LogExtends s.log (released s k).log
unfolding released
released_extends s k = (_, refl)

by_is : (s x y : Shape) → x ≡ y → LogExtends s.log y.log → LogExtends s.log x.log
by_is s x y h e = subst (λ (z : Shape). LogExtends s.log z.log) (sym h) e

turn_extends : (n : Net) (ts : List BlockId) (s x : Shape) (e : Event) → Turn n ts s e x → LogExtends s.log x.log
turn_extends n ts s x (Start w) (inl p) = by_is s x _ p.1.is (started_extends s w p.0)
turn_extends n ts s x (Start w) (inr p) = by_is s x _ p.1 (nothing_extends s w)
turn_extends n ts s x (Finish w) (inl p) = by_is s x _ p.1.is (finished_extends n s w p.0)
turn_extends n ts s x (Finish w) (inr p) = by_is s x _ p.1 (nothing_extends s w)
turn_extends n ts s x (Lose w) (inl p) = by_is s x _ p.1 (lost_extends s w)
turn_extends n ts s x (Lose w) (inr p) = by_is s x _ p.1 (nothing_extends s w)
turn_extends n ts s x Next (inl p) = by_is s x _ p.starts.is (started_extends s p.worker p.block)
turn_extends n ts s x Next (inr p) = by_is s x _ p.finishes.is (finished_extends n s p.worker p.block)

turns_extend : {n : Net} {ts : List BlockId} {a : Shape} {la : List Event} {s : Shape} {es : List Event} → Turns n ts a la s es → LogExtends s.log a.log
turns_extend {s = s} ended = extends_nothing s.log
turns_extend {n = n} {ts = ts} {a = a} {s = s} (taken {new = x} {es = es} h t rest) =
    extends_more s.log x.log a.log (turn_extends n ts s x (coming es) t) (turns_extend rest)

-- turns that stopped part-way, and all of them
part_extends : {n : Net} {ts : List BlockId} {a b : Shape} {la lb : List Event} {s : Shape} {es : List Event} → Turns n ts a la s es → Turns n ts b lb s es
    → all_held b ts ≡ true → LogExtends a.log b.log
part_extends ended more g = turns_extend more
part_extends (taken h t rest) ended g = not_both g h
part_extends {n = n} {ts = ts} {b = b} {lb = lb} {s = s} (taken {new = x} {es = es} h t rest) (taken {new = y} i u more) g =
    part_extends rest (subst (λ (z : Shape). Turns n ts b lb z (remaining es)) (one_turn n ts s y x (coming es) u t) more) g

step_extends : (n : Net) (c : Command) (p q : Point) → Step n c p q → LogExtends p.shape.log q.shape.log
step_extends n (Demand ts) p q h = turns_extend h.turns
step_extends n (Release k) p q h = by_is p.shape q.shape _ h.0 (released_extends p.shape k)

pub run_extends : (n : Net) (cs : List Command) (p q : Point) → Run n cs p q → LogExtends p.shape.log q.shape.log
run_extends n [] p q h = subst (λ (z : Point). LogExtends p.shape.log z.shape.log) (sym h) (extends_nothing p.shape.log)
run_extends n (c ∷ cs) p q h =
    extends_more p.shape.log h.0.shape.log q.shape.log (step_extends n c p h.0 h.1) (run_extends n cs h.0 q h.2)

by_point : (p q : Point) (log : List LogEntry) → q ≡ p → LogExtends p.shape.log log → LogExtends q.shape.log log
by_point p q log h e = subst (λ (z : Point). LogExtends z.shape.log log) (sym h) e

part_step_extends : (n : Net) (c : Command) (p q m : Point) → Part n c p q → Step n c p m → LogExtends q.shape.log m.shape.log
part_step_extends n (Demand ts) p q m (inl h) k = by_point p q m.shape.log h (step_extends n (Demand ts) p m k)
part_step_extends n (Demand ts) p q m (inr h) k = part_extends h.turns k.turns k.held
part_step_extends n (Release r) p q m h k = by_point p q m.shape.log h (step_extends n (Release r) p m k)

-- the log of a run that stopped part-way is a prefix of that of the whole run
pub passes_extend : (n : Net) (cs : List Command) (p q r : Point) → Passes n cs p q → Run n cs p r → LogExtends q.shape.log r.shape.log
passes_extend n [] p q r h k = by_point p q r.shape.log h (run_extends n [] p r k)
passes_extend n (c ∷ cs) p q r (inl h) k =
    extends_more q.shape.log k.0.shape.log r.shape.log (part_step_extends n c p q k.0 h k.1) (run_extends n cs k.0 r k.2)
passes_extend n (c ∷ cs) p q r (inr h) k =
    passes_extend n cs h.0 q r h.2 (subst (λ (m : Point). Run n cs m r) (one_step n c p k.0 h.0 k.1 h.1) k.2)
