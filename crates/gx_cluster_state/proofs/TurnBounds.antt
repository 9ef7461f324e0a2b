-- How many turns a demand takes.
use Rattle.std.proofs.Common.{◌≡◌, ◌∙◌, inl, inr, ⊎_elim, ℕ, ◌+◌, ◌*◌, ◌<◌, ◌≤◌, suc, zero, Bool, true, false, ◌||◌, cond, List, [], ◌∷◌, ◌++◌, Option, Some, None, length, set, refl, ap, sym, subst, arith}
use Rattle.std.specs.Prelude.{is_some, slice_get}
use Rattle.std.specs.List.{count_by, list_any, sum_by}
use Rattle.std.proofs.lemmas.List.{length_push}
use Rattle.std.proofs.lemmas.List.Sums.{sum_by-cons}
use Rattle.gx_lineage.specs.declared.block_id.BlockId.{BlockId}
use Rattle.gx_cluster_state.specs.declared.event.Event.{Event}
use Rattle.gx_cluster_state.specs.declared.event.Event.TheVariants.{Start, Finish, Lose, Next}
use Rattle.gx_cluster_state.specs.declared.log_entry.LogEntry.{LogEntry}
use Rattle.gx_cluster_state.specs.Blocks.{same_block}
use Rattle.gx_cluster_state.specs.Measures.{AreDistinct, IsClosed, turns_for, turns_left}
use Rattle.gx_cluster_state.specs.Nets.{Net, Wanted, target, input}
use Rattle.gx_cluster_state.specs.Shapes.{Shape, finished, is_held, is_running, lost, runs_block, started, with_nothing}
use Rattle.gx_cluster_state.specs.Turns.{Turn, Turns, ended, taken, coming, remaining}
use Rattle.gx_cluster_state.specs.ChangeLaws.{list_any-set}
use Rattle.gx_cluster_state.specs.BlockLaws.{same_block_laws, same_exact}
use Rattle.gx_cluster_state.specs.TurnsLeftLaws.{count_by-set, finish_lowers, or_cases, start_lowers, sum_by-le}
use Rattle.gx_cluster_state.specs.WantedBlockLaws.{wanted_missing}

wanted_listed : {n : Net} {ts : List BlockId} {s : Shape} {b : BlockId} (bs : List BlockId) → IsClosed n ts bs → Wanted n ts s b → list_any (same_block b) bs ≡ true
wanted_listed bs r (target {b = b} h f) = r.targets_listed b h
wanted_listed bs r (input {b = b} {c = c} w i h f) = r.inputs_listed c b (wanted_listed bs r w) h

-- ---- the log has one more entry
one_more : (log : List LogEntry) (e : LogEntry) (new : List LogEntry) → new ≡ log ++ e ∷ [] → length new ≡ length log + 1
one_more log e new h = ap length h ∙ length_push log e

logged_start : (s new : Shape) (w : ℕ) (b : BlockId) → new ≡ started s w b → length new.log ≡ length s.log + 1
unfolding started
logged_start s new w b h = one_more s.log _ new.log (ap (λ (x : Shape). x.log) h)

logged_finish : (n : Net) (s new : Shape) (w : ℕ) (b : BlockId) → new ≡ finished s w b (n.freight b) → length new.log ≡ length s.log + 1
unfolding finished
logged_finish n s new w b h = one_more s.log _ new.log (ap (λ (x : Shape). x.log) h)

logged_loss : (s new : Shape) (w : ℕ) → new ≡ lost s w → length new.log ≡ length s.log + 1
unfolding lost
logged_loss s new w h = one_more s.log _ new.log (ap (λ (x : Shape). x.log) h)

logged_nothing : (s new : Shape) (w : ℕ) → new ≡ with_nothing s w → length new.log ≡ length s.log + 1
unfolding with_nothing
logged_nothing s new w h = one_more s.log _ new.log (ap (λ (x : Shape). x.log) h)

logged_turn : (n : Net) (ts : List BlockId) (s new : Shape) (e : Event) → Turn n ts s e new → length new.log ≡ length s.log + 1
logged_turn n ts s new (Start w) (inl p) = logged_start s new w p.0 p.1.is
logged_turn n ts s new (Start w) (inr p) = logged_nothing s new w p.1
logged_turn n ts s new (Finish w) (inl p) = logged_finish n s new w p.0 p.1.is
logged_turn n ts s new (Finish w) (inr p) = logged_nothing s new w p.1
logged_turn n ts s new (Lose w) (inl p) = logged_loss s new w p.1
logged_turn n ts s new (Lose w) (inr p) = logged_nothing s new w p.1
logged_turn n ts s new Next (inl p) = logged_start s new p.worker p.block p.starts.is
logged_turn n ts s new Next (inr p) = logged_finish n s new p.worker p.block p.finishes.is

-- ---- without events
pub next_lowers : (n : Net) (ts bs : List BlockId) (s new : Shape) → ((b : BlockId) → Wanted n ts s b → list_any (same_block b) bs ≡ true)
    → Turn n ts s Next new → turns_left bs new < turns_left bs s
next_lowers n ts bs s new listed (inl p) =
    let is = p.starts.least.ready in
    subst (λ (x : Shape). turns_left bs x < turns_left bs s) (sym p.starts.is)
    (start_lowers bs s p.worker p.block (listed p.block is.wanted) p.starts.idle (wanted_missing is.wanted) is.idle)
next_lowers n ts bs s new listed (inr p) =
    subst (λ (x : Shape). turns_left bs x < turns_left bs s) (sym p.finishes.is)
    (finish_lowers bs s p.worker p.block (n.freight p.block) p.finishes.busy)

bounded_without : {n : Net} {ts : List BlockId} {last : Shape} {left : List Event} {s : Shape} {es : List Event} (bs : List BlockId) → IsClosed n ts bs
    → es ≡ [] → Turns n ts last left s es → length last.log + length left ≤ length s.log + turns_left bs s
bounded_without bs r none ended = let no = ap length none in omega (arith, no)
bounded_without {n = n} {ts = ts} {s = s} bs r none (taken {new = x} {es = es} h t rest) =
    let next : Turn n ts s Next x = subst (λ (z : List Event). Turn n ts s (coming z) x) none t in
    let lower = next_lowers n ts bs s x (λ b w. wanted_listed bs r w) next in
    let logged = logged_turn n ts s x Next next in
    let more = bounded_without bs r (ap remaining none) rest in
    omega (arith, lower, logged, more)

-- ---- how many run: no more than at first, and one for each listed block that runs
abbrev runs_one : List (Option BlockId) → BlockId → ℕ
runs_one xs b = cond (list_any (runs_block b) xs) 1 0

record FewRun (most : ℕ) (bs : List BlockId) (xs : List (Option BlockId)) : Type 0 where
  few : count_by is_some xs ≤ most + sum_by (runs_one xs) bs

-- sums over distinct blocks
or_second : (a b : Bool) → b ≡ true → (a || b) ≡ true
or_second true b h = refl
or_second false b h = h

sum_by-le_in : (f g : BlockId → ℕ) (bs : List BlockId) → ((b : BlockId) → list_any (same_block b) bs ≡ true → f b ≤ g b) → sum_by f bs ≤ sum_by g bs
sum_by-le_in f g [] h = omega arith
sum_by-le_in f g (b ∷ bs) h =
    rw (sum_by-cons f b bs, sum_by-cons g b bs)
    (let first = h b (ap (λ (t : Bool). t || list_any (same_block b) bs) (same_block_laws.refl b)) in
    let rest = sum_by-le_in f g bs (λ q there. h q (or_second (same_block q b) (list_any (same_block q) bs) there)) in
    omega (arith, first, rest))

differs : (b q : BlockId) (bs : List BlockId) (t : Bool) → same_block q b ≡ t → list_any (same_block b) bs ≡ false → list_any (same_block q) bs ≡ true → t ≡ false
differs b q bs true same absent there =
    let at : list_any (same_block b) bs ≡ true = subst (λ (x : BlockId). list_any (same_block x) bs ≡ true) (same_exact q b same) there in
    let contrary : true ≡ false = sym at ∙ absent in absurd (cc)
differs b q bs false same absent there = refl

-- the first of distinct blocks
sum_by-head : (f g : BlockId → ℕ) (x : BlockId) (xs : List BlockId) (b : BlockId) (t : Bool) → same_block x b ≡ t → AreDistinct (x ∷ xs)
    → ((q : BlockId) → same_block q b ≡ false → f q ≤ g q) → f b ≤ g b + 1 → sum_by f xs ≤ sum_by g xs + 1
    → f x + sum_by f xs ≤ g x + sum_by g xs + 1
sum_by-head f g x xs b true same d h one more =
    let equal : x ≡ b = same_exact x b same in
    let at : f x ≤ g x + 1 = subst (λ (q : BlockId). f q ≤ g q + 1) (sym equal) one in
    let absent : list_any (same_block b) xs ≡ false = subst (λ (q : BlockId). list_any (same_block q) xs ≡ false) equal d.0 in
    let rest = sum_by-le_in f g xs (λ q there. h q (differs b q xs (same_block q b) refl absent there)) in
    omega (arith, at, rest)
sum_by-head f g x xs b false same d h one more = let at = h x same in omega (arith, at, more)

-- only the term of b may be greater, and by one
sum_by-one : (f g : BlockId → ℕ) (bs : List BlockId) (b : BlockId) → AreDistinct bs → ((q : BlockId) → same_block q b ≡ false → f q ≤ g q) → f b ≤ g b + 1
    → sum_by f bs ≤ sum_by g bs + 1
sum_by-one f g [] b d h one = omega arith
sum_by-one f g (x ∷ xs) b d h one =
    rw (sum_by-cons f x xs, sum_by-cons g x xs) (sum_by-head f g x xs b (same_block x b) refl d h one (sum_by-one f g xs b d.1 h one))

-- ---- one worker's task changes
set_same : (xs : List (Option BlockId)) (w : ℕ) (y : Option BlockId) → slice_get xs w ≡ Some y → set xs w y ≡ xs
set_same [] w y h = refl
set_same (x ∷ xs) zero y h = let same : x ≡ y = cc in ap (λ (z : Option BlockId). z ∷ xs) (sym same)
set_same (x ∷ xs) (suc w) y h = ap (λ (zs : List (Option BlockId)). x ∷ zs) (set_same xs w y h)

set_past : (xs : List (Option BlockId)) (w : ℕ) (y : Option BlockId) → slice_get xs w ≡ None → set xs w y ≡ xs
set_past [] w y h = refl
set_past (x ∷ xs) zero y h = absurd (cc)
set_past (x ∷ xs) (suc w) y h = ap (λ (zs : List (Option BlockId)). x ∷ zs) (set_past xs w y h)

number_le : (t : Bool) → cond t 1 0 ≤ 1
number_le true = omega arith
number_le false = omega arith

-- a task ends
few_end : (most : ℕ) (bs : List BlockId) (xs : List (Option BlockId)) (w : ℕ) (o : Option (Option BlockId)) → slice_get xs w ≡ o → AreDistinct bs
    → FewRun most bs xs → FewRun most bs (set xs w None)
few_end most bs xs w None h d r = subst (FewRun most bs) (sym (set_past xs w None h)) r
few_end most bs xs w (Some None) h d r = subst (FewRun most bs) (sym (set_same xs w None h)) r
few_end most bs xs w (Some (Some b)) h d r =
    let counts = count_by-set xs w (Some b) None h in
    let sums = sum_by-one (runs_one xs) (runs_one (set xs w None)) bs b d
    (λ q apart. let same = list_any-set (runs_block q) xs w (Some b) None h apart in
    let equal : runs_one (set xs w None) q ≡ runs_one xs q = ap (λ (t : Bool). cond t 1 0) same in omega (arith, equal))
    (let most_one = number_le (list_any (runs_block b) xs) in omega (arith, most_one)) in
    let before = r.few in
    record { few = omega (arith, counts, sums, before) }

one_le : (a b : Bool) → cond b 1 0 ≤ cond (a || b) 1 0
one_le true b = number_le b
one_le false b = omega arith

one_more_runs : (xs : List (Option BlockId)) (w : ℕ) (b q : BlockId) → slice_get xs w ≡ Some None → runs_one xs q ≤ runs_one (set xs w (Some b)) q
one_more_runs xs w b q h =
    let is = list_any-set (runs_block q) xs w None (Some b) h refl in
    let equal : runs_one (set xs w (Some b)) q ≡ cond (same_block q b || list_any (runs_block q) xs) 1 0 = ap (λ (t : Bool). cond t 1 0) is in
    let less = one_le (same_block q b) (list_any (runs_block q) xs) in
    omega (arith, equal, less)

one_begins : (xs : List (Option BlockId)) (w : ℕ) (b : BlockId) → slice_get xs w ≡ Some None → list_any (runs_block b) xs ≡ false
    → runs_one xs b + 1 ≤ runs_one (set xs w (Some b)) b
one_begins xs w b h idle =
    let is = list_any-set (runs_block b) xs w None (Some b) h refl in
    let yes : list_any (runs_block b) (set xs w (Some b)) ≡ true = is ∙ ap (λ (t : Bool). t || list_any (runs_block b) xs) (same_block_laws.refl b) in
    rw (idle, yes) (omega arith)

sum_by-more : (f g : BlockId → ℕ) (bs : List BlockId) (b : BlockId) → ((q : BlockId) → f q ≤ g q) → f b + 1 ≤ g b → list_any (same_block b) bs ≡ true
    → sum_by f bs + 1 ≤ sum_by g bs
sum_by-more f g [] b h lower there = let contrary : false ≡ true = there in absurd (cc)
sum_by-more f g (x ∷ xs) b h lower there =
    rw (sum_by-cons f x xs, sum_by-cons g x xs)
    (⊎_elim
    (λ same. let at : f x + 1 ≤ g x = subst (λ (q : BlockId). f q + 1 ≤ g q) (same_exact b x same) lower in let rest = sum_by-le f g xs h in omega (arith, at, rest))
    (λ later. let first = h x in let rest = sum_by-more f g xs b h lower later in omega (arith, first, rest))
    (or_cases (same_block b x) (list_any (same_block b) xs) there))

-- a listed block begins to run
few_start : (most : ℕ) (bs : List BlockId) (xs : List (Option BlockId)) (w : ℕ) (b : BlockId) → slice_get xs w ≡ Some None
    → list_any (same_block b) bs ≡ true → list_any (runs_block b) xs ≡ false → FewRun most bs xs → FewRun most bs (set xs w (Some b))
few_start most bs xs w b h there idle r =
    let counts = count_by-set xs w None (Some b) h in
    let sums = sum_by-more (runs_one xs) (runs_one (set xs w (Some b))) bs b
    (λ q. one_more_runs xs w b q h) (one_begins xs w b h idle) there in
    let before = r.few in
    record { few = omega (arith, counts, sums, before) }

-- ---- a turn keeps that few run
few_started : (most : ℕ) (bs : List BlockId) (s new : Shape) (w : ℕ) (b : BlockId) → new ≡ started s w b → slice_get s.running w ≡ Some None
    → list_any (same_block b) bs ≡ true → is_running s b ≡ false → FewRun most bs s.running → FewRun most bs new.running
unfolding started is_running
few_started most bs s new w b is h there idle r =
    subst (λ (x : Shape). FewRun most bs x.running) (sym is) (few_start most bs s.running w b h there idle r)

few_finished : (most : ℕ) (n : Net) (bs : List BlockId) (s new : Shape) (w : ℕ) (b : BlockId) → new ≡ finished s w b (n.freight b) → AreDistinct bs
    → FewRun most bs s.running → FewRun most bs new.running
unfolding finished
few_finished most n bs s new w b is d r =
    subst (λ (x : Shape). FewRun most bs x.running) (sym is) (few_end most bs s.running w (slice_get s.running w) refl d r)

few_lost : (most : ℕ) (bs : List BlockId) (s new : Shape) (w : ℕ) → new ≡ lost s w → AreDistinct bs → FewRun most bs s.running → FewRun most bs new.running
unfolding lost
few_lost most bs s new w is d r =
    subst (λ (x : Shape). FewRun most bs x.running) (sym is) (few_end most bs s.running w (slice_get s.running w) refl d r)

few_nothing : (most : ℕ) (bs : List BlockId) (s new : Shape) (w : ℕ) → new ≡ with_nothing s w → FewRun most bs s.running → FewRun most bs new.running
unfolding with_nothing
few_nothing most bs s new w is r = subst (λ (x : Shape). FewRun most bs x.running) (sym is) r

few_turn : (most : ℕ) (n : Net) (ts bs : List BlockId) (s new : Shape) (e : Event) → IsClosed n ts bs → Turn n ts s e new → FewRun most bs s.running
    → FewRun most bs new.running
few_turn most n ts bs s new (Start w) c (inl p) r =
    let is = p.1.least.ready in few_started most bs s new w p.0 p.1.is p.1.idle (wanted_listed bs c is.wanted) is.idle r
few_turn most n ts bs s new (Start w) c (inr p) r = few_nothing most bs s new w p.1 r
few_turn most n ts bs s new (Finish w) c (inl p) r = few_finished most n bs s new w p.0 p.1.is c.distinct r
few_turn most n ts bs s new (Finish w) c (inr p) r = few_nothing most bs s new w p.1 r
few_turn most n ts bs s new (Lose w) c (inl p) r = few_lost most bs s new w p.1 c.distinct r
few_turn most n ts bs s new (Lose w) c (inr p) r = few_nothing most bs s new w p.1 r
few_turn most n ts bs s new Next c (inl p) r =
    let is = p.starts.least.ready in few_started most bs s new p.worker p.block p.starts.is p.starts.idle (wanted_listed bs c is.wanted) is.idle r
few_turn most n ts bs s new Next c (inr p) r = few_finished most n bs s new p.worker p.block p.finishes.is c.distinct r

-- ---- with events
two_at_most : (a b : Bool) → cond (a || b) 0 2 + cond b 1 0 ≤ 2
two_at_most true true = omega arith
two_at_most true false = omega arith
two_at_most false true = omega arith
two_at_most false false = omega arith

two_for : (s : Shape) (b : BlockId) → turns_for s b + runs_one s.running b ≤ 2
unfolding turns_for is_running
two_for s b = two_at_most (is_held s b) (list_any (runs_block b) s.running)

sum_by-two : (f g : BlockId → ℕ) (bs : List BlockId) → ((b : BlockId) → f b + g b ≤ 2) → sum_by f bs + sum_by g bs ≤ 2 * length bs
sum_by-two f g [] h = omega arith
sum_by-two f g (b ∷ bs) h =
    rw (sum_by-cons f b bs, sum_by-cons g b bs) (let first = h b in let rest = sum_by-two f g bs h in omega (arith, first, rest))

few_left : (most : ℕ) (bs : List BlockId) (s : Shape) → FewRun most bs s.running → turns_left bs s ≤ 2 * length bs + most
unfolding turns_left
few_left most bs s r =
    let twos = sum_by-two (turns_for s) (runs_one s.running) bs (two_for s) in
    let few = r.few in
    omega (arith, twos, few)

bounded_with : {n : Net} {ts : List BlockId} {last : Shape} {left : List Event} {s : Shape} {es : List Event} (most : ℕ) (bs : List BlockId) → IsClosed n ts bs
    → FewRun most bs s.running → Turns n ts last left s es → length last.log + length left ≤ length s.log + length es + 2 * length bs + most
bounded_with most bs c r ended = omega arith
bounded_with {s = s} most bs c r (taken {es = []} h t rest) =
    let turns = bounded_without bs c refl (taken h t rest) in
    let few = few_left most bs s r in
    omega (arith, turns, few)
bounded_with {n = n} {ts = ts} {s = s} most bs c r (taken {new = x} {es = e ∷ es} h t rest) =
    let logged = logged_turn n ts s x e t in
    let more = bounded_with most bs c (few_turn most n ts bs s x e c t r) rest in
    omega (arith, logged, more)

-- the turns of a demand are no more than the events that it takes, two for each listed block, and one for each that ran at its start
pub turns_bounded : {n : Net} {ts : List BlockId} {last : Shape} {left : List Event} {s : Shape} {es : List Event} (bs : List BlockId) → IsClosed n ts bs
    → Turns n ts last left s es → length last.log + length left ≤ length s.log + length es + 2 * length bs + count_by is_some s.running
turns_bounded {s = s} bs c turns = bounded_with (count_by is_some s.running) bs c (record { few = omega arith }) turns
