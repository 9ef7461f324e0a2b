-- A turn without an event leaves fewer turns.
use Rattle.std.proofs.Common.{
  ◌≡◌,
  ◌∙◌,
  ◌⊎◌,
  inl,
  inr,
  ⊎_elim,
  ℕ,
  ◌+◌,
  ◌<◌,
  ◌≤◌,
  suc,
  zero,
  Bool,
  true,
  false,
  ◌||◌,
  cond,
  List,
  [],
  ◌∷◌,
  Option,
  Some,
  None,
  set,
  refl,
  ap,
  subst,
  arith,
}
use Rattle.std.specs.Prelude.{is_some, slice_get}
use Rattle.std.specs.List.{count_by, list_any, sum_by}
use Rattle.std.proofs.lemmas.List.Sums.{sum_by-cons}
use Rattle.gx_rows.specs.declared.vid.Vid.{Vid}
use Rattle.gx_lineage.specs.declared.block_id.BlockId.{BlockId}
use Rattle.gx_cluster_state.specs.Blocks.{same_block}
use Rattle.gx_cluster_state.specs.Measures.{turns_for, turns_left}
use Rattle.gx_cluster_state.specs.Shapes.{Shape, finished, is_held, is_running, started}
use Rattle.gx_cluster_state.specs.ChangeLaws.{
  is_held-finished,
  is_held-started,
  is_running-finished,
  is_running-started,
}
use Rattle.gx_cluster_state.specs.BlockLaws.{same_block_laws, same_exact}

-- ---- sums
pub sum_by-le : (f g : BlockId → ℕ) (bs : List BlockId) → ((b : BlockId) → f b ≤ g b)
    → sum_by f bs ≤ sum_by g bs
sum_by-le f g [] h = omega arith
sum_by-le f g (b ∷ bs) h =
    rw (sum_by-cons f b bs, sum_by-cons g b bs) (let first = h b in let rest = sum_by-le f g bs h in
    omega (arith, first, rest))

pub or_cases : (a b : Bool) → (a || b) ≡ true → (a ≡ true) ⊎ (b ≡ true)
or_cases true b h = inl refl
or_cases false b h = inr h

pub sum_by-lower : (f g : BlockId → ℕ) (bs : List BlockId) (b : BlockId)
    → ((q : BlockId) → f q ≤ g q) → f b + 2 ≤ g b → list_any (same_block b) bs ≡ true
    → sum_by f bs + 2 ≤ sum_by g bs
sum_by-lower f g [] b h lower there = let contrary : false ≡ true = there in absurd (cc)
sum_by-lower f g (x ∷ xs) b h lower there =
    rw (sum_by-cons f x xs, sum_by-cons g x xs)
    (⊎_elim
    (λ same. let at : f x + 2 ≤ g x =
    subst (λ (q : BlockId). f q + 2 ≤ g q) (same_exact b x same) lower in let rest =
    sum_by-le f g xs h in omega (arith, at, rest))
    (λ later. let first = h x in let rest = sum_by-lower f g xs b h lower later in
    omega (arith, first, rest))
    (or_cases (same_block b x) (list_any (same_block b) xs) there))

pub count_by-set : (xs : List (Option BlockId)) (w : ℕ) (x y : Option BlockId)
    → slice_get xs w ≡ Some x
    → count_by is_some (set xs w y) + cond (is_some x) 1 0 ≡ count_by is_some xs
    + cond (is_some y) 1 0
count_by-set [] w x y h = absurd (cc)
count_by-set (z ∷ zs) zero x y h =
    let same : z ≡ x = cc in
    rw (
      sum_by-cons (λ (t : Option BlockId). cond (is_some t) 1 0) y zs,
      sum_by-cons
          (λ (t : Option BlockId). cond (is_some t) 1 0) z zs,
      same,
    ) (omega arith)
count_by-set (z ∷ zs) (suc w) x y h =
    let rest = count_by-set zs w x y h in
    rw (
      sum_by-cons (λ (t : Option BlockId). cond (is_some t) 1 0) z (set zs w y),
      sum_by-cons
          (λ (t : Option BlockId). cond (is_some t) 1 0) z zs,
    ) (omega (arith, rest))

-- ---- a start
fewer : (a b c d : Bool) → (a ≡ true → c ≡ true) → (b ≡ true → (c || d) ≡ true)
    → cond (c || d) 0 2 ≤ cond (a || b) 0 2
fewer true b c d f g = let yes : c ≡ true = f refl in rw yes (omega arith)
fewer false true c d f g = let yes : (c || d) ≡ true = g refl in rw yes (omega arith)
fewer false false true d f g = omega arith
fewer false false false true f g = omega arith
fewer false false false false f g = omega arith

third : (a b c : Bool) → c ≡ true → (a || (b || c)) ≡ true
third true b c h = refl
third false true c h = refl
third false false c h = h

started_fewer : (s : Shape) (w : ℕ) (b q : BlockId) → slice_get s.running w ≡ Some None
    → turns_for (started s w b) q ≤ turns_for s q
unfolding turns_for
started_fewer s w b q idle =
    fewer (is_held s q) (is_running s q) (is_held (started s w b) q) (is_running (started s w b) q)
    (λ h. is_held-started s w b q ∙ h)
    (λ h. ap (λ (t : Bool). is_held (started s w b) q || t) (is_running-started s w b q idle)
    ∙ third (is_held (started s w b) q) (same_block q b) (is_running s q) h)

started_two : (s : Shape) (w : ℕ) (b : BlockId) → slice_get s.running w ≡ Some None
    → is_held s b ≡ false → is_running s b ≡ false
    → turns_for (started s w b) b + 2 ≤ turns_for s b
unfolding turns_for
started_two s w b idle missing h =
    let runs : is_running (started s w b) b ≡ true =
    is_running-started s w b b idle
    ∙ ap (λ (t : Bool). t || is_running s b) (same_block_laws.refl b) in
    let held : is_held (started s w b) b ≡ false = is_held-started s w b b ∙ missing in
    rw (runs, held, missing, h) (omega arith)

started_count : (s : Shape) (w : ℕ) (b : BlockId) → slice_get s.running w ≡ Some None
    → count_by is_some (started s w b).running ≡ count_by is_some s.running + 1
unfolding started
started_count s w b idle = let counts = count_by-set s.running w None (Some b) idle in
    omega (arith, counts)

pub start_lowers : (bs : List BlockId) (s : Shape) (w : ℕ) (b : BlockId)
    → list_any (same_block b) bs ≡ true → slice_get s.running w ≡ Some None
    → is_held s b ≡ false → is_running s b ≡ false → turns_left bs (started s w b) < turns_left bs s
unfolding turns_left
start_lowers bs s w b there idle missing h =
    let sums = sum_by-lower (turns_for (started s w b)) (turns_for s) bs b
    (λ q. started_fewer s w b q idle) (started_two s w b idle missing h) there in
    let counts = started_count s w b idle in
    omega (arith, sums, counts)

or_second : (a b : Bool) → b ≡ true → (a || b) ≡ true
or_second true b h = refl
or_second false b h = h

-- ---- a finish
finished_runs : (s : Shape) (w : ℕ) (b : BlockId) (cargo : List (ℕ × Vid)) (q : BlockId) (t : Bool)
    → same_block b q ≡ t → slice_get s.running w ≡ Some (Some b)
    → is_running s q ≡ true
    → (is_held (finished s w b cargo) q || is_running (finished s w b cargo) q) ≡ true
finished_runs s w b cargo q true same busy h =
    let held : is_held (finished s w b cargo) q ≡ true =
    is_held-finished s w b cargo q ∙ ap (λ (u : Bool). u || is_held s q) same in
    ap (λ (u : Bool). u || is_running (finished s w b cargo) q) held
finished_runs s w b cargo q false same busy h =
    or_second (is_held (finished s w b cargo) q) (is_running (finished s w b cargo) q)
    (is_running-finished s w b cargo q busy (same_block_laws.symm q b ∙ same) ∙ h)

finished_fewer : (s : Shape) (w : ℕ) (b : BlockId) (cargo : List (ℕ × Vid)) (q : BlockId) (t : Bool)
    → same_block b q ≡ t → slice_get s.running w ≡ Some (Some b)
    → turns_for (finished s w b cargo) q ≤ turns_for s q
unfolding turns_for
finished_fewer s w b cargo q t same busy =
    fewer (is_held s q) (is_running s q) (is_held (finished s w b cargo) q)
    (is_running (finished s w b cargo) q)
    (λ h. is_held-finished s w b cargo q ∙ or_second (same_block b q) (is_held s q) h)
    (λ h. finished_runs s w b cargo q t same busy h)

finished_count : (s : Shape) (w : ℕ) (b : BlockId) (cargo : List (ℕ × Vid))
    → slice_get s.running w ≡ Some (Some b)
    → count_by is_some (finished s w b cargo).running + 1 ≡ count_by is_some s.running
unfolding finished
finished_count s w b cargo busy = let counts = count_by-set s.running w (Some b) None busy in
    omega (arith, counts)

pub finish_lowers : (bs : List BlockId) (s : Shape) (w : ℕ) (b : BlockId) (cargo : List (ℕ × Vid))
    → slice_get s.running w ≡ Some (Some b)
    → turns_left bs (finished s w b cargo) < turns_left bs s
unfolding turns_left
finish_lowers bs s w b cargo busy =
    let sums = sum_by-le (turns_for (finished s w b cargo)) (turns_for s) bs
    (λ q. finished_fewer s w b cargo q (same_block b q) refl busy) in
    let counts = finished_count s w b cargo busy in
    omega (arith, sums, counts)
