-- While a target is not held, a block runs or is ready.
use Rattle.std.proofs.Common.{
  ◌≡◌,
  ◌∙◌,
  ◌⊎◌,
  inl,
  inr,
  ⊎_elim,
  ℕ,
  ◌<◌,
  suc,
  zero,
  Bool,
  true,
  false,
  ◌&&◌,
  List,
  [],
  ◌∷◌,
  length,
  Option,
  Some,
  None,
  refl,
  ap,
  sym,
  subst,
  arith,
}
use Rattle.std.specs.Prelude.{All, Contains, is_none, is_some, position, slice_get}
use Rattle.std.proofs.lemmas.List.Elements.{All-cons, All-contains, All-nil}
use Rattle.gx_lineage.specs.declared.block_id.BlockId.{BlockId}
use Rattle.gx_cluster_state.specs.Nets.{Net, IsReady, IsStuck, Wanted, input, target}
use Rattle.gx_cluster_state.specs.Shapes.{Shape, all_held, is_held, is_running, runs_block}
use Rattle.gx_cluster_state.specs.PositionLaws.{
  NonePassBefore,
  list_any-none,
  none_pass_before-zero,
  position-is,
  position-none,
}

-- the first item that passes, or none passes
pub record FirstPass {X : Type 0} (p : X → Bool) (xs : List X) : Type 0 where
  pub index : ℕ
  pub item : X
  pub there : slice_get xs index ≡ Some item
  pub passes : p item ≡ true
  pub before : NonePassBefore p xs index

before_at : {X : Type 0} (p : X → Bool) (x : X) (xs : List X) (n : ℕ) → p x ≡ false
    → NonePassBefore p xs n → (v : ℕ) (y : X) → v < suc n
    → slice_get (x ∷ xs) v ≡ Some y → p y ≡ false
before_at p x xs n f r zero y below h = let same : x ≡ y = cc in ap p (sym same) ∙ f
before_at p x xs n f r (suc v) y below h = r.fails v y (omega arith) h

before_cons : {X : Type 0} (p : X → Bool) (x : X) (xs : List X) (n : ℕ) → p x ≡ false
    → NonePassBefore p xs n → NonePassBefore p (x ∷ xs) (suc n)
before_cons {X} p x xs n f r = record { fails = λ v y below h. before_at p x xs n f r v y below h }

first_cons : {X : Type 0} (p : X → Bool) (x : X) (xs : List X) (t : Bool) → p x ≡ t
    → NonePassBefore p xs (length xs) ⊎ FirstPass p xs
    → NonePassBefore p (x ∷ xs) (suc (length xs)) ⊎ FirstPass p (x ∷ xs)
first_cons p x xs true e r =
    inr (record {
      index = 0;
      item = x;
      there = refl;
      passes = e;
      before =
          none_pass_before-zero p (x ∷ xs);
    })
first_cons p x xs false e (inl none) = inl (before_cons p x xs (length xs) e none)
first_cons p x xs false e (inr f) =
    inr (record {
      index = suc f.index;
      item = f.item;
      there = f.there;
      passes = f.passes;
      before =
          before_cons p x xs f.index e f.before;
    })

first_pass : {X : Type 0} (p : X → Bool) (xs : List X)
    → NonePassBefore p xs (length xs) ⊎ FirstPass p xs
first_pass p [] = inl (none_pass_before-zero p [])
first_pass p (x ∷ xs) = first_cons p x xs (p x) refl (first_pass p xs)

pub none_by_position : {X : Type 0} (p : X → Bool) (xs : List X) → position p xs ≡ None
    → NonePassBefore p xs (length xs)
none_by_position p xs h =
    ⊎_elim (λ none. none)
    (λ (f : FirstPass p xs). let found =
    position-is p xs f.index f.item f.there f.passes f.before in
    let contrary : None ≡ Some f.index = sym h ∙ found in absurd (cc))
    (first_pass p xs)

idle_runs : (b : BlockId) (x : Option BlockId) → is_some x ≡ false → runs_block b x ≡ false
idle_runs b None h = refl
idle_runs b (Some c) h = absurd (cc)

-- if no worker is busy, nothing runs
pub nothing_runs : (s : Shape) → position is_some s.running ≡ None → (b : BlockId)
    → is_running s b ≡ false
unfolding is_running
nothing_runs s h b =
    let none = none_by_position is_some s.running h in
    list_any-none (runs_block b) s.running
    (record { fails = λ v y below e. idle_runs b y (none.fails v y below e) })

contains_later : (x : BlockId) (xs : List BlockId) (b : BlockId) → Contains xs b
    → Contains (x ∷ xs) b
contains_later x xs b h = (suc h.0, omega (arith, h.1), h.2)

missing_cons : (p : BlockId → Bool) (x : BlockId) (xs : List BlockId) (t : Bool) → p x ≡ t
    → All (λ b. p b ≡ true) xs ⊎ ((b : BlockId) × Contains xs b × (p b ≡ false))
    → All (λ b. p b ≡ true) (x ∷ xs) ⊎ ((b : BlockId) × Contains (x ∷ xs) b × (p b ≡ false))
missing_cons p x xs false e r = inr (x, (0, omega arith, refl), e)
missing_cons p x xs true e (inl all) = inl (All-cons (λ b. p b ≡ true) x xs e all)
missing_cons p x xs true e (inr m) = inr (m.0, contains_later x xs m.0 m.1, m.2)

-- ---- all are held, or one is not
pub all_or_missing : (p : BlockId → Bool) (bs : List BlockId)
    → All (λ b. p b ≡ true) bs ⊎ ((b : BlockId) × Contains bs b × (p b ≡ false))
all_or_missing p [] = inl (All-nil (λ b. p b ≡ true))
all_or_missing p (x ∷ xs) = missing_cons p x xs (p x) refl (all_or_missing p xs)

-- a wanted block leads to a ready one, if nothing runs
wanted_ready : (n : Net) (ts : List BlockId) (s : Shape)
    → ((b c : BlockId) → Contains (n.inputs b) c → c.node.0 < b.node.0)
    → ((b : BlockId) → is_running s b ≡ false) → (k : ℕ) (b : BlockId) → b.node.0 < k
    → Wanted n ts s b → (c : BlockId) × IsReady n ts s c
wanted_ready n ts s earlier idle zero b below w = absurd (omega arith)
wanted_ready n ts s earlier idle (suc k) b below w =
    ⊎_elim (λ all. (b, record { wanted = w; idle = idle b; inputs = all }))
    (λ (m : (c : BlockId) × Contains (n.inputs b) c × (is_held s c ≡ false)).
    wanted_ready n ts s earlier idle k m.0 (let less = earlier b m.0 m.1 in omega (arith, less))
    (input w (idle b) m.1 m.2))
    (all_or_missing (is_held s) (n.inputs b))

pub all_held-from : (s : Shape) (bs : List BlockId) → All (λ b. is_held s b ≡ true) bs
    → all_held s bs ≡ true
all_held-from s [] a = refl
all_held-from s (b ∷ bs) a =
    let first : is_held s b ≡ true = a 0 b (omega arith) in
    let rest = all_held-from s bs (λ k d below. a (suc k) d (omega arith)) in
    rw first rest

-- while a target is not held, a block runs or is ready
pub a_worker_is_busy : (n : Net) (ts : List BlockId) (s : Shape)
    → ((b c : BlockId) → Contains (n.inputs b) c → c.node.0 < b.node.0)
    → all_held s ts ≡ false → IsStuck n ts s → position is_some s.running ≡ None → ⊥
a_worker_is_busy n ts s earlier unheld stuck none =
    ⊎_elim (λ all. let held = all_held-from s ts all in let contrary : true ≡ false =
    sym held ∙ unheld in absurd (cc))
    (λ (m : (b : BlockId) × Contains ts b × (is_held s b ≡ false)).
    let found = wanted_ready n ts s earlier (nothing_runs s none) (suc m.0.node.0) m.0 (omega arith)
    (target m.1 m.2) in stuck found.0 found.1)
    (all_or_missing (is_held s) ts)

-- a worker is idle or busy
pub idle_or_busy : (xs : List (Option BlockId)) → 0 < length xs → position is_none xs ≡ None
    → position is_some xs ≡ None → ⊥
idle_or_busy [] below h k = omega arith
idle_or_busy (None ∷ xs) below h k = let none = none_by_position is_none (None ∷ xs) h in let no =
    none.fails 0 None (omega arith) refl in cc
idle_or_busy (Some x ∷ xs) below h k = let none = none_by_position is_some (Some x ∷ xs) k in
    let no = none.fails 0 (Some x) (omega arith) refl in cc

is_idle : (x : Option BlockId) → is_none x ≡ true → x ≡ None
is_idle None h = refl
is_idle (Some b) h = absurd (cc)

is_busy : (x : Option BlockId) → is_some x ≡ true → (b : BlockId) × (x ≡ Some b)
is_busy None h = absurd (cc)
is_busy (Some b) h = (b, refl)

-- the first that passes is at the index that `position` gives
at_position : (p : Option BlockId → Bool) (xs : List (Option BlockId)) (w : ℕ)
    → position p xs ≡ Some w
    → (x : Option BlockId) × (slice_get xs w ≡ Some x) × (p x ≡ true)
at_position p xs w h =
    ⊎_elim
    (λ none. let no = position-none p xs none in let contrary : None ≡ Some w = sym no ∙ h in
    absurd (cc))
    (λ (f : FirstPass p xs).
    let found = position-is p xs f.index f.item f.there f.passes f.before in
    let both : Some f.index ≡ Some w = sym found ∙ h in
    let same : f.index ≡ w = cc in
    (f.item, subst (λ (i : ℕ). slice_get xs i ≡ Some f.item) same f.there, f.passes))
    (first_pass p xs)

pub idle_at : (xs : List (Option BlockId)) (w : ℕ) → position is_none xs ≡ Some w
    → slice_get xs w ≡ Some None
idle_at xs w h = let found = at_position is_none xs w h in
    subst (λ (x : Option BlockId). slice_get xs w ≡ Some x) (is_idle found.0 found.2) found.1

pub busy_at : (xs : List (Option BlockId)) (w : ℕ) → position is_some xs ≡ Some w
    → (b : BlockId) × (slice_get xs w ≡ Some (Some b))
busy_at xs w h =
    let found = at_position is_some xs w h in
    let busy = is_busy found.0 found.2 in
    (busy.0, subst (λ (x : Option BlockId). slice_get xs w ≡ Some x) busy.1 found.1)

both_true : (a b : Bool) → (a && b) ≡ true → (a ≡ true) × (b ≡ true)
both_true true b h = (refl, h)
both_true false b h = absurd (cc)

each_held : (s : Shape) (bs : List BlockId) → all_held s bs ≡ true
    → All (λ x. is_held s x ≡ true) bs
each_held s [] h = All-nil (λ x. is_held s x ≡ true)
each_held s (b ∷ bs) h =
    let split = both_true (is_held s b) (all_held s bs) h in
    All-cons (λ x. is_held s x ≡ true) b bs split.0 (each_held s bs split.1)

by_all : (s : Shape) (bs : List BlockId) (b : BlockId) → Contains bs b → is_held s b ≡ false
    → (t : Bool) → all_held s bs ≡ t → t ≡ false
by_all s bs b inside missing false h = refl
by_all s bs b inside missing true h =
    let held = All-contains (λ x. is_held s x ≡ true) bs b (each_held s bs h) inside in
    let contrary : true ≡ false = sym held ∙ missing in absurd (cc)

-- a target that is not held
pub all_held-missing : (s : Shape) (bs : List BlockId) (b : BlockId) → Contains bs b
    → is_held s b ≡ false → all_held s bs ≡ false
all_held-missing s bs b inside missing = by_all s bs b inside missing (all_held s bs) refl
