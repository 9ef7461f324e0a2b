-- Whether a block is wanted or ready, and the least ready block.
use Rattle.std.proofs.Common.{
  ◌≡◌,
  ◌∙◌,
  ◌⊎◌,
  inl,
  inr,
  ⊎_elim,
  ℕ,
  ◌+◌,
  ◌<◌,
  ◌≤◌,
  suc,
  zero,
  Bool,
  true,
  false,
  List,
  [],
  ◌∷◌,
  refl,
  ap,
  sym,
  subst,
  arith,
}
use Rattle.std.specs.Prelude.{All, Contains}
use Rattle.std.specs.List.{list_any}
use Rattle.std.specs.Ordering.{is_eq, is_gt, ordering_reverse}
use Rattle.std.specs.declared.cmp.Ordering.{Ordering}
use Rattle.std.specs.declared.cmp.Ordering.TheVariants.{Less, Equal, Greater}
use Rattle.std.proofs.lemmas.Cmp.{upto}
use Rattle.std.proofs.lemmas.List.Elements.{All-contains}
use Rattle.std.proofs.lemmas.Map.Views.{Contains-from_any, list_any-from_Contains}
use Rattle.gx_lineage.specs.declared.block_id.BlockId.{BlockId}
use Rattle.gx_cluster_state.specs.BlockLaws.{block_total, same_block_laws, same_exact}
use Rattle.gx_cluster_state.specs.Blocks.{block_cmp, same_block}
use Rattle.gx_cluster_state.specs.Nets.{Net, IsLeastReady, IsReady, IsStuck, Wanted, input, target}
use Rattle.gx_cluster_state.specs.ProgressLaws.{all_or_missing}
use Rattle.gx_cluster_state.specs.Shapes.{Shape, is_held, is_running}
use Rattle.gx_cluster_state.specs.TurnsLeftLaws.{or_cases}
use Rattle.gx_cluster_state.specs.WantedBlockLaws.{wanted_missing}

-- each input of a block is of an earlier node
abbrev pub AreEarlier : Net → Type 0
AreEarlier n = (b c : BlockId) → Contains (n.inputs b) c → c.node.0 < b.node.0

-- each wanted block is in the list
abbrev pub ListsWanted : Net → List BlockId → List BlockId → Type 0
ListsWanted n ts bs = (s : Shape) (b : BlockId) → Wanted n ts s b
    → list_any (same_block b) bs ≡ true

both : {b : Bool} {A : Type 0} → b ≡ true → b ≡ false → A
both {b = b} t f = let contrary : true ≡ false = sym t ∙ f in absurd (cc)

-- a block is in a list, or it is not
in_by_test : (xs : List BlockId) (b : BlockId) (t : Bool) → list_any (same_block b) xs ≡ t
    → Contains xs b ⊎ ¬ Contains xs b
in_by_test xs b true e = inl (Contains-from_any same_exact b xs e)
in_by_test xs b false e = inr (λ h. both (list_any-from_Contains same_block_laws b xs h) e)

in_or_not : (xs : List BlockId) (b : BlockId) → Contains xs b ⊎ ¬ Contains xs b
in_or_not xs b = in_by_test xs b (list_any (same_block b) xs) refl

-- ---- wanted blocks

-- c is no wanted block that does not run and has b as an input
abbrev WantsNot : Net → List BlockId → Shape → BlockId → BlockId → Type 0
WantsNot n ts s b c = Wanted n ts s c → is_running s c ≡ false → Contains (n.inputs c) b → ⊥

record IsInputOfWanted (n : Net) (ts : List BlockId) (s : Shape) (b : BlockId) : Type 0 where
  block : BlockId
  wanted : Wanted n ts s block
  idle : is_running s block ≡ false
  is_input : Contains (n.inputs block) b

one_if_wanted : (n : Net) (ts : List BlockId) (s : Shape) (b c : BlockId) (t : Bool)
    → is_running s c ≡ t → Contains (n.inputs c) b
    → Wanted n ts s c ⊎ ¬ Wanted n ts s c → IsInputOfWanted n ts s b ⊎ WantsNot n ts s b c
one_if_wanted n ts s b c t e h (inr never) = inr (λ w i x. never w)
one_if_wanted n ts s b c true e h (inl w) = inr (λ v i x. both e i)
one_if_wanted n ts s b c false e h (inl w) =
    inl (record { block = c; wanted = w; idle = e; is_input = h })

one_by_input : (n : Net) (ts : List BlockId) (s : Shape) (b c : BlockId)
    → (Contains (n.inputs c) b → Wanted n ts s c ⊎ ¬ Wanted n ts s c)
    → Contains (n.inputs c) b ⊎ ¬ Contains (n.inputs c) b
    → IsInputOfWanted n ts s b ⊎ WantsNot n ts s b c
one_by_input n ts s b c d (inl h) = one_if_wanted n ts s b c (is_running s c) refl h (d h)
one_by_input n ts s b c d (inr never) = inr (λ w i x. never x)

none_but_later : (n : Net) (ts : List BlockId) (s : Shape) (b x : BlockId) (xs : List BlockId)
    → IsInputOfWanted n ts s b ⊎ WantsNot n ts s b x
    → IsInputOfWanted n ts s b
    ⊎ ((c : BlockId) → list_any (same_block c) xs ≡ true → WantsNot n ts s b c)
    → IsInputOfWanted n ts s b
    ⊎ ((c : BlockId) → list_any (same_block c) (x ∷ xs) ≡ true → WantsNot n ts s b c)
none_but_later n ts s b x xs (inl f) rest = inl f
none_but_later n ts s b x xs (inr never) (inl f) = inl f
none_but_later n ts s b x xs (inr never) (inr none) = inr (λ c there.
    ⊎_elim (λ same. subst (WantsNot n ts s b) (sym (same_exact c x same)) never)
    (λ later. none c later)
    (or_cases (same_block c x) (list_any (same_block c) xs) there))

input_of_wanted : (n : Net) (ts : List BlockId) (s : Shape) (b : BlockId) (xs : List BlockId)
    → ((c : BlockId) → Contains (n.inputs c) b → Wanted n ts s c ⊎ ¬ Wanted n ts s c)
    → IsInputOfWanted n ts s b
    ⊎ ((c : BlockId) → list_any (same_block c) xs ≡ true → WantsNot n ts s b c)
input_of_wanted n ts s b [] d = inr (λ c there. let contrary : false ≡ true = there in absurd (cc))
input_of_wanted n ts s b (x ∷ xs) d =
    none_but_later n ts s b x xs (one_by_input n ts s b x (d x) (in_or_not (n.inputs x) b))
    (input_of_wanted n ts s b xs d)

not_wanted : {n : Net} {ts : List BlockId} {s : Shape} {b : BlockId} (bs : List BlockId)
    → ListsWanted n ts bs → ¬ Contains ts b
    → ((c : BlockId) → list_any (same_block c) bs ≡ true → WantsNot n ts s b c) → Wanted n ts s b
    → ⊥
not_wanted bs listed never none (target h f) = never h
not_wanted {s = s} bs listed never none (input {c = c} w i h f) = none c (listed s c w) w i h

wanted_by : (n : Net) (ts : List BlockId) (s : Shape) (bs : List BlockId) (b : BlockId) (t : Bool)
    → is_held s b ≡ t → ListsWanted n ts bs
    → Contains ts b ⊎ ¬ Contains ts b
    → IsInputOfWanted n ts s b
    ⊎ ((c : BlockId) → list_any (same_block c) bs ≡ true → WantsNot n ts s b c)
    → Wanted n ts s b ⊎ ¬ Wanted n ts s b
wanted_by n ts s bs b true e listed inside found = inr (λ w. both e (wanted_missing w))
wanted_by n ts s bs b false e listed (inl inside) found = inl (target inside e)
wanted_by n ts s bs b false e listed (inr never) (inl f) = inl (input f.wanted f.idle f.is_input e)
wanted_by n ts s bs b false e listed (inr never) (inr none) =
    inr (λ w. not_wanted bs listed never none w)

-- more than the number of each listed node
abbrev top_of : List BlockId → ℕ
top_of [] = 0
top_of (b ∷ bs) = b.node.0 + 1 + top_of bs

below_top : (bs : List BlockId) (b : BlockId) → list_any (same_block b) bs ≡ true
    → b.node.0 < top_of bs
below_top [] b h = let contrary : false ≡ true = h in absurd (cc)
below_top (x ∷ xs) b h =
    ⊎_elim
    (λ same. let at : b.node.0 ≡ x.node.0 = ap (λ (q : BlockId). q.node.0) (same_exact b x same) in
    omega (arith, at))
    (λ later. let less = below_top xs b later in omega (arith, less))
    (or_cases (same_block b x) (list_any (same_block b) xs) h)

-- a block is wanted, or it is not: blocks that have it as an input are of later nodes
wanted_below : (n : Net) (ts : List BlockId) (s : Shape) (bs : List BlockId) → AreEarlier n
    → ListsWanted n ts bs → (k : ℕ) (b : BlockId)
    → top_of bs ≤ b.node.0 + k → Wanted n ts s b ⊎ ¬ Wanted n ts s b
wanted_below n ts s bs earlier listed zero b h =
    inr (λ w. let less = below_top bs b (listed s b w) in omega (arith, less, h))
wanted_below n ts s bs earlier listed (suc k) b h =
    wanted_by n ts s bs b (is_held s b) refl listed (in_or_not ts b)
    (input_of_wanted n ts s b bs
    (λ c inside. wanted_below n ts s bs earlier listed k c (let less = earlier c b inside in
    omega (arith, h, less))))

wanted_or_not : (n : Net) (ts : List BlockId) (s : Shape) (bs : List BlockId) → AreEarlier n
    → ListsWanted n ts bs → (b : BlockId)
    → Wanted n ts s b ⊎ ¬ Wanted n ts s b
wanted_or_not n ts s bs earlier listed b =
    wanted_below n ts s bs earlier listed (top_of bs) b (omega arith)

-- ---- ready blocks

ready_by : (n : Net) (ts : List BlockId) (s : Shape) (b : BlockId) (t : Bool) → is_running s b ≡ t
    → Wanted n ts s b ⊎ ¬ Wanted n ts s b
    → All (λ c. is_held s c ≡ true) (n.inputs b)
    ⊎ ((c : BlockId) × Contains (n.inputs b) c × (is_held s c ≡ false))
    → IsReady n ts s b ⊎ ¬ IsReady n ts s b
ready_by n ts s b t e (inr never) held = inr (λ r. never r.wanted)
ready_by n ts s b true e (inl w) held = inr (λ r. both e r.idle)
ready_by n ts s b false e (inl w) (inl all) = inl (record { wanted = w; idle = e; inputs = all })
ready_by n ts s b false e (inl w) (inr m) =
    inr (λ r. both (All-contains (λ c. is_held s c ≡ true) (n.inputs b) m.0 r.inputs m.1) m.2)

ready_or_not : (n : Net) (ts : List BlockId) (s : Shape) (bs : List BlockId) → AreEarlier n
    → ListsWanted n ts bs → (b : BlockId)
    → IsReady n ts s b ⊎ ¬ IsReady n ts s b
ready_or_not n ts s bs earlier listed b =
    ready_by n ts s b (is_running s b) refl (wanted_or_not n ts s bs earlier listed b)
    (all_or_missing (is_held s) (n.inputs b))

-- ---- the least ready block of a list

record LeastOf (n : Net) (ts : List BlockId) (s : Shape) (xs : List BlockId) : Type 0 where
  block : BlockId
  ready : IsReady n ts s block
  least : (c : BlockId) → list_any (same_block c) xs ≡ true → IsReady n ts s c
      → is_gt (block_cmp block c) ≡ false

abbrev NoneReady : Net → List BlockId → Shape → List BlockId → Type 0
NoneReady n ts s xs = (c : BlockId) → list_any (same_block c) xs ≡ true → ¬ IsReady n ts s c

turned : (o p : Ordering) → p ≡ ordering_reverse o → is_gt o ≡ true → is_gt p ≡ false
turned Less p h g = let contrary : false ≡ true = g in absurd (cc)
turned Equal p h g = let contrary : false ≡ true = g in absurd (cc)
turned Greater p h g = ap is_gt h

equal_not_greater : (o : Ordering) → is_eq o ≡ true → is_gt o ≡ false
equal_not_greater Less h = refl
equal_not_greater Equal h = refl
equal_not_greater Greater h = let contrary : false ≡ true = h in absurd (cc)

-- x is less than the least of the rest, or it is not
least_by : (n : Net) (ts : List BlockId) (s : Shape) (x : BlockId) (xs : List BlockId) (t : Bool)
    → (l : LeastOf n ts s xs) → is_gt (block_cmp x l.block) ≡ t
    → IsReady n ts s x → LeastOf n ts s (x ∷ xs)
least_by n ts s x xs true l e r = record {
  block = l.block;
  ready = l.ready;
  least = λ c there q.
      ⊎_elim
      (λ same. subst (λ (z : BlockId). is_gt (block_cmp l.block z) ≡ false)
      (sym (same_exact c x same))
      (turned (block_cmp x l.block) (block_cmp l.block x) (block_total.antisymm l.block x) e))
      (λ later. l.least c later q)
      (or_cases (same_block c x) (list_any (same_block c) xs) there);
}
least_by n ts s x xs false l e r = record {
  block = x;
  ready = r;
  least = λ c there q.
      ⊎_elim
      (λ same. subst (λ (z : BlockId). is_gt (block_cmp x z) ≡ false) (sym (same_exact c x same))
      (equal_not_greater (block_cmp x x) (same_block_laws.refl x)))
      (λ later. upto block_total x l.block c e (l.least c later q))
      (or_cases (same_block c x) (list_any (same_block c) xs) there);
}

least_with : (n : Net) (ts : List BlockId) (s : Shape) (x : BlockId) (xs : List BlockId)
    → IsReady n ts s x ⊎ ¬ IsReady n ts s x
    → LeastOf n ts s xs ⊎ NoneReady n ts s xs → LeastOf n ts s (x ∷ xs) ⊎ NoneReady n ts s (x ∷ xs)
least_with n ts s x xs (inr never) (inr none) = inr (λ c there r.
    ⊎_elim (λ same. never (subst (IsReady n ts s) (same_exact c x same) r))
    (λ later. none c later r)
    (or_cases (same_block c x) (list_any (same_block c) xs) there))
least_with n ts s x xs (inr never) (inl l) = inl (record {
  block = l.block;
  ready = l.ready;
  least = λ c there r.
      ⊎_elim (λ same. absurd (never (subst (IsReady n ts s) (same_exact c x same) r)))
      (λ later. l.least c later r)
      (or_cases (same_block c x) (list_any (same_block c) xs) there);
})
least_with n ts s x xs (inl r) (inr none) = inl (record {
  block = x;
  ready = r;
  least = λ c there q.
      ⊎_elim
      (λ same. subst (λ (z : BlockId). is_gt (block_cmp x z) ≡ false) (sym (same_exact c x same))
      (equal_not_greater (block_cmp x x) (same_block_laws.refl x)))
      (λ later. absurd (none c later q))
      (or_cases (same_block c x) (list_any (same_block c) xs) there);
})
least_with n ts s x xs (inl r) (inl l) =
    inl (least_by n ts s x xs (is_gt (block_cmp x l.block)) l refl r)

least_of : (n : Net) (ts : List BlockId) (s : Shape)
    → ((b : BlockId) → IsReady n ts s b ⊎ ¬ IsReady n ts s b) → (xs : List BlockId)
    → LeastOf n ts s xs ⊎ NoneReady n ts s xs
least_of n ts s d [] = inr (λ c there. let contrary : false ≡ true = there in absurd (cc))
least_of n ts s d (x ∷ xs) = least_with n ts s x xs (d x) (least_of n ts s d xs)

-- there is a least ready block, or no block is ready
pub least_or_stuck : (n : Net) (ts : List BlockId) (s : Shape) (bs : List BlockId) → AreEarlier n
    → ListsWanted n ts bs
    → ((b : BlockId) × IsLeastReady n ts s b) ⊎ IsStuck n ts s
least_or_stuck n ts s bs earlier listed =
    ⊎_elim
    (λ (l : LeastOf n ts s bs). inl
    (l.block, record { ready = l.ready; least = λ c r. l.least c (listed s c r.wanted) r }))
    (λ (none : NoneReady n ts s bs). inr (λ b r. none b (listed s b r.wanted) r))
    (least_of n ts s (ready_or_not n ts s bs earlier listed) bs)
