-- A state after a task began or a value came.
use Rattle.std.proofs.Common.{
  ◌≡◌,
  ◌∙◌,
  ⊎_elim,
  ℕ,
  Bool,
  true,
  false,
  cond,
  List,
  [],
  ◌∷◌,
  ◌++◌,
  Option,
  Some,
  None,
  Ordering,
  map,
  not,
  refl,
  ap,
  sym,
  subst,
  suc,
  zero,
  replicate,
  slice_get,
}
use Rattle.std.specs.Prelude.{◌==◌, ◌-◌, filter, option_map}
use Rattle.std.specs.Map.{lookup}
use Rattle.std.specs.BTreeMap.{insert_entry}
use Rattle.std.specs.Ordering.{match_ordering}
use Rattle.std.specs.declared.cmp.Ordering.TheVariants.{Less, Equal, Greater}
use Rattle.std.proofs.lemmas.List.{map-set}
use Rattle.gx_rows.specs.declared.vid.Vid.{Vid}
use Rattle.gx_lineage.specs.declared.block_id.BlockId.{BlockId}
use Rattle.gx_lineage.specs.declared.node_id.NodeId.{NodeId}
use Rattle.gx_cluster_state.specs.declared.log_entry.LogEntry.{LogEntry}
use Rattle.gx_lineage.specs.Lineage.{Lineage, IsBlock, block_inputs}
use Rattle.gx_cluster_state.specs.declared.held.Held.{Held}
use Rattle.gx_cluster_state.specs.declared.running.Running.{Running}
use Rattle.gx_cluster_state.specs.declared.log_entry.LogEntry.TheVariants as entry
use Rattle.gx_cluster_state.specs.Blocks.{block_cmp, same_block}
use Rattle.gx_cluster_state.specs.Nets.{net_of}
use Rattle.gx_cluster_state.specs.Runs.{RunsIn}
use Rattle.gx_cluster_state.specs.Shapes.{Shape, finished, released, started}
use Rattle.gx_cluster_state.specs.Tasks.{task_block}
use Rattle.gx_cluster_state.specs.PositionLaws.{get-set}
use Rattle.gx_cluster_state.specs.BlockLaws.{lookup-insert_entry, same_exact}
use Rattle.gx_cluster.specs.ShapeLaws.{busy_task}
use Rattle.gx_cluster.specs.States.{
  AreContents,
  HoldsContents,
  State,
  held_value,
  shape,
  with_release,
  with_task,
  with_value,
}

pub shape-with_task : {A : Type 0} (s : State A) (w : ℕ) (b : BlockId) (vs : List A)
    → shape (with_task s w b vs) ≡ started (shape s) w b
unfolding shape started
shape-with_task {A} s w b vs =
    ap (λ (tasks : List (Option BlockId)).
    let x : Shape = record {
      held = map (λ e. (e.0, e.1.worker)) s.held;
      running = tasks;
      log =
          s.log ++ entry.Started w b ∷ [];
    } in x)
    (map-set task_block s.running w (Some (record { block = b; inputs = vs })))

map_insert_head : {A : Type 0} (o : Ordering) (e : BlockId × Held A) (es : List (BlockId × Held A))
    (b : BlockId) (h : Held A)
    → map (λ x. (x.0, x.1.worker)) (insert_entry block_cmp es b h)
    ≡ insert_entry block_cmp (map (λ x. (x.0, x.1.worker)) es) b h.worker
    → map (λ x. (x.0, x.1.worker))
    (match_ordering o ((b, h) ∷ e ∷ es) ((e.0, h) ∷ es) (e ∷ insert_entry block_cmp es b h))
    ≡ match_ordering o ((b, h.worker) ∷ (e.0, e.1.worker) ∷ map (λ x. (x.0, x.1.worker)) es)
    ((e.0, h.worker) ∷ map (λ x. (x.0, x.1.worker)) es)
    ((e.0, e.1.worker) ∷ insert_entry block_cmp (map (λ x. (x.0, x.1.worker)) es) b h.worker)
map_insert_head Less e es b h ih = refl
map_insert_head Equal e es b h ih = refl
map_insert_head Greater e es b h ih = ap (λ (xs : List (BlockId × ℕ)). (e.0, e.1.worker) ∷ xs) ih

map_insert : {A : Type 0} (es : List (BlockId × Held A)) (b : BlockId) (h : Held A)
    → map (λ x. (x.0, x.1.worker)) (insert_entry block_cmp es b h)
    ≡ insert_entry block_cmp (map (λ x. (x.0, x.1.worker)) es) b h.worker
map_insert [] b h = refl
map_insert (e ∷ es) b h = map_insert_head (block_cmp b e.0) e es b h (map_insert es b h)

same_shape : (a b : List (BlockId × ℕ)) (x y : List (Option BlockId)) (l : Shape) → a ≡ b → x ≡ y
    → record { held = a; running = x; log = l.log }
    ≡ (let s : Shape = record { held = b; running = y; log = l.log } in s)
same_shape a b x y l p q =
    ap (λ (z : List (BlockId × ℕ)). let s : Shape = record { held = z; running = x; log = l.log } in
    s) p
    ∙ ap (λ (z : List (Option BlockId)). let s : Shape =
    record { held = b; running = z; log = l.log } in s) q

pub shape-with_value : {A : Type 0} (s : State A) (w : ℕ) (b : BlockId) (v : A)
    (cargo : List (ℕ × Vid))
    → shape (with_value s w b v cargo) ≡ finished (shape s) w b cargo
unfolding shape finished
shape-with_value {A} s w b v cargo =
    same_shape _ _ _ _ (record {
      held = [];
      running = [];
      log =
          s.log ++ entry.Finished w b cargo ∷ [];
    })
    (map_insert s.held b (record { worker = w; value = v })) (map-set task_block s.running w None)

of_found : {A : Type 0} (content : BlockId → A → Type 0) (b : BlockId) (v : A) (o : Option (Held A))
    → ((h : Held A) → o ≡ Some h → content b h.value)
    → Some v ≡ option_map (λ h. h.value) o → content b v
of_found content b v (Some h) is e = let same : h.value ≡ v = cc in
    subst (content b) same (is h refl)
of_found content b v None is e = absurd (cc)

-- ---- contents
pub are_contents : {A : Type 0} (content : BlockId → A → Type 0) (held : List (BlockId × Held A))
    (bs : List BlockId) (vs : List A)
    → ((b : BlockId) (h : Held A) → lookup (same_block b) held ≡ Some h → content b h.value)
    → map Some vs ≡ map (held_value held) bs
    → AreContents content bs vs
are_contents content held [] [] is e = tt
are_contents content held [] (v ∷ vs) is e = absurd (cc)
are_contents content held (b ∷ bs) [] is e = absurd (cc)
are_contents content held (b ∷ bs) (v ∷ vs) is e =
    let first : Some v ≡ held_value held b = cc in
    let rest : map Some vs ≡ map (held_value held) bs = cc in (
      of_found content b v (lookup (same_block b) held) (λ h found. is b h found) first,
      are_contents content held bs vs is rest,
    )

task_is : {A : Type 0} (b : BlockId) (vs : List A) (x : Running A)
    → Some (record { block = b; inputs = vs }) ≡ Some x
    → (let t : Running A = record { block = b; inputs = vs } in t) ≡ x
task_is b vs x h = cc

pub contents_task : {A : Type 0} (content : BlockId → A → Type 0) (l : Lineage) (s : State A)
    (w : ℕ) (b : BlockId) (vs : List A)
    → IsBlock l b → AreContents content (block_inputs l b) vs → HoldsContents content l s
    → HoldsContents content l (with_task s w b vs)
contents_task content l s w b vs is inputs r = record {
  held = r.held;
  blocks = λ v x h. ⊎_elim
      (λ new. subst (λ (t : Running _). IsBlock l t.block) (task_is b vs x new) is)
      (λ old. r.blocks v x old)
      (get-set s.running w v (Some (record { block = b; inputs = vs })) x h);
  inputs = λ v x h. ⊎_elim
      (λ new. subst (λ (t : Running _). AreContents content (block_inputs l t.block) t.inputs)
      (task_is b vs x new) inputs)
      (λ old. r.inputs v x old)
      (get-set s.running w v (Some (record { block = b; inputs = vs })) x h);
}

found_cases : {A : Type 0} (content : BlockId → A → Type 0) (s : State A) (w : ℕ) (b q : BlockId)
    (v : A) (h : Held A) (t : Bool) → same_block b q ≡ t
    → content b v → ((h : Held A) → lookup (same_block q) s.held ≡ Some h → content q h.value)
    → cond t (Some (record { worker = w; value = v })) (lookup (same_block q) s.held) ≡ Some h
    → content q h.value
found_cases {A} content s w b q v h true same is old e =
    let new : (let x : Held A = record { worker = w; value = v } in x) ≡ h = cc in
    subst (λ (x : Held A). content q x.value) new
    (subst (λ (z : BlockId). content z v) (same_exact b q same) is)
found_cases content s w b q v h false same is old e = old h e

no_task : {A : Type 0} {B : Type 0} (x : Running A) → None ≡ Some x → B
no_task x h = absurd (cc)

pub contents_value : {A : Type 0} (content : BlockId → A → Type 0) (l : Lineage) (s : State A)
    (w : ℕ) (b : BlockId) (v : A) (cargo : List (ℕ × Vid))
    → content b v → HoldsContents content l s → HoldsContents content l (with_value s w b v cargo)
contents_value content l s w b v cargo is r = record {
  held = λ q h e. found_cases content s w b q v h (same_block b q) refl is (r.held q)
      (sym (lookup-insert_entry s.held b q (record { worker = w; value = v })) ∙ e);
  blocks = λ k x h. ⊎_elim (λ none. no_task x none) (λ old. r.blocks k x old)
      (get-set s.running w k None x h);
  inputs = λ k x h. ⊎_elim (λ none. no_task x none) (λ old. r.inputs k x old)
      (get-set s.running w k None x h);
}

-- ---- a release
filter_shape : {A : Type 0} (t : Bool) (e : BlockId × Held A) (xs : List (BlockId × Held A))
    (ys : List (BlockId × ℕ)) → map (λ x. (x.0, x.1.worker)) xs ≡ ys
    → map (λ x. (x.0, x.1.worker)) (cond t (e ∷ xs) xs) ≡ cond t ((e.0, e.1.worker) ∷ ys) ys
filter_shape true e xs ys h = ap (λ (zs : List (BlockId × ℕ)). (e.0, e.1.worker) ∷ zs) h
filter_shape false e xs ys h = h

map_filter : {A : Type 0} (n : NodeId) (es : List (BlockId × Held A))
    → map {B = BlockId × ℕ} (λ x. (x.0, x.1.worker)) (filter (λ e. not (e.0.node.0 == n.0)) es)
    ≡ filter (λ e. not (e.0.node.0 == n.0)) (map {B = BlockId × ℕ} (λ x. (x.0, x.1.worker)) es)
map_filter n [] = refl
map_filter n (e ∷ es) =
    filter_shape (not (e.0.node.0 == n.0)) e (filter (λ x. not (x.0.node.0 == n.0)) es) _
    (map_filter n es)

pub shape-with_release : {A : Type 0} (s : State A) (n : NodeId)
    → shape (with_release s n) ≡ released (shape s) n
unfolding shape released
shape-with_release s n =
    ap (λ (z : List (BlockId × ℕ)). let x : Shape =
    record {
      held = z;
      running = map task_block s.running;
      log =
          s.log ++ entry.Released n ∷ [];
    } in x)
    (map_filter n s.held)

pub state_released : {A : Type 0} (s new : State A) (n : NodeId)
    → new.held ≡ filter (λ e. not (e.0.node.0 == n.0)) s.held → new.running ≡ s.running
    → new.log ≡ s.log ++ entry.Released n ∷ [] → new.spare ≡ s.spare - 1 → new ≡ with_release s n
state_released {A} s new n h r l p =
    ap (λ (x : List (BlockId × Held A)). let t : State A =
    record { held = x; running = new.running; log = new.log; spare = new.spare } in t) h
    ∙ (ap (λ (x : List (Option (Running A))). let t : State A =
    record {
      held = filter (λ e. not (e.0.node.0 == n.0)) s.held;
      running = x;
      log =
          new.log;
      spare = new.spare;
    } in t) r
    ∙ (ap (λ (x : List LogEntry). let t : State A =
    record {
      held = filter (λ e. not (e.0.node.0 == n.0)) s.held;
      running = s.running;
      log =
          x;
      spare = new.spare;
    } in t) l
    ∙ ap (λ (x : ℕ). let t : State A =
    record {
      held = filter (λ e. not (e.0.node.0 == n.0)) s.held;
      running = s.running;
      log =
          s.log ++ entry.Released n ∷ [];
      spare = x;
    } in t) p))

-- ---- a cluster that holds and runs nothing
no_item : {X : Type 0} (n w : ℕ) (x : X) → slice_get (replicate n None) w ≡ Some (Some x) → ⊥
no_item zero w x h = cc
no_item (suc n) zero x h = cc
no_item (suc n) (suc w) x h = no_item n w x h

-- for callers of the crate: what `empty` and `configure` leave has no values that could be no
-- contents
pub contents_of_nothing : {A : Type 0} (content : BlockId → A → Type 0) (l : Lineage) (s : State A)
    (n : ℕ) → s.held ≡ [] → s.running ≡ replicate n None
    → HoldsContents content l s
contents_of_nothing {A} content l s n held running = record {
  held = λ b h e.
      let none : lookup (same_block b) s.held ≡ None = ap (lookup (same_block b)) held in
      let contrary : None ≡ Some h = sym none ∙ e in absurd (cc);
  blocks = λ w r e. absurd
      (no_item n w r (sym (ap (λ (ts : List (Option (Running A))). slice_get ts w) running) ∙ e));
  inputs = λ w r e. absurd
      (no_item n w r (sym (ap (λ (ts : List (Option (Running A))). slice_get ts w) running) ∙ e));
}

-- for callers of the crate: what runs is in the lineage, so that a run may be read under a larger
-- one
pub runs_in : {A : Type 0} (content : BlockId → A → Type 0) (l : Lineage) (f : BlockId
    → List (ℕ × Vid)) (s : State A) → HoldsContents content l s
    → RunsIn (net_of l f) (shape s)
runs_in content l f s r = λ w b h. let task = busy_task s w b h in
    subst (IsBlock l) task.2 (r.blocks w task.0 task.1)
