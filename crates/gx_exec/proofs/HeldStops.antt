-- Targets of a phase, and the stops that are found in their blocks.
use Rattle.std.proofs.Common.{◌≡◌, ℕ, zero, suc, ◌+◌, ◌-◌, ◌<◌, ◌≤◌, ◌&&◌, ◌==◌, Bool, true, false, List, [], ◌∷◌, ◌++◌, drop, take, get_or, length, map, Option, Some, None, Result, Ok, Err, IfOk, is_some, option_map, refl, sym, ap, ap₂, ◌∙◌, subst, append_assoc, arith, add-one, drop-cons}
use Rattle.std.specs.Prelude.{All}
use Rattle.std.specs.List.{AllByRecursion, flat_map, list_all, range_with_len}
use Rattle.std.specs.Map.{lookup}
use Rattle.std.proofs.lemmas.Bool.Decides.{nat_tests}
use Rattle.std.proofs.lemmas.List.Elements.{All-from_recursion}
use Rattle.gx_cluster.specs.States.{State, held_value, shape}
use Rattle.gx_cluster.specs.ShapeLaws.{is_held-shape}
use Rattle.gx_cluster_state.specs.Blocks.{same_block}
use Rattle.gx_cluster_state.specs.Shapes.{is_held}
use Rattle.gx_cluster_state.specs.declared.held.Held.{Held}
use Rattle.gx_lineage.specs.Lineage.{IsBlock, blocks_at}
use Rattle.gx_lineage.specs.declared.block_id.BlockId.{BlockId}
use Rattle.gx_lineage.specs.declared.node_id.NodeId.{NodeId}
use Rattle.gx_exec_contents.specs.BlockContents.{stop_of}
use Rattle.gx_exec_contents.specs.PartContents.{BlockStop, stop_in}
use Rattle.gx_exec_contents.specs.PhaseFaults.{least_over, lesser_of}
use Rattle.gx_exec_contents.specs.Worlds.{IsSetting, World}
use Rattle.gx_exec_work.specs.Works.{PlannedWorld, shown}
use Rattle.gx_exec_work.specs.declared.block.Block.{Block}
use Rattle.gx_exec.specs.Courses.{targets_of}
use Rattle.gx_exec.specs.Engines.{HoldsWorkOf}
use Rattle.gx_exec.specs.Phases.{MayJudge}
use Rattle.gx_exec.specs.QuietPlanLaws.{stop_in-content}

pub drop_next : {X : Type 0} (xs : List X) (i : ℕ) (d : X) → i < length xs → drop i xs ≡ get_or xs i d ∷ drop (i + 1) xs
drop_next xs i d within = rw (add-one, drop-cons xs i d) refl

-- ---- targets are blocks

module _ (e : PlannedWorld) (setting : IsSetting e.world e.planned) where
  blocks-each : (n : NodeId) → n.0 < length e.planned.lineage.nodes → (a count : ℕ) → a + count ≤ e.world.parts → (rest : List BlockId) → AllByRecursion (IsBlock e.planned.lineage) rest
      → AllByRecursion (IsBlock e.planned.lineage) (blocks_at n (range_with_len a count) ++ rest)
  blocks-each n within a zero few rest all = all
  blocks-each n within a (suc count) few rest all = (
    record { node = within; part = subst (λ k. a < k) (sym setting.parts) (omega (arith, few)) },
    blocks-each n within (a + 1) count (omega (arith, few)) rest all,
  )

  targets-each : (ns : List NodeId) → MayJudge e ns → AllByRecursion (IsBlock e.planned.lineage) (targets_of e.world ns)
  targets-each [] may = tt
  targets-each (n ∷ ns) may = blocks-each n may.0.0 0 e.world.parts (omega arith) (targets_of e.world ns) (targets-each ns may.1)

  pub targets-inside : (ns : List NodeId) → MayJudge e ns → All (IsBlock e.planned.lineage) (targets_of e.world ns)
  targets-inside ns may = All-from_recursion (IsBlock e.planned.lineage) (targets_of e.world ns) (targets-each ns may)

-- ---- all are held

and-left : (a b : Bool) → (a && b) ≡ true → a ≡ true
and-left true b e = refl
and-left false b e = e

and-right : (a b : Bool) → (a && b) ≡ true → b ≡ true
and-right true b e = e
and-right false b e = cc

pub all-left : {X : Type 0} (f : X → Bool) (xs ys : List X) → list_all f (xs ++ ys) ≡ true → list_all f xs ≡ true
all-left f [] ys all = refl
all-left f (x ∷ xs) ys all = ap₂ (λ a b. a && b) (and-left (f x) (list_all f (xs ++ ys)) all) (all-left f xs ys (and-right (f x) (list_all f (xs ++ ys)) all))

pub all-right : {X : Type 0} (f : X → Bool) (xs ys : List X) → list_all f (xs ++ ys) ≡ true → list_all f ys ≡ true
all-right f [] ys all = all
all-right f (x ∷ xs) ys all = all-right f xs ys (and-right (f x) (list_all f (xs ++ ys)) all)

pub held-at : (f : BlockId → Bool) (n : NodeId) (a count j : ℕ) → list_all f (blocks_at n (range_with_len a count)) ≡ true → a ≤ j → j < a + count → f (record { node = n; part = j }) ≡ true
held-at f n a zero j all from below = absurd (omega (arith, from, below))
held-at f n a (suc count) j all from below =
    let here = f (record { node = n; part = a }) in
    let rest = list_all f (blocks_at n (range_with_len (a + 1) count)) in
    by (a == j) refl (and-left here rest all) (λ apart. (let later : a + 1 ≤ j = grind (arith, nat_tests) in held-at f n (a + 1) count j (and-right here rest all) later (omega (arith, below))))
  where
    by : (b : Bool) → (a == j) ≡ b → f (record { node = n; part = a }) ≡ true → ((a == j) ≡ false → f (record { node = n; part = j }) ≡ true) → f (record { node = n; part = j }) ≡ true
    by true e here more = let same : a ≡ j = grind (arith, nat_tests) in subst (λ i. f (record { node = n; part = i }) ≡ true) same here
    by false e here more = more e

-- ---- the stop of a held block

held-stop : (e : PlannedWorld) (c : State Block) (b : BlockId) (o : Option (Held Block)) (v : Block) → HoldsWorkOf e c → lookup (same_block b) c.held ≡ o → option_map (λ h. h.value) o ≡ Some v
    → stop_in (shown v) ≡ stop_of e.world e.planned b
held-stop e c b None v contents found is = cc
held-stop e c b (Some h) v contents found is =
    let same : h.value ≡ v = cc in
    ap (λ t. stop_in (shown t)) (sym same) ∙ ap stop_in (contents.held b h found).content ∙ stop_in-content e.world e.planned b

pub found-stop : (e : PlannedWorld) (c : State Block) (b : BlockId) (v : Block) → HoldsWorkOf e c → Some v ≡ held_value c.held b → stop_in (shown v) ≡ stop_of e.world e.planned b
found-stop e c b v contents is = held-stop e c b (lookup (same_block b) c.held) v contents refl (sym is)

not-held : (o : Option (Held Block)) → is_some o ≡ true → None ≡ option_map (λ h. h.value) o → ⊥
not-held None held none = cc
not-held (Some h) held none = cc

pub held-found : (c : State Block) (b : BlockId) → is_held (shape c) b ≡ true → None ≡ held_value c.held b → ⊥
held-found c b held none = not-held (lookup (same_block b) c.held) (sym (is_held-shape c b) ∙ held) none

-- ---- the least stop, from the last part on

pub least-more : (f : ℕ → Option BlockStop) (parts i : ℕ) (found least : Option BlockStop) → i < parts → found ≡ f (parts - 1 - i) → least ≡ least_over f (range_with_len (parts - i) i)
    → lesser_of found least ≡ least_over f (range_with_len (parts - (i + 1)) (i + 1))
least-more f parts i found least within is so_far =
    let part : parts - (i + 1) ≡ parts - 1 - i = omega (arith, within) in
    let next : parts - (i + 1) + 1 ≡ parts - i = omega (arith, within) in
    ap₂ lesser_of is so_far ∙ sym (
    ap (λ n. least_over f (range_with_len (parts - (i + 1)) n)) (let one : i + 1 ≡ suc i = omega arith in one)
    ∙ ap₂ (λ a b. lesser_of (f a) (least_over f (range_with_len b i))) part next
    )

-- ---- targets of several phases

flat_map-append : {X A : Type 0} (f : X → List A) (xs ys : List X) → flat_map f (xs ++ ys) ≡ flat_map f xs ++ flat_map f ys
flat_map-append f [] ys = refl
flat_map-append f (x ∷ xs) ys = ap (λ zs. f x ++ zs) (flat_map-append f xs ys) ∙ sym (append_assoc (f x) (flat_map f xs) (flat_map f ys))

pub targets-flat : {V : Type 0} (items : V → List NodeId) (w : World) (vs : List V) → flat_map (λ v. targets_of w (items v)) vs ≡ targets_of w (flat_map (λ ns. ns) (map items vs))
targets-flat items w [] = refl
targets-flat items w (v ∷ vs) =
    ap (λ zs. targets_of w (items v) ++ zs) (targets-flat items w vs)
    ∙ sym (flat_map-append (λ n. blocks_at n (range_with_len 0 w.parts)) (items v) (flat_map (λ ns. ns) (map items vs)))

-- all phases were gone over
pub blocks-all : {V : Type 0} (vs us : List V) (items : V → List NodeId) (w : World) (i : ℕ) (bs : List BlockId) (nss : List (List NodeId)) → take i vs ≡ vs → vs ≡ us
    → map items us ≡ nss → bs ≡ flat_map (λ v. targets_of w (items v)) (take i vs) → bs ≡ targets_of w (flat_map (λ ns. ns) nss)
blocks-all vs us items w i bs nss whole same are so_far =
    so_far ∙ ap (flat_map (λ v. targets_of w (items v))) (whole ∙ same) ∙ targets-flat items w us ∙ ap (λ xss. targets_of w (flat_map (λ ns. ns) xss)) are

-- the stop that the code found in a held block
pub block-stop : {E : Type 0} (r : Result (Option BlockStop) E) (e : PlannedWorld) (c : State Block) (b : BlockId) (v u : Block) → HoldsWorkOf e c → v ≡ u → Some u ≡ held_value c.held b
    → IfOk r (λ stop. stop ≡ stop_in (shown v)) → IfOk r (λ stop. stop ≡ stop_of e.world e.planned b)
block-stop (Ok stop) e c b v u contents same held is = is ∙ ap (λ t. stop_in (shown t)) same ∙ found-stop e c b u contents held
block-stop (Err err) e c b v u contents same held is = tt

-- the first of some nodes, and the others
pub first-held : (f : BlockId → Bool) (w : World) (ns : List NodeId) (n : NodeId) (rest : List NodeId) → ns ≡ n ∷ rest → list_all f (targets_of w ns) ≡ true
    → list_all f (blocks_at n (range_with_len 0 w.parts)) ≡ true
first-held f w ns n rest split all = all-left f (blocks_at n (range_with_len 0 w.parts)) (targets_of w rest) (ap (λ ms. list_all f (targets_of w ms)) (sym split) ∙ all)

pub rest-held : (f : BlockId → Bool) (w : World) (ns : List NodeId) (n : NodeId) (rest : List NodeId) → ns ≡ n ∷ rest → list_all f (targets_of w ns) ≡ true → list_all f (targets_of w rest) ≡ true
rest-held f w ns n rest split all = all-right f (blocks_at n (range_with_len 0 w.parts)) (targets_of w rest) (ap (λ ms. list_all f (targets_of w ms)) (sym split) ∙ all)
