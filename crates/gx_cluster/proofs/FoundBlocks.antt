-- The search for wanted blocks, block by block.
use Rattle.std.proofs.Common.{◌≡◌, ◌∙◌, ◌⊎◌, inl, inr, ⊎_elim, ℕ, ◌+◌, ◌*◌, ◌<◌, ◌≤◌, Bool, true, false, cond, List, [], ◌∷◌, ◌++◌, Ordering, refl, ap, sym, subst, arith}
use Rattle.std.specs.Prelude.{Contains, max}
use Rattle.std.specs.Ordering.{nat_cmp, ordering_then}
use Rattle.std.specs.declared.cmp.Ordering.TheVariants.{Less, Equal, Greater}
use Rattle.std.proofs.lemmas.Bool.Decides.{nat_tests}
use Rattle.std.proofs.lemmas.Map.Lookups.{exact_unsigned}
use Rattle.gx_lineage.specs.declared.block_id.BlockId.{BlockId}
use Rattle.gx_lineage.specs.Lineage.{Lineage, IsBlock, IsSound, block_inputs}
use Rattle.gx_cluster_state.specs.Blocks.{block_cmp, same_block}
use Rattle.gx_cluster_state.specs.Nets.{Net, Wanted, target, input}
use Rattle.gx_cluster_state.specs.Shapes.{Shape, is_running}
use Rattle.gx_cluster_state.specs.BlockLaws.{same_exact}
use Rattle.gx_cluster.specs.Agendas.{IsOpen, has_block}
use Rattle.gx_cluster.specs.Sweeps.{AddsMissing, IsAddedFrom, IsReached, IsSweep, block_height, block_number, in_front, is_missing, runs, was_found, was_there}
use Rattle.gx_cluster.proofs.Members.{both, has_push_cases, has_push_kept, has_push_last, or_cases, or_first, or_second, same_itself}

nothing_there : {A : Type 0} (b : BlockId) → has_block [] b ≡ true → A
nothing_there b h = both h refl

start_wanted : (n : Net) (ts : List BlockId) (s : Shape) (b : BlockId) → IsAddedFrom s ts [] b → Wanted n ts s b
start_wanted n ts s b (was_there h) = nothing_there b h
start_wanted n ts s b (is_missing c f) = target c f

pub sweep_start : (n : Net) (ts : List BlockId) (s : Shape) (front : List BlockId) → AddsMissing s ts [] front → IsSweep n ts s front []
sweep_start n ts s front a = record {
  front_wanted = λ b h. start_wanted n ts s b (a.only b h);
  found_open = λ b h. nothing_there b h;
  targets_reached = λ b c f. in_front (a.added b c f);
  inputs_reached = λ b c h i f. nothing_there b h;
}

-- ---- a block of the front runs
still_there : (k b : BlockId) (front rest : List BlockId) (t : Bool) → same_block k b ≡ t → has_block rest b ≡ cond t false (has_block front b)
    → has_block front b ≡ true → (k ≡ b) ⊎ (has_block rest b ≡ true)
still_there k b front rest true same is h = inl (same_exact k b same)
still_there k b front rest false same is h = inr (is ∙ h)

pub was_in_front : (k b : BlockId) (front rest : List BlockId) (t : Bool) → has_block rest b ≡ cond t false (has_block front b)
    → has_block rest b ≡ true → has_block front b ≡ true
was_in_front k b front rest true is h = both h is
was_in_front k b front rest false is h = sym is ∙ h

reached_by_running : (s : Shape) (front rest found : List BlockId) (k b : BlockId) → is_running s k ≡ true
    → ((q : BlockId) → has_block rest q ≡ cond (same_block k q) false (has_block front q)) → IsReached s front found b → IsReached s rest found b
reached_by_running s front rest found k b running updates (in_front h) =
    ⊎_elim (λ same. runs (subst (λ (x : BlockId). is_running s x ≡ true) same running)) (λ there. in_front there)
    (still_there k b front rest (same_block k b) refl (updates b) h)
reached_by_running s front rest found k b running updates (runs h) = runs h
reached_by_running s front rest found k b running updates (was_found h) = was_found h

pub sweep_running : (n : Net) (ts : List BlockId) (s : Shape) (front rest found : List BlockId) (k : BlockId) → is_running s k ≡ true
    → ((q : BlockId) → has_block rest q ≡ cond (same_block k q) false (has_block front q)) → IsSweep n ts s front found → IsSweep n ts s rest found
sweep_running n ts s front rest found k running updates r = record {
  front_wanted = λ b h. r.front_wanted b (was_in_front k b front rest (same_block k b) (updates b) h);
  found_open = r.found_open;
  targets_reached = λ b c f. reached_by_running s front rest found k b running updates (r.targets_reached b c f);
  inputs_reached = λ b c h i f. reached_by_running s front rest found k c running updates (r.inputs_reached b c h i f);
}

-- ---- a block of the front does not run
added_wanted : (n : Net) (ts : List BlockId) (s : Shape) (front rest found : List BlockId) (k b : BlockId) → is_running s k ≡ false → Wanted n ts s k
    → ((q : BlockId) → has_block rest q ≡ cond (same_block k q) false (has_block front q)) → IsSweep n ts s front found
    → IsAddedFrom s (n.inputs k) rest b → Wanted n ts s b
added_wanted n ts s front rest found k b idle w updates r (was_there h) = r.front_wanted b (was_in_front k b front rest (same_block k b) (updates b) h)
added_wanted n ts s front rest found k b idle w updates r (is_missing c f) = input w idle c f

reached_by_found : (s : Shape) (front rest more found bs : List BlockId) (k b : BlockId)
    → ((q : BlockId) → has_block rest q ≡ cond (same_block k q) false (has_block front q)) → AddsMissing s bs rest more
    → IsReached s front found b → IsReached s more (found ++ k ∷ []) b
reached_by_found s front rest more found bs k b updates a (in_front h) =
    ⊎_elim (λ same. was_found (subst (λ (x : BlockId). has_block (found ++ k ∷ []) x ≡ true) same (has_push_last found k)))
    (λ there. in_front (a.kept b there)) (still_there k b front rest (same_block k b) refl (updates b) h)
reached_by_found s front rest more found bs k b updates a (runs h) = runs h
reached_by_found s front rest more found bs k b updates a (was_found h) = was_found (has_push_kept found k b h)

pub sweep_more : (n : Net) (ts : List BlockId) (s : Shape) (front rest more found : List BlockId) (k : BlockId) → has_block front k ≡ true
    → is_running s k ≡ false → ((q : BlockId) → has_block rest q ≡ cond (same_block k q) false (has_block front q))
    → AddsMissing s (n.inputs k) rest more → IsSweep n ts s front found → IsSweep n ts s more (found ++ k ∷ [])
sweep_more n ts s front rest more found k there idle updates a r =
    let w = r.front_wanted k there in
    record {
      front_wanted = λ b h. added_wanted n ts s front rest found k b idle w updates r (a.only b h);
      found_open = λ b h. ⊎_elim (λ earlier. r.found_open b earlier)
          (λ last. subst (IsOpen n ts s) (sym last) (record { wanted = w; idle = idle })) (has_push_cases found k b h);
      targets_reached = λ b c f. reached_by_found s front rest more found (n.inputs k) k b updates a (r.targets_reached b c f);
      inputs_reached = λ b c h i f.
          ⊎_elim (λ earlier. reached_by_found s front rest more found (n.inputs k) k c updates a (r.inputs_reached b c earlier i f))
          (λ last. in_front (a.added c (subst (λ (x : BlockId). Contains (n.inputs x) c) last i) f)) (has_push_cases found k b h);
    }

-- ---- the end
reached_last : (s : Shape) (found : List BlockId) (b : BlockId) → IsReached s [] found b → is_running s b ≡ false → has_block found b ≡ true
reached_last s found b (in_front h) idle = nothing_there b h
reached_last s found b (runs h) idle = both h idle
reached_last s found b (was_found h) idle = h

reached_all : {n : Net} {ts : List BlockId} {s : Shape} {b : BlockId} (found : List BlockId) → IsSweep n ts s [] found → Wanted n ts s b → IsReached s [] found b
reached_all found r (target {b = b} c f) = r.targets_reached b c f
reached_all {s = s} found r (input {b = b} {c = c} w idle i f) = r.inputs_reached c b (reached_last s found c (reached_all found r w) idle) i f

pub sweep_end : (n : Net) (ts : List BlockId) (s : Shape) (front found : List BlockId) → front ≡ [] → IsSweep n ts s front found → (b : BlockId)
    → IsOpen n ts s b → has_block found b ≡ true
sweep_end n ts s front found none r b o =
    let last : IsSweep n ts s [] found = subst (λ (bs : List BlockId). IsSweep n ts s bs found) none r in
    reached_last s found b (reached_all found last o.wanted) o.idle

-- ---- the height falls
pub height_above : (parts : ℕ) (ks : List BlockId) (b : BlockId) → has_block ks b ≡ true → block_number parts b < block_height parts ks
height_above parts [] b h = nothing_there b h
height_above parts (k ∷ ks) b h =
    ⊎_elim (λ same. subst (λ (x : BlockId). block_number parts x < max (block_number parts k + 1) (block_height parts ks)) (sym (same_exact b k same)) (omega arith))
    (λ later. let below : block_number parts b < block_height parts ks = height_above parts ks b later in omega arith)
    (or_cases (same_block b k) (has_block ks b) h)

pub height_below : (parts : ℕ) (ks : List BlockId) (m : ℕ) → ((q : BlockId) → has_block ks q ≡ true → block_number parts q < m) → block_height parts ks ≤ m
height_below parts [] m h = omega arith
height_below parts (k ∷ ks) m h =
    let first : block_number parts k < m = h k (or_first (same_block k k) (has_block ks k) (same_itself k)) in
    let rest : block_height parts ks ≤ m = height_below parts ks m (λ q there. h q (or_second (same_block q k) (has_block ks q) there)) in
    omega arith

number_by_node : (a p x b y : ℕ) → a < b → x < p → a * p + x < b * p + y
number_by_node a p x b y less within = let whole : (a + 1) * p ≤ b * p = grind arith in omega arith

-- a block of an earlier node has a smaller number
pub smaller_by_node : (parts : ℕ) (q k : BlockId) → q.part < parts → q.node.0 < k.node.0 → block_number parts q < block_number parts k
smaller_by_node parts q k within less = number_by_node q.node.0 parts q.part k.node.0 k.part less within

-- the first of two orderings that decides
less_cases : (o p : Ordering) → ordering_then o p ≡ Less → (o ≡ Less) ⊎ ((o ≡ Equal) × (p ≡ Less))
less_cases Less p h = inl refl
less_cases Equal p h = inr (refl, h)
less_cases Greater p h = absurd (cc)

less_by_cmp : (m n : ℕ) → nat_cmp m n ≡ Less → m < n
less_by_cmp m n h = grind (arith, nat_tests)

smaller_by_part : (parts : ℕ) (q k : BlockId) → q.node.0 ≡ k.node.0 → q.part < k.part → block_number parts q < block_number parts k
smaller_by_part parts q k same less = let product : q.node.0 * parts ≡ k.node.0 * parts = ap (λ (m : ℕ). m * parts) same in omega arith

-- a smaller block has a smaller number
pub smaller_by_order : (parts : ℕ) (q k : BlockId) → q.part < parts → block_cmp q k ≡ Less → block_number parts q < block_number parts k
smaller_by_order parts q k within less =
    ⊎_elim (λ node. smaller_by_node parts q k within (less_by_cmp q.node.0 k.node.0 node))
    (λ both_parts. smaller_by_part parts q k (exact_unsigned q.node.0 k.node.0 both_parts.0) (less_by_cmp q.part k.part both_parts.1))
    (less_cases (nat_cmp q.node.0 k.node.0) (nat_cmp q.part k.part) less)

-- each block that comes into the front has a smaller number than the one that left it
pub height_falls : (parts : ℕ) (front more : List BlockId) (k : BlockId) → has_block front k ≡ true
    → ((q : BlockId) → has_block more q ≡ true → block_number parts q < block_number parts k) → block_height parts more < block_height parts front
height_falls parts front more k there smaller =
    let above : block_number parts k < block_height parts front = height_above parts front k there in
    let below : block_height parts more ≤ block_number parts k = height_below parts more (block_number parts k) smaller in
    omega arith

-- the blocks that were left, and those that were added
pub smaller_by_added : (l : Lineage) (s : Shape) (rest : List BlockId) (k b : BlockId) → IsSound l → IsBlock l k
    → ((q : BlockId) → has_block rest q ≡ true → block_number l.parts q < block_number l.parts k) → IsAddedFrom s (block_inputs l k) rest b
    → block_number l.parts b < block_number l.parts k
smaller_by_added l s rest k b sound is smaller (was_there h) = smaller b h
smaller_by_added l s rest k b sound is smaller (is_missing c f) = smaller_by_node l.parts b k (sound.blocks k b is c).part (sound.earlier k b c)
