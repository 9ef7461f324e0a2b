-- All blocks of a lineage are listed.
use Rattle.std.proofs.Common.{
  ◌≡◌,
  ◌∙◌,
  ℕ,
  ◌<◌,
  suc,
  zero,
  true,
  List,
  [],
  ◌∷◌,
  ◌++◌,
  get_or,
  length,
  map,
  ap,
  sym,
  subst,
  arith,
}
use Rattle.std.specs.Prelude.{Contains}
use Rattle.std.specs.List.{flat_map, list_any, range_with_len}
use Rattle.std.proofs.lemmas.List.{get_or-map, length-map}
use Rattle.std.proofs.lemmas.List.Elements.{Contains-append_left, Contains-append_right}
use Rattle.std.proofs.lemmas.List.FromFn.{get_or-range_with_len, length-range_with_len}
use Rattle.std.proofs.lemmas.Map.Views.{list_any-from_Contains}
use Rattle.gx_lineage.specs.declared.block_id.BlockId.{BlockId}
use Rattle.gx_lineage.specs.declared.node_id.NodeId.{NodeId}
use Rattle.gx_lineage.specs.Lineage.{Lineage, IsBlock, blocks_at}
use Rattle.gx_cluster_state.specs.BlockLaws.{same_block_laws}
use Rattle.gx_cluster_state.specs.Blocks.{same_block}
use Rattle.gx_cluster_state.specs.Measures.{lineage_blocks, node_ids}

by_index : {X A : Type 0} (f : X → List A) (y : X) (ys : List X) (x : X) (a : A) (k : ℕ)
    → (Contains ys x → Contains (flat_map f ys) a)
    → k < suc (length ys) → get_or (y ∷ ys) k x ≡ x → Contains (f x) a
    → Contains (f y ++ flat_map f ys) a
by_index f y ys x a zero later below same inside =
    Contains-append_left (f y) (flat_map f ys) a
    (subst (λ (z : _). Contains (f z) a) (sym same) inside)
by_index f y ys x a (suc k) later below same inside =
    Contains-append_right (f y) (flat_map f ys) a (later (k, omega arith, same))

contains_flat : {X A : Type 0} (f : X → List A) (xs : List X) (x : X) (a : A) → Contains xs x
    → Contains (f x) a → Contains (flat_map f xs) a
contains_flat f [] x a h inside = let below : h.0 < 0 = h.1 in absurd (omega arith)
contains_flat f (y ∷ ys) x a h inside =
    by_index f y ys x a h.0 (λ later. contains_flat f ys x a later inside) h.1 h.2 inside

contains_map : {X A : Type 0} (f : X → A) (xs : List X) (x : X) → Contains xs x
    → Contains (map f xs) (f x)
contains_map f xs x h = (
  h.0,
  (let size = length-map xs f in let below = h.1 in omega (arith, size, below)),
  get_or-map f xs h.0 x (f x) h.1 ∙ ap f h.2,
)

contains_range : (n k : ℕ) → k < n → Contains (range_with_len 0 n) k
contains_range n k h =
    let size : length (range_with_len 0 n) ≡ n = length-range_with_len 0 n in
    (k, omega (arith, size), rw get_or-range_with_len (omega arith))

-- a block of the lineage is listed
pub block_is_listed : (l : Lineage) (b : BlockId) → IsBlock l b
    → list_any (same_block b) (lineage_blocks l) ≡ true
block_is_listed l b is =
    list_any-from_Contains same_block_laws b (lineage_blocks l)
    (contains_flat (λ n. blocks_at n (range_with_len 0 l.parts))
    (node_ids (range_with_len 0 (length l.nodes))) b.node b
    (contains_map (λ n. let x : NodeId = record { 0 = n } in x)
    (range_with_len 0 (length l.nodes)) b.node.0
    (contains_range (length l.nodes) b.node.0 is.node))
    (contains_map (λ p. let x : BlockId = record { node = b.node; part = p } in x)
    (range_with_len 0 l.parts) b.part (contains_range l.parts b.part is.part)))
