-- An acyclic graph is sound.
use Rattle.std.proofs.Common.{◌≡◌, ℕ, ◌<◌, List, [], ◌∷◌, Option, Some, None, arith, refl}
use Rattle.std.specs.Prelude.{All, option_map, slice_get, unwrap_or}
use Rattle.std.specs.List.{flat_map}
use Rattle.std.proofs.lemmas.List.Elements.{All-append, All-cons, All-contains, All-head, All-map, All-nil, All-tail}
use Rattle.std.proofs.lemmas.List.FromFn.{get_or-range_with_len, length-range_with_len}
use Rattle.gx_lineage.specs.declared.block_id.BlockId.{BlockId}
use Rattle.gx_lineage.specs.declared.input.Input.{Input}
use Rattle.gx_lineage.specs.declared.input.Pattern.{Pattern}
use Rattle.gx_lineage.specs.declared.input.Pattern.TheVariants.{Same, All as EachPart}
use Rattle.gx_lineage.specs.Lineage.{Lineage, IsAcyclic, IsSound, blocks_of_input, block_inputs, parts_of_pattern}
use Rattle.gx_lineage.specs.Nodes.{Node}

-- what is true of each piece is true of the pieces joined
All-flat_map : {X A : Type 0} (P : A → Type 0) (f : X → List A) (xs : List X) → All (λ x. All P (f x)) xs → All P (flat_map f xs)
All-flat_map P f [] h = All-nil P
All-flat_map P f (x ∷ xs) h =
    All-append P (f x) (flat_map f xs) (All-head (λ x. All P (f x)) x xs h) (All-flat_map P f xs (All-tail (λ x. All P (f x)) x xs h))

-- what is true of the inputs of a node, if there is one
All-inputs : (P : Input → Type 0) (o : Option Node) → ((n : Node) → o ≡ Some n → All P n.inputs)
    → All P (unwrap_or (option_map (λ m. m.inputs) o) [])
All-inputs P (Some n) h = h n refl
All-inputs P None h = All-nil P

-- the parts that are read are there
parts_within : (parts part : ℕ) (p : Pattern) → part < parts → All (λ y. y < parts) (parts_of_pattern parts part p)
parts_within parts part Same h = All-cons (λ y. y < parts) part [] h (All-nil (λ y. y < parts))
parts_within parts part EachPart h =
    λ k d in_range. let k_below : k < parts = omega (arith, length-range_with_len 0 parts) in rw get_or-range_with_len (omega arith)

-- the blocks that are read are of earlier nodes
all_earlier : (l : Lineage) → IsAcyclic l.nodes → (b : BlockId) → All (λ c. c.node.0 < b.node.0) (block_inputs l b)
all_earlier l acyclic b =
    All-flat_map (λ c. c.node.0 < b.node.0) (blocks_of_input l.parts b.part) _
    (λ k d in_range. All-map (λ c. c.node.0 < b.node.0) _ _ (λ j e within. All-inputs (λ x. x.node.0 < b.node.0) (slice_get l.nodes b.node.0) (acyclic b.node.0) k d in_range))

-- the blocks that are read have parts in range
all_in_range : (l : Lineage) (b : BlockId) → b.part < l.parts → All (λ c. c.part < l.parts) (block_inputs l b)
all_in_range l b h =
    All-flat_map (λ c. c.part < l.parts) (blocks_of_input l.parts b.part) _
    (λ k d in_range. All-map (λ c. c.part < l.parts) _ _ (parts_within l.parts b.part _ h))

pub IsSound-from_acyclic : (l : Lineage) → IsAcyclic l.nodes → IsSound l
IsSound-from_acyclic l acyclic = record {
  earlier = λ b c h. All-contains (λ c. c.node.0 < b.node.0) (block_inputs l b) c (all_earlier l acyclic b) h;
  blocks = λ b c is h. record {
    node = let below : c.node.0 < b.node.0 = All-contains (λ c. c.node.0 < b.node.0) (block_inputs l b) c (all_earlier l acyclic b) h in omega (arith, is.node);
    part = All-contains (λ c. c.part < l.parts) (block_inputs l b) c (all_in_range l b is.part) h;
  };
}
