-- What the blocks of an action hold, if none is stopped: the rows of the statement that it names.
use Rattle.std.proofs.Common.{◌≡◌, ℕ, zero, suc, ◌+◌, ◌<◌, ◌≤◌, ◌&&◌, Bool, true, false, List, [], ◌∷◌, ◌++◌, Option, None, Some, is_some, option_map, IsPermutation, flat_map, length, map, refl, sym, ap, ap₂, ◌∙◌, subst, arith}
use Rattle.std.specs.List.{cons_option, filter_map, range_with_len}
use Rattle.std.specs.Map.{lookup}
use Rattle.std.proofs.lemmas.List.Sorted.{IsPermutation-refl}
use Rattle.gx_cluster.specs.States.{HoldsContents, State, held_value, shape}
use Rattle.gx_cluster.specs.ShapeLaws.{is_held-shape}
use Rattle.gx_cluster_state.specs.Blocks.{same_block}
use Rattle.gx_cluster_state.specs.Shapes.{all_held, is_held}
use Rattle.gx_cluster_state.specs.declared.held.Held.{Held}
use Rattle.gx_epart.specs.UniqueLaws.{IsEdgeOrderOf-unique}
use Rattle.gx_epart.specs.Edges.{edge_order_of}
use Rattle.gx_exec_answers.specs.PartAnswerLaws.{edges-of_ordered_parts}
use Rattle.gx_exec_contents.specs.EqualEdgeLaws.{edge_cmp-exact}
use Rattle.gx_exec_contents.specs.JoinedPartLaws.{edges-are_their_parts, table-is_its_parts}
use Rattle.gx_exec_contents.specs.StatementValueLaws.{owned-value, value-placed}
use Rattle.gx_exec_contents.specs.BlockContents.{content_of, held_by}
use Rattle.gx_exec_contents.specs.MadeBlocks.{edges_held, vertices_held}
use Rattle.gx_exec_contents.specs.PartContents.{held_kind, part_of_edges, part_of_vertices, stop_or}
use Rattle.gx_exec_contents.specs.PhaseFaults.{AreQuietBelow}
use Rattle.gx_exec_contents.specs.Worlds.{IsSetting, World, value_in}
use Rattle.gx_exec_work.specs.Works.{IsContentOf, PlannedWorld, shown_blocks}
use Rattle.gx_exec_work.specs.declared.block.Block.{Block}
use Rattle.gx_lineage.specs.Lineage.{blocks_at}
use Rattle.gx_lineage.specs.declared.block_id.BlockId.{BlockId}
use Rattle.gx_lineage.specs.declared.node_id.NodeId.{NodeId}
use Rattle.gx_model.specs.Graphs.{plain_edges}
use Rattle.gx_plan.specs.PlanInvariant.{IsNodeFor, Serves, Stands}
use Rattle.gx_plan.specs.Plans.{IsAdded, Planned, node_of, recipe_at}
use Rattle.gx_plan.specs.Recipes.{recipe_of}
use Rattle.gx_plan.specs.declared.kind.Kind.{Kind}
use Rattle.gx_plan.specs.declared.kind.Kind.TheVariants as kind
use Rattle.gx_plan.specs.declared.recipe.Recipe.{Recipe}
use Rattle.gx_rows.specs.Order.{Edge}
use Rattle.gx_exec_reads.specs.HeldAnswers.{held_contents}
use Rattle.gx_exec_reads.specs.OneDemandLaws.{blocks-of_node, blocks_of_phases, phase_of_node}
use Rattle.gx_exec_reads.specs.UnmadeRowLaws.{unserved-edges, unserved-vertices}

-- ---- held blocks are contents

both-true : (x y : Bool) → x && y ≡ true → (x ≡ true) × (y ≡ true)
both-true true true is = (refl, refl)
both-true true false is = absurd cc
both-true false y is = absurd cc

module _ (e : PlannedWorld) (c : State Block) (contents : HoldsContents (IsContentOf e) e.planned.lineage c) where
  first-held : (b : BlockId) (bs : List BlockId) (o : Option (Held Block)) → lookup (same_block b) c.held ≡ o → is_some o ≡ true
      → held_contents c.held (b ∷ bs) ≡ content_of e.world e.planned b ∷ held_contents c.held bs
  first-held b bs None at is = absurd cc
  first-held b bs (Some h) at is =
      ap (λ (o : Option (Held Block)). shown_blocks (cons_option (option_map (λ x. x.value) o) (filter_map (held_value c.held) bs))) at
      ∙ ap (λ t. t ∷ held_contents c.held bs) (contents.held b h at).content

  pub contents-held : (bs : List BlockId) → all_held (shape c) bs ≡ true → held_contents c.held bs ≡ map (content_of e.world e.planned) bs
  contents-held [] all = refl
  contents-held (b ∷ bs) all =
      let each = both-true (is_held (shape c) b) (all_held (shape c) bs) all in
      first-held b bs (lookup (same_block b) c.held) refl (sym (is_held-shape c b) ∙ each.0)
      ∙ ap (λ cs. content_of e.world e.planned b ∷ cs) (contents-held bs each.1)

-- ---- the blocks of a node hold the parts of a value

vertices-of_parts : (w : World) (g : ℕ) (js : List ℕ) → flat_map vertices_held (map (held_kind w kind.Vertices (recipe_of kind.Vertices g)) js) ≡ flat_map (λ j. part_of_vertices w.parts j (value_in w g).vertices) js
vertices-of_parts w g [] = refl
vertices-of_parts w g (j ∷ js) = ap (λ vs. part_of_vertices w.parts j (value_in w g).vertices ++ vs) (vertices-of_parts w g js)

edges-of_parts : (w : World) (g : ℕ) (js : List ℕ) → flat_map edges_held (map (held_kind w kind.Edges (recipe_of kind.Edges g)) js) ≡ flat_map (λ j. edge_order_of (part_of_edges j (value_in w g).edges)) js
edges-of_parts w g [] = refl
edges-of_parts w g (j ∷ js) = ap (λ es. edge_order_of (part_of_edges j (value_in w g).edges) ++ es) (edges-of_parts w g js)

module _ (w : World) (p : Planned) (setting : IsSetting w p) (quiet : AreQuietBelow w p (length p.lineage.nodes)) where
  serves-held : (j g : ℕ) (k : Kind) (made : Recipe) → made.kind ≡ k → Serves w.script k (recipe_of k g) made → held_by w made j ≡ held_kind w k (recipe_of k g) j
  serves-held j g kind.Vertices made same serves =
      ap (λ x. held_kind w x made j) same ∙ sym (owned-value w setting.world j kind.Vertices g made.statement serves)
  serves-held j g kind.Edges made same serves =
      ap (λ x. held_kind w x made j) same ∙ sym (owned-value w setting.world j kind.Edges g made.statement serves)

  part-held : (g : ℕ) (k : Kind) (n : NodeId) → Stands w.script p.recipes (recipe_of k g) n → (j : ℕ) → j < w.parts
      → content_of w p (record { node = n; part = j }) ≡ held_kind w k (recipe_of k g) j
  part-held g k n stands j below =
      let inside : n.0 < length p.lineage.nodes = subst (λ m. n.0 < m) setting.plan.recipes stands.inside in
      let part : j < p.lineage.parts = subst (λ m. j < m) (sym setting.parts) below in
      ap (λ stop. stop_or stop (held_by w (recipe_at p.recipes n.0) j)) (quiet (record { node = n; part = j }) (record { node = inside; part = part }) inside)
      ∙ serves-held j g k (recipe_at p.recipes n.0) stands.kind stands.serves

  parts-held : (g : ℕ) (k : Kind) (n : NodeId) → Stands w.script p.recipes (recipe_of k g) n → (i m : ℕ) → i + m ≤ w.parts
      → map (content_of w p) (blocks_at n (range_with_len i m)) ≡ map (held_kind w k (recipe_of k g)) (range_with_len i m)
  parts-held g k n stands i zero within = refl
  parts-held g k n stands i (suc m) within =
      ap₂ (λ c cs. c ∷ cs) (part-held g k n stands i (omega (arith, within))) (parts-held g k n stands (i + 1) m (omega (arith, within)))

  node-held : (g : ℕ) (k : Kind) (n : NodeId) → Stands w.script p.recipes (recipe_of k g) n
      → map (content_of w p) (blocks_of_phases w.parts (phase_of_node (Some n))) ≡ map (held_kind w k (recipe_of k g)) (range_with_len 0 w.parts)
  node-held g k n stands = ap (map (content_of w p)) (blocks-of_node w.parts n) ∙ parts-held g k n stands 0 w.parts (omega arith)

  -- ---- the rows of a statement that was added are those of its blocks

  module _ (g : ℕ) (added : IsAdded p g) where
    high : g ≤ length w.script
    high = subst (λ m. g ≤ m) setting.plan.results added.within

    vertices-found : (o : Option NodeId) → IsNodeFor w.script p.recipes (recipe_of kind.Vertices g) o
        → IsPermutation (value_in w g).vertices (flat_map vertices_held (map (content_of w p) (blocks_of_phases w.parts (phase_of_node o))))
    vertices-found (Some n) stands =
        subst (IsPermutation (value_in w g).vertices)
        (sym (ap (flat_map vertices_held) (node-held g kind.Vertices n stands) ∙ vertices-of_parts w g (range_with_len 0 w.parts)))
        (table-is_its_parts w.parts setting.world.some_parts (value_in w g).vertices)
    vertices-found None none = subst (λ vs. IsPermutation vs []) (sym (unserved-vertices w setting.world g added.from_one high none)) (IsPermutation-refl [])

    edges-found : (o : Option NodeId) → IsNodeFor w.script p.recipes (recipe_of kind.Edges g) o
        → IsPermutation (plain_edges (value_in w g).edges) (flat_map edges_held (map (content_of w p) (blocks_of_phases w.parts (phase_of_node o))))
    edges-found (Some n) stands =
        let js : List ℕ = range_with_len 0 w.parts in
        let edges : List (ℕ × Edge) = (value_in w g).edges in
        subst (IsPermutation (plain_edges edges))
        (sym (ap (flat_map edges_held) (node-held g kind.Edges n stands) ∙ edges-of_parts w g js))
        (edges-of_ordered_parts (IsEdgeOrderOf-unique edge_cmp-exact) (λ j. part_of_edges j edges) js (plain_edges edges)
        (edges-are_their_parts w.parts edges (value-placed w setting.world.some_parts g).placed))
    edges-found None none = subst (λ (es : List (ℕ × Edge)). IsPermutation (plain_edges es) []) (sym (unserved-edges w setting.world g added.from_one high none)) (IsPermutation-refl [])

    pub vertices-demanded : IsPermutation (value_in w g).vertices (flat_map vertices_held (map (content_of w p) (blocks_of_phases w.parts (phase_of_node (node_of p (recipe_of kind.Vertices g))))))
    vertices-demanded = vertices-found (node_of p (recipe_of kind.Vertices g)) (setting.plan.nodes (recipe_of kind.Vertices g) refl added)

    pub edges-demanded : IsPermutation (plain_edges (value_in w g).edges) (flat_map edges_held (map (content_of w p) (blocks_of_phases w.parts (phase_of_node (node_of p (recipe_of kind.Edges g))))))
    edges-demanded = edges-found (node_of p (recipe_of kind.Edges g)) (setting.plan.nodes (recipe_of kind.Edges g) refl added)
