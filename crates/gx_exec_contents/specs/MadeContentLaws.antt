-- What is made of the contents of a block's inputs is its content.
use Rattle.std.proofs.Common.{◌≡◌, ℕ, ◌<◌, ◌≤◌, true, List, [], ◌∷◌, ◌++◌, map, length, Option, Some, None, refl, sym, ap, ap₂, ◌∙◌, subst}
use Rattle.std.specs.List.{AllByRecursion, flat_map}
use Rattle.std.specs.Option.{option_or}
use Rattle.std.proofs.lemmas.List.{map-append}
use Rattle.gx_lineage.specs.Lineage.{IsBlock, block_inputs, blocks_at, blocks_of_input, node_inputs, parts_of_pattern}
use Rattle.gx_lineage.specs.declared.block_id.BlockId.{BlockId}
use Rattle.gx_lineage.specs.declared.input.Input.{Input}
use Rattle.gx_lineage.specs.declared.node_id.NodeId.{NodeId}
use Rattle.gx_plan.specs.PlanInvariant.{AreInputsFor, Fits, IsUnserved, Serves, Stands, is_own}
use Rattle.gx_plan.specs.PlanInvariant.AreInputsFor.{end, from, skipped}
use Rattle.gx_plan.specs.PlanLaws.{IsOwned, ReadsOwned}
use Rattle.gx_plan.specs.Plans.{Planned, recipe_at}
use Rattle.gx_plan.specs.Recipes.{graph_of, is_result}
use Rattle.gx_plan.specs.StmtNodes.{feeds, statement_of}
use Rattle.gx_plan.specs.SortedScriptLaws.{sorted-owned}
use Rattle.gx_plan.specs.declared.feed.Feed.{Feed}
use Rattle.gx_plan.specs.declared.kind.Kind.{Kind}
use Rattle.gx_plan.specs.declared.kind.Kind.TheVariants as kind
use Rattle.gx_plan.specs.declared.recipe.Recipe.{Recipe}
use Rattle.gx_types_stmts.specs.declared.checked_stmt.CheckedStmt.{CheckedStmt}
use Rattle.gx_types_stmts.specs.declared.typed_stmt.TypedStmt.{TypedStmt}
use Rattle.gx_types_stmts.specs.declared.typed_stmt.TypedStmt.TheVariants as stmts
use Rattle.gx_exec_contents.specs.BlockContents.{content_of, fault_by, held_by, recipe_of_block, stop_of}
use Rattle.gx_exec_contents.specs.BlockLaws.{ContentsAreMade}
use Rattle.gx_exec_contents.specs.MadeBlocks.{made_by, made_kind}
use Rattle.gx_exec_contents.specs.PartContents.{BlockStop, Content, first_given, held_kind, part_of_result, stop_in, stop_or}
use Rattle.gx_exec_contents.specs.Worlds.{IsSetting, IsWorld, World, source_of, value_at}
use Rattle.gx_exec_contents.specs.MadeStatementLaws.{fed, made-kind}
use Rattle.gx_exec_contents.specs.StatementValueLaws.{IsStatement, is_statement, owned-value, value_in-stmt}
use Rattle.gx_exec_contents.specs.StoppedBlockLaws.{stop_of-is}

-- ---- the inputs of a node hold what its recipe reads

serves-held : (w : World) → IsWorld w → (i : ℕ) (k : Kind) (r made : Recipe) → Serves w.script k r made → held_kind w k made i ≡ held_kind w k r i
serves-held w world i kind.Vertices r made serves = sym (owned-value w world i kind.Vertices r.statement made.statement serves)
serves-held w world i kind.Edges r made serves = sym (owned-value w world i kind.Edges r.statement made.statement serves)

serves-value : (w : World) → IsWorld w → (i : ℕ) (r made : Recipe) → made.kind ≡ r.kind → Serves w.script r.kind r made → held_by w made i ≡ held_kind w r.kind r i
serves-value w world i r made same serves = ap (λ x. held_kind w x made i) same ∙ serves-held w world i r.kind r made serves

-- what is read of a result is served
unserved-owned : (script : List CheckedStmt) (k : Kind) (r : Recipe) → IsUnserved script k r → (is_result k ≡ true → IsOwned script k r.statement) → ⊥
unserved-owned script kind.Vertices r none owned = none (owned refl).0 (owned refl).1
unserved-owned script kind.Edges r none owned = none (owned refl).0 (owned refl).1

module _ (w : World) (world : IsWorld w) (p : Planned) (i : ℕ) where
  abbrev held_at : BlockId → Content
  held_at b = held_by w (recipe_of_block p b) b.part

  held-blocks : (r : Recipe) (n : NodeId) → Stands w.script p.recipes r n → (js : List ℕ) → map held_at (blocks_at n js) ≡ map (λ j. held_kind w r.kind r j) js
  held-blocks r n stands [] = refl
  held-blocks r n stands (j ∷ js) =
      ap₂ (λ c cs. c ∷ cs) (serves-value w world j r (recipe_at p.recipes n.0) stands.kind stands.serves) (held-blocks r n stands js)

  held-input : (f : Feed) (x : Input) → Stands w.script p.recipes f.recipe x.node → x.pattern ≡ f.pattern → map held_at (blocks_of_input w.parts i x) ≡ fed w i f
  held-input f x stands same =
      held-blocks f.recipe x.node stands (parts_of_pattern w.parts i x.pattern)
      ∙ ap (λ pattern. map (λ j. held_kind w f.recipe.kind f.recipe j) (parts_of_pattern w.parts i pattern)) same

  held-inputs : (fs : List Feed) (xs : List Input) → AreInputsFor w.script p.recipes fs xs → AllByRecursion (ReadsOwned w.script) fs
      → map held_at (flat_map (blocks_of_input w.parts i) xs) ≡ flat_map (fed w i) fs
  held-inputs [] [] end owned = refl
  held-inputs [] (x ∷ xs) given owned = elim given [ ]
  held-inputs (f ∷ fs) (x ∷ xs) (from stands same rest) owned =
      map-append held_at (blocks_of_input w.parts i x) (flat_map (blocks_of_input w.parts i) xs)
      ∙ ap₂ (λ cs ds. cs ++ ds) (held-input f x stands same) (held-inputs fs xs rest owned.1)
  held-inputs (f ∷ fs) xs (skipped none rest) owned =
      absurd (unserved-owned w.script f.recipe.kind f.recipe none owned.0)

-- ---- stops

stop-held : (w : World) (k : Kind) (r : Recipe) (i : ℕ) (stop : Option BlockStop) → stop_in (stop_or stop (held_kind w k r i)) ≡ stop
stop-held w kind.Vertices r i None = refl
stop-held w kind.Edges r i None = refl
stop-held w k r i (Some stop) = refl

module _ (w : World) (p : Planned) where
  stops-held : (bs : List BlockId) → first_given stop_in (map (content_of w p) bs) ≡ first_given (stop_of w p) bs
  stops-held [] = refl
  stops-held (b ∷ bs) =
      let r : Recipe = recipe_of_block p b in
      ap₂ (λ u v. option_or u v) (stop-held w r.kind r b.part (stop_of w p b)) (stops-held bs)

  none_first : (u v : Option BlockStop) → option_or u v ≡ None → (u ≡ None) × (v ≡ None)
  none_first None v e = (refl, e)
  none_first (Some s) v e = cc

  -- inputs that are not stopped hold their parts of values
  held-contents : (bs : List BlockId) → first_given (stop_of w p) bs ≡ None → map (content_of w p) bs ≡ map (λ b. held_by w (recipe_of_block p b) b.part) bs
  held-contents [] none = refl
  held-contents (b ∷ bs) none =
      let each = none_first (stop_of w p b) (first_given (stop_of w p) bs) none in
      ap₂ (λ c cs. c ∷ cs) (ap (λ u. stop_or u (held_by w (recipe_of_block p b) b.part)) each.0) (held-contents bs each.1)

-- ---- the law

own-is : (k : Kind) (st : TypedStmt) (r : Recipe) → Fits k st r → is_own k st ≡ true
own-is kind.Vertices st r fit = fit
own-is kind.Edges st r fit = fit

own-no_action : (k : Kind) (st : TypedStmt) → is_own k st ≡ true → st ≡ stmts.CountTable 0 → ⊥
own-no_action kind.Vertices st is e = let none : is_own kind.Vertices (stmts.CountTable 0) ≡ true = subst (λ x. is_own kind.Vertices x ≡ true) e is in cc
own-no_action kind.Edges st is e = let none : is_own kind.Edges (stmts.CountTable 0) ≡ true = subst (λ x. is_own kind.Edges x ≡ true) e is in cc

-- a node of a result holds a part of it
result-held : (w : World) (k : Kind) (r : Recipe) (i : ℕ) → part_of_result k w.parts i (value_at w (graph_of r)) ≡ held_kind w k r i
result-held w kind.Vertices r i = refl
result-held w kind.Edges r i = refl

-- of a recipe that a statement adds: what is made of what it reads is what it holds, or its fault
made-recipe : (w : World) → IsWorld w → (r : Recipe) → 1 ≤ r.statement → Fits r.kind (statement_of w.script r.statement) r → (i : ℕ)
    → made_kind w r.kind r i (statement_of w.script r.statement) (flat_map (fed w i) (feeds (source_of w) r)) ≡ stop_or (fault_by w r i) (held_by w r i)
made-recipe w world r from_one fit i =
    let st : TypedStmt = statement_of w.script r.statement in
    let is : is_own r.kind st ≡ true = own-is r.kind st r fit in
    let at : IsStatement w r.statement st = is_statement w r.statement (own-no_action r.kind st is) in
    made-kind w world.some_parts r i r.kind st is
    ∙ ap (λ g. stop_or (fault_by w r i) (part_of_result r.kind w.parts i g)) (sym (value_in-stmt w world r.statement st from_one at))
    ∙ ap (stop_or (fault_by w r i)) (result-held w r.kind r i)

-- by whether an input is stopped
made-content : (w : World) (p : Planned) → IsSetting w p → (b : BlockId) → IsBlock p.lineage b → (stop : Option BlockStop) → first_given (stop_of w p) (block_inputs p.lineage b) ≡ stop
    → made_by w (recipe_of_block p b) b.part (map (content_of w p) (block_inputs p.lineage b)) ≡ content_of w p b
made-content w p setting b here (Some stop) e =
    let r : Recipe = recipe_of_block p b in
    let bs : List BlockId = block_inputs p.lineage b in
    let made : Content = made_kind w r.kind r b.part (statement_of w.script r.statement) (map (content_of w p) bs) in
    ap (λ u. stop_or u made) (stops-held w p bs ∙ e)
    ∙ sym (ap (λ u. stop_or u (held_by w r b.part)) (stop_of-is w p setting.sound b here ∙ ap (λ u. option_or u (fault_by w r b.part)) e))
made-content w p setting b here None e =
    let r : Recipe = recipe_of_block p b in
    let bs : List BlockId = block_inputs p.lineage b in
    let within : b.node.0 < length p.recipes = subst (λ n. b.node.0 < n) (sym setting.plan.recipes) here.node in
    let fed_by = setting.plan.fed b.node.0 within in
    let owned = (sorted-owned (source_of w) setting.world.sorts).read r fed_by.own.from_one in
    let read = held-inputs w setting.world p b.part (feeds (source_of w) r) (node_inputs p.lineage b.node) fed_by.read owned in
    ap₂ (λ u cs. stop_or u (made_kind w r.kind r b.part (statement_of w.script r.statement) cs)) (stops-held w p bs ∙ e) (held-contents w p bs e)
    ∙ ap (λ n. made_kind w r.kind r b.part (statement_of w.script r.statement) (map (λ c. held_by w (recipe_of_block p c) c.part) (flat_map (blocks_of_input n b.part) (node_inputs p.lineage b.node)))) setting.parts
    ∙ ap (made_kind w r.kind r b.part (statement_of w.script r.statement)) read
    ∙ made-recipe w setting.world r fed_by.own.from_one fed_by.own.fit b.part
    ∙ sym (ap (λ u. stop_or u (held_by w r b.part)) (stop_of-is w p setting.sound b here ∙ ap (λ u. option_or u (fault_by w r b.part)) e))

-- what is made of the contents of a block's inputs is the content of the block
pub contents-made : ContentsAreMade
contents-made w p setting b here = made-content w p setting b here (first_given (stop_of w p) (block_inputs p.lineage b)) refl
