-- What is read from the blocks of an action is the model's answer, if they are contents and none is stopped.
use Rattle.std.proofs.Common.{◌≡◌, ℕ, ◌-◌, ◌≤◌, true, List, Some, length, map, sym, ap, ◌∙◌}
use Rattle.std.specs.List.{AllByRecursion, flat_map, slice_get}
use Rattle.std.specs.Option.{option_and_then}
use Rattle.std.proofs.lemmas.List.{length-map}
use Rattle.gx_cluster.specs.States.{HoldsContents, State, shape}
use Rattle.gx_cluster_state.specs.Shapes.{all_held}
use Rattle.gx_epart.specs.UniqueLaws.{IsEdgeOrderOf-unique}
use Rattle.gx_exec_answers.specs.PartAnswerLaws.{count_answer-of_parts, edges_answer-of_parts, vertices_answer-of_parts}
use Rattle.gx_exec_contents.specs.EqualEdgeLaws.{edge_cmp-exact}
use Rattle.gx_exec_contents.specs.StatementValueLaws.{value-placed}
use Rattle.gx_exec_contents.specs.PlaceLaws.{answers-are_plain}
use Rattle.gx_exec_contents.specs.BlockContents.{content_of}
use Rattle.gx_exec_contents.specs.MadeBlocks.{edges_held, vertices_held}
use Rattle.gx_exec_contents.specs.PartContents.{Content}
use Rattle.gx_exec_contents.specs.PhaseFaults.{AreQuietBelow}
use Rattle.gx_exec_contents.specs.Worlds.{IsSetting, World, loaded_in, placed_values, stmts_of, value_in}
use Rattle.gx_exec_work.specs.Works.{IsContentOf, PlannedWorld}
use Rattle.gx_exec_work.specs.declared.block.Block.{Block}
use Rattle.gx_lineage.specs.declared.block_id.BlockId.{BlockId}
use Rattle.gx_model.specs.ActionAnswers.{answer_of_stmt, count_answer, made_named}
use Rattle.gx_model.specs.Graphs.{plain_edges}
use Rattle.gx_model.specs.ScriptMeaning.{plain_values}
use Rattle.gx_plan.specs.Plans.{IsAdded, Planned, phases_of, phases_of_stmt}
use Rattle.gx_plan.specs.StmtNodes.{statement_of}
use Rattle.gx_types_stmts.specs.StmtNumbers.{named_numbers}
use Rattle.gx_types_stmts.specs.declared.typed_stmt.TypedStmt.{TypedStmt}
use Rattle.gx_types_stmts.specs.declared.typed_stmt.TypedStmt.TheVariants as stmts
use Rattle.gx_exec_reads.specs.Actions.{IsAction}
use Rattle.gx_exec_reads.specs.HeldAnswers.{answer_of_blocks, answer_of_contents, held_contents}
use Rattle.gx_exec_reads.specs.DemandedBlockLaws.{contents-held, edges-demanded, vertices-demanded}
use Rattle.gx_exec_reads.specs.ScriptNameLaws.{statement-found}
use Rattle.gx_exec_reads.specs.OneDemandLaws.{blocks_of_phases}

module _ (w : World) (p : Planned) (setting : IsSetting w p) (quiet : AreQuietBelow w p (length p.lineage.nodes)) (a : ℕ) where
  -- the contents of the blocks that a statement demands
  abbrev demanded_contents : TypedStmt → List Content
  demanded_contents st = map (content_of w p) (blocks_of_phases w.parts (phases_of_stmt p a st))

  -- action by action
  answer-demanded : (st : TypedStmt) → IsAction st → AllByRecursion (IsAdded p) (named_numbers st)
      → answer_of_stmt w.script (placed_values w) st ≡ Some (answer_of_contents w.script st (demanded_contents st))
  answer-demanded (stmts.PrintVertices g) is added =
      ap Some (sym (vertices_answer-of_parts (made_named w.script g).vertices (value_in w g).vertices (flat_map vertices_held (demanded_contents (stmts.PrintVertices g)))
      (value-placed w setting.world.some_parts g).ascending (vertices-demanded w p setting quiet g added.0)))
  answer-demanded (stmts.PrintTable g) is added =
      ap Some (sym (vertices_answer-of_parts (made_named w.script g).vertices (value_in w g).vertices (flat_map vertices_held (demanded_contents (stmts.PrintTable g)))
      (value-placed w setting.world.some_parts g).ascending (vertices-demanded w p setting quiet g added.0)))
  answer-demanded (stmts.PrintEdges g) is added =
      ap Some (sym (edges_answer-of_parts (IsEdgeOrderOf-unique edge_cmp-exact) (made_named w.script g).edges (plain_edges (value_in w g).edges)
      (flat_map edges_held (demanded_contents (stmts.PrintEdges g))) (edges-demanded w p setting quiet g added.0)))
  answer-demanded (stmts.CountVertices g) is added =
      ap Some (sym (count_answer-of_parts (value_in w g).vertices (flat_map vertices_held (demanded_contents (stmts.CountVertices g))) (vertices-demanded w p setting quiet g added.0)))
  answer-demanded (stmts.CountTable g) is added =
      ap Some (sym (count_answer-of_parts (value_in w g).vertices (flat_map vertices_held (demanded_contents (stmts.CountTable g))) (vertices-demanded w p setting quiet g added.0)))
  answer-demanded (stmts.CountEdges g) is added =
      ap Some (ap count_answer (sym (length-map (value_in w g).edges (λ e. e.1)))
      ∙ sym (count_answer-of_parts (plain_edges (value_in w g).edges) (flat_map edges_held (demanded_contents (stmts.CountEdges g))) (edges-demanded w p setting quiet g added.0)))
  answer-demanded _ is added = absurd is

-- what action a prints over plain lists is what is read from its blocks, as a cluster holds them
pub answer-from_blocks : (e : PlannedWorld) (c : State Block) (a : ℕ) (bs : List BlockId) → IsSetting e.world e.planned → AreQuietBelow e.world e.planned (length e.planned.lineage.nodes)
    → HoldsContents (IsContentOf e) e.planned.lineage c → 1 ≤ a → a ≤ length e.world.script → IsAction (statement_of e.world.script a)
    → AllByRecursion (IsAdded e.planned) (named_numbers (statement_of e.world.script a))
    → all_held (shape c) bs ≡ true → bs ≡ blocks_of_phases e.world.parts (phases_of e.world.script e.planned a)
    → option_and_then (answer_of_stmt e.world.script (plain_values (loaded_in e.world))) (slice_get (stmts_of e.world) (a - 1))
    ≡ Some (answer_of_blocks e.world.script a (held_contents c.held bs))
unfolding answer_of_blocks
answer-from_blocks e c a bs setting quiet contents low high is added held same =
    let w : World = e.world in
    let p : Planned = e.planned in
    let st : TypedStmt = statement_of w.script a in
    ap (option_and_then (answer_of_stmt w.script (plain_values (loaded_in w)))) (statement-found w.script a low high)
    ∙ sym (answers-are_plain w w.script st)
    ∙ answer-demanded w p setting quiet a st is added
    ∙ ap (λ cs. Some (answer_of_contents w.script st cs)) (sym (contents-held e c contents bs held ∙ ap (map (content_of w p)) same))
