-- What is read from the blocks of an action is what the action prints.
use Rattle.std.proofs.Common.{◌≡◌, ℕ, ◌≤◌, List, [], ◌∷◌, Some, IsSome, true, flat_map, length, sym, subst}
use Rattle.std.specs.List.{AllByRecursion}
use Rattle.gx_cluster.specs.States.{State, shape}
use Rattle.gx_cluster_state.specs.Shapes.{all_held}
use Rattle.gx_exec_contents.specs.Worlds.{IsSetting, loaded_in, stmts_of}
use Rattle.gx_exec_reads.specs.Actions.{IsAction}
use Rattle.gx_exec_reads.specs.HeldAnswers.{answer_of_blocks, held_contents}
use Rattle.gx_exec_reads.specs.ActionRowLaws.{answer-from_blocks}
use Rattle.gx_exec_reads.specs.OneDemandLaws.{action-prints_at, blocks-of_action_few}
use Rattle.gx_exec_work.specs.Works.{PlannedWorld}
use Rattle.gx_exec_work.specs.declared.block.Block.{Block}
use Rattle.gx_lineage.specs.declared.block_id.BlockId.{BlockId}
use Rattle.gx_model.specs.ScriptMeaning.{plain_values}
use Rattle.gx_plan.specs.PlanInvariant.{IsFrontOf}
use Rattle.gx_plan.specs.Plans.{IsAdded, Planned, phases_of}
use Rattle.gx_plan.specs.StmtNodes.{statement_of}
use Rattle.gx_types_stmts.specs.StmtNumbers.{named_numbers}
use Rattle.gx_exec.specs.Courses.{targets_of}
use Rattle.gx_exec.specs.Engines.{HoldsWorkOf, IsSteady, MayForce, action_answer}

-- ---- a larger plan

all-added : (p q : Planned) (ss : List ℕ) → IsFrontOf p q → AllByRecursion (IsAdded p) ss → AllByRecursion (IsAdded q) ss
all-added p q [] front h = tt
all-added p q (s ∷ ss) front h = (front.added s h.0, all-added p q ss front h.1)

-- what may be forced may be forced in a larger plan
pub forced-later : (e f : PlannedWorld) (s : ℕ) → f.world ≡ e.world → IsFrontOf e.planned f.planned → MayForce e s → MayForce f s
forced-later e f s same front may = record {
  from_one = may.from_one;
  within = subst (λ w. s ≤ length w.script) (sym same) may.within;
  named = subst (λ w. AllByRecursion (IsAdded f.planned) (named_numbers (statement_of w.script s))) (sym same)
      (all-added e.planned f.planned (named_numbers (statement_of e.world.script s)) front may.named);
}

-- ---- the blocks of an action

action-of : (e : PlannedWorld) (a : ℕ) → MayForce e a → IsSome (action_answer (loaded_in e.world) a) → IsAction (statement_of e.world.script a)
action-of e a may is = action-prints_at e.world.script (plain_values (loaded_in e.world)) a may.from_one may.within is

pub action-read : (e : PlannedWorld) (c : State Block) (a : ℕ) (bs : List BlockId) → IsSetting e.world e.planned → IsSteady e → HoldsWorkOf e c → MayForce e a
    → IsSome (action_answer (loaded_in e.world) a) → all_held (shape c) bs ≡ true
    → bs ≡ targets_of e.world (flat_map (λ ns. ns) (phases_of e.world.script e.planned a))
    → action_answer (loaded_in e.world) a ≡ Some (answer_of_blocks e.world.script a (held_contents c.held bs))
action-read e c a bs setting steady contents may is held same =
    answer-from_blocks e c a bs setting steady.quiet contents may.from_one may.within (action-of e a may is) may.named held same

pub action-few : (e : PlannedWorld) (a : ℕ) (bs : List BlockId) → MayForce e a → IsSome (action_answer (loaded_in e.world) a) → e.world.parts ≤ 64
    → bs ≡ targets_of e.world (flat_map (λ ns. ns) (phases_of e.world.script e.planned a)) → length bs ≤ 128
action-few e a bs may is few same =
    blocks-of_action_few e.world.script e.planned e.world.parts a bs (action-of e a may is) few same
