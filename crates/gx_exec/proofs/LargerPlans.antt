-- What a cluster holds and the turns that it took, under a plan that begins with the plan.
use Rattle.std.proofs.Common.{◌≡◌, ◌+◌, ◌<◌, List, [], ◌∷◌, length, sym, ap, ◌∙◌, subst, arith}
use Rattle.std.specs.Prelude.{All}
use Rattle.std.specs.List.{AllZip}
use Rattle.std.proofs.lemmas.List.{length-append}
use Rattle.std.proofs.lemmas.List.Elements.{All-weaker}
use Rattle.gx_cluster.specs.States.{State, shape}
use Rattle.gx_cluster.specs.StateLaws.{runs_in}
use Rattle.gx_cluster_state.specs.Nets.{net_of}
use Rattle.gx_cluster_state.specs.Runs.{Grows}
use Rattle.gx_cluster_state.specs.Turns.{Turns}
use Rattle.gx_cluster_state.specs.Turns.Turns.{ended}
use Rattle.gx_cluster_state.specs.declared.event.Event.{Event}
use Rattle.gx_cluster_state.specs.LargerNetLaws.{turns_up}
use Rattle.gx_lineage.specs.Lineage.{IsBlock, block_inputs}
use Rattle.gx_lineage.specs.declared.block_id.BlockId.{BlockId}
use Rattle.gx_plan.specs.PlanInvariant.{IsFrontOf}
use Rattle.gx_plan.specs.Plans.{Planned}
use Rattle.gx_plan.specs.FrontLaws.{front-inputs}
use Rattle.gx_exec_contents.specs.Worlds.{IsSetting, World}
use Rattle.gx_exec_contents.specs.GrownPlanLaws.{contents-kept}
use Rattle.gx_exec_work.specs.Works.{IsContentOf, PlannedWorld, cargo_in, freight_of, net_in}
use Rattle.gx_exec_work.specs.declared.block.Block.{Block}
use Rattle.gx_exec.specs.Engines.{HoldsWorkOf, point_of}
use Rattle.gx_exec.specs.Phases.{HasDemanded}

module _ (w : World) (p q : Planned) (setting : IsSetting w p) (front : IsFrontOf p q) where
  block-kept : (b : BlockId) → IsBlock p.lineage b → IsBlock q.lineage b
  block-kept b here = record {
    node = let long : length q.lineage.nodes ≡ length p.lineage.nodes + length front.more_nodes = ap length front.nodes ∙ length-append p.lineage.nodes front.more_nodes in omega (arith, here.node, long);
    part = subst (λ n. b.part < n) (sym front.parts) here.part;
  }

  pub net-grows : Grows (net_in w p) (net_in w q)
  net-grows = record {
    has = block-kept;
    inputs = λ b here. front-inputs p q front b here;
    closed = λ b c here is_in. setting.sound.blocks b c here is_in;
    freight = λ b here. ap cargo_in (contents-kept w p q setting front b here);
  }

  content-kept : (b : BlockId) (t : Block) → IsContentOf (record { world = w; planned = p }) b t → IsContentOf (record { world = w; planned = q }) b t
  content-kept b t is = record { block = block-kept b is.block; content = is.content ∙ sym (contents-kept w p q setting front b is.block) }

  contents-each : (bs : List BlockId) (ts : List Block) → AllZip (IsContentOf (record { world = w; planned = p })) bs ts → AllZip (IsContentOf (record { world = w; planned = q })) bs ts
  contents-each [] [] all = tt
  contents-each [] (t ∷ ts) all = all
  contents-each (b ∷ bs) [] all = all
  contents-each (b ∷ bs) (t ∷ ts) all = (content-kept b t all.0, contents-each bs ts all.1)

  pub work-kept : (c : State Block) → HoldsWorkOf (record { world = w; planned = p }) c → HoldsWorkOf (record { world = w; planned = q }) c
  work-kept c holds = record {
    held = λ b h at. content-kept b h.value (holds.held b h at);
    blocks = λ n r at. block-kept r.block (holds.blocks n r at);
    inputs = λ n r at. subst (λ bs. AllZip (IsContentOf (record { world = w; planned = q })) bs r.inputs) (sym (front-inputs p q front r.block (holds.blocks n r at)))
        (contents-each (block_inputs p.lineage r.block) r.inputs (holds.inputs n r at));
  }

-- ---- turns of a demand

module _ (e : PlannedWorld) (setting : IsSetting e.world e.planned) (targets : List BlockId) (inside : All (IsBlock e.planned.lineage) targets) where
  inside-kept : (q : Planned) → IsFrontOf e.planned q → All (IsBlock q.lineage) targets
  inside-kept q front = All-weaker (IsBlock e.planned.lineage) (IsBlock q.lineage) (block-kept e.world e.planned q setting front) targets inside

  pub none-demanded : (c : State Block) (es : List Event) → HasDemanded e targets (point_of c es) (point_of c es)
  none-demanded c es q front = record { inside = inside-kept q front; turns = ended }

  has-demanded-here : (old new : State Block) (left es : List Event) → HoldsWorkOf e old
      → Turns (net_of e.planned.lineage (freight_of e.world e.planned)) targets (shape new) left (shape old) es → HasDemanded e targets (point_of old es) (point_of new left)
  has-demanded-here old new left es contents turns q front = record {
    inside = inside-kept q front;
    turns = turns_up (net-grows e.world e.planned q setting front) inside
        (runs_in (IsContentOf e) e.planned.lineage (freight_of e.world e.planned) old contents) turns;
  }

-- the same, as the code has the plan and the targets
pub has-demanded : (e f : PlannedWorld) (setting : IsSetting e.world e.planned) (targets ts : List BlockId) (inside : All (IsBlock e.planned.lineage) targets) → f ≡ e → ts ≡ targets
    → (old new : State Block) (left es : List Event) → HoldsWorkOf e old
    → Turns (net_of f.planned.lineage (freight_of f.world f.planned)) ts (shape new) left (shape old) es → HasDemanded e targets (point_of old es) (point_of new left)
has-demanded e f setting targets ts inside same is old new left es contents turns =
    has-demanded-here e setting targets inside old new left es contents
    (subst (λ bs. Turns (net_of e.planned.lineage (freight_of e.world e.planned)) bs (shape new) left (shape old) es) is
    (subst (λ g. Turns (net_of g.planned.lineage (freight_of g.world g.planned)) ts (shape new) left (shape old) es) same turns))
