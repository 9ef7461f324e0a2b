use Rattle.std.proofs.Common.{◌≡◌, ◌≤◌, IsSome, subst, sym}
use Rattle.gx_exec_contents.specs.Worlds.{loaded_in}
use Rattle.gx_exec.specs.Engines.{action_answer}
use Rattle.gx_exec.proofs.ReadActions.{action-few, action-read}
use Rattle.gx_exec.proofs.engine.Engine.answer.Goals as goal

pub returns-clause-few : goal.returns-clause-few
returns-clause-few c =
    action-few c.run_action.new.self c.args.a c.in-Ok.blocks.items c.in-Ok.ensures.named
    (subst (λ w. IsSome (action_answer (loaded_in w) c.args.a)) (sym c.in-Ok.ensures.world_kept) c.requires.is_action)
    (subst (λ n. n ≤ 64) c.parts-few.ensures.count c.parts-few.ensures.within_limit) c.in-Ok.ensures.blocks

pub returns-clause-reads : goal.returns-clause-reads
returns-clause-reads c =
    action-read c.run_action.new.self c.run_action.new.cluster c.args.a c.in-Ok.blocks.items c.is_set.ensures c.in-Ok.ensures.steady_kept c.in-Ok.ensures.contents_kept
    c.in-Ok.ensures.named (subst (λ w. IsSome (action_answer (loaded_in w) c.args.a)) (sym c.in-Ok.ensures.world_kept) c.requires.is_action)
    c.in-Ok.ensures.held c.in-Ok.ensures.blocks
