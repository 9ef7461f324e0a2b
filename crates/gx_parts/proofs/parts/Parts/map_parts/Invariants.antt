use Rattle.gx_parts.specs.Calls.{MapStep}
use Rattle.gx_parts.specs.Shared.{shared_values}
use Rattle.gx_parts.proofs.Steps.{IsMappedTo}
use Rattle.gx_parts.proofs.parts.Parts.map_parts.Given as goal

-- each part so far is mapped
abbrev pub invariant-loop-i : goal.invariant-loop-i
invariant-loop-i g l = IsMappedTo (MapStep (goal.F-post g l.f)) l.self l.i (shared_values l.items.items)
