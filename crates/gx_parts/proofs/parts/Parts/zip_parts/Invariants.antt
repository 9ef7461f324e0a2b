use Rattle.std.specs.Prelude.{zip}
use Rattle.gx_parts.specs.Calls.{ZipStep}
use Rattle.gx_parts.specs.Shared.{shared_values}
use Rattle.gx_parts.proofs.Steps.{IsMappedTo}
use Rattle.gx_parts.proofs.parts.Parts.zip_parts.Given as goal

-- each two parts so far are mapped
abbrev pub invariant-loop-i : goal.invariant-loop-i
invariant-loop-i g l = IsMappedTo (ZipStep (goal.F-post g l.f)) (zip l.self l.other) l.i (shared_values l.items.items)
