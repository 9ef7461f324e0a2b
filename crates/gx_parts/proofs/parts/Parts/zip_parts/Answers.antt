use Rattle.std.proofs.Common.{refl, arith}
use Rattle.std.proofs.lemmas.Slice.Zip.{length-zip}
use Rattle.gx_parts.proofs.Steps.{IsMappedTo-more, MappedBy-all, shared_values-push, slice_get-zip}
use Rattle.gx_parts.proofs.parts.Parts.zip_parts.Goals as goal

pub loop-i-preserved : goal.loop-i-preserved
loop-i-preserved g c =
    rw (shared_values-push _ _ _ _ c.in_ok-push.ensures.items c.in_ok-new.ensures.ok)
    (IsMappedTo-more (c.part.result.now, c.part-in-loop-i.result.now) c.in_ok-mapped.mapped c.loop-i.invariant
    (slice_get-zip c.args.self.now c.args.other.now c.loop-i.i _ _ c.part.ensures c.part-in-loop-i.ensures)
    (c.part.result, c.part-in-loop-i.result, refl, refl, c.in_ok-mapped.ensures))

pub returns-clause-mapped : goal.returns-clause-mapped
returns-clause-mapped g c =
    rw c.of.ensures (MappedBy-all c.loop-i.invariant (omega (arith, length-zip c.args.self.now c.args.other.now)))

pub returns-clause-len_kept : goal.returns-clause-len_kept
returns-clause-len_kept g c = rw c.of.ensures (omega (arith, c.loop-i.invariant.len))
