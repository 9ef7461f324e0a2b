use Rattle.std.proofs.Common.{◌≡◌, rules}
use Rattle.gx_vpart.proofs.Spreading.{HasSlots-thinned, masked_rows-thinned}
use Rattle.gx_vpart.proofs.vpart.VPart.pick.Goals as goal

pub invariant_of-result : goal.invariant_of-result
invariant_of-result c =
    let ids : c.in_ok-clone.field-0.value ≡ c.self.inside.index.value = search rules in
    let rows : c.in_ok-clone-2.field-0.value ≡ c.self.inside.rows.value = search rules in
    rw (c.in_ok-new.ensures.ok, c.in_ok-mask.ensures, c.as_ref.ensures, ids, rows) (HasSlots-thinned c.args.bools.now c.self.invariant)

pub returns : goal.returns
returns c =
    let ids : c.in_ok-clone.field-0.value ≡ c.self.inside.index.value = search rules in
    let rows : c.in_ok-clone-2.field-0.value ≡ c.self.inside.rows.value = search rules in
    rw (c.in_ok-new.ensures.ok, c.in_ok-mask.ensures, c.as_ref.ensures, ids, rows, ← c.self.view_is) (masked_rows-thinned c.self.inside.mask.value c.args.bools.now c.self.inside.index.value c.self.inside.rows.value)
