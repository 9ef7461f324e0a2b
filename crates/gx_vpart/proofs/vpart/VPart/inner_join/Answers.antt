use Rattle.gx_vpart.proofs.Pairs.{HasSlots-pairs, joined-pairs}
use Rattle.gx_vpart.proofs.vpart.VPart.inner_join.Goals as goal

pub map_pairs-requires : goal.map_pairs-requires
map_pairs-requires g c = rw (c.of-beside.ensures, c.rows.ensures.exact, c.rows-2.ensures.exact) c.requires

pub of_columns-requires : goal.of_columns-requires
of_columns-requires g c = HasSlots-pairs (rw c.as_ref.ensures at c.in_ok-bools.ensures) c.self.invariant

pub returns : goal.returns
returns g c =
    joined-pairs c.self.inside.index.value c.self.inside.rows.value c.args.self.now c.args.other.now c.in_ok-pick.field-0
    (rw (c.as_ref.ensures, c.of-beside.ensures, c.rows.ensures.exact, c.rows-2.ensures.exact) at c.in_ok-bools.ensures)
    c.self.invariant c.self.view_is
    (rw (c.in_ok-all.ensures, c.as_slice.ensures.value) at c.in_ok-pick.ensures)
