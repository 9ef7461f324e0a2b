use Rattle.std.proofs.Common.{[], ap, length, sym}
use Rattle.gx_vpart.proofs.Mapping.{HasSlots-traversal, IsTraversal-spread}
use Rattle.gx_vpart.proofs.vpart.VPart.map.Goals as goal

pub map_rows-requires : goal.map_rows-requires
map_rows-requires g c = rw c.rows.ensures.exact c.requires

pub of_columns-requires : goal.of_columns-requires
of_columns-requires g c = HasSlots-traversal [] (rw c.as_ref.ensures at c.in_ok-rows.ensures) c.self.invariant

pub returns : goal.returns
returns g c =
    let traversal = rw (c.as_ref.ensures, c.rows.ensures.exact) at c.in_ok-rows.ensures in
    rw c.self.view_is at
    (IsTraversal-spread [] c.self.inside.index.value c.self.inside.rows.value c.in_ok-of_columns.field-0 traversal c.self.invariant (ap length (sym c.self.view_is)) c.in_ok-of_columns.ensures)
