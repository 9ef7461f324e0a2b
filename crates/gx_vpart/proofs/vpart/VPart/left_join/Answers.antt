use Rattle.std.proofs.Common.{[]}
use Rattle.std.proofs.lemmas.List.{length-map}
use Rattle.gx_vpart.proofs.Mapping.{HasSlots-traversal, IsTraversal-spread}
use Rattle.gx_vpart.proofs.vpart.VPart.left_join.Goals as goal

pub map_beside-requires : goal.map_beside-requires
map_beside-requires g c = rw (c.of-beside.ensures, c.rows.ensures.exact, c.rows-2.ensures.exact) c.requires

pub of_columns-requires : goal.of_columns-requires
of_columns-requires g c = HasSlots-traversal [] (rw c.as_ref.ensures at c.in_ok-rows.ensures) c.self.invariant

pub returns : goal.returns
returns g c =
    let traversal = rw (c.as_ref.ensures, c.of-beside.ensures, c.rows.ensures.exact, c.rows-2.ensures.exact) at c.in_ok-rows.ensures in
    rw c.self.view_is at
    (IsTraversal-spread [] c.self.inside.index.value c.self.inside.rows.value c.in_ok-of_columns.field-0 traversal c.self.invariant (rw c.self.view_is (length-map _ _)) c.in_ok-of_columns.ensures)
