use Rattle.std.proofs.Common.{◌≡◌, refl}
use Rattle.gx_traverse.specs.Steps.{IsTraversal-then}
use Rattle.gx_vpart.specs.Operators.{picked}
use Rattle.gx_vpart.proofs.vpart.VPart.filter.Goals as goal

pub traverse_rows-requires : goal.traverse_rows-requires
traverse_rows-requires g c = rw c.rows.ensures.exact c.requires

pub returns : goal.returns
returns g c =
    rw c.rows.ensures.exact at
    (IsTraversal-then (λ bools new. new ≡ picked c.args.self.now bools) c.in_ok-pick.field-0 c.in_ok-bools.ensures (λ ys is. rw (c.in_ok-pick.ensures, c.as_slice.ensures.value, is) refl))
