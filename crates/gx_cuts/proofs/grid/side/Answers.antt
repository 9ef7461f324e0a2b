use Rattle.gx_cuts.specs.Sides.{IsSide-unique}
use Rattle.gx_cuts.proofs.SideLemmas.{IsSide-root, IsSide-grid_side}
use Rattle.gx_cuts.proofs.grid.side.Goals as goal

pub returns-clause-exact : goal.returns-clause-exact
returns-clause-exact c =
    IsSide-unique _ _ _ (IsSide-root _ _ c.requires c.root.ensures.square c.root.ensures.next_square) (IsSide-grid_side _ c.requires)
