use Rattle.gx_cuts.proofs.SideLemmas.{IsSide-grid_side}
use Rattle.gx_cuts.proofs.Spread.{spread}
use Rattle.gx_cuts.proofs.grid.two_d_bound.Goals as goal

pub returns-clause-least_side : goal.returns-clause-least_side
returns-clause-least_side c = IsSide-grid_side _ c.requires

pub returns-clause-bounded : goal.returns-clause-bounded
returns-clause-bounded c = spread _ _ c.requires
