use Rattle.gx_cluster.specs.ShapeLaws.{running-shape}
use Rattle.gx_cluster.proofs.cluster.Cluster.first_idle.Goals as goal

pub returns : goal.returns
returns g c = rw (← c.self.view_is) (rw running-shape c.first_idle.ensures)
