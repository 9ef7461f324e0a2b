use Rattle.gx_cluster.specs.ShapeLaws.{is_running-shape}
use Rattle.gx_cluster.proofs.cluster.Cluster.runs.Goals as goal

pub returns : goal.returns
returns g c = rw (← c.self.view_is) (rw is_running-shape c.runs.ensures)
