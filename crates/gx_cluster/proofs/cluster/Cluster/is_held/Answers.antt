use Rattle.gx_cluster.specs.ShapeLaws.{is_held-shape}
use Rattle.gx_cluster.proofs.cluster.Cluster.is_held.Goals as goal

pub returns : goal.returns
returns g c = rw (← c.self.view_is) (rw is_held-shape c.contains_key.ensures)
