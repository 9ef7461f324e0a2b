use Rattle.std.proofs.Common.{arith}
use Rattle.std.proofs.lemmas.List.{length-map}
use Rattle.gx_cluster.specs.ShapeLaws.{running-shape}
use Rattle.gx_cluster.proofs.cluster.Cluster.first_busy.Goals as goal

pub returns : goal.returns
returns g c =
    rw (← c.self.view_is) (record {
      first = rw running-shape c.first_busy.ensures;
      workers = rw (running-shape, length-map) (omega (arith, c.len.ensures.count, c.len.ensures.nonzero));
    })
