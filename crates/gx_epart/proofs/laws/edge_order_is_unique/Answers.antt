use Rattle.gx_epart.specs.UniqueLaws.{IsEdgeOrderOf-unique}
use Rattle.gx_epart.proofs.laws.edge_order_is_unique.Goals as goal

pub returns : goal.returns
returns c = IsEdgeOrderOf-unique c.order_is_total.ensures.equal_edges
