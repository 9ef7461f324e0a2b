use Rattle.gx_rows.specs.Order.{value_cmp-total, row_cmp-total, edge_cmp-total}
use Rattle.gx_rows.proofs.Ties.{equal_values, equal_rows, equal_edges}
use Rattle.gx_rows.proofs.laws.order_is_total.Goals as goal

pub returns : goal.returns
returns c = record {
  values = value_cmp-total;
  rows = row_cmp-total;
  edges = edge_cmp-total;
  equal_values = equal_values;
  equal_rows = equal_rows;
  equal_edges = equal_edges;
}
