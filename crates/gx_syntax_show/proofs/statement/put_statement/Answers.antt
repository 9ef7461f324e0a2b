-- Each arm writes the pieces of its statement: the callee's clause, with the statement in place of its parts.
use Rattle.std.proofs.Common.{arith}
use Rattle.gx_syntax_show.proofs.PiecesLemmas.{pieces_append}
use Rattle.gx_syntax_show.proofs.statement.put_statement.Goals as goal

pub returns-in-Vertices : goal.returns-in-Vertices
returns-in-Vertices c = rw c.in-Vertices.is c.put_load.ensures

pub returns-in-Edges : goal.returns-in-Edges
returns-in-Edges c = rw c.in-Edges.is c.put_load-in-Edges.ensures

pub returns-in-EdgeList : goal.returns-in-EdgeList
returns-in-EdgeList c = rw c.in-EdgeList.is c.put_edge_list.ensures

pub returns-in-Graph : goal.returns-in-Graph
returns-in-Graph c = rw c.in-Graph.is c.put_default.ensures

pub returns-in-FromEdges : goal.returns-in-FromEdges
returns-in-FromEdges c = rw c.in-FromEdges.is c.put_from_edges.ensures

pub returns-in-Reverse : goal.returns-in-Reverse
returns-in-Reverse c = rw c.in-Reverse.is c.put_derived.ensures

pub returns-in-Mask : goal.returns-in-Mask
returns-in-Mask c = rw c.in-Mask.is (grind (arith))

pub returns-in-Subgraph : goal.returns-in-Subgraph
returns-in-Subgraph c = rw c.in-Subgraph.is c.put_subgraph.ensures

pub returns-in-GroupEdges : goal.returns-in-GroupEdges
returns-in-GroupEdges c = rw c.in-GroupEdges.is c.put_group_edges.ensures

pub returns-in-Partition : goal.returns-in-Partition
returns-in-Partition c = rw (c.in-Partition.is, ← c.cut_word.ensures) c.put_by-in-Partition.ensures

pub returns-in-MapVertices : goal.returns-in-MapVertices
returns-in-MapVertices c = rw c.in-MapVertices.is c.put_map.ensures

pub returns-in-MapEdges : goal.returns-in-MapEdges
returns-in-MapEdges c = rw c.in-MapEdges.is c.put_map-in-MapEdges.ensures

pub returns-in-MapTriplets : goal.returns-in-MapTriplets
returns-in-MapTriplets c = rw c.in-MapTriplets.is c.put_map-in-MapTriplets.ensures

pub returns-in-JoinVertices : goal.returns-in-JoinVertices
returns-in-JoinVertices c = rw c.in-JoinVertices.is c.put_join.ensures

pub returns-in-OuterJoin : goal.returns-in-OuterJoin
returns-in-OuterJoin c = rw c.in-OuterJoin.is c.put_outer_join.ensures

pub returns-in-Aggregate : goal.returns-in-Aggregate
returns-in-Aggregate c = rw c.in-Aggregate.is c.put_aggregate.ensures

pub returns-in-InDegrees : goal.returns-in-InDegrees
returns-in-InDegrees c = rw c.in-InDegrees.is c.put_derived-in-InDegrees.ensures

pub returns-in-OutDegrees : goal.returns-in-OutDegrees
returns-in-OutDegrees c = rw c.in-OutDegrees.is c.put_derived-in-OutDegrees.ensures

pub returns-in-Degrees : goal.returns-in-Degrees
returns-in-Degrees c = rw c.in-Degrees.is c.put_derived-in-Degrees.ensures

pub returns-in-Neighbours : goal.returns-in-Neighbours
returns-in-Neighbours c = rw c.in-Neighbours.is c.put_neighbours.ensures

pub returns-in_ok-put_rounds-in-Pregel : goal.returns-in_ok-put_rounds-in-Pregel
returns-in_ok-put_rounds-in-Pregel c = rw c.in-Pregel.is (grind (arith, pieces_append))

pub returns-in-Filter : goal.returns-in-Filter
returns-in-Filter c = rw c.in-Filter.is c.put_filter.ensures

pub returns-in-MapValues : goal.returns-in-MapValues
returns-in-MapValues c = rw c.in-MapValues.is c.put_map-in-MapValues.ensures

pub returns-in-Minus : goal.returns-in-Minus
returns-in-Minus c = rw c.in-Minus.is c.put_pair.ensures

pub returns-in-Diff : goal.returns-in-Diff
returns-in-Diff c = rw c.in-Diff.is c.put_pair-in-Diff.ensures

pub returns-in-InnerJoin : goal.returns-in-InnerJoin
returns-in-InnerJoin c = rw c.in-InnerJoin.is c.put_join-in-InnerJoin.ensures

pub returns-in-LeftJoin : goal.returns-in-LeftJoin
returns-in-LeftJoin c = rw c.in-LeftJoin.is c.put_outer_join-in-LeftJoin.ensures

pub returns-in-PrintVertices : goal.returns-in-PrintVertices
returns-in-PrintVertices c = rw c.in-PrintVertices.is c.put_action.ensures

pub returns-in-PrintEdges : goal.returns-in-PrintEdges
returns-in-PrintEdges c = rw c.in-PrintEdges.is c.put_action-in-PrintEdges.ensures

pub returns-in-PrintTriplets : goal.returns-in-PrintTriplets
returns-in-PrintTriplets c = rw c.in-PrintTriplets.is c.put_action-in-PrintTriplets.ensures

pub returns-in-PrintTable : goal.returns-in-PrintTable
returns-in-PrintTable c = rw c.in-PrintTable.is c.put_action-in-PrintTable.ensures

pub returns-in-CountVertices : goal.returns-in-CountVertices
returns-in-CountVertices c = rw c.in-CountVertices.is c.put_action-in-CountVertices.ensures

pub returns-in-CountEdges : goal.returns-in-CountEdges
returns-in-CountEdges c = rw c.in-CountEdges.is c.put_action-in-CountEdges.ensures

pub returns-in-CountTable : goal.returns-in-CountTable
returns-in-CountTable c = rw c.in-CountTable.is c.put_action-in-CountTable.ensures
