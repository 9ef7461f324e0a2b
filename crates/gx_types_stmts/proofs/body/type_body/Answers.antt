use Rattle.std.proofs.Common.{refl}
use Rattle.gx_types_stmts.proofs.PartBounds.{exprs-typable, program-typable, sets-typable}
use Rattle.gx_types_stmts.proofs.body.type_body.Goals as goal

pub type_map_vertices-requires : goal.type_map_vertices-requires
type_map_vertices-requires c = sets-typable _ _ c.in-MapVertices.sets c.in-MapVertices.is refl refl c.requires.typable c.requires.lists

pub type_map_edges-requires : goal.type_map_edges-requires
type_map_edges-requires c = sets-typable _ _ c.in-MapEdges.sets c.in-MapEdges.is refl refl c.requires.typable c.requires.lists

pub type_map_triplets-requires : goal.type_map_triplets-requires
type_map_triplets-requires c = sets-typable _ _ c.in-MapTriplets.sets c.in-MapTriplets.is refl refl c.requires.typable c.requires.lists

pub type_join_vertices-requires : goal.type_join_vertices-requires
type_join_vertices-requires c = sets-typable _ _ c.in-JoinVertices.sets c.in-JoinVertices.is refl refl c.requires.typable c.requires.lists

pub type_outer_join-requires : goal.type_outer_join-requires
type_outer_join-requires c = sets-typable _ _ c.in-OuterJoin.sets c.in-OuterJoin.is refl refl c.requires.typable c.requires.lists

pub type_map_values-requires : goal.type_map_values-requires
type_map_values-requires c = sets-typable _ _ c.in-MapValues.sets c.in-MapValues.is refl refl c.requires.typable c.requires.lists

pub type_inner_join-requires : goal.type_inner_join-requires
type_inner_join-requires c = sets-typable _ _ c.in-InnerJoin.sets c.in-InnerJoin.is refl refl c.requires.typable c.requires.lists

pub type_left_join-requires : goal.type_left_join-requires
type_left_join-requires c = sets-typable _ _ c.in-LeftJoin.sets c.in-LeftJoin.is refl refl c.requires.typable c.requires.lists

pub type_subgraph-requires : goal.type_subgraph-requires
type_subgraph-requires c = exprs-typable _ _ _ c.in-Subgraph.is refl c.requires.typable

pub type_aggregate-requires-clause-sends : goal.type_aggregate-requires-clause-sends
type_aggregate-requires-clause-sends c = exprs-typable _ _ _ c.in-Aggregate.is refl c.requires.typable

pub type_filter-requires : goal.type_filter-requires
type_filter-requires c = exprs-typable _ _ _ c.in-Filter.is refl c.requires.typable

pub type_pregel-requires-clause-exprs : goal.type_pregel-requires-clause-exprs
type_pregel-requires-clause-exprs c = program-typable _ _ _ _ c.in-Pregel.is refl c.requires.typable
