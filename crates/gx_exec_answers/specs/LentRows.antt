-- Partitions and rows that are lent.
use Rattle.std.specs.Prelude.{List, map, flat_map}
use Rattle.gx_rows.specs.Order.{Edge}
use Rattle.gx_rows.specs.declared.value.Value.{Value}
use Rattle.gx_rows.specs.declared.vid.Vid.{Vid}
use Rattle.gx_model.specs.Graphs.{Vertex}
use denote.Ref.{Bor}

-- the vertices of these partitions, one partition after another
abbrev pub vertices_in_parts : List (Bor (List Vertex)) → List Vertex
vertices_in_parts parts = flat_map (λ p. p.now) parts

-- the edges of these partitions, one partition after another
abbrev pub edges_in_parts : List (Bor (List Edge)) → List Edge
edges_in_parts parts = flat_map (λ p. p.now) parts

-- vertices whose rows are lent
abbrev pub vertices_lent : List (Vid × Bor (List Value)) → List Vertex
vertices_lent vertices = map (λ v. (v.0, v.1.now)) vertices
