-- The order of the vertices of several partitions.
use Rattle.std.specs.Prelude.{◌≡◌, pos, cond, List, [], ◌∷◌, refl}
use Rattle.std.specs.Ordering.{is_lt}
use Rattle.gx_rows.specs.declared.value.Value.TheVariants.{Int}
use Rattle.gx_index.specs.Ids.{id_cmp}
use Rattle.gx_model.specs.Graphs.{Vertex}

-- the list with one more vertex, before the first whose identifier is not less
abbrev pub with_vertex : Vertex → List Vertex → List Vertex
with_vertex v [] = v ∷ []
with_vertex v (w ∷ vertices) = cond (is_lt (id_cmp w.0 v.0)) (w ∷ with_vertex v vertices) (v ∷ w ∷ vertices)

-- the vertices by identifier; those of one identifier keep their order
abbrev pub id_order_of : List Vertex → List Vertex
id_order_of [] = []
id_order_of (v ∷ vertices) = with_vertex v (id_order_of vertices)

-- ---- examples

-- the vertices 1 and 3 of a partition, and 2 and again 1 of another
id_order_of-example : id_order_of ((record { 0 = pos 1 }, Int (pos 6) ∷ []) ∷ (record { 0 = pos 3 }, []) ∷ (record { 0 = pos 1 }, Int (pos 5) ∷ []) ∷ (record { 0 = pos 2 }, []) ∷ [])
    ≡ (record { 0 = pos 1 }, Int (pos 6) ∷ []) ∷ (record { 0 = pos 1 }, Int (pos 5) ∷ []) ∷ (record { 0 = pos 2 }, []) ∷ (record { 0 = pos 3 }, []) ∷ []
id_order_of-example = refl
