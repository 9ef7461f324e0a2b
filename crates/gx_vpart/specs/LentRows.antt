-- Rows that are lent.
use Rattle.std.specs.Prelude.{List, map}
use Rattle.gx_rows.specs.declared.value.Value.{Value}
use Rattle.gx_rows.specs.declared.vid.Vid.{Vid}
use Rattle.gx_vpart.specs.Operators.{VertexRow}
use denote.Ref.{Bor}

-- vertices whose rows are lent
abbrev pub vertices_lent : List (Vid × Bor (List Value)) → List VertexRow
vertices_lent vertices = map (λ v. (v.0, v.1.now)) vertices
