-- How the ends of edges are collected: an entry for each end of each edge, and then one entry for
-- each run of equal identifiers.
use Rattle.std.specs.Prelude.{true, false, cond, ◌||◌, List, [], ◌∷◌}
use Rattle.gx_rows.specs.declared.sides.Sides.{Sides}
use Rattle.gx_rows.specs.declared.vid.Vid.{Vid}
use Rattle.gx_index.specs.Ends.{End}
use Rattle.gx_index.specs.Ids.{is_same_id}

abbrev pub source_side : Sides
source_side = record { src = true; dst = false }

abbrev pub destination_side : Sides
destination_side = record { src = false; dst = true }

-- each source and each destination, with its one side
abbrev pub end_entries : List (Vid × Vid) → List End
end_entries [] = []
end_entries (e ∷ edges) = (e.0, source_side) ∷ (e.1, destination_side) ∷ end_entries edges

-- the sides of both
abbrev pub either_sides : Sides → Sides → Sides
either_sides a b = record { src = a.src || b.src; dst = a.dst || b.dst }

-- the entry, and those after it, one for each run of equal identifiers
abbrev pub merged_from : End → List End → List End
merged_from last [] = last ∷ []
merged_from last (e ∷ entries) =
    cond (is_same_id e.0 last.0) (merged_from (last.0, either_sides last.1 e.1) entries) (last ∷ merged_from e entries)

abbrev pub merged : List End → List End
merged [] = []
merged (e ∷ entries) = merged_from e entries
