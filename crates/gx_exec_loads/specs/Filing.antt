-- Loaded rows by part: which rows of a load are in each part, by their positions in it.
use Rattle.std.specs.Prelude.{◌≡◌, ℕ, pos, ◌+◌, ◌<◌, ◌%◌, ◌==◌, if◌then◌else◌, List, [], ◌∷◌, Some, length, get_or, slice_get, filter_map, refl}
use Rattle.gx_cuts.specs.Mixing.{mix_of}
use Rattle.gx_cuts.specs.Places.{place_of}
use Rattle.gx_rows.specs.declared.cut.Cut.{Cut}
use Rattle.gx_rows.specs.declared.cut.Cut.TheVariants.{Rows}
use Rattle.gx_exec_contents.specs.Worlds.{World}
use Rattle.gx_load.specs.Loading.{LoadedRow}
use Rattle.gx_model.specs.Graphs.{Vertex}
use Rattle.gx_plan.specs.StmtNodes.{statement_of}
use Rattle.gx_plan.specs.declared.kind.Kind.{Kind}
use Rattle.gx_plan.specs.declared.kind.Kind.TheVariants as kind
use Rattle.gx_types_stmts.specs.declared.checked_stmt.CheckedStmt.{CheckedStmt}
use Rattle.gx_types_stmts.specs.declared.typed_stmt.TypedStmt.{TypedStmt}
use Rattle.gx_types_stmts.specs.declared.typed_stmt.TypedStmt.TheVariants as stmts

-- what the rows of a load are: vertices, or else edges
abbrev pub kind_loaded : TypedStmt → Kind
kind_loaded (stmts.Vertices file) = kind.Vertices
kind_loaded _ = kind.Edges

-- the same by the number of the statement
abbrev pub kind_in : List CheckedStmt → ℕ → Kind
kind_in script s = kind_loaded (statement_of script s)

-- the part of a loaded row, by its position in the load: that of a vertex, or the place of an edge
abbrev pub part_of_row : Kind → Cut → ℕ → ℕ → LoadedRow → ℕ
part_of_row kind.Vertices cut parts n row = mix_of row.0.0 % parts
part_of_row kind.Edges cut parts n row = place_of cut parts row.0.0 row.1.0 n

-- the positions, from n on, of the rows that are in part i
abbrev pub positions_in_part : (ℕ → LoadedRow → ℕ) → ℕ → ℕ → List LoadedRow → List ℕ
positions_in_part part_of i n [] = []
positions_in_part part_of i n (row ∷ rows) =
    if part_of n row == i then n ∷ positions_in_part part_of i (n + 1) rows else positions_in_part part_of i (n + 1) rows

-- the items at these positions; none at a position past the end
abbrev pub items_at : {X : Type 0} → List X → List ℕ → List X
items_at items positions = filter_map (λ n. slice_get items n) positions

-- a loaded row as a vertex
abbrev pub vertex_of_row : LoadedRow → Vertex
vertex_of_row row = (row.0, row.2)

-- by part, the positions of the rows in it
pub record IsFiled (part_of : ℕ → LoadedRow → ℕ) (parts : ℕ) (rows : List LoadedRow) (lists : List (List ℕ)) : Type 0 where
  pub count : length lists ≡ parts
  pub positions : (i : ℕ) → i < parts → get_or lists i [] ≡ positions_in_part part_of i 0 rows

-- the rows of each load are filed
pub record AreFiled (w : World) (filed : List (List (List ℕ))) : Type 0 where
  pub count : length filed ≡ length w.loads
  pub each : (i s : ℕ) (rows : List LoadedRow) → slice_get w.loads i ≡ Some (s, rows)
      → IsFiled (part_of_row (kind_in w.script s) w.cut w.parts) w.parts rows (get_or filed i [])

-- ---- example: by their positions, the first and the third edge are in the first of two parts

example_edge : ℕ → LoadedRow
example_edge n = (record { 0 = pos n }, record { 0 = pos 0 }, [])

positions_in_part-example : positions_in_part (part_of_row kind.Edges Rows 2) 0 0 (example_edge 5 ∷ example_edge 6 ∷ example_edge 7 ∷ []) ≡ 0 ∷ 2 ∷ []
positions_in_part-example = refl

items_at-example : items_at {X = ℕ} (5 ∷ 6 ∷ 7 ∷ []) (0 ∷ 2 ∷ []) ≡ 5 ∷ 7 ∷ []
items_at-example = refl
