-- Of which sort each statement makes a thing, and of which sorts those that it names have to be.
--
-- To add a statement, add its line in both tables.
use Rattle.std.specs.Prelude.{◌≡◌, ℕ, ◌-◌, ◌≤◌, Option, None, Some, List, [], ◌∷◌, map, option_and_then, slice_get, refl}
use Rattle.std.specs.List.{AllByRecursion}
use Rattle.gx_rows.specs.Columns.{Column}
use Rattle.gx_types_stmts.specs.StmtNumbers.{named_numbers}
use Rattle.gx_types_stmts.specs.declared.checked_stmt.CheckedStmt.{CheckedStmt}
use Rattle.gx_types_clauses.specs.declared.sort.Sort.{Sort}
use Rattle.gx_types_clauses.specs.declared.sort.Sort.TheVariants.{Table, Edges, Graph}
use Rattle.gx_types_stmts.specs.declared.typed_stmt.TypedStmt.{TypedStmt}
use Rattle.gx_types_stmts.specs.declared.typed_stmt.TypedStmt.TheVariants as typed

-- an action makes nothing
abbrev pub sort_made : TypedStmt → Option Sort
sort_made (typed.Vertices file) = Some Table
sort_made (typed.Edges file) = Some Edges
sort_made (typed.EdgeList file oriented) = Some Edges
sort_made (typed.Graph t e default) = Some Graph
sort_made (typed.FromEdges e row) = Some Graph
sort_made (typed.Reverse g) = Some Graph
sort_made (typed.Mask g by) = Some Graph
sort_made (typed.Subgraph g vs es) = Some Graph
sort_made (typed.GroupEdges g ms) = Some Graph
sort_made (typed.Partition g cut) = Some Graph
sort_made (typed.MapVertices g sets) = Some Graph
sort_made (typed.MapEdges g sets) = Some Graph
sort_made (typed.MapTriplets g sets) = Some Graph
sort_made (typed.JoinVertices g t sets) = Some Graph
sort_made (typed.OuterJoin g t default sets) = Some Graph
sort_made (typed.Aggregate g sends ms n) = Some Table
sort_made (typed.Pregel g rounds active ms initial program sends n) = Some Graph
sort_made (typed.Filter t condition) = Some Table
sort_made (typed.MapValues t sets) = Some Table
sort_made (typed.Minus t u) = Some Table
sort_made (typed.Diff t u) = Some Table
sort_made (typed.InnerJoin t u sets) = Some Table
sort_made (typed.LeftJoin t u default sets) = Some Table
sort_made (typed.PrintVertices g) = None
sort_made (typed.PrintEdges g) = None
sort_made (typed.PrintTriplets g) = None
sort_made (typed.PrintTable t) = None
sort_made (typed.CountVertices g) = None
sort_made (typed.CountEdges g) = None
sort_made (typed.CountTable t) = None

-- the sort of what has these columns, as its rows or vertices and as its edges
abbrev pub sort_of_types : Option (List Column) → Option (List Column) → Option Sort
sort_of_types (Some vs) None = Some Table
sort_of_types None (Some es) = Some Edges
sort_of_types (Some vs) (Some es) = Some Graph
sort_of_types None None = None

-- each statement that a statement names, with the sort that it has to make, in text order
abbrev pub named_sorts : TypedStmt → List (Sort × ℕ)
named_sorts (typed.Vertices file) = []
named_sorts (typed.Edges file) = []
named_sorts (typed.EdgeList file oriented) = []
named_sorts (typed.Graph t e default) = (Table, t) ∷ (Edges, e) ∷ []
named_sorts (typed.FromEdges e row) = (Edges, e) ∷ []
named_sorts (typed.Reverse g) = (Graph, g) ∷ []
named_sorts (typed.Mask g by) = (Graph, g) ∷ (Graph, by) ∷ []
named_sorts (typed.Subgraph g vs es) = (Graph, g) ∷ []
named_sorts (typed.GroupEdges g ms) = (Graph, g) ∷ []
named_sorts (typed.Partition g cut) = (Graph, g) ∷ []
named_sorts (typed.MapVertices g sets) = (Graph, g) ∷ []
named_sorts (typed.MapEdges g sets) = (Graph, g) ∷ []
named_sorts (typed.MapTriplets g sets) = (Graph, g) ∷ []
named_sorts (typed.JoinVertices g t sets) = (Graph, g) ∷ (Table, t) ∷ []
named_sorts (typed.OuterJoin g t default sets) = (Graph, g) ∷ (Table, t) ∷ []
named_sorts (typed.Aggregate g sends ms n) = (Graph, g) ∷ []
named_sorts (typed.Pregel g rounds active ms initial program sends n) = (Graph, g) ∷ []
named_sorts (typed.Filter t condition) = (Table, t) ∷ []
named_sorts (typed.MapValues t sets) = (Table, t) ∷ []
named_sorts (typed.Minus t u) = (Table, t) ∷ (Table, u) ∷ []
named_sorts (typed.Diff t u) = (Table, t) ∷ (Table, u) ∷ []
named_sorts (typed.InnerJoin t u sets) = (Table, t) ∷ (Table, u) ∷ []
named_sorts (typed.LeftJoin t u default sets) = (Table, t) ∷ (Table, u) ∷ []
named_sorts (typed.PrintVertices g) = (Graph, g) ∷ []
named_sorts (typed.PrintEdges g) = (Graph, g) ∷ []
named_sorts (typed.PrintTriplets g) = (Graph, g) ∷ []
named_sorts (typed.PrintTable t) = (Table, t) ∷ []
named_sorts (typed.CountVertices g) = (Graph, g) ∷ []
named_sorts (typed.CountEdges g) = (Graph, g) ∷ []
named_sorts (typed.CountTable t) = (Table, t) ∷ []

-- of which sort statement u, counted from 1, makes a thing
abbrev pub sort_of_number : List CheckedStmt → ℕ → Option Sort
sort_of_number ts u = option_and_then (λ c. sort_made c.stmt) (slice_get ts (u - 1))

-- one of the first so many statements makes a thing of this sort
pub record IsMadeWithin (ts : List CheckedStmt) (count : ℕ) (e : Sort × ℕ) : Type 0 where
  pub from_one : 1 ≤ e.1
  pub within : e.1 ≤ count
  pub made : sort_of_number ts e.1 ≡ Some e.0

-- each statement names earlier ones alone, which make things of the right sorts
abbrev pub HasNamedSorts : List CheckedStmt → Type 0
HasNamedSorts ts = (i : ℕ) (t : CheckedStmt) → slice_get ts i ≡ Some t → AllByRecursion (IsMadeWithin ts i) (named_sorts t.stmt)

-- `graph` names a table and edges, by the numbers that it uses
graph-sorts :
    (named_sorts (typed.Graph 1 2 []) ≡ (Table, 1) ∷ (Edges, 2) ∷ [])
    × (map (λ e. e.1) (named_sorts (typed.Graph 1 2 [])) ≡ named_numbers (typed.Graph 1 2 []))
    × (sort_made (typed.Graph 1 2 []) ≡ Some Graph) × (sort_made (typed.PrintVertices 3) ≡ None)
graph-sorts = (refl, refl, refl, refl)
