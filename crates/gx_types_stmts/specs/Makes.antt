-- What a statement makes, and what a statement reads of what others made.
use Rattle.std.specs.Prelude.{◌≡◌, ℕ, Bool, true, false, ◌&&◌, None, Some, List, [], ◌∷◌, is_some}
use Rattle.std.specs.Prelude.{is_none, unwrap_or, codes, refl}
use Rattle.gx_rows.specs.Columns.{Column}
use Rattle.gx_rows.specs.declared.value.ValueKind.TheVariants as kind
use Rattle.gx_types_stmts.specs.declared.typed_body.TypedBody.{TypedBody}
use Rattle.gx_types_stmts.specs.declared.made.Made.{Made}
use Rattle.gx_types_stmts.specs.declared.operand.Operand.{Operand}
use Rattle.gx_types_clauses.specs.declared.sort.Sort.{Sort}
use Rattle.gx_types_clauses.specs.declared.sort.Sort.TheVariants as sort
use Rattle.gx_types_stmts.specs.declared.typed_stmt.TypedStmt.{TypedStmt}

abbrev pub table_made : List Column → Made
table_made rows = record { vertices = Some rows; edges = None }

abbrev pub edges_made : List Column → Made
edges_made edges = record { vertices = None; edges = Some edges }

abbrev pub graph_made : List Column → List Column → Made
graph_made vertices edges = record { vertices = Some vertices; edges = Some edges }

-- a table has vertices alone, an edge collection edges alone, and a graph both
abbrev pub is_of_sort : Sort → Made → Bool
is_of_sort sort.Table m = is_some m.vertices && is_none m.edges
is_of_sort sort.Edges m = is_none m.vertices && is_some m.edges
is_of_sort sort.Graph m = is_some m.vertices && is_some m.edges

-- ---- a statement with what it makes

abbrev pub table_stmt : TypedStmt → List Column → TypedBody
table_stmt s rows = record { stmt = s; made = table_made rows }

abbrev pub edges_stmt : TypedStmt → List Column → TypedBody
edges_stmt s edges = record { stmt = s; made = edges_made edges }

abbrev pub graph_stmt : TypedStmt → List Column → List Column → TypedBody
graph_stmt s vertices edges = record { stmt = s; made = graph_made vertices edges }

abbrev pub action_stmt : TypedStmt → TypedBody
action_stmt s = record { stmt = s; made = record { vertices = None; edges = None } }

-- ---- what a name in a statement stands for

-- the number of the statement that defines it, the columns of its rows or vertices, and those of
-- its edges; it has no columns where it has no rows
pub record OperandTypes : Type 0 where
  pub number : ℕ
  pub vertices : List Column
  pub edges : List Column

abbrev pub no_operand : OperandTypes
no_operand = record { number = 0; vertices = []; edges = [] }

abbrev pub operand_of : ℕ → Made → OperandTypes
operand_of number m =
    record { number = number; vertices = unwrap_or m.vertices []; edges = unwrap_or m.edges [] }

-- the same, as the code lends it
abbrev pub operand_types : Operand → OperandTypes
operand_types x = record { number = x.number; vertices = x.vertices.now; edges = x.edges.now }

-- a table is no graph, and has no edges
unfoldable pub example_table : List Column
example_table = (codes "a", kind.Int) ∷ []

table-sort : (is_of_sort sort.Table (table_made example_table) ≡ true)
    × (is_of_sort sort.Graph (table_made example_table) ≡ false)
    × (operand_of 3 (table_made example_table)
    ≡ record { number = 3; vertices = example_table; edges = [] })
unfolding example_table
table-sort = (refl, refl, refl)
