-- The names of a statement in text order, and what is counted in it: what the first three checks
-- look at.
--
-- To add a statement, add its line in `named_parts` and its arm in src/stmt_parts.rt.
use Rattle.std.specs.Prelude.{◌≡◌, ℕ, ℤ, pos, Option, None, Some, List, [], length, map, option_map}
use Rattle.std.specs.Prelude.{codes, refl}
use Rattle.gx_syntax_tree.specs.declared.stmt.Stmt.{Stmt}
use Rattle.gx_syntax_tree.specs.declared.stmt.Stmt.TheVariants as stmts
use Rattle.gx_types_clauses.specs.declared.column_list.ColumnList.{ColumnList}
use Rattle.gx_types_clauses.specs.declared.column_list.ColumnList.TheVariants as lists
use Rattle.gx_types_clauses.specs.declared.sort.Sort.{Sort}
use Rattle.gx_types_clauses.specs.declared.sort.Sort.TheVariants as sort
use Rattle.gx_types_clauses.specs.declared.stmt_parts.StmtParts.{StmtParts}
use Rattle.gx_types_clauses.specs.declared.stmt_parts.UsedName.{UsedName as LentName}

-- a name that is used, and what it has to stand for
pub record UsedName : Type 0 where
  pub name : List ℕ
  pub sort : Sort

abbrev pub used_table : List ℕ → UsedName
used_table name = record { name = name; sort = sort.Table }

abbrev pub used_edges : List ℕ → UsedName
used_edges name = record { name = name; sort = sort.Edges }

abbrev pub used_graph : List ℕ → UsedName
used_graph name = record { name = name; sort = sort.Graph }

pub record NamedParts : Type 0 where
  -- the name that it defines; an action has none
  pub new_name : Option (List ℕ)
  -- the names that it uses
  pub first : Option UsedName
  pub second : Option UsedName
  -- the names of its list of columns, and of those of a program after it
  pub columns : List (List ℕ)
  pub program : List (List ℕ)
  -- the number of its sends, and its rounds
  pub sends : ℕ
  pub rounds : ℤ

-- a statement that uses no name, one name, and two names
abbrev pub from_none : List ℕ → List (List ℕ) → NamedParts
from_none name columns = record {
  new_name = Some name;
  first = None;
  second = None;
  columns = columns;
  program = [];
  sends = 0;
  rounds = pos 0;
}

abbrev pub from_one : List ℕ → UsedName → List (List ℕ) → NamedParts
from_one name used columns = record (from_none name columns) { first = Some used }

abbrev pub from_two : List ℕ → UsedName → UsedName → List (List ℕ) → NamedParts
from_two name first second columns = record (from_one name first columns) { second = Some second }

-- an action on one name
abbrev pub on_one : UsedName → NamedParts
on_one used = record {
  new_name = None;
  first = Some used;
  second = None;
  columns = [];
  program = [];
  sends = 0;
  rounds = pos 0;
}

abbrev pub named_parts : Stmt → NamedParts
named_parts (stmts.Vertices name file cs) = from_none name (map (λ c. c.name) cs)
named_parts (stmts.Edges name file cs) = from_none name (map (λ c. c.name) cs)
named_parts (stmts.EdgeList name file o) = from_none name []
named_parts (stmts.Graph name vs es default) = from_two name (used_table vs) (used_edges es) []
named_parts (stmts.FromEdges name es row) = from_one name (used_edges es) (map (λ c. c.name) row)
named_parts (stmts.Reverse name g) = from_one name (used_graph g) []
named_parts (stmts.Mask name g by) = from_two name (used_graph g) (used_graph by) []
named_parts (stmts.Subgraph name g vs es) = from_one name (used_graph g) []
named_parts (stmts.GroupEdges name g ms) = from_one name (used_graph g) (map (λ m. m.name) ms)
named_parts (stmts.Partition name g cut) = from_one name (used_graph g) []
named_parts (stmts.MapVertices name g ss) = from_one name (used_graph g) (map (λ s. s.name) ss)
named_parts (stmts.MapEdges name g ss) = from_one name (used_graph g) (map (λ s. s.name) ss)
named_parts (stmts.MapTriplets name g ss) = from_one name (used_graph g) (map (λ s. s.name) ss)
named_parts (stmts.JoinVertices name g t ss) =
    from_two name (used_graph g) (used_table t) (map (λ s. s.name) ss)
named_parts (stmts.OuterJoin name g t default ss) =
    from_two name (used_graph g) (used_table t) (map (λ s. s.name) ss)
named_parts (stmts.Aggregate name g cs ms) =
    record (from_one name (used_graph g) (map (λ m. m.name) ms)) { sends = length cs }
named_parts (stmts.InDegrees name g) = from_one name (used_graph g) []
named_parts (stmts.OutDegrees name g) = from_one name (used_graph g) []
named_parts (stmts.Degrees name g) = from_one name (used_graph g) []
named_parts (stmts.Neighbours name g d) = from_one name (used_graph g) []
named_parts (stmts.Pregel name g rounds a ms initial program cs) =
    record (from_one name (used_graph g) (map (λ m. m.name) ms)) {
      program = map (λ s. s.name) program;
      sends = length cs;
      rounds = rounds;
    }
named_parts (stmts.Filter name t x) = from_one name (used_table t) []
named_parts (stmts.MapValues name t ss) = from_one name (used_table t) (map (λ s. s.name) ss)
named_parts (stmts.Minus name t u) = from_two name (used_table t) (used_table u) []
named_parts (stmts.Diff name t u) = from_two name (used_table t) (used_table u) []
named_parts (stmts.InnerJoin name t u ss) =
    from_two name (used_table t) (used_table u) (map (λ s. s.name) ss)
named_parts (stmts.LeftJoin name t u default ss) =
    from_two name (used_table t) (used_table u) (map (λ s. s.name) ss)
named_parts (stmts.PrintVertices g) = on_one (used_graph g)
named_parts (stmts.PrintEdges g) = on_one (used_graph g)
named_parts (stmts.PrintTriplets g) = on_one (used_graph g)
named_parts (stmts.PrintTable t) = on_one (used_table t)
named_parts (stmts.CountVertices g) = on_one (used_graph g)
named_parts (stmts.CountEdges g) = on_one (used_graph g)
named_parts (stmts.CountTable t) = on_one (used_table t)

-- ---- the same, as the code lends them

abbrev pub used_name : LentName → UsedName
used_name u = record { name = u.name.now; sort = u.sort }

abbrev pub list_names : ColumnList → List (List ℕ)
list_names lists.None = []
list_names (lists.Declared cs) = map (λ c. c.name) cs.now
list_names (lists.Computed cs) = map (λ c. c.name) cs.now
list_names (lists.Constant cs) = map (λ c. c.name) cs.now
list_names (lists.Merged cs) = map (λ c. c.name) cs.now

abbrev pub parts_record : StmtParts → NamedParts
parts_record p = record {
  new_name = option_map (λ s. s.now) p.name;
  first = option_map used_name p.first;
  second = option_map used_name p.second;
  columns = list_names p.columns;
  program = list_names p.program;
  sends = p.sends;
  rounds = p.rounds;
}

-- `minus t = s, u` defines `t` from two tables, and `print edges g` uses a graph
parts-named :
    (named_parts (stmts.Minus (codes "t") (codes "s") (codes "u"))
    ≡ from_two (codes "t") (used_table (codes "s")) (used_table (codes "u")) [])
    × ((named_parts (stmts.PrintEdges (codes "g"))).first ≡ Some (used_graph (codes "g")))
    × ((named_parts (stmts.PrintEdges (codes "g"))).new_name ≡ None)
parts-named = (refl, refl, refl)
