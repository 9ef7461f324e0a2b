-- Statements that are run, and those that are not run yet.
--
-- To have a statement run, delete its line from `is_built`, and turn its line in `is_run`.
use Rattle.std.specs.Prelude.{◌≡◌, ℕ, ◌+◌, Bool, true, false, if◌then◌else◌, None, Result, Ok, Err, List, [], ◌∷◌, codes, refl}
use Rattle.gx_syntax_tree.specs.declared.stmt.Stmt.{Stmt}
use Rattle.gx_syntax_tree.specs.declared.stmt.Stmt.TheVariants as stmts
use Rattle.gx_types.specs.declared.type_stop.TypeStop.{TypeStop}
use Rattle.gx_types.specs.declared.type_stop.TypeStop.TheVariants as stop
use Rattle.gx_types_exprs.specs.declared.type_kind.TypeKind.TheVariants as type_kind
use Rattle.gx_types_stmts.specs.declared.typed_stmt.TypedStmt.{TypedStmt}
use Rattle.gx_types_stmts.specs.declared.typed_stmt.TypedStmt.TheVariants as typed

-- a statement, as it is written
abbrev pub is_built : Stmt → Bool
is_built (stmts.Reverse name g) = false
is_built (stmts.Mask name g by) = false
is_built (stmts.Subgraph name g vs es) = false
is_built (stmts.GroupEdges name g ms) = false
is_built (stmts.MapEdges name g ss) = false
is_built (stmts.MapTriplets name g ss) = false
is_built (stmts.JoinVertices name g t ss) = false
is_built (stmts.OuterJoin name g t default ss) = false
is_built (stmts.Aggregate name g cs ms) = false
is_built (stmts.InDegrees name g) = false
is_built (stmts.OutDegrees name g) = false
is_built (stmts.Degrees name g) = false
is_built (stmts.Neighbours name g d) = false
is_built (stmts.Pregel name g rounds a ms initial program cs) = false
is_built (stmts.PrintTriplets g) = false
is_built _ = true

-- a statement, as it is run
abbrev pub is_run : TypedStmt → Bool
is_run (typed.Vertices file) = true
is_run (typed.Edges file) = true
is_run (typed.EdgeList file oriented) = true
is_run (typed.Graph t e default) = true
is_run (typed.FromEdges e row) = true
is_run (typed.Reverse g) = false
is_run (typed.Mask g by) = false
is_run (typed.Subgraph g vs es) = false
is_run (typed.GroupEdges g ms) = false
is_run (typed.Partition g cut) = true
is_run (typed.MapVertices g sets) = true
is_run (typed.MapEdges g sets) = false
is_run (typed.MapTriplets g sets) = false
is_run (typed.JoinVertices g t sets) = false
is_run (typed.OuterJoin g t default sets) = false
is_run (typed.Aggregate g sends ms n) = false
is_run (typed.Pregel g rounds active ms initial program sends n) = false
is_run (typed.Filter t condition) = true
is_run (typed.MapValues t sets) = true
is_run (typed.Minus t u) = true
is_run (typed.Diff t u) = true
is_run (typed.InnerJoin t u sets) = true
is_run (typed.LeftJoin t u default sets) = true
is_run (typed.PrintVertices g) = true
is_run (typed.PrintEdges g) = true
is_run (typed.PrintTriplets g) = false
is_run (typed.PrintTable t) = true
is_run (typed.CountVertices g) = true
is_run (typed.CountEdges g) = true
is_run (typed.CountTable t) = true

-- statements, numbered from a given number on
abbrev pub built_statements : ℕ → List Stmt → Result (Unit {0}) TypeStop
built_statements n [] = Ok tt
built_statements n (s ∷ rest) =
    if is_built s then built_statements (n + 1) rest else Err (stop.At n None type_kind.NotBuilt)

-- the first that is not run yet is named
unbuilt-named :
    built_statements 1 (stmts.PrintTable (codes "t") ∷ stmts.Reverse (codes "h") (codes "g")
    ∷ stmts.Reverse (codes "i") (codes "g") ∷ [])
    ≡ Err (stop.At 2 None type_kind.NotBuilt)
unbuilt-named = refl
