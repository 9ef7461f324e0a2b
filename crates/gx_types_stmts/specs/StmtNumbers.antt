-- The numbers of the statements that a statement names.
--
-- To add a statement, add its line here.
use Rattle.std.specs.Prelude.{◌≡◌, ℕ, Option, None, Some, List, [], ◌∷◌, codes, refl}
use Rattle.gx_types_stmts.specs.Makes.{OperandTypes}
use Rattle.gx_types_clauses.specs.NamedParts.{UsedName}
use Rattle.gx_types_stmts.specs.declared.typed_stmt.TypedStmt.{TypedStmt}
use Rattle.gx_types_stmts.specs.declared.typed_stmt.TypedStmt.TheVariants as typed

-- in text order
abbrev pub named_numbers : TypedStmt → List ℕ
named_numbers (typed.Vertices file) = []
named_numbers (typed.Edges file) = []
named_numbers (typed.EdgeList file o) = []
named_numbers (typed.Graph vs es row) = vs ∷ es ∷ []
named_numbers (typed.FromEdges es row) = es ∷ []
named_numbers (typed.Reverse g) = g ∷ []
named_numbers (typed.Mask g h) = g ∷ h ∷ []
named_numbers (typed.Subgraph g vs es) = g ∷ []
named_numbers (typed.GroupEdges g ms) = g ∷ []
named_numbers (typed.Partition g cut) = g ∷ []
named_numbers (typed.MapVertices g xs) = g ∷ []
named_numbers (typed.MapEdges g xs) = g ∷ []
named_numbers (typed.MapTriplets g xs) = g ∷ []
named_numbers (typed.JoinVertices g t xs) = g ∷ t ∷ []
named_numbers (typed.OuterJoin g t row xs) = g ∷ t ∷ []
named_numbers (typed.Aggregate g ss ms n) = g ∷ []
named_numbers (typed.Pregel g r w ms row xs ss n) = g ∷ []
named_numbers (typed.Filter t x) = t ∷ []
named_numbers (typed.MapValues t xs) = t ∷ []
named_numbers (typed.Minus t u) = t ∷ u ∷ []
named_numbers (typed.Diff t u) = t ∷ u ∷ []
named_numbers (typed.InnerJoin t u xs) = t ∷ u ∷ []
named_numbers (typed.LeftJoin t u row xs) = t ∷ u ∷ []
named_numbers (typed.PrintVertices g) = g ∷ []
named_numbers (typed.PrintEdges g) = g ∷ []
named_numbers (typed.PrintTriplets g) = g ∷ []
named_numbers (typed.PrintTable t) = t ∷ []
named_numbers (typed.CountVertices g) = g ∷ []
named_numbers (typed.CountEdges g) = g ∷ []
named_numbers (typed.CountTable t) = t ∷ []

-- the number of what a name stands for, if one is used
abbrev pub number_if_used : Option UsedName → OperandTypes → List ℕ
number_if_used None a = []
number_if_used (Some u) a = a.number ∷ []

-- `mask` names two graphs, and a load names none
numbers-named :
    (named_numbers (typed.Mask 4 2) ≡ 4 ∷ 2 ∷ []) × (named_numbers (typed.Edges (codes "f")) ≡ [])
numbers-named = (refl, refl)
