-- The values of a world without places are those of the plain model, and so are faults and answers.
use Rattle.std.specs.Prelude.{◌≡◌, ℕ, List}
use Rattle.gx_model.specs.ActionAnswers.{answer_of_stmt}
use Rattle.gx_model.specs.Graphs.{plain_edges, without_places}
use Rattle.gx_model.specs.ScriptMeaning.{plain_values}
use Rattle.gx_model.specs.StmtFaults.{fault_of_stmt}
use Rattle.gx_model.specs.Values.{value_named}
use Rattle.gx_types_stmts.specs.declared.checked_stmt.CheckedStmt.{CheckedStmt}
use Rattle.gx_types_stmts.specs.declared.typed_stmt.TypedStmt.{TypedStmt}
use Rattle.gx_exec_contents.specs.Worlds.{World, loaded_in, placed_values, value_in}

abbrev pub ValuesArePlain : Type 0
ValuesArePlain = (w : World) (s : ℕ) → without_places (value_in w s) ≡ value_named (plain_values (loaded_in w)) s

-- so a value has the vertices and the edges of the plain one
abbrev pub ListsArePlain : Type 0
ListsArePlain = (w : World) (s : ℕ)
    → ((value_in w s).vertices ≡ (value_named (plain_values (loaded_in w)) s).vertices)
    × (plain_edges (value_in w s).edges ≡ plain_edges (value_named (plain_values (loaded_in w)) s).edges)

abbrev pub FaultsArePlain : Type 0
FaultsArePlain = (w : World) (s : ℕ) (st : TypedStmt)
    → fault_of_stmt (placed_values w) s st ≡ fault_of_stmt (plain_values (loaded_in w)) s st

abbrev pub AnswersArePlain : Type 0
AnswersArePlain = (w : World) (checked : List CheckedStmt) (st : TypedStmt)
    → answer_of_stmt checked (placed_values w) st ≡ answer_of_stmt checked (plain_values (loaded_in w)) st
