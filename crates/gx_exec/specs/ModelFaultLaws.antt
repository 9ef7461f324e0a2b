-- The first fault of a statement's own nodes is the model's fault of the statement.
use Rattle.std.proofs.Common.{◌≡◌, ℕ, option_map, ◌∙◌}
use Rattle.gx_model.specs.ScriptMeaning.{plain_values}
use Rattle.gx_model.specs.StmtFaults.{fault_of_stmt}
use Rattle.gx_types_stmts.specs.declared.typed_stmt.TypedStmt.{TypedStmt}
use Rattle.gx_plan.specs.Recipes.{recipe_of}
use Rattle.gx_plan.specs.StmtNodes.{own_kinds}
use Rattle.gx_exec_contents.specs.PartContents.{fault_kind, first_given}
use Rattle.gx_exec_contents.specs.PhaseFaults.{fault_of_stop}
use Rattle.gx_exec_contents.specs.Worlds.{World, loaded_in}
use Rattle.gx_exec_contents.specs.PartFaultLaws.{own-faults_are_of_model}
use Rattle.gx_exec_contents.specs.PlaceLaws.{faults-are_plain}

-- the first fault of a statement's own nodes is its fault, over values without places
pub model-fault : (w : World) (s : ℕ) (st : TypedStmt)
    → first_given (λ k. option_map (fault_of_stop s) (fault_kind w k (recipe_of k s) (λ g. g) st)) (own_kinds st) ≡ fault_of_stmt (plain_values (loaded_in w)) s st
model-fault w s st = own-faults_are_of_model w s st ∙ faults-are_plain w s st
