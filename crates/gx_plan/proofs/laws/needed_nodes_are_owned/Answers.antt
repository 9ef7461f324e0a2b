use Rattle.gx_plan.specs.SortedScriptLaws.{sorted-owned}
use Rattle.gx_plan.proofs.laws.needed_nodes_are_owned.Goals as goal

pub returns : goal.returns
returns c = sorted-owned
