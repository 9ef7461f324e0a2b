use Rattle.gx_types.proofs.BoundedScripts.{bounded-are-typable}
use Rattle.gx_types.proofs.laws.parsed_scripts_are_typable.Goals as goal

pub returns : goal.returns
returns c = bounded-are-typable
