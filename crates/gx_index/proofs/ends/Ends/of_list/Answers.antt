use Rattle.std.proofs.Common.{rules}
use Rattle.gx_index.specs.Ids.{HasDistinctIds-from_ascending}
use Rattle.gx_index.proofs.EndsBySlot.{zip-list}
use Rattle.gx_index.proofs.ends.Ends.of_list.Goals as goal

pub from_vec-requires-clause-distinct : goal.from_vec-requires-clause-distinct
from_vec-requires-clause-distinct c = rw c.in_ok-ids.ensures (HasDistinctIds-from_ascending _ c.requires)

pub returns : goal.returns
returns c = zip-list c.args.list.now _ _ (search rules) (search rules)
