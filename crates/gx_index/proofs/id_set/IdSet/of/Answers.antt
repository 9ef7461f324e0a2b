use Rattle.std.proofs.Common.{◌∙◌, rules, subst, sym}
use Rattle.gx_index.specs.Ends.{IsSetOf}
use Rattle.gx_index.specs.Ids.{HasDistinctIds-from_ascending}
use Rattle.gx_index.proofs.Sets.{masked_ids-all}
use Rattle.gx_index.proofs.id_set.IdSet.of.Goals as goal

pub from_vec-requires-clause-distinct : goal.from_vec-requires-clause-distinct
from_vec-requires-clause-distinct c = HasDistinctIds-from_ascending _ c.in_ok-ids.ensures.ascending

pub returns : goal.returns
returns c =
    subst (IsSetOf c.args.ids.now) (sym (c.of_mask.ensures ∙ masked_ids-all c.len-2.result c.in_ok-ids.ids.items _ _ (search rules) c.in_ok-mask.ensures (c.in_ok-index.ensures.ok ∙ c.in_ok-from_vec.ensures))) c.in_ok-ids.ensures
