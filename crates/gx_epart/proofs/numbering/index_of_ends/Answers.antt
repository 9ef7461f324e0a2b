use Rattle.std.proofs.Common.{All, subst, sym, ◌∙◌, refl}
use Rattle.std.proofs.lemmas.Result.{IfOk-weaker}
use Rattle.gx_index.specs.Ends.{IsSetOf}
use Rattle.gx_index.specs.Ids.{HasDistinctIds-from_ascending}
use Rattle.gx_epart.specs.Edges.{edges_lent, sources_and_destinations}
use Rattle.gx_epart.specs.Numbers.{HasKnownEnds}
use Rattle.gx_epart.proofs.Ends.{HasKnownEnds-set}
use Rattle.gx_epart.proofs.EndIds.{IsSetOf-same}
use Rattle.gx_epart.proofs.numbering.index_of_ends.Goals as goal

pub from_vec-requires-clause-distinct : goal.from_vec-requires-clause-distinct
from_vec-requires-clause-distinct c = HasDistinctIds-from_ascending _ c.in_ok-ids-2.ensures.ascending

pub returns-clause-exact : goal.returns-clause-exact
returns-clause-exact c =
    let ends = sources_and_destinations (edges_lent c.args.edges.now) in
    let known : IsSetOf ends c.in_ok-ids-2.ids.items = IsSetOf-same ends c.as_slice.result.now c.in_ok-ids-2.ids.items (rw c.as_slice.ensures.value c.in_ok-ids.ensures) c.in_ok-ids-2.ensures in
    IfOk-weaker c.from_vec.result _ (IsSetOf ends) (λ index same. subst (IsSetOf ends) (sym same) known) c.from_vec.ensures

pub returns-clause-all_ends : goal.returns-clause-all_ends
returns-clause-all_ends c =
    let ends = sources_and_destinations (edges_lent c.args.edges.now) in
    let known : IsSetOf ends c.in_ok-ids-2.ids.items = IsSetOf-same ends c.as_slice.result.now c.in_ok-ids-2.ids.items (rw c.as_slice.ensures.value c.in_ok-ids.ensures) c.in_ok-ids-2.ensures in
    let all : All (HasKnownEnds c.in_ok-ids-2.ids.items) (edges_lent c.args.edges.now) = HasKnownEnds-set ends c.in_ok-ids-2.ids.items (edges_lent c.args.edges.now) refl known in
    IfOk-weaker c.from_vec.result _ (λ ends. All (HasKnownEnds ends) (edges_lent c.args.edges.now))
    (λ index same. subst (λ ids. All (HasKnownEnds ids) (edges_lent c.args.edges.now)) (sym same) all) c.from_vec.ensures
