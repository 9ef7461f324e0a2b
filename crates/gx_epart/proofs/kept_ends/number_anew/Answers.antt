use Rattle.std.proofs.Common.{◌≡◌, ◌≤◌, ◌∙◌, All, length, ap, sym, subst, rules}
use Rattle.gx_index.specs.Ids.{HasDistinctIds-from_ascending}
use Rattle.gx_epart.specs.Renumbering.{HasNumbers, marked_by}
use Rattle.gx_epart.proofs.Renumbering.{IsAscending-masked_ids, length-left, length-marked_by, length-numbers_anew}
use Rattle.gx_epart.proofs.kept_ends.number_anew.Goals as goal

pub left_ids-requires-clause-one_mark_each : goal.left_ids-requires-clause-one_mark_each
left_ids-requires-clause-one_mark_each c =
    ap length (c.as_slice.ensures.value ∙ c.in_ok-marks.ensures) ∙ length-marked_by (length c.args.ids.now) c.args.edges.now

pub with_numbers-requires : goal.with_numbers-requires
with_numbers-requires c =
    let count : length c.as_slice-2.result.now ≡ length c.args.ids.now
    = ap length (c.as_slice-2.ensures.value ∙ c.in_ok-left.ensures.numbers) ∙ length-numbers_anew 0 c.as_slice.result.now
    ∙ ap length (c.as_slice.ensures.value ∙ c.in_ok-marks.ensures) ∙ length-marked_by (length c.args.ids.now) c.args.edges.now in
    subst (λ n. All (HasNumbers n) c.args.edges.now) (sym count) c.requires.in_range

pub from_vec-requires-clause-few : goal.from_vec-requires-clause-few
from_vec-requires-clause-few c =
    let few : length c.in_ok-left.left.items ≤ length c.args.ids.now = rw c.in_ok-left.ensures.ids (length-left c.as_slice.result.now c.args.ids.now) in
    let less = c.requires.few in
    search (rules, few, less)

pub from_vec-requires-clause-distinct : goal.from_vec-requires-clause-distinct
from_vec-requires-clause-distinct c = rw c.in_ok-left.ensures.ids (HasDistinctIds-from_ascending _ (IsAscending-masked_ids c.as_slice.result.now c.args.ids.now c.requires.ascending))
