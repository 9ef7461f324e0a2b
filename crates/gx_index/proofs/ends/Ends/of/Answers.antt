use Rattle.std.proofs.Common.{subst, sym, ◌∙◌}
use Rattle.std.proofs.lemmas.Result.{IfOk-weaker}
use Rattle.gx_index.specs.Ends.{IsEndsOf}
use Rattle.gx_index.proofs.Merging.{IsEndsOf-merged}
use Rattle.gx_index.proofs.ends.Ends.of.Goals as goal

pub of_list-requires : goal.of_list-requires
of_list-requires c =
    rw (c.as_slice-2.ensures.value, c.in_ok-list.ensures, c.as_slice.ensures.value) (IsEndsOf-merged _ _ c.in_ok-entries.ensures.same c.in_ok-entries.ensures.sorted).ascending

pub returns : goal.returns
returns c =
    let ends = IsEndsOf-merged _ _ c.in_ok-entries.ensures.same c.in_ok-entries.ensures.sorted in
    let list = rw c.as_slice.ensures.value at c.in_ok-list.ensures in
    IfOk-weaker c.of_list.result _ (IsEndsOf c.args.edges.now)
    (λ e same. subst (IsEndsOf c.args.edges.now) (sym (same ∙ c.as_slice-2.ensures.value ∙ list)) ends) c.of_list.ensures
