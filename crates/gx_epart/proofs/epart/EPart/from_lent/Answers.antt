use Rattle.std.proofs.Common.{◌≡◌, ◌∙◌, subst, sym, rules}
use Rattle.std.proofs.lemmas.Result.{IfOk-weaker}
use Rattle.gx_epart.specs.Edges.{IsEdgeOrderOf, edges_lent}
use Rattle.gx_epart.specs.Numbers.{edges_of_locals}
use Rattle.gx_epart.proofs.Lent.{HasEdges-copied, IsEdgeOrderOf-lent, edges-copied, few-ordered}
use Rattle.gx_epart.proofs.epart.EPart.from_lent.Goals as goal

pub index_of_ends-requires : goal.index_of_ends-requires
index_of_ends-requires c = rw (c.as_slice.ensures.value) c.in_ok-destinations.ensures

pub of_locals-requires : goal.of_locals-requires
of_locals-requires c =
    let given = c.args.edges.items in
    let sorted = c.sort_unstable.new.self.items in
    let same = c.sort_unstable.ensures.permutation in
    let slice = c.as_slice-ordered.ensures.value in
    rw (c.in_ok-new.ensures.ok, c.in_ok-rows.ensures.ok, c.as_slice-2.ensures.value)
    (HasEdges-copied c.in_ok-ends.ends (edges_lent sorted) c.in_ok-row_copies.field-0.items c.in_ok-locals.locals.items
    (rw slice at c.in_ok-row_copies.ensures) (rw slice at c.in_ok-locals.ensures.edges) (few-ordered given sorted same (search rules))
    (rw slice at c.in_ok-locals.ensures.in_range)
    (IsEdgeOrderOf-lent given sorted same c.sort_unstable.ensures.sorted).sorted (rw slice at c.in_ok-ends.ensures.exact))

pub returns : goal.returns
returns c =
    let given = c.args.edges.items in
    let sorted = c.sort_unstable.new.self.items in
    let slice = c.as_slice-ordered.ensures.value in
    let order = IsEdgeOrderOf-lent given sorted c.sort_unstable.ensures.permutation c.sort_unstable.ensures.sorted in
    let edges : edges_of_locals c.in_ok-new.field-0.value c.in_ok-rows.rows.value.items c.as_slice-2.result.now ≡ edges_lent sorted
    = rw (c.in_ok-new.ensures.ok, c.in_ok-rows.ensures.ok, c.as_slice-2.ensures.value)
    (edges-copied c.in_ok-ends.ends (edges_lent sorted) c.in_ok-row_copies.field-0.items c.in_ok-locals.locals.items
    (rw slice at c.in_ok-row_copies.ensures) (rw slice at c.in_ok-locals.ensures.edges)) in
    IfOk-weaker c.of_locals.result _ (IsEdgeOrderOf (edges_lent given))
    (λ part is. subst (IsEdgeOrderOf (edges_lent given)) (sym (is ∙ edges)) order) c.of_locals.ensures
