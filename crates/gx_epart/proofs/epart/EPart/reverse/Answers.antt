use Rattle.std.proofs.Common.{◌≡◌, ◌∙◌, map, refl, sym, subst, ap, rules}
use Rattle.std.specs.Map.{keys_of}
use Rattle.std.proofs.lemmas.List.Sorted.{answers_always}
use Rattle.std.proofs.lemmas.Result.{IfOk-weaker}
use Rattle.gx_epart.specs.Edges.{IsEdgeOrderOf, reversed_edges}
use Rattle.gx_epart.specs.Numbers.{edges_of_locals, reversed_local}
use Rattle.gx_epart.proofs.Derived.{HasEdges-ends, HasEdges-reversed, edges-reversed}
use Rattle.gx_epart.proofs.epart.EPart.reverse.Goals as goal

pub of_locals-requires : goal.of_locals-requires
of_locals-requires c =
    let p = c.self.inside in
    let turned : c.in_ok-edges.edges.items ≡ map reversed_local p.edges = c.in_ok-edges.ensures ∙ ap (map reversed_local) (c.as_slice.ensures.value ∙ c.in_ok-locals.ensures) in
    rw (c.in_ok-index.ensures.cases, c.index.ensures.exact, c.in_ok-rows.ensures.cases, c.as_slice-2.ensures.value)
    (HasEdges-reversed (keys_of p.ends) p.rows.value.items p.edges (HasEdges-ends p.ends p.rows.value.items p.edges c.self.invariant) c.sort_by_key.new.self.items
    (rw turned at c.sort_by_key.ensures.permutation)
    (c.in_ok-sort_by_key.ensures.sorted (λ e. (e.src, e.dst)) (answers_always _ _ _ (λ f a r q k. search rules)))
    (rw turned at (c.sort_by_key.ensures.stable (λ e. (e.src, e.dst)) (answers_always _ _ _ (λ f a r q k. search rules)))))

pub returns : goal.returns
returns c =
    let p = c.self.inside in
    let turned : c.in_ok-edges.edges.items ≡ map reversed_local p.edges = c.in_ok-edges.ensures ∙ ap (map reversed_local) (c.as_slice.ensures.value ∙ c.in_ok-locals.ensures) in
    let order = edges-reversed (keys_of p.ends) p.rows.value.items p.edges (HasEdges-ends p.ends p.rows.value.items p.edges c.self.invariant) c.sort_by_key.new.self.items
    (rw turned at c.sort_by_key.ensures.permutation)
    (c.in_ok-sort_by_key.ensures.sorted (λ e. (e.src, e.dst)) (answers_always _ _ _ (λ f a r q k. search rules)))
    (rw turned at (c.sort_by_key.ensures.stable (λ e. (e.src, e.dst)) (answers_always _ _ _ (λ f a r q k. search rules))))
    c.args.self.now c.self.view_is in
    let same : edges_of_locals c.in_ok-index.index.value c.in_ok-rows.rows.value.items c.as_slice-2.result.now ≡ edges_of_locals (keys_of p.ends) p.rows.value.items c.sort_by_key.new.self.items
    = rw (c.in_ok-index.ensures.cases, c.index.ensures.exact, c.in_ok-rows.ensures.cases, c.as_slice-2.ensures.value) refl in
    IfOk-weaker c.of_locals.result _ (IsEdgeOrderOf (reversed_edges c.args.self.now))
    (λ part is. subst (IsEdgeOrderOf (reversed_edges c.args.self.now)) (sym (is ∙ same)) order) c.of_locals.ensures
