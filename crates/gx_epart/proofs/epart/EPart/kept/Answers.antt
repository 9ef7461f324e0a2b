use Rattle.std.proofs.Common.{◌≡◌, ◌∙◌, List, ap}
use Rattle.std.specs.Map.{keys_of}
use Rattle.std.proofs.lemmas.Result.{IfOk-weaker}
use Rattle.gx_epart.specs.Edges.{edges_kept}
use Rattle.gx_epart.specs.Numbers.{HasEdges}
use Rattle.gx_epart.proofs.Derived.{HasEdges-ends, HasEdges-left, edges-left, numbers-left}
use Rattle.gx_epart.proofs.epart.EPart.kept.Goals as goal

pub number_anew-requires-clause-in_range : goal.number_anew-requires-clause-in_range
number_anew-requires-clause-in_range c =
    let p = c.self.inside in
    let kept : c.as_slice-2.result.now ≡ edges_kept p.edges c.args.keeps.now
    = c.as_slice-2.ensures.value ∙ c.in_ok-edges.ensures ∙ ap (λ es. edges_kept es c.args.keeps.now) (c.as_slice.ensures.value ∙ c.in_ok-locals.ensures) in
    numbers-left (keys_of p.ends) p.rows.value.items p.edges (HasEdges-ends p.ends p.rows.value.items p.edges c.self.invariant) c.args.keeps.now c.as_slice-2.result.now kept c.ids.result.now c.ids.ensures.exact

pub of_locals-requires : goal.of_locals-requires
of_locals-requires c =
    let p = c.self.inside in
    let kept : c.as_slice-2.result.now ≡ edges_kept p.edges c.args.keeps.now
    = c.as_slice-2.ensures.value ∙ c.in_ok-edges.ensures ∙ ap (λ es. edges_kept es c.args.keeps.now) (c.as_slice.ensures.value ∙ c.in_ok-locals.ensures) in
    HasEdges-left (keys_of p.ends) p.rows.value.items p.edges (HasEdges-ends p.ends p.rows.value.items p.edges c.self.invariant) c.args.keeps.now c.as_slice-2.result.now kept c.ids.result.now
    c.in_ok-new.field-0.value c.in_ok-rows.rows.value.items c.as_slice-3.result.now c.ids.ensures.exact (ap (λ rs. rs.items) c.in_ok-rows.ensures.cases)
    (c.in_ok-new.ensures.ok ∙ c.in_ok-ids.ensures.ids) (c.as_slice-3.ensures.value ∙ c.in_ok-ids.ensures.edges)

pub returns : goal.returns
returns c =
    let p = c.self.inside in
    let kept : c.as_slice-2.result.now ≡ edges_kept p.edges c.args.keeps.now
    = c.as_slice-2.ensures.value ∙ c.in_ok-edges.ensures ∙ ap (λ es. edges_kept es c.args.keeps.now) (c.as_slice.ensures.value ∙ c.in_ok-locals.ensures) in
    let left = edges-left (keys_of p.ends) p.rows.value.items p.edges (HasEdges-ends p.ends p.rows.value.items p.edges c.self.invariant) c.args.keeps.now c.as_slice-2.result.now kept c.ids.result.now
    c.in_ok-new.field-0.value c.in_ok-rows.rows.value.items c.as_slice-3.result.now c.ids.ensures.exact (ap (λ rs. rs.items) c.in_ok-rows.ensures.cases)
    (c.in_ok-new.ensures.ok ∙ c.in_ok-ids.ensures.ids) (c.as_slice-3.ensures.value ∙ c.in_ok-ids.ensures.edges) c.args.self.now c.self.view_is in
    IfOk-weaker c.of_locals.result _ (λ new. new ≡ edges_kept c.args.self.now c.args.keeps.now) (λ new same. same ∙ left) c.of_locals.ensures
