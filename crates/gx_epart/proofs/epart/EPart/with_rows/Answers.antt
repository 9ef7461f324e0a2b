use Rattle.std.proofs.Common.{◌≡◌, ◌∙◌, ap, rules}
use Rattle.std.specs.Map.{keys_of}
use Rattle.gx_epart.specs.Numbers.{numbers_with_rows}
use Rattle.gx_epart.proofs.Derived.{HasEdges-ends, HasIds-remade, edges-with_rows, exact-with_rows, few-with_rows}
use Rattle.gx_epart.proofs.epart.EPart.with_rows.Goals as goal

pub sort_numbered-requires-clause-few : goal.sort_numbered-requires-clause-few
sort_numbered-requires-clause-few c =
    let p = c.self.inside in
    let few = few-with_rows (keys_of p.ends) p.rows.value.items p.edges (HasEdges-ends p.ends p.rows.value.items p.edges c.self.invariant) c.args.rows.items in
    let numbered : c.in_ok-numbered.numbered.items ≡ numbers_with_rows p.edges c.args.rows.items
    = c.in_ok-numbered.ensures ∙ ap (λ es. numbers_with_rows es c.args.rows.items) (c.as_slice.ensures.value ∙ c.in_ok-locals.ensures) in
    search (rules, few, numbered)

pub sort_numbered-requires-clause-in_range : goal.sort_numbered-requires-clause-in_range
sort_numbered-requires-clause-in_range c =
    let p = c.self.inside in
    let numbered : c.in_ok-numbered.numbered.items ≡ numbers_with_rows p.edges c.args.rows.items
    = c.in_ok-numbered.ensures ∙ ap (λ es. numbers_with_rows es c.args.rows.items) (c.as_slice.ensures.value ∙ c.in_ok-locals.ensures) in
    rw (c.in_ok-clone.ensures.cases, c.index.ensures.exact, numbered)
    (HasIds-remade (keys_of p.ends) p.rows.value.items p.edges (HasEdges-ends p.ends p.rows.value.items p.edges c.self.invariant) c.args.rows.items)

pub sort_numbered-requires-clause-exact : goal.sort_numbered-requires-clause-exact
sort_numbered-requires-clause-exact c =
    let p = c.self.inside in
    let numbered : c.in_ok-numbered.numbered.items ≡ numbers_with_rows p.edges c.args.rows.items
    = c.in_ok-numbered.ensures ∙ ap (λ es. numbers_with_rows es c.args.rows.items) (c.as_slice.ensures.value ∙ c.in_ok-locals.ensures) in
    rw (c.in_ok-clone.ensures.cases, c.index.ensures.exact, numbered)
    (exact-with_rows (keys_of p.ends) p.rows.value.items p.edges (HasEdges-ends p.ends p.rows.value.items p.edges c.self.invariant) c.args.rows.items c.args.self.now c.self.view_is c.requires)

pub returns : goal.returns
returns c =
    let p = c.self.inside in
    let numbered : c.in_ok-numbered.numbered.items ≡ numbers_with_rows p.edges c.args.rows.items
    = c.in_ok-numbered.ensures ∙ ap (λ es. numbers_with_rows es c.args.rows.items) (c.as_slice.ensures.value ∙ c.in_ok-locals.ensures) in
    rw (
      c.in_ok-clone.ensures.cases,
      c.index.ensures.exact,
      numbered,
      edges-with_rows (keys_of p.ends) p.rows.value.items p.edges (HasEdges-ends p.ends p.rows.value.items p.edges c.self.invariant) c.args.rows.items c.args.self.now c.self.view_is,
    ) at c.sort_numbered.ensures
