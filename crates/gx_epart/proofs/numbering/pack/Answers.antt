use Rattle.std.proofs.Common.{◌≡◌, ◌∙◌, map, rules}
use Rattle.std.proofs.lemmas.Result.{IfOk-weaker}
use Rattle.gx_epart.specs.Numbers.{edge_of_numbers, edges_of_locals}
use Rattle.gx_epart.proofs.Numbered.{HasEdges-packed, edges-packed}
use Rattle.gx_epart.proofs.numbering.pack.Goals as goal

pub of_locals-requires : goal.of_locals-requires
of_locals-requires c =
    rw c.as_slice.ensures.value
    (HasEdges-packed c.args.ends.value c.args.numbered.items c.in_ok-rows.rows.value.items c.in_ok-edges.edges.items (search rules) c.in_ok-edges.ensures.edges
    (search rules) c.requires.in_range c.requires.sorted c.requires.exact)

pub returns : goal.returns
returns c =
    let packed : edges_of_locals c.args.ends.value c.in_ok-rows.rows.value.items c.as_slice.result.now ≡ map (edge_of_numbers c.args.ends.value) c.args.numbered.items
    = rw c.as_slice.ensures.value (edges-packed c.args.ends.value c.args.numbered.items c.in_ok-rows.rows.value.items c.in_ok-edges.edges.items (search rules) c.in_ok-edges.ensures.edges) in
    IfOk-weaker c.of_locals.result _ (λ part. part ≡ map (edge_of_numbers c.args.ends.value) c.args.numbered.items) (λ part same. same ∙ packed) c.of_locals.ensures
