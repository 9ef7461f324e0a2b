use Rattle.gx_epart.proofs.Making.{HasEnds-of, dsts-within, edges-of, even-slots, exact-slots, srcs-within}
use Rattle.gx_epart.proofs.epart.EPart.of_locals.Goals as goal

pub of_slots-requires : goal.of_slots-requires
of_slots-requires c =
    let ids = c.args.ids.value in
    let rows = c.args.rows.value.items in
    let edges = c.args.edges.now in
    let locals = c.in_ok-edges.edges in
    record {
      edges = even-slots ids rows edges locals c.srcs.result.now c.dsts.result.now c.requires c.in_ok-edges.ensures c.srcs.ensures c.dsts.ensures;
      sources = srcs-within ids rows edges locals c.srcs.result.now c.dsts.result.now c.requires c.in_ok-edges.ensures c.srcs.ensures c.dsts.ensures;
      destinations = dsts-within ids rows edges locals c.srcs.result.now c.dsts.result.now c.requires c.in_ok-edges.ensures c.srcs.ensures c.dsts.ensures;
      exact = exact-slots ids rows edges locals c.srcs.result.now c.dsts.result.now c.requires c.in_ok-edges.ensures c.srcs.ensures c.dsts.ensures;
    }

pub invariant_of-result : goal.invariant_of-result
invariant_of-result c =
    HasEnds-of c.args.ids.value c.args.rows.value.items c.args.edges.now c.in_ok-edges.edges c.srcs.result.now c.dsts.result.now c.requires c.in_ok-edges.ensures c.srcs.ensures c.dsts.ensures
    c.in_ok-ends.ends c.in_ok-ends.ensures.ids c.in_ok-ends.ensures.ends

pub returns : goal.returns
returns c =
    edges-of c.args.ids.value c.args.rows.value.items c.args.edges.now c.in_ok-edges.edges c.srcs.result.now c.dsts.result.now c.requires c.in_ok-edges.ensures c.srcs.ensures c.dsts.ensures
    c.in_ok-ends.ends c.in_ok-ends.ensures.ids c.in_ok-ends.ensures.ends
