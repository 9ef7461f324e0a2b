use Rattle.std.proofs.Common.{get_or}
use Rattle.gx_rows.specs.Order.{Edge}
use Rattle.gx_epart.specs.Edges.{edges_lent}
use Rattle.gx_epart.proofs.Destinations.{destination-at, edges_lent-at, known-source, locals-more}
use Rattle.gx_epart.proofs.copies.local_edges.Goals as goal

pub number_from-src-requires : goal.number_from-src-requires
number_from-src-requires c =
    let x = get_or c.args.edges.now c.loop-row.row c.index-edges-row.result in
    let at = edges_lent-at c.args.edges.now c.loop-row.row c.index-edges-row.result c.loop-row-test.true in
    known-source c.args.ends.now (edges_lent c.args.edges.now) c.loop-row.row (x.0, x.1, x.2.now) at c.requires.known

pub loop-row-preserved : goal.loop-row-preserved
loop-row-preserved c =
    let x = get_or c.args.edges.now c.loop-row.row c.index-edges-row.result in
    let e : Edge = (x.0, x.1, x.2.now) in
    let edges = edges_lent c.args.edges.now in
    let at = edges_lent-at c.args.edges.now c.loop-row.row c.index-edges-row.result c.loop-row-test.true in
    let dst = c.index-dst.result.now in
    let number = destination-at c.args.ends.now edges c.in_ok-destinations.destinations.items c.in_ok-destinations.ensures c.loop-row.row dst e at c.index-dst.ensures in
    locals-more c.args.ends.now edges c.loop-row.row e at c.loop-row.locals.items c.push.new.self.items c.number_from-src.result dst
    c.number_from-src.ensures number c.in_ok-push.ensures.items c.loop-row.invariant
