use Rattle.std.proofs.Common.{◌≡◌, ◌<◌, ◌∙◌, Option, Some, None, length, refl, arith, rules}
use Rattle.std.proofs.lemmas.Option.{slice_get_read}
use Rattle.gx_epart.proofs.Columns.{length-locals, local-at, position-at}
use Rattle.gx_epart.proofs.local_edges.LocalEdges.get.Goals as goal

pub index-src-requires : goal.index-src-requires
index-src-requires c =
    let count = length-locals c.self.inside.srcs.items c.self.inside.dsts.items _ c.self.invariant.one_dst_each c.self.invariant.one_row_each in
    let given = rw (← c.self.view_is) at c.requires in
    let within : c.args.i < length c.self.inside.srcs.items = omega (arith, count, given) in
    search (rules, within)

pub index-dst-requires : goal.index-dst-requires
index-dst-requires c =
    let count = length-locals c.self.inside.srcs.items c.self.inside.dsts.items _ c.self.invariant.one_dst_each c.self.invariant.one_row_each in
    let given = rw (← c.self.view_is) at c.requires in
    let within : c.args.i < length c.self.inside.dsts.items = omega (arith, count, given, c.self.invariant.one_dst_each) in
    search (rules, within)

pub index-requires : goal.index-requires
index-requires c =
    let count = length-locals c.self.inside.srcs.items c.self.inside.dsts.items _ c.self.invariant.one_dst_each c.self.invariant.one_row_each in
    let given = rw (← c.self.view_is) at c.requires in
    let rows = rw c.in-Some.is at c.self.invariant.one_row_each in
    let within : c.args.i < length c.in-Some.at.items = omega (arith, count, given, rows) in
    search (rules, within)

pub returns-in-Some : goal.returns-in-Some
returns-in-Some c =
    let count = length-locals c.self.inside.srcs.items c.self.inside.dsts.items _ c.self.invariant.one_dst_each c.self.invariant.one_row_each in
    let given = rw (← c.self.view_is) at c.requires in
    let within : c.args.i < length c.self.inside.srcs.items = omega (arith, count, given) in
    let has = rw c.in-Some.is at c.self.invariant in
    let room : c.args.i < length c.in-Some.at.items = omega (arith, within, has.one_row_each) in
    rw (← c.self.view_is, c.in-Some.is)
    (local-at c.self.inside.srcs.items c.self.inside.dsts.items c.in-Some.at.items c.args.i c.index-src.result.now c.index-dst.result.now c.index.result.now has within c.index-src.ensures c.index-dst.ensures
    (slice_get_read c.in-Some.at.items (length c.in-Some.at.items) c.args.i c.index.result.now refl room c.index.ensures))

pub returns-in-None : goal.returns-in-None
returns-in-None c =
    let count = length-locals c.self.inside.srcs.items c.self.inside.dsts.items _ c.self.invariant.one_dst_each c.self.invariant.one_row_each in
    let given = rw (← c.self.view_is) at c.requires in
    let within : c.args.i < length c.self.inside.srcs.items = omega (arith, count, given) in
    let has = rw c.in-None.is at c.self.invariant in
    rw (← c.self.view_is, c.in-None.is)
    (local-at c.self.inside.srcs.items c.self.inside.dsts.items _ c.args.i c.index-src.result.now c.index-dst.result.now c.args.i has within c.index-src.ensures c.index-dst.ensures
    (position-at (length c.self.inside.srcs.items) c.args.i within))
