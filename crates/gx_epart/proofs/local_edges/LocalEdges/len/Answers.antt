use Rattle.std.proofs.Common.{◌≡◌, ◌<◌, ◌^◌, ◌∙◌, length, sym, arith, rules}
use Rattle.gx_epart.proofs.Columns.{length-locals}
use Rattle.gx_epart.proofs.local_edges.LocalEdges.len.Goals as goal

pub returns-clause-count : goal.returns-clause-count
returns-clause-count c =
    let count : c.len.result ≡ length c.self.inside.srcs.items = search rules in
    rw (← c.self.view_is) (count ∙ sym (length-locals c.self.inside.srcs.items c.self.inside.dsts.items _ c.self.invariant.one_dst_each c.self.invariant.one_row_each))

pub returns-clause-fits_u32 : goal.returns-clause-fits_u32
returns-clause-fits_u32 c =
    let count = length-locals c.self.inside.srcs.items c.self.inside.dsts.items _ c.self.invariant.one_dst_each c.self.invariant.one_row_each in
    rw (← c.self.view_is) (omega (arith, count, c.self.invariant.few))
