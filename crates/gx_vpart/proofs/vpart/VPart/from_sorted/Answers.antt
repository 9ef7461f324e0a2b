use Rattle.std.proofs.Common.{◌≡◌, length, arith}
use Rattle.gx_index.specs.Ids.{HasDistinctIds-from_ascending}
use Rattle.gx_vpart.proofs.Spreading.{HasSlots-full, masked_rows-full}
use Rattle.gx_vpart.proofs.vpart.VPart.from_sorted.Goals as goal

pub from_vec-requires-clause-distinct : goal.from_vec-requires-clause-distinct
from_vec-requires-clause-distinct c = HasDistinctIds-from_ascending c.args.ids.items c.requires.ascending

pub invariant_of-result : goal.invariant_of-result
invariant_of-result c =
    let many : c.len.result ≡ length c.args.ids.items = omega (arith, c.len.ensures, c.args.ids.ok.0) in
    rw (c.in_ok-mask.ensures.ok, c.in_ok-full.ensures, c.in_ok-index.ensures.ok, c.in_ok-from_vec.ensures, c.in_ok-rows.ensures.ok)
    (HasSlots-full c.len.result c.args.ids.items c.args.rows many (omega (arith, c.args.ids.ok.0, c.requires.few)) c.requires.ascending c.requires.one_row_each)

pub returns : goal.returns
returns c =
    let many : c.len.result ≡ length c.args.ids.items = omega (arith, c.len.ensures, c.args.ids.ok.0) in
    rw (c.in_ok-mask.ensures.ok, c.in_ok-full.ensures, c.in_ok-index.ensures.ok, c.in_ok-from_vec.ensures, c.in_ok-rows.ensures.ok)
    (masked_rows-full c.len.result c.args.ids.items c.args.rows many c.requires.one_row_each)
