use Rattle.std.proofs.Common.{ap, arith, w64, FitsSigned, to_z-of_z}
use Rattle.gx_expr.specs.Evaluation.{at_node}
use Rattle.gx_expr.proofs.Entries.{with_entry-bounded, with_entry-long}
use Rattle.gx_expr.proofs.functions.add_entry.Goals as goal

pub returns-then-entries-ge-MOST_LIST_ENTRIES : goal.returns-then-entries-ge-MOST_LIST_ENTRIES
returns-then-entries-ge-MOST_LIST_ENTRIES c =
    ap (at_node c.args.n) (with_entry-long c.args.entries.now c.args.entry (omega arith))

pub returns : goal.returns
returns c =
    let fits : FitsSigned w64 c.args.entry = c.ranges.entry in
    let ids = simp to_z-of_z at c.in_ok-with_one_more.ensures in
    ap (at_node c.args.n) (with_entry-bounded c.args.entries.now c.in_ok-with_one_more.field-0 c.args.entry (omega arith) ids)
