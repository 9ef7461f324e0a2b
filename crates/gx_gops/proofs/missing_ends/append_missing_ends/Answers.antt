use Rattle.gx_gops.specs.Tables.{is_missing}
use Rattle.gx_gops.proofs.Ends.{same_if_ok}
use Rattle.gx_gops.proofs.missing_ends.append_missing_ends.Goals as goal

pub returns : goal.returns
returns c =
    same_if_ok (is_missing c.args.rows.now c.args.part c.args.parts) c.args.edges.now c.distinct_ends.result.now c.args.ids.now.items c.append_missing.new.ids.items
    c.append_missing.result c.distinct_ends.ensures c.append_missing.ensures
