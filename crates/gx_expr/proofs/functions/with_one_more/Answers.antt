use Rattle.std.proofs.Common.{◌++◌, [], ◌∷◌, rules}
use Rattle.std.proofs.Common.{◌≡◌}
use Rattle.gx_expr.proofs.Entries.{with_entry-sorted}
use Rattle.gx_expr.proofs.functions.with_one_more.Goals as goal

pub returns : goal.returns
returns c =
    let all : c.as_slice.result.now ≡ c.args.entries.now ++ c.args.entry ∷ [] = search rules in
    with_entry-sorted c.of.result c.as_slice.result.now c.args.entries.now c.args.entry c.requires.sorted all c.of.ensures.sorted c.of.ensures.same
