use Rattle.std.proofs.Common.{◌≡◌, is_ok, rules, ◌∙◌, w64, FitsSigned, to_z-of_z}
use Rattle.gx_expr.proofs.Entries.{searched}
use Rattle.gx_expr.proofs.functions.has.Goals as goal

pub returns : goal.returns
returns c =
    let answer : c.is_ok.result ≡ is_ok c.binary_search.result = search rules in
    let fits : FitsSigned w64 c.args.entry = c.ranges.entry in
    let position = simp to_z-of_z at c.binary_search.ensures.position in
    answer ∙ searched c.args.entries.now c.args.entry c.binary_search.result c.requires c.binary_search.ensures.bound position
