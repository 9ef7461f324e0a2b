use Rattle.std.proofs.Common.{◌≡◌, ◌<◌, ◌^◌, length, map, ap, arith}
use Rattle.std.specs.Prelude.{zip}
use Rattle.gx_syntax_tree.specs.declared.parts.ColumnExpr.{ColumnExpr}
use Rattle.gx_types_clauses.proofs.ColumnNames.{columns_few}
use Rattle.gx_types_clauses.proofs.sets.type_sets.Goals as goal

pub of-requires-clause-few : goal.of-requires-clause-few
of-requires-clause-few c =
    let names = map (λ (s : ColumnExpr). s.name) c.args.sets.now in
    let few : length (zip names c.in_ok-values.values.kinds) < 2 ^ 32 = columns_few names c.in_ok-values.values.kinds c.requires.names in
    let same : length c.in_ok-columns.columns.items ≡ length (zip names c.in_ok-values.values.kinds) = ap length c.in_ok-columns.ensures in
    omega arith
