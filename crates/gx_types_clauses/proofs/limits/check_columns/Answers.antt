use Rattle.std.proofs.Common.{◌<◌, length, refl, ◌∙◌, arith}
use Rattle.std.specs.List.{IsDistinct}
use Rattle.gx_types_clauses.specs.NamedParts.{list_names}
use Rattle.gx_types_clauses.proofs.LimitLemmas.{IsDistinct-passed, checked_names-more}
use Rattle.gx_types_clauses.proofs.limits.check_columns.Goals as goal

pub names-init : goal.names-init
unfolding IsDistinct
names-init c = record { checked = refl; distinct = tt }

pub names-preserved : goal.names-preserved
names-preserved c =
    let names = list_names c.args.list.now in
    let within : c.names.i < length names = omega arith in
    record {
      checked = c.names.invariant.checked ∙ checked_names-more names c.names.i within c.in_ok-check_name.ensures;
      distinct = IsDistinct-passed names c.names.i within c.in_ok-check_name.ensures c.names.invariant.distinct;
    }
