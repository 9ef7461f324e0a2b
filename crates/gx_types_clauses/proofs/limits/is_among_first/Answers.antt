use Rattle.std.proofs.Common.{sym}
use Rattle.gx_types_clauses.specs.NamedParts.{list_names}
use Rattle.gx_types_clauses.proofs.LimitLemmas.{list_any-take_hit, list_any-take_miss}
use Rattle.gx_types_clauses.proofs.limits.is_among_first.Goals as goal

pub returns-then-eq : goal.returns-then-eq
returns-then-eq c =
    sym (list_any-take_hit _ (list_names c.args.list.now) c.names.i c.args.count _ c.name.ensures c.names-test.true c.requires (sym c.if-eq.ensures))

pub names-preserved : goal.names-preserved
names-preserved c =
    list_any-take_miss _ (list_names c.args.list.now) c.names.i _ c.name.ensures c.names.invariant (sym c.if-eq.ensures)
