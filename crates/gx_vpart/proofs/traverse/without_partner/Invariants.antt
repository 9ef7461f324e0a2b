use Rattle.std.proofs.Common.{◌≡◌, ◌++◌, map}
use Rattle.gx_vpart.specs.Operators.{has_no_partner}
use Rattle.gx_vpart.proofs.traverse.without_partner.Given as goal

abbrev pub invariant-rows : goal.invariant-rows
invariant-rows l = record {
  can : goal.iterator-rows.can_next l._v-iterator;
  ends : goal.iterator-rows.is_finite l._v-iterator;
  bools : l.bools.items ++ map has_no_partner l._v-iterator ≡ map has_no_partner l.initial._v-iterator;
}
