use Rattle.std.proofs.Common.{◌≡◌, ◌++◌, [], map}
use Rattle.std.specs.List.{filter_map}
use Rattle.gx_vpart.specs.JoinCalls.{ReturnsAtPair}
use Rattle.gx_vpart.specs.Operators.{has_partner, with_partner}
use Rattle.gx_vpart.proofs.Pairs.{PairsSoFar}
use Rattle.gx_vpart.proofs.traverse.map_pairs.Given as goal

-- each pair so far has its row at its slot, and each row its bool
abbrev pub invariant-rows : goal.invariant-rows
invariant-rows g l = record {
  can : (goal.iterator-rows g).can_next l.v-iterator;
  ends : (goal.iterator-rows g).is_finite l.v-iterator;
  bools : l.bools.items ++ map has_partner l.v-iterator ≡ map has_partner l.initial.v-iterator;
  made : PairsSoFar (ReturnsAtPair (goal.F-post g l.f)) [] l.mask l.bools.items (filter_map with_partner l.initial.v-iterator) (filter_map with_partner l.v-iterator) l.slot l.builder;
}
