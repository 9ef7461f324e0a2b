use Rattle.std.proofs.Common.{◌≡◌, length, nat_eq, take, true}
use Rattle.std.specs.List.{list_all}
use Rattle.gx_types_clauses.proofs.merging.have_length.Given as goal

-- the sends passed have so many values
abbrev pub invariant-sends : goal.invariant-sends
invariant-sends l = list_all (λ kinds. nat_eq (length kinds) l.len) (take l.kinds-index l.kinds-items) ≡ true
