use Rattle.std.proofs.Common.{◌≡◌, ◌-◌}
use Rattle.csv.specs.Records.{field_count, fields_of}
use Rattle.gx_load.proofs.HeaderLemmas.{position_after}
use Rattle.gx_load.proofs.header.position_of.Given as goal

abbrev pub invariant-fields : goal.invariant-fields
invariant-fields l = position_after l.position l.name (fields_of l.header) ≡ position_after 0 l.name (fields_of l.header)

abbrev pub decreases-fields : goal.decreases-fields
decreases-fields l = field_count l.header - l.position
