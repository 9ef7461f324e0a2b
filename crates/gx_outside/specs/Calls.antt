-- The calls of files or of a sink in memory: they are counted, and some fail by their number.
use Rattle.std.specs.Prelude.{ℕ, ◌+◌, min, Bool, List, ◌==◌, if◌then◌else◌}
use Rattle.std.specs.List.{list_any}
use Rattle.gx_outside.specs.Faults.{LAST_COUNT}

-- the numbers of the calls that fail, how many calls were made, and how many faults they met
pub record CallCounts : Type 0 where
  pub failing : List ℕ
  pub calls : ℕ
  pub faults : ℕ

-- the counts before the first call
abbrev pub no_calls : List ℕ → CallCounts
no_calls failing = record { failing = failing; calls = 0; faults = 0 }

-- the count after this one; the last number follows itself
abbrev pub next_count : ℕ → ℕ
next_count n = min (n + 1) LAST_COUNT

-- whether the next call fails by its number; calls are numbered from 0
abbrev pub fails_next : CallCounts → Bool
fails_next c = list_any (λ n. n == c.calls) c.failing

-- the counts after a call that met no fault
abbrev pub after_success : CallCounts → CallCounts
after_success c = record c { calls = next_count c.calls }

-- the counts after a call that met a fault
abbrev pub after_fault : CallCounts → CallCounts
after_fault c = record c { calls = next_count c.calls; faults = next_count c.faults }

-- the counts after a call that meets a fault only if its number says so
abbrev pub after_call : CallCounts → CallCounts
after_call c = if fails_next c then after_fault c else after_success c
