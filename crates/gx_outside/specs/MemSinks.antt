-- A sink in memory.
use Rattle.std.specs.Prelude.{ℕ, ◌-◌, ◌++◌, min, Bool, ◌&&◌, ◌||◌, ◌==◌, nat_lt, List, [], length, take, slice_get}
use Rattle.std.specs.Option.{unwrap_or}
use Rattle.gx_outside.specs.Calls.{CallCounts, no_calls, fails_next, after_success, after_fault}

-- the bytes written, how many more there is room for, the most that each write takes, and the calls
pub record SinkState : Type 0 where
  pub bytes : List ℕ
  pub room : ℕ
  pub pieces : List ℕ
  pub counts : CallCounts

-- a sink before the first write
abbrev pub empty_sink : List ℕ → List ℕ → ℕ → SinkState
empty_sink pieces failing room = record {
  bytes = [];
  room = room;
  pieces = pieces;
  counts = no_calls failing;
}

-- whether the next write fails: by its number, or because a piece that is not empty finds no room
abbrev pub fails_write : SinkState → List ℕ → Bool
fails_write s piece = fails_next s.counts || (nat_lt 0 (length piece) && s.room == 0)

-- the most bytes that the next write takes, however much room there is
abbrev pub most_written : SinkState → List ℕ → ℕ
most_written s piece =
    min (unwrap_or (slice_get s.pieces s.counts.calls) (length piece)) (length piece)

-- how many bytes the next write takes, if it does not fail
abbrev pub write_count : SinkState → List ℕ → ℕ
write_count s piece = min (most_written s piece) s.room

-- the state after a write that does not fail
abbrev pub after_write : SinkState → List ℕ → SinkState
after_write s piece = record s {
  bytes = s.bytes ++ take (write_count s piece) piece;
  room = s.room - write_count s piece;
  counts = after_success s.counts;
}

-- the state after a write that fails
abbrev pub after_failed_write : SinkState → SinkState
after_failed_write s = record s { counts = after_fault s.counts }
