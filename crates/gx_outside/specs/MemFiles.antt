-- Files in memory.
use Rattle.std.specs.Prelude.{ℕ, ◌≤◌, min, Option, None, IsSomeAnd, List, [], map, length, drop, slice_get, unwrap_or, option_map, String, string_bytes, Vec, if◌then◌else◌}
use Rattle.std.specs.declared.alloc.Global.{Global}
use Rattle.gx_outside.specs.Contents.{Contents, bytes_under}
use Rattle.gx_outside.specs.Calls.{CallCounts, no_calls, fails_next, after_success, after_fault, after_call}

-- the contents, the most bytes that a read returns, the rest of the open file, and the calls
pub record FilesState : Type 0 where
  pub contents : Contents
  pub piece : ℕ
  pub rest : Option (List ℕ)
  pub counts : CallCounts

-- the contents that these files are
abbrev pub contents_of : List (String Global × Vec ℕ Global) → Contents
contents_of files = map (λ f. (string_bytes f.0, f.1.items)) files

-- the bytes of the file at an index
abbrev pub bytes_at : List (String Global × Vec ℕ Global) → ℕ → Option (List ℕ)
bytes_at files i = option_map (λ f. f.1.items) (slice_get files i)

-- the bytes of the file at an index, from this offset on
abbrev pub rest_at : List (String Global × Vec ℕ Global) → ℕ → ℕ → Option (List ℕ)
rest_at files i offset = option_map (λ bs. drop offset bs) (bytes_at files i)

-- there is a file at this index, and the offset is not past its end
abbrev pub IsWithin : List (String Global × Vec ℕ Global) → ℕ → ℕ → Type 0
IsWithin files i offset = IsSomeAnd (bytes_at files i) (λ bs. offset ≤ length bs)

-- files before the first call: no file is open
abbrev pub fresh_files : Contents → ℕ → List ℕ → FilesState
fresh_files contents piece failing = record {
  contents = contents;
  piece = piece;
  rest = None;
  counts = no_calls failing;
}

-- the state after a call that opens the file of this name, if there is one
abbrev pub after_open : FilesState → List ℕ → FilesState
after_open s name = record s {
  rest = if fails_next s.counts then None else bytes_under name s.contents;
  counts = after_call s.counts;
}

-- how many bytes the next read returns into this much room, if it does not fail
abbrev pub read_count : FilesState → ℕ → ℕ
read_count s room = min (min s.piece (length (unwrap_or s.rest []))) room

-- the state after a read into this much room that does not fail
abbrev pub after_read : FilesState → ℕ → FilesState
after_read s room = record s {
  rest = option_map (λ bs. drop (read_count s room) bs) s.rest;
  counts = after_success s.counts;
}

-- the state after a read that fails
abbrev pub after_failed_read : FilesState → FilesState
after_failed_read s = record s { counts = after_fault s.counts }
