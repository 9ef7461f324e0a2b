-- The records of a text that a reader has not read yet.
use Rattle.std.specs.Prelude.{◌≡◌, ◌+◌, ℕ, Bool, true, false, List, [], length, Option, None, Some}
use denote.Ref.{Bor}
use Rattle.csv.specs.Machine.{ends_at_end}
use Rattle.csv.specs.Reading.{Ready, default_config, records_from, source_of}
use Rattle.csv.specs.declared.parser.State.{State}
use Rattle.csv.specs.declared.reader.Reader.{Reader}
use Rattle.csv.specs.declared.reader.Trim.TheVariants as trim

-- the bytes that a reader of a borrowed text has not read yet
abbrev pub remaining_bytes : Reader (Bor (List ℕ)) → Option (List ℕ)
remaining_bytes r = source_of (λ s. Some s.now) r

-- the records of the remaining bytes, from a state on
abbrev pub records_after : State → Option (List ℕ) → List (List (List ℕ))
records_after state None = []
records_after state (Some bytes) = records_from default_config (length bytes + 1) state bytes

-- the records that a reader has not read yet; none if it is not live
abbrev pub remaining_records : Bool → Reader (Bor (List ℕ)) → List (List (List ℕ))
remaining_records false r = []
remaining_records true r = records_after r.state (remaining_bytes r)

-- the reader is between two records, and returns each as it is written
pub record IsPlain (r : Reader (Bor (List ℕ))) : Type 0 where
  pub trim : r.trim ≡ trim.None
  pub ready : Ready r
  pub config : r.config ≡ default_config
  pub known : (bytes : List ℕ) × (remaining_bytes r ≡ Some bytes)
  pub between : ends_at_end r.state ≡ false
