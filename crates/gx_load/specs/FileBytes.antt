-- The bytes of a file that was read, whole or up to a limit.
use Rattle.std.specs.Prelude.{◌≡◌, ◌<◌, ◌≤◌, ℕ, List, ◌++◌, Option, None, Some, ⊤, length}
use Rattle.std.specs.Io.KnownBytes.{Consumes}
use Rattle.gx_outside.specs.Contents.{Contents, bytes_under}

-- if the contents are known, these are all bytes of the file of this name
abbrev pub HasBytes : Option Contents → List ℕ → List ℕ → Type 0
HasBytes None name bytes = ⊤
HasBytes (Some contents) name bytes = bytes_under name contents ≡ Some bytes

-- if the contents are known, the file of this name has more bytes than the limit
abbrev pub IsLonger : Option Contents → List ℕ → ℕ → Type 0
IsLonger None name limit = ⊤
IsLonger (Some contents) name limit =
    (bytes : List ℕ) × (bytes_under name contents ≡ Some bytes) × (limit < length bytes)

-- the contents are known, and the file of this name has more bytes than the limit
abbrev pub IsKnownLonger : Option Contents → List ℕ → ℕ → Type 0
IsKnownLonger None name limit = ⊥
IsKnownLonger (Some contents) name limit = IsLonger (Some contents) name limit

-- if the contents are known, the file of this name is at most so many bytes, and then this rest
abbrev pub HasReadAtMost : ℕ → Option Contents → List ℕ → Option (List ℕ) → Type 0
HasReadAtMost most None name rest = ⊤
HasReadAtMost most (Some contents) name None = ⊥
HasReadAtMost most (Some contents) name (Some rest) =
    (consumed : List ℕ) × (length consumed ≤ most) × (bytes_under name contents ≡ Some (consumed ++ rest))

-- the known bytes begin with at most so many bytes, and lose them
abbrev pub ConsumesAtMost : ℕ → Option (List ℕ) → Option (List ℕ) → Type 0
ConsumesAtMost most before after =
    (bytes : List ℕ) × (length bytes ≤ most) × Consumes before after bytes
