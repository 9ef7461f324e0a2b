-- The contents of a source of files.
use Rattle.std.specs.Prelude.{◌≡◌, ◌⊎◌, ℕ, ⊤, List, Option, None, Some, Result, IsSome, OnErr}
use Rattle.std.specs.Str.{bytes_eq}
use Rattle.std.specs.Map.{lookup}
use Rattle.gx_outside.specs.Faults.{FaultCounted}

-- names, each with the bytes of its file; of two files with one name the first counts
abbrev pub Contents : Type 0
Contents = List (List ℕ × List ℕ)

-- the bytes of the file of this name
abbrev pub bytes_under : List ℕ → Contents → Option (List ℕ)
bytes_under name contents = lookup (λ n. bytes_eq n name) contents

-- the contents are known and have no file of this name
abbrev pub IsKnownAbsent : Option Contents → List ℕ → Type 0
IsKnownAbsent None name = ⊥
IsKnownAbsent (Some contents) name = bytes_under name contents ≡ None

-- if the contents are known, the rest of the file just opened is the whole file
abbrev pub Opens : Option Contents → List ℕ → Option (List ℕ) → Type 0
Opens None name rest = ⊤
Opens (Some contents) name rest = IsSome rest × (bytes_under name contents ≡ rest)

-- the call fails only if it counted a fault or the name is known to be absent
abbrev pub HasOpenCause : {A E : Type 0} → ℕ → ℕ → Option Contents → List ℕ → Result A E → Type 0
HasOpenCause before after contents name r =
    OnErr r (FaultCounted before after ⊎ IsKnownAbsent contents name)
