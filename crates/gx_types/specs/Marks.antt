-- Marked numbers.
use Rattle.std.specs.Prelude.{◌≡◌, ℕ, ◌+◌, ◌⊎◌, Bool, true, false, List, [], ◌∷◌, get_or, refl}
use Rattle.std.specs.List.{IsAmong}
use Rattle.gx_types.specs.Needs.{Uses}
use Rattle.gx_types_stmts.specs.declared.checked_stmt.CheckedStmt.{CheckedStmt}

abbrev pub IsMarked : List Bool → ℕ → Type 0
IsMarked marks u = get_or marks u false ≡ true

-- the marked numbers in ascending order, where the marks are those from a given number on
abbrev pub marked_numbers : ℕ → List Bool → List ℕ
marked_numbers n [] = []
marked_numbers n (true ∷ marks) = n ∷ marked_numbers (n + 1) marks
marked_numbers n (false ∷ marks) = marked_numbers (n + 1) marks

second_marked : marked_numbers 0 (false ∷ true ∷ false ∷ []) ≡ 1 ∷ []
second_marked = refl

-- these numbers are marked, and no others that were not
pub record MarksEach (numbers : List ℕ) (old new : List Bool) : Type 0 where
  pub kept : (u : ℕ) → IsMarked old u → IsMarked new u
  pub each : (u : ℕ) → IsAmong numbers u → IsMarked new u
  pub only : (u : ℕ) → IsMarked new u → IsMarked old u ⊎ IsAmong numbers u

-- the statements that statement s uses are marked, and no others that were not
pub record MarksUses (ts : List CheckedStmt) (s : ℕ) (old new : List Bool) : Type 0 where
  pub kept : (u : ℕ) → IsMarked old u → IsMarked new u
  pub each : (u : ℕ) → Uses ts s u → IsMarked new u
  pub only : (u : ℕ) → IsMarked new u → IsMarked old u ⊎ Uses ts s u

-- the same if statement s is marked, and nothing otherwise
pub record Follows (ts : List CheckedStmt) (s : ℕ) (old new : List Bool) : Type 0 where
  pub kept : (u : ℕ) → IsMarked old u → IsMarked new u
  pub each : IsMarked old s → (u : ℕ) → Uses ts s u → IsMarked new u
  pub only : (u : ℕ) → IsMarked new u → IsMarked old u ⊎ (IsMarked old s × Uses ts s u)
