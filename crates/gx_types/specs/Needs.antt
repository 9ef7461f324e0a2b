-- Which statements a statement needs.
use Rattle.std.specs.Prelude.{◌≡◌, ℕ, ◌-◌, ◌≤◌, Some, List, All, slice_get}
use Rattle.std.specs.List.{IsAmong}
use Rattle.std.specs.List.Sorted.{IsStrictlyIncreasing}
use Rattle.gx_types_stmts.specs.KnownNames.{IsEarlier}
use Rattle.gx_types_stmts.specs.StmtNumbers.{named_numbers}
use Rattle.gx_types_stmts.specs.declared.checked_stmt.CheckedStmt.{CheckedStmt}

-- statement s, counted from 1, uses statement u
pub record Uses (ts : List CheckedStmt) (s u : ℕ) : Type 0 where
  pub from_one : 1 ≤ s
  pub statement : CheckedStmt
  pub is_statement : slice_get ts (s - 1) ≡ Some statement
  pub is_used : IsAmong statement.uses u

-- statement s uses statement u, directly or through others
pub data IsNeeded (ts : List CheckedStmt) (s : ℕ) : ℕ → Type 0 where
  direct : {u : ℕ} → Uses ts s u → IsNeeded ts s u
  through : {u v : ℕ} → IsNeeded ts s u → Uses ts u v → IsNeeded ts s v

-- each statement uses earlier ones alone
abbrev pub UseEarlier : List CheckedStmt → Type 0
UseEarlier ts = (i : ℕ) (t : CheckedStmt) → slice_get ts i ≡ Some t → All (IsEarlier i) t.uses

-- a statement uses those that it names, in text order
abbrev pub NamesAreUsed : CheckedStmt → Type 0
NamesAreUsed t = t.uses ≡ named_numbers t.stmt

-- all statements that are needed, and no others, in ascending order
pub record AreNeeded (ts : List CheckedStmt) (s : ℕ) (ns : List ℕ) : Type 0 where
  pub ascending : IsStrictlyIncreasing ns
  pub complete : (u : ℕ) → IsNeeded ts s u → IsAmong ns u
  pub sound : (u : ℕ) → IsAmong ns u → IsNeeded ts s u
