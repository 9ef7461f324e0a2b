-- Statements that are named are in the script.
use Rattle.std.proofs.Common.{◌≡◌, ℕ, zero, suc, ◌-◌, ◌<◌, ◌≤◌, List, [], ◌∷◌, Option, None, Some, length, map, option_map, unwrap_or, refl, subst, arith}
use Rattle.std.specs.List.{AllByRecursion, slice_get}
use Rattle.std.proofs.lemmas.List.Elements.{recursion_from_All}
use Rattle.gx_plan.specs.StmtNodes.{statement_of}
use Rattle.gx_types.specs.Needs.{UseEarlier}
use Rattle.gx_types_stmts.specs.KnownNames.{IsEarlier}
use Rattle.gx_types_stmts.specs.StmtNumbers.{named_numbers}
use Rattle.gx_types_stmts.specs.declared.checked_stmt.CheckedStmt.{CheckedStmt}
use Rattle.gx_types_stmts.specs.declared.typed_stmt.TypedStmt.{TypedStmt}
use Rattle.gx_types_stmts.specs.declared.typed_stmt.TypedStmt.TheVariants as stmts
use Rattle.gx_exec_reads.specs.Actions.{AreNumbersIn}

earlier-in : (script : List CheckedStmt) (count : ℕ) (ss : List ℕ) → count ≤ length script → AllByRecursion (IsEarlier count) ss → AreNumbersIn script ss
earlier-in script count [] within all = tt
earlier-in script count (s ∷ ss) within all = ((all.0.0, omega (arith, within, all.0.1)), earlier-in script count ss within all.1)

named-at : (script : List CheckedStmt) (count : ℕ) (o : Option CheckedStmt) (ss : List ℕ) → UseEarlier script → count ≤ length script → slice_get script count ≡ o → option_map (λ t. t.uses) o ≡ Some ss → AreNumbersIn script ss
named-at script count None ss earlier within at uses = absurd cc
named-at script count (Some t) ss earlier within at uses =
    let same : t.uses ≡ ss = cc in
    earlier-in script count ss within (subst (AllByRecursion (IsEarlier count)) same (recursion_from_All (IsEarlier count) t.uses (earlier count t at)))

-- a statement names statements of the script
pub names-in_script : (script : List CheckedStmt) (a : ℕ) (st : TypedStmt) → UseEarlier script → a ≤ length script → option_map (λ t. t.uses) (slice_get script (a - 1)) ≡ Some (named_numbers st) → AreNumbersIn script (named_numbers st)
names-in_script script a st earlier within uses = named-at script (a - 1) (slice_get script (a - 1)) (named_numbers st) earlier (omega (arith, within)) refl uses

-- statement a is this one, so this one is an action if that one is
pub action-at : (script : List CheckedStmt) (a : ℕ) (st : TypedStmt) → option_map (λ t. t.stmt) (slice_get script (a - 1)) ≡ Some st → statement_of script a ≡ st
action-at script a st at = by (option_map (λ t. t.stmt) (slice_get script (a - 1))) at
  where
    by : (o : Option TypedStmt) → o ≡ Some st → unwrap_or o (stmts.CountTable 0) ≡ st
    by None e = absurd cc
    by (Some t) e = cc

found-at : (script : List CheckedStmt) (k : ℕ) → k < length script → slice_get (map (λ c. c.stmt) script) k ≡ Some (unwrap_or (option_map (λ c. c.stmt) (slice_get script k)) (stmts.CountTable 0))
found-at [] k within = absurd (omega (arith, within))
found-at (c ∷ script) zero within = refl
found-at (c ∷ script) (suc k) within = found-at script k (omega (arith, within))

-- statement s, counted from 1
pub statement-found : (script : List CheckedStmt) (s : ℕ) → 1 ≤ s → s ≤ length script → slice_get (map (λ c. c.stmt) script) (s - 1) ≡ Some (statement_of script s)
statement-found script s low high = found-at script (s - 1) (omega (arith, low, high))
