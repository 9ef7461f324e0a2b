-- Owners in scripts whose names are of the right sorts.
use Rattle.std.proofs.Common.{◌≡◌, ℕ, zero, suc, ◌≤◌, ◌||◌, Bool, true, false, List, [], ◌∷◌, Option, Some, None, is_some, refl, arith}
use Rattle.std.specs.List.{AllByRecursion}
use Rattle.gx_types_stmts.specs.declared.checked_stmt.CheckedStmt.{CheckedStmt}
use Rattle.gx_plan.specs.PlanInvariant.{is_own}
use Rattle.gx_plan.specs.PlanInvariant.Owns.{own, taken}
use Rattle.gx_plan.specs.PlanLaws.{AreOwned, IsEarlierOf, IsOwned, HasSorts, ReadsEarlier, ReadsOwned, makes_kind}
use Rattle.gx_plan.specs.StmtNodes.{ScriptWithCut, feeds, inherits, statement_of}
use Rattle.gx_plan.specs.declared.feed.Feed.{Feed}
use Rattle.gx_plan.specs.declared.kind.Kind.{Kind}

-- a result's node is its statement's own, or that of the statement whose node it takes over
owned-by : (script : List CheckedStmt) (s : ℕ) (k : Kind) (own_kind : Bool) (o : Option ℕ) → is_own k (statement_of script s) ≡ own_kind → inherits k (statement_of script s) ≡ o
    → (own_kind || is_some o) ≡ true → ((m : ℕ) → inherits k (statement_of script s) ≡ Some m → IsOwned script k m) → IsOwned script k s
owned-by script s k true o is_it from makes below = (s, own is_it)
owned-by script s k false (Some m) is_it from makes below = let before = below m from in (before.0, taken from before.1)
owned-by script s k false None is_it from makes below = cc

-- by induction on a number that no statement so far passes
owned-below : (source : ScriptWithCut) (n s : ℕ) (k : Kind) → HasSorts source → s ≤ n → 1 ≤ s → makes_kind k (statement_of source.script s) ≡ true → IsOwned source.script k s
owned-below source zero s k sorted below from_one makes = absurd (omega (arith, below, from_one))
owned-below source (suc n) s k sorted below from_one makes =
    owned-by source.script s k (is_own k (statement_of source.script s)) (inherits k (statement_of source.script s)) refl refl makes
    (λ m from. (let before : IsEarlierOf source.script s k m = sorted.taken s m k from_one from in
    owned-below source n m k sorted (omega (arith, before.earlier, below)) before.from_one before.makes))

earlier-owned : (source : ScriptWithCut) (s m : ℕ) (k : Kind) → HasSorts source → IsEarlierOf source.script s k m → IsOwned source.script k m
earlier-owned source s m k sorted before = owned-below source s m k sorted (omega (arith, before.earlier)) before.from_one before.makes

read-owned : (source : ScriptWithCut) (s : ℕ) (fs : List Feed) → HasSorts source → AllByRecursion (ReadsEarlier source.script s) fs → AllByRecursion (ReadsOwned source.script) fs
read-owned source s [] sorted h = tt
read-owned source s (f ∷ fs) sorted h = (λ is. earlier-owned source s f.recipe.statement f.recipe.kind sorted (h.0 is), read-owned source s fs sorted h.1)

pub sorted-owned : (source : ScriptWithCut) → HasSorts source → AreOwned source
sorted-owned source sorted = record {
  results = λ s k from_one makes. owned-below source s s k sorted (omega arith) from_one makes;
  read = λ r from_one. read-owned source r.statement (feeds source r) sorted (sorted.read r from_one);
}
