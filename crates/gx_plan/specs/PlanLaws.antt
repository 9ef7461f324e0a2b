-- Laws of plans.
use Rattle.std.specs.Prelude.{◌≡◌, ◌≢◌, ℕ, ◌<◌, ◌≤◌, ◌-◌, ◌||◌, Bool, true, None, Some, List, get_or, is_some, slice_get, ⊤}
use Rattle.std.specs.List.{AllByRecursion}
use Rattle.gx_rows.specs.declared.cut.Cut.TheVariants.{Rows}
use Rattle.gx_lineage.specs.Lineage.{KeepsInputs}
use Rattle.gx_types_stmts.specs.declared.checked_stmt.CheckedStmt.{CheckedStmt}
use Rattle.gx_types_stmts.specs.declared.typed_stmt.TypedStmt.{TypedStmt}
use Rattle.gx_types_stmts.specs.declared.typed_stmt.TypedStmt.TheVariants as stmts
use Rattle.gx_plan.specs.PlanInvariant.{IsFrontOf, IsPlan, MayAdd, Owns, is_own}
use Rattle.gx_plan.specs.Plans.{Planned, with_number}
use Rattle.gx_plan.specs.Recipes.{reads_result}
use Rattle.gx_plan.specs.StmtNodes.{ScriptWithCut, feeds, inherits, statement_of}
use Rattle.gx_plan.specs.declared.feed.Feed.{Feed}
use Rattle.gx_plan.specs.declared.kind.Kind.{Kind}
use Rattle.gx_plan.specs.declared.recipe.Recipe.{Recipe}

-- a plan with one more statement is a plan
abbrev pub AddedArePlans : Type 0
AddedArePlans = (source : ScriptWithCut) (p : Planned) (s : ℕ)
    → MayAdd source p s → IsPlan source (with_number source p s)

-- a plan is the beginning of the plan with one more statement
abbrev pub PlansAreFronts : Type 0
PlansAreFronts = (source : ScriptWithCut) (p : Planned) (s : ℕ)
    → 1 ≤ s → get_or p.results (s - 1) None ≡ None → IsFrontOf p (with_number source p s)

-- the beginning of a beginning is a beginning
abbrev pub FrontsAreJoined : Type 0
FrontsAreJoined = (p q o : Planned) → IsFrontOf p q → IsFrontOf q o → IsFrontOf p o

-- each block of a beginning is computed from the same blocks as before
abbrev pub FrontsKeepInputs : Type 0
FrontsKeepInputs = (p q : Planned) → IsFrontOf p q → KeepsInputs p.lineage q.lineage

-- ---- sorts

-- a statement's result has a node of this kind
abbrev pub makes_kind : Kind → TypedStmt → Bool
makes_kind k st = is_own k st || is_some (inherits k st)

-- statement m comes before s, and its result has a node of kind k
pub record IsEarlierOf (script : List CheckedStmt) (s : ℕ) (k : Kind) (m : ℕ) : Type 0 where
  pub from_one : 1 ≤ m
  pub earlier : m < s
  pub makes : makes_kind k (statement_of script m) ≡ true

-- what is read, if it is a result, is made by a statement before s
abbrev pub ReadsEarlier : List CheckedStmt → ℕ → Feed → Type 0
ReadsEarlier script s f =
    reads_result f ≡ true → IsEarlierOf script s f.recipe.kind f.recipe.statement

-- each result that a statement reads or takes over is made by an earlier one
pub record HasSorts (source : ScriptWithCut) : Type 0 where
  pub taken : (s m : ℕ) (k : Kind) → 1 ≤ s → inherits k (statement_of source.script s) ≡ Some m
      → IsEarlierOf source.script s k m
  pub read : (r : Recipe) → 1 ≤ r.statement
      → AllByRecursion (ReadsEarlier source.script r.statement) (feeds source r)

abbrev pub IsOwned : List CheckedStmt → Kind → ℕ → Type 0
IsOwned script k s = (owner : ℕ) × Owns script k s owner

-- what is read, if it is a result, has an owner
abbrev pub ReadsOwned : List CheckedStmt → Feed → Type 0
ReadsOwned script f = reads_result f ≡ true → IsOwned script f.recipe.kind f.recipe.statement

-- if names are of the right sorts, each node of a result that is there or is read has an owner
pub record AreOwned (source : ScriptWithCut) : Type 0 where
  pub results : (s : ℕ) (k : Kind) → 1 ≤ s → makes_kind k (statement_of source.script s) ≡ true
      → IsOwned source.script k s
  pub read : (r : Recipe) → 1 ≤ r.statement
      → AllByRecursion (ReadsOwned source.script) (feeds source r)

abbrev pub SortedAreOwned : Type 0
SortedAreOwned = (source : ScriptWithCut) → HasSorts source → AreOwned source

-- ---- cuts

-- `partition` places edges by their ends, and not by their position in a file
abbrev pub MovesByEnds : TypedStmt → Type 0
MovesByEnds (stmts.Partition g cut) = cut ≢ Rows
MovesByEnds _ = ⊤

abbrev pub MoveByEnds : List CheckedStmt → Type 0
MoveByEnds script = (i : ℕ) (t : CheckedStmt) → slice_get script i ≡ Some t → MovesByEnds t.stmt
