-- What holds of the statements of each script that is well typed.
use Rattle.std.specs.Prelude.{◌≡◌, ℕ, ◌≤◌, true, Some, IfSome, List, All, length, slice_get, ⊤}
use Rattle.gx_syntax_tree.specs.declared.words.CutWord.{CutWord}
use Rattle.gx_types.specs.Built.{is_run}
use Rattle.gx_types.specs.Needs.{NamesAreUsed, UseEarlier}
use Rattle.gx_types.specs.StmtSorts.{HasNamedSorts, sort_made, sort_of_types}
use Rattle.gx_types_clauses.specs.StmtWords.{cut_of_written}
use Rattle.gx_types_stmts.specs.declared.checked_stmt.CheckedStmt.{CheckedStmt}
use Rattle.gx_types_stmts.specs.declared.made.Made.{Made}
use Rattle.gx_types_stmts.specs.declared.typed_stmt.TypedStmt.{TypedStmt}
use Rattle.gx_types_stmts.specs.declared.typed_stmt.TypedStmt.TheVariants as typed

-- each statement is run
abbrev pub AreRun : List CheckedStmt → Type 0
AreRun ts = (i : ℕ) (t : CheckedStmt) → slice_get ts i ≡ Some t → is_run t.stmt ≡ true

-- the cut of `partition` is one that a script can write, and so never that of the rows of a file
abbrev pub HasWrittenCut : TypedStmt → Type 0
HasWrittenCut (typed.Partition g cut) = (word : CutWord) × (cut ≡ cut_of_written word)
HasWrittenCut _ = ⊤

abbrev pub HaveWrittenCuts : List CheckedStmt → Type 0
HaveWrittenCuts ts = (i : ℕ) (t : CheckedStmt) → slice_get ts i ≡ Some t → HasWrittenCut t.stmt

-- what each statement makes has the columns of its sort: a table those of its rows, edges their own, a
-- graph both, and an action none
abbrev pub MakeTheirSorts : List CheckedStmt → Type 0
MakeTheirSorts ts = (i : ℕ) (t : CheckedStmt) → slice_get ts i ≡ Some t
    → sort_made t.stmt ≡ sort_of_types t.made.vertices t.made.edges

-- at most 16 columns
abbrev pub HasFewColumns : Made → Type 0
HasFewColumns m =
    IfSome m.vertices (λ columns. length columns ≤ 16) × IfSome m.edges (λ columns. length columns ≤ 16)

abbrev pub HaveFewColumns : List CheckedStmt → Type 0
HaveFewColumns ts = (i : ℕ) (t : CheckedStmt) → slice_get ts i ≡ Some t → HasFewColumns t.made

pub record HasSoundStmts (ts : List CheckedStmt) : Type 0 where
  pub earlier : UseEarlier ts
  pub named : All NamesAreUsed ts
  pub sorts : HasNamedSorts ts
  pub run : AreRun ts
  pub cuts : HaveWrittenCuts ts
  pub makes : MakeTheirSorts ts
  pub columns : HaveFewColumns ts
