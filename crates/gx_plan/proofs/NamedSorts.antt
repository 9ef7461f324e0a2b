-- What a statement reads or takes over, in scripts whose statements name things of the right sorts.
--
-- To plan a statement, add its lines here, as in StmtNodes.antt.
use Rattle.std.proofs.Common.{◌≡◌, ◌≢◌, ℕ, ◌-◌, ◌≤◌, Bool, true, false, Option, Some, None, option_and_then, option_map, unwrap_or, slice_get, List, [], ◌∷◌, refl, sym, ap, subst, arith}
use Rattle.std.specs.Prelude.{⊤}
use Rattle.std.specs.List.{AllByRecursion}
use Rattle.gx_rows.specs.declared.cut.Cut.TheVariants.{Rows}
use Rattle.gx_types.specs.Built.{is_run}
use Rattle.gx_types.specs.SoundStmts.{AreRun, HasWrittenCut, HaveWrittenCuts}
use Rattle.gx_types.specs.StmtSorts.{HasNamedSorts, IsMadeWithin, named_sorts, sort_made, sort_of_number}
use Rattle.gx_types.specs.CutWordLaws.{each-cut_word}
use Rattle.gx_types_clauses.specs.StmtWords.{cut_of_written}
use Rattle.gx_types_stmts.specs.declared.checked_stmt.CheckedStmt.{CheckedStmt}
use Rattle.gx_types_clauses.specs.declared.sort.Sort.{Sort}
use Rattle.gx_types_clauses.specs.declared.sort.Sort.TheVariants as sort
use Rattle.gx_types_stmts.specs.declared.typed_stmt.TypedStmt.{TypedStmt}
use Rattle.gx_types_stmts.specs.declared.typed_stmt.TypedStmt.TheVariants as stmts
use Rattle.gx_plan.specs.PlanLaws.{HasSorts, IsEarlierOf, MoveByEnds, MovesByEnds, ReadsEarlier, makes_kind}
use Rattle.gx_plan.specs.Recipes.{reads_result}
use Rattle.gx_plan.specs.StmtNodes.{ScriptWithCut, feeds_kind, inherits, statement_of}
use Rattle.gx_plan.specs.declared.kind.Kind.{Kind}
use Rattle.gx_plan.specs.declared.kind.Kind.TheVariants.{Vertices, Edges}
use Rattle.gx_plan.specs.declared.recipe.Recipe.{Recipe}

-- ---- the kinds of nodes of each sort

abbrev pub sort_has : Kind → Sort → Bool
sort_has Vertices sort.Table = true
sort_has Edges sort.Table = false
sort_has Vertices sort.Edges = false
sort_has Edges sort.Edges = true
sort_has _ sort.Graph = true

-- a statement that makes a thing of this sort has a node of each of its kinds
abbrev pub HasKinds : Option Sort → TypedStmt → Type 0
HasKinds None st = ⊤
HasKinds (Some s) st = (k : Kind) → sort_has k s ≡ true → makes_kind k st ≡ true

vertices-made : (st : TypedStmt) → makes_kind Vertices st ≡ true → HasKinds (Some sort.Table) st
vertices-made st h Vertices has = h
vertices-made st h Edges has = cc

edges-made : (st : TypedStmt) → makes_kind Edges st ≡ true → HasKinds (Some sort.Edges) st
edges-made st h Vertices has = cc
edges-made st h Edges has = h

both-made : (st : TypedStmt) → makes_kind Vertices st ≡ true → makes_kind Edges st ≡ true → HasKinds (Some sort.Graph) st
both-made st h g Vertices has = h
both-made st h g Edges has = g

run-kinds : (st : TypedStmt) → is_run st ≡ true → HasKinds (sort_made st) st
run-kinds (stmts.Vertices file) run = vertices-made (stmts.Vertices file) refl
run-kinds (stmts.Edges file) run = edges-made (stmts.Edges file) refl
run-kinds (stmts.EdgeList file oriented) run = edges-made (stmts.EdgeList file oriented) refl
run-kinds (stmts.Graph t e default) run = both-made (stmts.Graph t e default) refl refl
run-kinds (stmts.FromEdges e row) run = both-made (stmts.FromEdges e row) refl refl
run-kinds (stmts.Partition g cut) run = both-made (stmts.Partition g cut) refl refl
run-kinds (stmts.MapVertices g sets) run = both-made (stmts.MapVertices g sets) refl refl
run-kinds (stmts.Filter t condition) run = vertices-made (stmts.Filter t condition) refl
run-kinds (stmts.MapValues t sets) run = vertices-made (stmts.MapValues t sets) refl
run-kinds (stmts.Minus t u) run = vertices-made (stmts.Minus t u) refl
run-kinds (stmts.Diff t u) run = vertices-made (stmts.Diff t u) refl
run-kinds (stmts.InnerJoin t u sets) run = vertices-made (stmts.InnerJoin t u sets) refl
run-kinds (stmts.LeftJoin t u default sets) run = vertices-made (stmts.LeftJoin t u default sets) refl
run-kinds (stmts.PrintVertices g) run = tt
run-kinds (stmts.PrintEdges g) run = tt
run-kinds (stmts.PrintTable t) run = tt
run-kinds (stmts.CountVertices g) run = tt
run-kinds (stmts.CountEdges g) run = tt
run-kinds (stmts.CountTable t) run = tt
run-kinds _ run = cc

-- ---- what a statement reads or takes over is of the sort that it names

-- what is named of a sort serves each kind of that sort
abbrev pub ServesKinds : (Sort × ℕ → Type 0) → (Kind → ℕ → Type 0) → Type 0
ServesKinds M P = (s : Sort) (u : ℕ) (k : Kind) → sort_has k s ≡ true → M (s, u) → P k u

feeds-sorted : (M : Sort × ℕ → Type 0) (P : Kind → ℕ → Type 0) → ServesKinds M P → (source : ScriptWithCut) (r : Recipe) (k : Kind) (st : TypedStmt) → AllByRecursion M (named_sorts st)
    → AllByRecursion (λ f. reads_result f ≡ true → P f.recipe.kind f.recipe.statement) (feeds_kind k st source r)
feeds-sorted M P to source r Vertices (stmts.Graph t e default) h = ((λ is. to sort.Table t Vertices refl h.0), ((λ is. to sort.Edges e Edges refl h.1.0), tt))
feeds-sorted M P to source r Vertices (stmts.FromEdges e row) h = ((λ is. to sort.Edges e Edges refl h.0), tt)
feeds-sorted M P to source r Edges (stmts.Reverse g) h = ((λ is. to sort.Graph g Edges refl h.0), tt)
feeds-sorted M P to source r Vertices (stmts.Mask g by) h = ((λ is. to sort.Graph g Vertices refl h.0), ((λ is. to sort.Graph by Vertices refl h.1.0), tt))
feeds-sorted M P to source r Edges (stmts.Mask g by) h = ((λ is. to sort.Graph g Edges refl h.0), ((λ is. to sort.Graph by Edges refl h.1.0), tt))
feeds-sorted M P to source r Edges (stmts.Partition g cut) h = ((λ is. to sort.Graph g Edges refl h.0), tt)
feeds-sorted M P to source r Vertices (stmts.MapVertices g sets) h = ((λ is. to sort.Graph g Vertices refl h.0), tt)
feeds-sorted M P to source r Edges (stmts.MapEdges g sets) h = ((λ is. to sort.Graph g Edges refl h.0), tt)
feeds-sorted M P to source r Vertices (stmts.JoinVertices g t sets) h = ((λ is. to sort.Graph g Vertices refl h.0), ((λ is. to sort.Table t Vertices refl h.1.0), tt))
feeds-sorted M P to source r Vertices (stmts.OuterJoin g t default sets) h = ((λ is. to sort.Graph g Vertices refl h.0), ((λ is. to sort.Table t Vertices refl h.1.0), tt))
feeds-sorted M P to source r Vertices (stmts.Filter t condition) h = ((λ is. to sort.Table t Vertices refl h.0), tt)
feeds-sorted M P to source r Vertices (stmts.MapValues t sets) h = ((λ is. to sort.Table t Vertices refl h.0), tt)
feeds-sorted M P to source r Vertices (stmts.Minus t u) h = ((λ is. to sort.Table t Vertices refl h.0), ((λ is. to sort.Table u Vertices refl h.1.0), tt))
feeds-sorted M P to source r Vertices (stmts.Diff t u) h = ((λ is. to sort.Table t Vertices refl h.0), ((λ is. to sort.Table u Vertices refl h.1.0), tt))
feeds-sorted M P to source r Vertices (stmts.InnerJoin t u sets) h = ((λ is. to sort.Table t Vertices refl h.0), ((λ is. to sort.Table u Vertices refl h.1.0), tt))
feeds-sorted M P to source r Vertices (stmts.LeftJoin t u default sets) h = ((λ is. to sort.Table t Vertices refl h.0), ((λ is. to sort.Table u Vertices refl h.1.0), tt))
feeds-sorted M P to source r _ _ h = tt

inherits-sorted : (M : Sort × ℕ → Type 0) (P : Kind → ℕ → Type 0) → ServesKinds M P → (k : Kind) (st : TypedStmt) (m : ℕ) → inherits k st ≡ Some m → AllByRecursion M (named_sorts st) → P k m
inherits-sorted M P to Edges (stmts.Graph t e default) m is h = subst (P Edges) (cc is) (to sort.Edges e Edges refl h.1.0)
inherits-sorted M P to Edges (stmts.FromEdges e row) m is h = subst (P Edges) (cc is) (to sort.Edges e Edges refl h.0)
inherits-sorted M P to Vertices (stmts.Reverse g) m is h = subst (P Vertices) (cc is) (to sort.Graph g Vertices refl h.0)
inherits-sorted M P to Vertices (stmts.Partition g cut) m is h = subst (P Vertices) (cc is) (to sort.Graph g Vertices refl h.0)
inherits-sorted M P to Edges (stmts.MapVertices g sets) m is h = subst (P Edges) (cc is) (to sort.Graph g Edges refl h.0)
inherits-sorted M P to Vertices (stmts.MapEdges g sets) m is h = subst (P Vertices) (cc is) (to sort.Graph g Vertices refl h.0)
inherits-sorted M P to Edges (stmts.JoinVertices g t sets) m is h = subst (P Edges) (cc is) (to sort.Graph g Edges refl h.0)
inherits-sorted M P to Edges (stmts.OuterJoin g t default sets) m is h = subst (P Edges) (cc is) (to sort.Graph g Edges refl h.0)
inherits-sorted M P to _ _ m is h = cc

-- ---- in a script

-- the statement that stands there, or an action that adds nothing
abbrev pub stmt_or_none : Option CheckedStmt → TypedStmt
stmt_or_none o = unwrap_or (option_map (λ c. c.stmt) o) (stmts.CountTable 0)

made-kinds : (script : List CheckedStmt) (m : ℕ) (s : Sort) (k : Kind) (o : Option CheckedStmt) → slice_get script (m - 1) ≡ o → AreRun script → option_and_then (λ c. sort_made c.stmt) o ≡ Some s → sort_has k s ≡ true
    → makes_kind k (stmt_or_none o) ≡ true
made-kinds script m s k None at run made has = cc
made-kinds script m s k (Some c) at run made has =
    let kinds : HasKinds (Some s) c.stmt = subst (λ q. HasKinds q c.stmt) made (run-kinds c.stmt (run (m - 1) c at)) in
    kinds k has

made-earlier : (script : List CheckedStmt) (s : ℕ) → AreRun script → 1 ≤ s → ServesKinds (IsMadeWithin script (s - 1)) (IsEarlierOf script s)
made-earlier script s run from_one sort_named u k has made = record {
  from_one = made.from_one;
  earlier = omega (arith, made.within, from_one);
  makes = made-kinds script u sort_named k (slice_get script (u - 1)) refl run made.made has;
}

taken-sorted : (script : List CheckedStmt) (s m : ℕ) (k : Kind) (o : Option CheckedStmt) → slice_get script (s - 1) ≡ o → HasNamedSorts script → AreRun script → 1 ≤ s → inherits k (stmt_or_none o) ≡ Some m
    → IsEarlierOf script s k m
taken-sorted script s m Vertices None at sorts run from_one is = cc
taken-sorted script s m Edges None at sorts run from_one is = cc
taken-sorted script s m k (Some c) at sorts run from_one is =
    inherits-sorted (IsMadeWithin script (s - 1)) (IsEarlierOf script s) (made-earlier script s run from_one) k c.stmt m is (sorts (s - 1) c at)

read-sorted : (source : ScriptWithCut) (r : Recipe) (k : Kind) (o : Option CheckedStmt) → slice_get source.script (r.statement - 1) ≡ o → HasNamedSorts source.script → AreRun source.script → 1 ≤ r.statement
    → AllByRecursion (ReadsEarlier source.script r.statement) (feeds_kind k (stmt_or_none o) source r)
read-sorted source r Vertices None at sorts run from_one = tt
read-sorted source r Edges None at sorts run from_one = tt
read-sorted source r k (Some c) at sorts run from_one =
    let s : ℕ = r.statement in
    feeds-sorted (IsMadeWithin source.script (s - 1)) (IsEarlierOf source.script s) (made-earlier source.script s run from_one) source r k c.stmt (sorts (s - 1) c at)

pub named-has_sorts : (source : ScriptWithCut) → HasNamedSorts source.script → AreRun source.script → HasSorts source
named-has_sorts source sorts run = record {
  taken = λ s m k from_one is. taken-sorted source.script s m k (slice_get source.script (s - 1)) refl sorts run from_one is;
  read = λ r from_one. read-sorted source r r.kind (slice_get source.script (r.statement - 1)) refl sorts run from_one;
}

-- ---- by the numbers of statements

run-at : (script : List CheckedStmt) (i : ℕ) (o : Option CheckedStmt) → slice_get script i ≡ o → AreRun script → is_run (stmt_or_none o) ≡ true
run-at script i None at run = refl
run-at script i (Some c) at run = run i c at

pub statement-is_run : (script : List CheckedStmt) (s : ℕ) → AreRun script → is_run (statement_of script s) ≡ true
statement-is_run script s run = run-at script (s - 1) (slice_get script (s - 1)) refl run

-- a cut that a script can write places edges by their ends
by_ends-written : (st : TypedStmt) → HasWrittenCut st → MovesByEnds st
by_ends-written (stmts.Partition g cut) h = subst (λ c. c ≢ Rows) (sym h.1) (each-cut_word cut_of_written (λ c. c ≢ Rows) (λ e. cc) (λ e. cc) (λ e. cc) (λ e. cc) h.0)
by_ends-written _ h = tt

pub by_ends-all : (script : List CheckedStmt) → HaveWrittenCuts script → MoveByEnds script
by_ends-all script cuts i t at = by_ends-written t.stmt (cuts i t at)

by_ends-at : (script : List CheckedStmt) (i : ℕ) (o : Option CheckedStmt) → slice_get script i ≡ o → MoveByEnds script → MovesByEnds (stmt_or_none o)
by_ends-at script i None at h = tt
by_ends-at script i (Some c) at h = h i c at

pub statement-by_ends : (script : List CheckedStmt) (s : ℕ) → MoveByEnds script → MovesByEnds (statement_of script s)
statement-by_ends script s h = by_ends-at script (s - 1) (slice_get script (s - 1)) refl h
