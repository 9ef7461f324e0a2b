-- Values of statements: their order and places, and what a statement takes over.
use Rattle.std.proofs.Common.{◌≡◌, ℕ, zero, suc, ◌+◌, ◌-◌, ◌<◌, ◌≤◌, true, false, is_none, is_some, List, [], ◌∷◌, ◌++◌, map, Option, Some, None, option_map, unwrap_or, refl, sym, ap, ◌∙◌, subst, arith}
use Rattle.std.proofs.Math.Nat.{mod-lt}
use Rattle.std.specs.List.{AllByRecursion, slice_get}
use Rattle.std.specs.List.Sorted.{IsStrictlySortedBy}
use Rattle.std.specs.Map.{keys_of}
use Rattle.std.specs.Result.{result_ok, result_unwrap_or}
use Rattle.std.proofs.lemmas.Option.{slice_get-map}
use Rattle.gx_cuts.specs.Places.{place_of}
use Rattle.gx_rows.specs.declared.cut.Cut.{Cut}
use Rattle.gx_rows.specs.declared.cut.Cut.TheVariants.{OneD, TwoD, Random, Canonical, Rows}
use Rattle.gx_index.specs.Ids.{IsAscending}
use Rattle.gx_model.specs.Graphs.{Graph, Placement, ends_in_edges, first_row_of, placed_anew, placed_from, plain_edges}
use Rattle.gx_model.specs.Values.{LoadedRows, is_other_row, join_row_result, rows_loaded, value_named, value_of_stmt, values_of_stmts, vertex_row_result, vertex_test_result, vertices_in_both, vertices_loaded}
use Rattle.gx_model.specs.TableLaws.{IsAscending-table, with_default}
use Rattle.gx_model.specs.StatementValueLaws.{names_are_earlier, value_named-stmt}
use Rattle.gx_plan.specs.PlanInvariant.{Owns}
use Rattle.gx_plan.specs.PlanInvariant.Owns.{own, taken}
use Rattle.gx_plan.specs.StmtNodes.{inherits, statement_of}
use Rattle.gx_plan.specs.declared.kind.Kind.{Kind}
use Rattle.gx_plan.specs.declared.kind.Kind.TheVariants as kind
use Rattle.gx_rows.specs.Order.{Edge}
use Rattle.gx_types_stmts.specs.declared.checked_stmt.CheckedStmt.{CheckedStmt}
use Rattle.gx_types_stmts.specs.declared.typed_stmt.TypedStmt.{TypedStmt}
use Rattle.gx_types_stmts.specs.declared.typed_stmt.TypedStmt.TheVariants as stmts
use Rattle.gx_exec_contents.specs.PartContents.{part_of_result}
use Rattle.gx_exec_contents.specs.Worlds.{IsWorld, World, is_modelled, places_in, placed_values, stmts_of, value_in}
use Rattle.gx_exec_contents.specs.PartEndLaws.{ArePlaced}
use Rattle.gx_exec_contents.specs.TablePartLaws.{IsAscending-passing, IsAscending-with_new_rows}

-- ---- order and places

-- vertices ascend, and each edge is in a part
pub record IsPlacedValue (parts : ℕ) (g : Graph ℕ) : Type 0 where
  pub ascending : IsAscending (keys_of g.vertices)
  pub placed : ArePlaced parts g.edges

no_value : Graph ℕ
no_value = record { vertices = []; edges = [] }

is-empty : (parts : ℕ) → IsPlacedValue parts (record { vertices = []; edges = [] })
unfolding IsStrictlySortedBy
is-empty parts = record { ascending = tt; placed = tt }

placed-from : (place : ℕ → Edge → ℕ) (parts n : ℕ) (edges : List Edge) → ((k : ℕ) (e : Edge) → place k e < parts) → ArePlaced parts (placed_from place n edges)
placed-from place parts n [] below = tt
placed-from place parts n (e ∷ edges) below = (below n e, placed-from place parts (n + 1) edges below)

placed-anew : (place : Edge → ℕ) (parts : ℕ) (edges : List (ℕ × Edge)) → ((e : Edge) → place e < parts) → ArePlaced parts (placed_anew place edges)
placed-anew place parts [] below = tt
placed-anew place parts (e ∷ edges) below = (below e.1, placed-anew place parts edges below)

placed-named : (parts : ℕ) (vs : List (Graph ℕ)) (k : ℕ) → AllByRecursion (IsPlacedValue parts) vs → IsPlacedValue parts (unwrap_or (slice_get vs k) (record { vertices = []; edges = [] }))
placed-named parts [] k all = is-empty parts
placed-named parts (v ∷ vs) zero all = all.0
placed-named parts (v ∷ vs) (suc k) all = placed-named parts vs k all.1

no_rows-ascend : IsAscending []
unfolding IsStrictlySortedBy
no_rows-ascend = tt

-- each edge is placed in one of the parts, a loaded one and one that a cut places anew
record IsPlacementIn (parts : ℕ) (placement : Placement ℕ) : Type 0 where
  loaded : (k : ℕ) (e : Edge) → placement.of_loaded k e < parts
  anew : (cut : Cut) (e : Edge) → placement.of_cut cut e < parts

module _ (placement : Placement ℕ) (parts : ℕ) (below : IsPlacementIn parts placement) (loads : LoadedRows) where
  placed-stmt : (vs : List (Graph ℕ)) (s : ℕ) (stmt : TypedStmt) → AllByRecursion (IsPlacedValue parts) vs → IsPlacedValue parts (value_of_stmt placement loads vs s stmt)
  placed-stmt vs s (stmts.Vertices file) all = record { ascending = IsAscending-table (vertices_loaded loads s); placed = tt }
  placed-stmt vs s (stmts.Edges file) all = record { ascending = no_rows-ascend; placed = placed-from placement.of_loaded parts 0 (rows_loaded loads s) below.loaded }
  placed-stmt vs s (stmts.EdgeList file oriented) all = record { ascending = no_rows-ascend; placed = placed-from placement.of_loaded parts 0 (rows_loaded loads s) below.loaded }
  placed-stmt vs s (stmts.Graph t e default) all = record {
    ascending = IsAscending-table ((value_named vs t).vertices ++ with_default default (ends_in_edges (plain_edges (value_named vs e).edges)));
    placed = (placed-named parts vs (e - 1) all).placed;
  }
  placed-stmt vs s (stmts.FromEdges e row) all = record {
    ascending = IsAscending-table (with_default row (ends_in_edges (plain_edges (value_named vs e).edges)));
    placed = (placed-named parts vs (e - 1) all).placed;
  }
  placed-stmt vs s (stmts.MapVertices g sets) all = record {
    ascending = IsAscending-with_new_rows (λ v. result_ok (vertex_row_result sets v)) (value_named vs g).vertices (placed-named parts vs (g - 1) all).ascending;
    placed = (placed-named parts vs (g - 1) all).placed;
  }
  placed-stmt vs s (stmts.Partition g cut) all = record {
    ascending = (placed-named parts vs (g - 1) all).ascending;
    placed = placed-anew (placement.of_cut cut) parts (value_named vs g).edges (below.anew cut);
  }
  placed-stmt vs s (stmts.Filter t condition) all = record {
    ascending = IsAscending-passing (λ v. result_unwrap_or (vertex_test_result condition v) false) (value_named vs t).vertices (placed-named parts vs (t - 1) all).ascending;
    placed = tt;
  }
  placed-stmt vs s (stmts.MapValues t sets) all = record {
    ascending = IsAscending-with_new_rows (λ v. result_ok (vertex_row_result sets v)) (value_named vs t).vertices (placed-named parts vs (t - 1) all).ascending;
    placed = tt;
  }
  placed-stmt vs s (stmts.Minus t u) all = record {
    ascending = IsAscending-passing (λ v. is_none (first_row_of (value_named vs u).vertices v.0)) (value_named vs t).vertices (placed-named parts vs (t - 1) all).ascending;
    placed = tt;
  }
  placed-stmt vs s (stmts.Diff t u) all = record {
    ascending = IsAscending-passing (λ v. is_other_row (first_row_of (value_named vs t).vertices v.0) v.1) (value_named vs u).vertices (placed-named parts vs (u - 1) all).ascending;
    placed = tt;
  }
  placed-stmt vs s (stmts.InnerJoin t u sets) all = record {
    ascending =
        IsAscending-with_new_rows (λ v. result_ok (join_row_result sets (value_named vs u).vertices [] v)) (vertices_in_both (value_named vs t).vertices (value_named vs u).vertices)
        (IsAscending-passing (λ v. is_some (first_row_of (value_named vs u).vertices v.0)) (value_named vs t).vertices (placed-named parts vs (t - 1) all).ascending);
    placed = tt;
  }
  placed-stmt vs s (stmts.LeftJoin t u default sets) all = record {
    ascending = IsAscending-with_new_rows (λ v. result_ok (join_row_result sets (value_named vs u).vertices default v)) (value_named vs t).vertices (placed-named parts vs (t - 1) all).ascending;
    placed = tt;
  }
  placed-stmt vs s _ all = is-empty parts

  all-more : (vs : List (Graph ℕ)) (v : Graph ℕ) → AllByRecursion (IsPlacedValue parts) vs → IsPlacedValue parts v → AllByRecursion (IsPlacedValue parts) (vs ++ v ∷ [])
  all-more [] v all more = (more, tt)
  all-more (x ∷ vs) v all more = (all.0, all-more vs v all.1 more)

  placed-stmts : (vs : List (Graph ℕ)) (s : ℕ) (ss : List TypedStmt) → AllByRecursion (IsPlacedValue parts) vs → AllByRecursion (IsPlacedValue parts) (values_of_stmts placement loads vs s ss)
  placed-stmts vs s [] all = all
  placed-stmts vs s (stmt ∷ ss) all =
      placed-stmts (vs ++ value_of_stmt placement loads vs s stmt ∷ []) (s + 1) ss (all-more vs (value_of_stmt placement loads vs s stmt) all (placed-stmt vs s stmt all))

place-below : (cut : Cut) (w : World) (n : ℕ) (e : Edge) → 0 < w.parts → place_of cut w.parts e.0.0 e.1.0 n < w.parts
place-below OneD w n e some = mod-lt _ some
place-below TwoD w n e some = mod-lt _ some
place-below Random w n e some = mod-lt _ some
place-below Canonical w n e some = mod-lt _ some
place-below Rows w n e some = mod-lt _ some

-- each value's vertices ascend, and its edges are placed in the parts
pub value-placed : (w : World) → 0 < w.parts → (s : ℕ) → IsPlacedValue w.parts (value_in w s)
unfolding placed_values
value-placed w some s =
    placed-named w.parts (placed_values w) (s - 1)
    (placed-stmts (places_in w) w.parts (record { loaded = λ n e. place-below w.cut w n e some; anew = λ cut e. place-below cut w 0 e some }) w.loads [] 1 (stmts_of w) tt)

-- ---- the value of a statement

-- statement s is this one
abbrev pub IsStatement : World → ℕ → TypedStmt → Type 0
IsStatement w s st = slice_get (stmts_of w) (s - 1) ≡ Some st

pub value_in-stmt : (w : World) → IsWorld w → (s : ℕ) (st : TypedStmt) → 1 ≤ s → IsStatement w s st → value_in w s ≡ value_of_stmt (places_in w) w.loads (placed_values w) s st
unfolding placed_values
value_in-stmt w world s st from_one at =
    value_named-stmt (places_in w) w.loads (stmts_of w) s st from_one at (names_are_earlier w.script s st world.earlier world.named at)

-- a statement that is more than the default is in the script
found-or : (script : List CheckedStmt) (k : ℕ) (found : Option CheckedStmt) (st : TypedStmt) → slice_get script k ≡ found
    → unwrap_or (option_map (λ c. c.stmt) found) (stmts.CountTable 0) ≡ st → (st ≡ stmts.CountTable 0 → ⊥) → slice_get (map (λ c. c.stmt) script) k ≡ Some st
found-or script k None st at e other = absurd (other (sym e))
found-or script k (Some c) st at e other = slice_get-map (λ c. c.stmt) script k ∙ ap (option_map (λ c. c.stmt)) at ∙ ap Some e

pub is_statement : (w : World) (s : ℕ) → (statement_of w.script s ≡ stmts.CountTable 0 → ⊥) → IsStatement w s (statement_of w.script s)
is_statement w s other = found-or w.script (s - 1) (slice_get w.script (s - 1)) (statement_of w.script s) refl refl other

-- ---- what is taken over

-- a value holds what it takes over
kept-kind : (placement : Placement ℕ) (loads : LoadedRows) (vs : List (Graph ℕ)) (s m parts i : ℕ) (k : Kind) (st : TypedStmt) → inherits k st ≡ Some m → is_modelled st ≡ true
    → part_of_result k parts i (value_of_stmt placement loads vs s st) ≡ part_of_result k parts i (value_named vs m)
kept-kind placement loads vs s m parts i kind.Edges (stmts.Graph t e default) from modelled =
    let same : e ≡ m = cc in ap (λ n. part_of_result kind.Edges parts i (value_named vs n)) same
kept-kind placement loads vs s m parts i kind.Edges (stmts.FromEdges e row) from modelled =
    let same : e ≡ m = cc in ap (λ n. part_of_result kind.Edges parts i (value_named vs n)) same
kept-kind placement loads vs s m parts i kind.Edges (stmts.MapVertices g sets) from modelled =
    let same : g ≡ m = cc in ap (λ n. part_of_result kind.Edges parts i (value_named vs n)) same
kept-kind placement loads vs s m parts i kind.Vertices (stmts.Partition g cut) from modelled =
    let same : g ≡ m = cc in ap (λ n. part_of_result kind.Vertices parts i (value_named vs n)) same
kept-kind placement loads vs s m parts i kind.Vertices (stmts.Reverse g) from modelled = absurd cc
kept-kind placement loads vs s m parts i kind.Vertices (stmts.MapEdges g sets) from modelled = absurd cc
kept-kind placement loads vs s m parts i kind.Vertices _ from modelled = absurd cc
kept-kind placement loads vs s m parts i kind.Edges _ from modelled = absurd cc

taken-no_action : (k : Kind) (st : TypedStmt) (m : ℕ) → inherits k st ≡ Some m → st ≡ stmts.CountTable 0 → ⊥
taken-no_action kind.Vertices st m from e = let none : inherits kind.Vertices (stmts.CountTable 0) ≡ Some m = subst (λ x. inherits kind.Vertices x ≡ Some m) e from in cc
taken-no_action kind.Edges st m from e = let none : inherits kind.Edges (stmts.CountTable 0) ≡ Some m = subst (λ x. inherits kind.Edges x ≡ Some m) e from in cc

kept-later : (w : World) → IsWorld w → (s m i : ℕ) (k : Kind) → inherits k (statement_of w.script (suc s)) ≡ Some m → part_of_result k w.parts i (value_in w (suc s)) ≡ part_of_result k w.parts i (value_in w m)
kept-later w world s m i k from =
    let st : TypedStmt = statement_of w.script (suc s) in
    let at : IsStatement w (suc s) st = is_statement w (suc s) (taken-no_action k st m from) in
    ap (part_of_result k w.parts i) (value_in-stmt w world (suc s) st (omega arith) at)
    ∙ kept-kind (places_in w) w.loads (placed_values w) (suc s) m w.parts i k st from (world.modelled (suc s))

kept-value : (w : World) → IsWorld w → (s m i : ℕ) (k : Kind) → inherits k (statement_of w.script s) ≡ Some m → part_of_result k w.parts i (value_in w s) ≡ part_of_result k w.parts i (value_in w m)
kept-value w world zero m i k from = kept-later w world 0 m i k from
kept-value w world (suc s) m i k from = kept-later w world s m i k from

-- the owner's value holds the same
pub owned-value : (w : World) → IsWorld w → (i : ℕ) (k : Kind) (s owner : ℕ) → Owns w.script k s owner → part_of_result k w.parts i (value_in w s) ≡ part_of_result k w.parts i (value_in w owner)
owned-value w world i k s owner (own is) = refl
owned-value w world i k s owner (taken {m = m} from before) = kept-value w world s m i k from ∙ owned-value w world i k m owner before
