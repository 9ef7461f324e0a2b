-- What a run of a script is given, and the value of each statement with the places of edges.
use Rattle.std.specs.Prelude.{◌≡◌, ℕ, ◌<◌, true, false, Bool, All, List, map}
use Rattle.gx_cuts.specs.Places.{place_of}
use Rattle.gx_rows.specs.declared.cut.Cut.{Cut}
use Rattle.gx_lineage.specs.Lineage.{IsSound}
use Rattle.gx_model.specs.Graphs.{Graph, Placement}
use Rattle.gx_model.specs.ScriptMeaning.{Loaded}
use Rattle.gx_model.specs.Values.{LoadedRows, value_named, values_of_script}
use Rattle.gx_plan.specs.PlanInvariant.{IsPlan}
use Rattle.gx_plan.specs.PlanLaws.{HasSorts, MovesByEnds}
use Rattle.gx_plan.specs.Plans.{Planned}
use Rattle.gx_plan.specs.Recipes.{GraphName}
use Rattle.gx_plan.specs.StmtNodes.{ScriptWithCut, statement_of}
use Rattle.gx_rows.specs.Order.{Edge}
use Rattle.gx_types.specs.Needs.{NamesAreUsed, UseEarlier}
use Rattle.gx_types_stmts.specs.declared.checked_stmt.CheckedStmt.{CheckedStmt}
use Rattle.gx_types_stmts.specs.declared.typed_stmt.TypedStmt.{TypedStmt}
use Rattle.gx_types_stmts.specs.declared.typed_stmt.TypedStmt.TheVariants as stmts

-- a script with its loaded rows, the number of parts, and the cut that places the edges of loads
pub record World : Type 0 where
  pub script : List CheckedStmt
  pub loads : LoadedRows
  pub parts : ℕ
  pub cut : Cut

abbrev pub source_of : World → ScriptWithCut
source_of w = record { script = w.script; cut = w.cut }

-- the part of a loaded edge, by its ordinal
abbrev pub place_in : World → ℕ → Edge → ℕ
place_in w n e = place_of w.cut w.parts e.0.0 e.1.0 n

-- the parts of edges: of a loaded one by its ordinal, of one that a cut places anew by its ends alone
abbrev pub places_in : World → Placement ℕ
places_in w = record { of_loaded = place_in w; of_cut = λ cut e. place_of cut w.parts e.0.0 e.1.0 0 }

abbrev pub stmts_of : World → List TypedStmt
stmts_of w = map (λ c. c.stmt) w.script

-- the value of each statement, where each edge has its part
unfoldable pub placed_values : World → List (Graph ℕ)
placed_values w = values_of_script (places_in w) w.loads (stmts_of w)

-- the value of statement s
abbrev pub value_in : World → ℕ → Graph ℕ
value_in w s = value_named (placed_values w) s

-- the value of a table or a graph by its name: that of its statement, since none has rounds so far
abbrev pub value_at : World → GraphName → Graph ℕ
value_at w g = value_in w g.statement

-- the script with its loaded rows, as the plain model knows it: without parts and places
abbrev pub loaded_in : World → Loaded
loaded_in w = record { checked = w.script; loads = w.loads }

-- ---- what is asked of a world and a plan

-- the model gives the statement a value, or the statement is an action
abbrev pub is_modelled : TypedStmt → Bool
is_modelled (stmts.Vertices file) = true
is_modelled (stmts.Edges file) = true
is_modelled (stmts.EdgeList file oriented) = true
is_modelled (stmts.Graph t e default) = true
is_modelled (stmts.FromEdges e row) = true
is_modelled (stmts.Partition g cut) = true
is_modelled (stmts.MapVertices g sets) = true
is_modelled (stmts.Filter t condition) = true
is_modelled (stmts.MapValues t sets) = true
is_modelled (stmts.Minus t u) = true
is_modelled (stmts.Diff t u) = true
is_modelled (stmts.InnerJoin t u sets) = true
is_modelled (stmts.LeftJoin t u default sets) = true
is_modelled (stmts.PrintVertices g) = true
is_modelled (stmts.PrintEdges g) = true
is_modelled (stmts.PrintTable t) = true
is_modelled (stmts.CountVertices g) = true
is_modelled (stmts.CountEdges g) = true
is_modelled (stmts.CountTable t) = true
is_modelled _ = false

-- a script that may be run: it names earlier statements of the right sorts, and the model has their values
pub record IsWorld (w : World) : Type 0 where
  pub some_parts : 0 < w.parts
  pub earlier : UseEarlier w.script
  pub named : All NamesAreUsed w.script
  pub sorts : HasSorts (source_of w)
  pub modelled : (s : ℕ) → is_modelled (statement_of w.script s) ≡ true
  pub by_ends : (s : ℕ) → MovesByEnds (statement_of w.script s)

-- a plan of that script, in as many parts
pub record IsSetting (w : World) (p : Planned) : Type 0 where
  pub world : IsWorld w
  pub plan : IsPlan (source_of w) p
  pub sound : IsSound p.lineage
  pub parts : p.lineage.parts ≡ w.parts
