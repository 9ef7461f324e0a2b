-- What is made of the parts of the values that a statement reads is the part of its value.
use Rattle.std.proofs.Common.{◌≡◌, ℕ, ◌<◌, ◌&&◌, true, List, [], ◌++◌, map, refl, sym, ap, ◌∙◌}
use Rattle.std.specs.List.{filter, flat_map, range_with_len}
use Rattle.std.proofs.lemmas.List.{append-nil}
use Rattle.std.proofs.lemmas.List.Elements.{filter-append}
use Rattle.std.proofs.lemmas.List.Folds.{flat_map-map}
use Rattle.gx_cuts.specs.Places.{place_of}
use Rattle.gx_rows.specs.declared.cut.Cut.{Cut}
use Rattle.gx_rows.specs.Order.{Edge}
use Rattle.gx_rows.specs.declared.value.Value.{Value}
use Rattle.gx_rows.specs.declared.vid.Vid.{Vid}
use Rattle.gx_epart.specs.Edges.{edge_order_of}
use Rattle.gx_gops.specs.Moving.{edges_placed_in}
use Rattle.gx_gops.specs.Tables.{both_ends, default_rows, ends_in_part, is_in_part, table_of}
use Rattle.gx_model.specs.Graphs.{Vertex, ends_in_edges, placed_anew, plain_edges, table_of_rows}
use Rattle.gx_model.specs.Values.{value_of_stmt, vertices_loaded}
use Rattle.gx_model.specs.TableLaws.{table_of_rows-defaults, with_default}
use Rattle.gx_plan.specs.PlanInvariant.{is_own}
use Rattle.gx_plan.specs.StmtNodes.{feeds_kind}
use Rattle.gx_plan.specs.declared.feed.Feed.{Feed}
use Rattle.gx_plan.specs.declared.kind.Kind.{Kind}
use Rattle.gx_plan.specs.declared.kind.Kind.TheVariants as kind
use Rattle.gx_plan.specs.declared.recipe.Recipe.{Recipe}
use Rattle.gx_lineage.specs.Lineage.{parts_of_pattern}
use Rattle.gx_types_stmts.specs.declared.typed_stmt.TypedStmt.{TypedStmt}
use Rattle.gx_types_stmts.specs.declared.typed_stmt.TypedStmt.TheVariants as stmts
use Rattle.gx_exec_contents.specs.MadeBlocks.{completed, edges_held, edges_moved, made_kind}
use Rattle.gx_exec_contents.specs.PartContents.{Content, Edges, Table, fault_kind, held_kind, part_of_edges, part_of_result, part_of_value, part_of_vertices, stop_or}
use Rattle.gx_exec_contents.specs.Worlds.{World, places_in, placed_values, source_of, value_in}
use Rattle.gx_exec_contents.specs.PartEndLaws.{ArePlaced, ends_of_parts, has_id-filter}
use Rattle.gx_exec_contents.specs.MadeTableLaws.{diff-is, inner_joined-is, kept-is, left_joined-is, mapped-is, minus-is}
use Rattle.gx_exec_contents.specs.MovedEdgeLaws.{order-moved}
use Rattle.gx_exec_contents.specs.StatementValueLaws.{value-placed}
use Rattle.gx_exec_contents.specs.TablePartLaws.{part-table_of_rows, part-with_default, table_of-is}

-- ---- what a node reads, if nothing is at fault

-- what part i reads of a feed
abbrev pub fed : World → ℕ → Feed → List Content
fed w i f = map (λ j. held_kind w f.recipe.kind f.recipe j) (parts_of_pattern w.parts i f.pattern)

-- ---- tables with defaults

held_edges : (parts : ℕ) (edges : List (ℕ × Edge))
    → flat_map edges_held (map (λ j. Edges (edge_order_of (part_of_edges j edges))) (range_with_len 0 parts) ++ []) ≡ flat_map (λ j. edge_order_of (part_of_edges j edges)) (range_with_len 0 parts)
held_edges parts edges =
    let contents : List Content = map (λ j. Edges (edge_order_of (part_of_edges j edges))) (range_with_len 0 parts) in
    ap (flat_map edges_held) (append-nil contents)
    ∙ flat_map-map edges_held (λ j. Edges (edge_order_of (part_of_edges j edges))) (range_with_len 0 parts)

-- the rows of a part with the defaults of all edge partitions are the part of the rows with all defaults
completed-rows : (parts i : ℕ) (rows : List Vertex) (default : List Value) (edges : List (ℕ × Edge)) → ArePlaced parts edges
    → table_of (part_of_vertices parts i rows ++ default_rows default (ends_in_part i parts (flat_map (λ j. edge_order_of (part_of_edges j edges)) (range_with_len 0 parts))))
    ≡ part_of_vertices parts i (table_of_rows (rows ++ with_default default (ends_in_edges (plain_edges edges))))
completed-rows parts i rows default edges placed =
    let part : List Vertex = part_of_vertices parts i rows in
    let of_parts : List Vid = both_ends (flat_map (λ j. edge_order_of (part_of_edges j edges)) (range_with_len 0 parts)) in
    let all : List Vid = ends_in_edges (plain_edges edges) in
    table_of-is (part ++ with_default default (filter (is_in_part i parts) of_parts))
    ∙ table_of_rows-defaults part default (filter (is_in_part i parts) of_parts) (filter (is_in_part i parts) all)
    (λ q none. has_id-filter (is_in_part i parts) q of_parts ∙ ap (λ b. is_in_part i parts q && b) (ends_of_parts q parts edges placed) ∙ sym (has_id-filter (is_in_part i parts) q all))
    ∙ ap (λ vs. table_of_rows (part ++ vs)) (sym (part-with_default parts i default all))
    ∙ ap table_of_rows (sym (filter-append (λ v. is_in_part i parts v.0) rows (with_default default all)))
    ∙ sym (part-table_of_rows parts i (rows ++ with_default default all))

completed-is : (w : World) (i : ℕ) (rows : List Vertex) (default : List Value) (edges : List (ℕ × Edge)) → ArePlaced w.parts edges
    → completed w i (part_of_vertices w.parts i rows) default (map (λ j. Edges (edge_order_of (part_of_edges j edges))) (range_with_len 0 w.parts) ++ [])
    ≡ Table (part_of_vertices w.parts i (table_of_rows (rows ++ with_default default (ends_in_edges (plain_edges edges)))))
completed-is w i rows default edges placed =
    ap (λ es. Table (table_of (part_of_vertices w.parts i rows ++ default_rows default (ends_in_part i w.parts es)))) (held_edges w.parts edges)
    ∙ ap Table (completed-rows w.parts i rows default edges placed)

-- ---- edges that move

-- the edges of all parts that a cut places in part i
moved-is : (w : World) (i : ℕ) (cut : Cut) (edges : List (ℕ × Edge)) → ArePlaced w.parts edges
    → edges_moved w i cut (map (λ j. Edges (edge_order_of (part_of_edges j edges))) (range_with_len 0 w.parts) ++ [])
    ≡ Edges (edge_order_of (part_of_edges i (placed_anew (λ e. place_of cut w.parts e.0.0 e.1.0 0) edges)))
moved-is w i cut edges placed =
    ap (λ es. Edges (edge_order_of (edges_placed_in cut i w.parts es))) (held_edges w.parts edges)
    ∙ ap Edges (order-moved cut i w.parts edges placed)

-- ---- each statement

pub made-kind : (w : World) → 0 < w.parts → (r : Recipe) (i : ℕ) (k : Kind) (st : TypedStmt) → is_own k st ≡ true
    → made_kind w k r i st (flat_map (fed w i) (feeds_kind k st (source_of w) r))
    ≡ stop_or (fault_kind w k r (part_of_value k w.parts i) st) (part_of_result k w.parts i (value_of_stmt (places_in w) w.loads (placed_values w) r.statement st))
made-kind w some r i kind.Vertices (stmts.Vertices file) own =
    ap Table (table_of-is (part_of_vertices w.parts i (vertices_loaded w.loads r.statement)) ∙ sym (part-table_of_rows w.parts i (vertices_loaded w.loads r.statement)))
made-kind w some r i kind.Vertices (stmts.Graph t e default) own =
    completed-is w i (value_in w t).vertices default (value_in w e).edges (value-placed w some e).placed
made-kind w some r i kind.Vertices (stmts.FromEdges e row) own =
    completed-is w i [] row (value_in w e).edges (value-placed w some e).placed
made-kind w some r i kind.Vertices (stmts.MapVertices g sets) own =
    mapped-is w.parts i sets (value_in w g).vertices (value-placed w some g).ascending
made-kind w some r i kind.Vertices (stmts.Filter t condition) own =
    kept-is w.parts i condition (value_in w t).vertices (value-placed w some t).ascending
made-kind w some r i kind.Vertices (stmts.MapValues t sets) own =
    mapped-is w.parts i sets (value_in w t).vertices (value-placed w some t).ascending
made-kind w some r i kind.Vertices (stmts.Minus t u) own = ap Table (minus-is w.parts i (value_in w t).vertices (value_in w u).vertices)
made-kind w some r i kind.Vertices (stmts.Diff t u) own = ap Table (diff-is w.parts i (value_in w t).vertices (value_in w u).vertices)
made-kind w some r i kind.Vertices (stmts.InnerJoin t u sets) own =
    inner_joined-is w.parts i sets (value_in w t).vertices (value_in w u).vertices (value-placed w some t).ascending
made-kind w some r i kind.Vertices (stmts.LeftJoin t u default sets) own =
    left_joined-is w.parts i sets default (value_in w t).vertices (value_in w u).vertices (value-placed w some t).ascending
made-kind w some r i kind.Vertices (stmts.Partition g cut) own = absurd cc
made-kind w some r i kind.Edges (stmts.Partition g cut) own = moved-is w i cut (value_in w g).edges (value-placed w some g).placed
made-kind w some r i kind.Edges (stmts.Graph t e default) own = absurd cc
made-kind w some r i kind.Edges (stmts.FromEdges e row) own = absurd cc
made-kind w some r i kind.Edges (stmts.MapVertices g sets) own = absurd cc
made-kind w some r i kind.Vertices _ own = refl
made-kind w some r i kind.Edges _ own = refl
