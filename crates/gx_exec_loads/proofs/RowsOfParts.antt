-- The rows at the positions of a part are the rows of that part.
use Rattle.std.proofs.Common.{◌≡◌, ℕ, zero, suc, ◌+◌, ◌%◌, ◌==◌, Bool, true, false, cond, List, [], ◌∷◌, ◌++◌, Option, None, Some, append_assoc, map, arith, refl, sym, ap, ap₂, ◌∙◌}
use Rattle.std.specs.List.{cons_option, filter, filter_map, slice_get}
use Rattle.std.proofs.lemmas.List.{append-nil}
use Rattle.gx_cuts.specs.Mixing.{mix_of}
use Rattle.gx_exec_contents.specs.PartContents.{part_of_edges, part_of_vertices}
use Rattle.gx_gops.specs.Tables.{is_in_part}
use Rattle.gx_load.specs.Loading.{LoadedRow}
use Rattle.gx_model.specs.Graphs.{Vertex, placed_from, plain_edges}
use Rattle.gx_model.specs.Values.{rows_loaded, vertices_loaded}
use Rattle.gx_plan.specs.declared.kind.Kind.TheVariants as kind
use Rattle.gx_exec_contents.specs.Worlds.{World, place_in}
use Rattle.gx_exec_loads.specs.Filing.{items_at, kind_in, part_of_row, positions_in_part, vertex_of_row}

module _ (part_of : ℕ → LoadedRow → ℕ) (i : ℕ) where
  picked : (get : ℕ → Option LoadedRow) (n : ℕ) (rows : List LoadedRow) → ((k : ℕ) → get (n + k) ≡ slice_get rows k)
      → filter_map get (positions_in_part part_of i n rows) ≡ part_of_edges i (placed_from part_of n rows)
  picked get n [] at = refl
  picked get n (row ∷ rows) at = by (part_of n row == i) (picked get (n + 1) rows (λ k. ap get (next k) ∙ at (suc k)))
    where
      next : (k : ℕ) → (n + 1) + k ≡ n + suc k
      next k = omega arith

      here : get n ≡ Some row
      here = let same : n ≡ n + zero = omega arith in ap get same ∙ at zero

      by : (b : Bool) → filter_map get (positions_in_part part_of i (n + 1) rows) ≡ part_of_edges i (placed_from part_of (n + 1) rows)
          → filter_map get (cond b (n ∷ positions_in_part part_of i (n + 1) rows) (positions_in_part part_of i (n + 1) rows))
          ≡ plain_edges (cond b ((part_of n row, row) ∷ filter (λ e. e.0 == i) (placed_from part_of (n + 1) rows)) (filter (λ e. e.0 == i) (placed_from part_of (n + 1) rows)))
      by true more = ap (λ u. cons_option u (filter_map get (positions_in_part part_of i (n + 1) rows))) here ∙ ap (λ rs. row ∷ rs) more
      by false more = more

  pub rows_of_part : (rows : List LoadedRow) → items_at rows (positions_in_part part_of i 0 rows) ≡ part_of_edges i (placed_from part_of 0 rows)
  rows_of_part rows = picked (slice_get rows) 0 rows (λ k. let same : 0 + k ≡ k = omega arith in ap (slice_get rows) same)

-- of vertices the part does not depend on the position
vertices_from : (parts i n : ℕ) (rows : List LoadedRow)
    → map vertex_of_row (part_of_edges i (placed_from (λ m row. mix_of row.0.0 % parts) n rows)) ≡ part_of_vertices parts i (map vertex_of_row rows)
vertices_from parts i n [] = refl
vertices_from parts i n (row ∷ rows) = by (is_in_part i parts row.0) (vertices_from parts i (n + 1) rows)
  where
    by : (b : Bool) → map vertex_of_row (part_of_edges i (placed_from (λ m r. mix_of r.0.0 % parts) (n + 1) rows)) ≡ part_of_vertices parts i (map vertex_of_row rows)
        → map vertex_of_row (plain_edges (cond b ((mix_of row.0.0 % parts, row) ∷ filter (λ e. e.0 == i) (placed_from (λ m r. mix_of r.0.0 % parts) (n + 1) rows)) (filter (λ e. e.0 == i) (placed_from (λ m r. mix_of r.0.0 % parts) (n + 1) rows))))
        ≡ cond b (vertex_of_row row ∷ part_of_vertices parts i (map vertex_of_row rows)) (part_of_vertices parts i (map vertex_of_row rows))
    by true more = ap (λ vs. vertex_of_row row ∷ vs) more
    by false more = more

pub vertices_of_part : (parts i : ℕ) (rows : List LoadedRow)
    → map vertex_of_row (items_at rows (positions_in_part (λ n row. mix_of row.0.0 % parts) i 0 rows)) ≡ part_of_vertices parts i (map vertex_of_row rows)
vertices_of_part parts i rows = ap (map vertex_of_row) (rows_of_part (λ n row. mix_of row.0.0 % parts) i rows) ∙ vertices_from parts i 0 rows

-- the items at a position, and those at the others
pub items_at-next : {X : Type 0} (items : List X) (n : ℕ) (ns : List ℕ) → items_at items (n ∷ []) ++ items_at items ns ≡ items_at items (n ∷ ns)
items_at-next items n ns = by (slice_get items n)
  where
    by : (o : Option _) → cons_option o [] ++ items_at items ns ≡ cons_option o (items_at items ns)
    by None = refl
    by (Some x) = refl

pub vertices_at-next : (rows : List LoadedRow) (n : ℕ) (ns : List ℕ)
    → map vertex_of_row (items_at rows (n ∷ [])) ++ map vertex_of_row (items_at rows ns) ≡ map vertex_of_row (items_at rows (n ∷ ns))
vertices_at-next rows n ns = by (slice_get rows n)
  where
    by : (o : Option LoadedRow) → map vertex_of_row (cons_option o []) ++ map vertex_of_row (items_at rows ns) ≡ map vertex_of_row (cons_option o (items_at rows ns))
    by None = refl
    by (Some row) = refl

-- one more item of a list that is gone through
pub appended-next : {X : Type 0} (so_far more rest new all whole : List X) → new ≡ so_far ++ more → more ++ rest ≡ whole → so_far ++ whole ≡ all → new ++ rest ≡ all
appended-next so_far more rest new all whole added split before =
    ap (λ xs. xs ++ rest) added ∙ append_assoc so_far more rest ∙ ap (λ xs. so_far ++ xs) split ∙ before

-- ---- as the calls find them

pub vertices-are : (w : World) (s i : ℕ) (rows : List LoadedRow) (positions : List ℕ) (copies : List Vertex) → kind_in w.script s ≡ kind.Vertices
    → rows ≡ rows_loaded w.loads s → positions ≡ positions_in_part (part_of_row (kind_in w.script s) w.cut w.parts) i 0 (rows_loaded w.loads s)
    → copies ≡ map vertex_of_row (items_at rows positions) → copies ≡ part_of_vertices w.parts i (vertices_loaded w.loads s)
vertices-are w s i rows positions copies is rows_are positions_are copied =
    let loaded = rows_loaded w.loads s in
    copied
    ∙ ap₂ (λ rs ps. map vertex_of_row (items_at rs ps)) rows_are (positions_are ∙ ap (λ k. positions_in_part (part_of_row k w.cut w.parts) i 0 loaded) is)
    ∙ vertices_of_part w.parts i loaded

pub edges-are : (w : World) (s i : ℕ) (rows : List LoadedRow) (positions : List ℕ) (copies : List LoadedRow) → kind_in w.script s ≡ kind.Edges
    → rows ≡ rows_loaded w.loads s → positions ≡ positions_in_part (part_of_row (kind_in w.script s) w.cut w.parts) i 0 (rows_loaded w.loads s)
    → copies ≡ items_at rows positions → copies ≡ part_of_edges i (placed_from (place_in w) 0 (rows_loaded w.loads s))
edges-are w s i rows positions copies is rows_are positions_are copied =
    let loaded = rows_loaded w.loads s in
    copied
    ∙ ap₂ (λ rs ps. items_at rs ps) rows_are (positions_are ∙ ap (λ k. positions_in_part (part_of_row k w.cut w.parts) i 0 loaded) is)
    ∙ rows_of_part (part_of_row kind.Edges w.cut w.parts) i loaded

-- ---- copies item by item

-- nothing is added at a position past the end
pub no_item_at : {X : Type 0} (items : List X) (n : ℕ) (xs : List X) → slice_get items n ≡ None → xs ≡ xs ++ items_at items (n ∷ [])
no_item_at items n xs none = sym (append-nil xs) ∙ ap (λ o. xs ++ cons_option o []) (sym none)

pub no_vertex_at : (rows : List LoadedRow) (n : ℕ) (vs : List Vertex) → slice_get rows n ≡ None → vs ≡ vs ++ map vertex_of_row (items_at rows (n ∷ []))
no_vertex_at rows n vs none = sym (append-nil vs) ∙ ap (λ o. vs ++ map vertex_of_row (cons_option o [])) (sym none)
