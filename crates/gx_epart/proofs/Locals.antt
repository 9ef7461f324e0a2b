-- Edges by numbers.
use Rattle.std.proofs.Common.{◌≡◌, ℕ, suc, ◌+◌, ◌≤◌, List, [], ◌∷◌, ◌++◌, All, get_or, length, map, refl, sym, ap, arith}
use Rattle.std.specs.List.{AllByRecursion}
use Rattle.std.proofs.lemmas.List.{append_assoc, length-map, length_push}
use Rattle.std.proofs.lemmas.List.Elements.{All-from_recursion, recursion_from_All}
use Rattle.std.proofs.Math.Seq.{get_or-append_seam}
use Rattle.gx_rows.specs.declared.value.Value.{Value}
use Rattle.gx_rows.specs.declared.vid.Vid.{Vid}
use Rattle.gx_epart.specs.declared.local_edge.LocalEdge.{LocalEdge}
use Rattle.gx_epart.specs.Edges.{edges_with_rows, reversed_edge}
use Rattle.gx_epart.specs.Numbers.{HasIds, IsInRange, edge_of_local, edge_of_numbers, edges_of_locals, locals_from, locals_of, numbers_with_rows, reversed_local}

-- ---- edges whose rows are in the same order

rows-step : (pre : List (List Value)) (row : List Value) (rows : List (List Value)) → pre ++ row ∷ rows ≡ (pre ++ row ∷ []) ++ rows
rows-step pre row rows = sym (append_assoc pre (row ∷ []) rows)

edges_of_locals-from : (ids : List Vid) (pre : List (List Value)) (es : List (ℕ × ℕ × List Value)) (n : ℕ) → n ≡ length pre
    → edges_of_locals ids (pre ++ map (λ e. e.2) es) (locals_from n es) ≡ map (edge_of_numbers ids) es
edges_of_locals-from ids pre [] n at = refl
edges_of_locals-from ids pre (e ∷ es) n at =
    let next : n + 1 ≡ length (pre ++ e.2 ∷ []) = omega (arith, length_push pre e.2, at) in
    let row : get_or (pre ++ e.2 ∷ map (λ e. e.2) es) n [] ≡ e.2 = rw at (get_or-append_seam pre e.2 (map (λ e. e.2) es) []) in
    let rest : edges_of_locals ids (pre ++ e.2 ∷ map (λ e. e.2) es) (locals_from (n + 1) es) ≡ map (edge_of_numbers ids) es
    = rw rows-step (edges_of_locals-from ids (pre ++ e.2 ∷ []) es (n + 1) next) in
    rw (row, rest) refl

pub edges_of_locals-of : (ids : List Vid) (es : List (ℕ × ℕ × List Value)) → edges_of_locals ids (map (λ e. e.2) es) (locals_of es) ≡ map (edge_of_numbers ids) es
edges_of_locals-of ids es = edges_of_locals-from ids [] es 0 refl

in_range-from : {R : Type 0} (ids : List Vid) (rows : List (List Value)) (es : List (ℕ × ℕ × R)) (n : ℕ) → n + length es ≤ length rows
    → AllByRecursion (HasIds ids) es → AllByRecursion (IsInRange ids rows) (locals_from n es)
in_range-from ids rows [] n room all = tt
in_range-from ids rows (e ∷ es) n room all =
    ((all.0.0, all.0.1, omega arith), in_range-from ids rows es (n + 1) (omega arith) all.1)

pub IsInRange-of : (ids : List Vid) (es : List (ℕ × ℕ × List Value)) → All (HasIds ids) es → All (IsInRange ids (map (λ e. e.2) es)) (locals_of es)
IsInRange-of ids es all =
    All-from_recursion (IsInRange ids (map (λ e. e.2) es)) (locals_of es)
    (in_range-from ids (map (λ e. e.2) es) es 0 (omega (arith, length-map es (λ e. e.2))) (recursion_from_All (HasIds ids) es all))

length-locals_from : {R : Type 0} (n : ℕ) (es : List (ℕ × ℕ × R)) → length (locals_from n es) ≡ length es
length-locals_from n [] = refl
length-locals_from n (e ∷ es) = ap suc (length-locals_from (n + 1) es)

pub length-locals_of : {R : Type 0} (es : List (ℕ × ℕ × R)) → length (locals_of es) ≡ length es
length-locals_of es = length-locals_from 0 es

-- ---- new rows

pub numbers_with_rows-edges : (ids : List Vid) (rows : List (List Value)) (locals : List LocalEdge) (new : List (List Value))
    → map (edge_of_numbers ids) (numbers_with_rows locals new) ≡ edges_with_rows (edges_of_locals ids rows locals) new
numbers_with_rows-edges ids rows locals [] = refl
numbers_with_rows-edges ids rows [] (r ∷ new) = refl
numbers_with_rows-edges ids rows (e ∷ locals) (r ∷ new) = ap (λ es. edge_of_numbers ids (e.src, e.dst, r) ∷ es) (numbers_with_rows-edges ids rows locals new)

with_rows-ids : {R : Type 0} (ids : List Vid) (rows : List (List Value)) (locals : List LocalEdge) (new : List R)
    → AllByRecursion (IsInRange ids rows) locals → AllByRecursion (HasIds ids) (numbers_with_rows locals new)
with_rows-ids ids rows locals [] all = tt
with_rows-ids ids rows [] (r ∷ new) all = tt
with_rows-ids ids rows (e ∷ locals) (r ∷ new) all = ((all.0.0, all.0.1), with_rows-ids ids rows locals new all.1)

pub HasIds-with_rows : {R : Type 0} (ids : List Vid) (rows : List (List Value)) (locals : List LocalEdge) (new : List R)
    → All (IsInRange ids rows) locals → All (HasIds ids) (numbers_with_rows locals new)
HasIds-with_rows ids rows locals new all =
    All-from_recursion (HasIds ids) (numbers_with_rows locals new) (with_rows-ids ids rows locals new (recursion_from_All (IsInRange ids rows) locals all))

pub length-with_rows : {R : Type 0} (locals : List LocalEdge) (new : List R) → length (numbers_with_rows locals new) ≤ length locals
length-with_rows locals [] = omega arith
length-with_rows [] (r ∷ new) = omega arith
length-with_rows (e ∷ locals) (r ∷ new) = omega (arith, length-with_rows locals new)

-- ---- reversed edges

pub edges_of_locals-reversed : (ids : List Vid) (rows : List (List Value)) (locals : List LocalEdge)
    → edges_of_locals ids rows (map reversed_local locals) ≡ map reversed_edge (edges_of_locals ids rows locals)
edges_of_locals-reversed ids rows [] = refl
edges_of_locals-reversed ids rows (e ∷ locals) = ap (λ es. reversed_edge (edge_of_local ids rows e) ∷ es) (edges_of_locals-reversed ids rows locals)

reversed-in_range : (ids : List Vid) (rows : List (List Value)) (locals : List LocalEdge)
    → AllByRecursion (IsInRange ids rows) locals → AllByRecursion (IsInRange ids rows) (map reversed_local locals)
reversed-in_range ids rows [] all = tt
reversed-in_range ids rows (e ∷ locals) all = ((all.0.1, all.0.0, all.0.2), reversed-in_range ids rows locals all.1)

pub IsInRange-reversed : (ids : List Vid) (rows : List (List Value)) (locals : List LocalEdge)
    → All (IsInRange ids rows) locals → All (IsInRange ids rows) (map reversed_local locals)
IsInRange-reversed ids rows locals all =
    All-from_recursion (IsInRange ids rows) (map reversed_local locals) (reversed-in_range ids rows locals (recursion_from_All (IsInRange ids rows) locals all))
