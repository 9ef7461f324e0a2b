use Rattle.std.proofs.Common.{◌≡◌, ◌≤◌, [], ◌∷◌, List, Some, append-nil, length, map, slice_get, sym, ap, ◌∙◌, arith}
use Rattle.std.proofs.Math.ListN.{drop_of_length-le}
use Rattle.std.proofs.lemmas.List.{length-map}
use Rattle.std.proofs.lemmas.List.Sorted.{IsPermutation-refl}
use Rattle.std.proofs.lemmas.Option.{slice_get-map}
use Rattle.gx_rows.specs.Order.{Edge}
use Rattle.gx_rows.specs.declared.value.Value.{Value}
use Rattle.gx_rows.specs.declared.value.Value.TheVariants.{Int}
use Rattle.gx_exec_answers.specs.AnswerRows.{rows_of_edges}
use Rattle.gx_exec_answers.proofs.MovedItems.{seen-moved}
use Rattle.gx_exec_answers.proofs.edges.rows_of_part.Goals as goal

pub loop-i-preserved : goal.loop-i-preserved
loop-i-preserved c =
    let part = c.args.part.now in
    let values = c.in_ok-edge_row.field-0 in
    let row : Edge → List Value = λ e. Int e.0.0 ∷ Int e.1.0 ∷ e.2 in
    let at : slice_get (rows_of_edges part) c.loop-i.i ≡ Some values.items =
    rw c.edge.ensures at (slice_get-map row part c.loop-i.i) ∙ ap Some (sym c.in_ok-edge_row.ensures) in
    seen-moved (λ row. row.items) c.loop-i.rows.items c.append.new.items.items (rows_of_edges part) (rows_of_edges part) c.loop-i.i values at c.in_ok-append.ensures c.loop-i.invariant

pub returns : goal.returns
returns c =
    let part = c.args.part.now in
    let past : length (rows_of_edges part) ≤ c.loop-i.i = omega (arith, c.len-i-end.ensures.count, length-map {B = List Value} part (λ e. Int e.0.0 ∷ Int e.1.0 ∷ e.2), c.loop-i-test.false) in
    let all : map (λ row. row.items) c.loop-i.rows.items ≡ rows_of_edges part = rw (drop_of_length-le (rows_of_edges part) past, append-nil) at c.loop-i.invariant in
    all ∙ ap rows_of_edges (c.edge_order_is_unique.ensures part part (record { same = IsPermutation-refl part; sorted = c.len-i-end.ensures.sorted }))
