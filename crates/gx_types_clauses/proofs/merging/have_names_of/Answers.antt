use Rattle.std.proofs.Common.{◌∙◌, ◌<◌, List, ℕ, ap, arith, length, map, sym}
use Rattle.std.proofs.lemmas.Bool.{not-false, not-true}
use Rattle.std.proofs.lemmas.List.{length-map}
use Rattle.std.specs.Str.{bytes_eq}
use Rattle.gx_rows.specs.Columns.{names_of}
use Rattle.gx_syntax_tree.specs.declared.parts.ColumnMerge.{ColumnMerge}
use Rattle.gx_types_clauses.proofs.ColumnLemmas.{compared-next, compared-stop, mapped-at}
use Rattle.gx_types_clauses.proofs.merging.have_names_of.Goals as goal

abbrev name_in : ColumnMerge → List ℕ
name_in m = m.name

pub returns-then-ne : goal.returns-then-ne
returns-then-ne c =
    let merges = c.as_slice-merges.result.now in
    let below : c.columns.i < length merges = omega (arith, c.columns.invariant.left_long, length-map merges name_in) in
    rw (← c.as_slice-merges.ensures)
    (compared-stop bytes_eq (map name_in merges) (names_of c.args.columns.now) c.columns.i c.len-i-end.result c.as_str.result.now c.name.result.now c.columns.invariant
    (mapped-at name_in merges c.columns.i c.index-merges-i.result c.as_str.result.now below c.index-merges-i.is (c.as_str.ensures.bytes ∙ ap name_in (sym c.index-merges-i.is)))
    c.name.ensures (not-true (bytes_eq c.as_str.result.now c.name.result.now) (sym c.if-ne.ensures)))

pub columns-preserved : goal.columns-preserved
columns-preserved c =
    let merges = c.as_slice-merges.result.now in
    let below : c.columns.i < length merges = omega (arith, c.columns.invariant.left_long, length-map merges name_in) in
    compared-next bytes_eq (map name_in merges) (names_of c.args.columns.now) c.columns.i c.len-i-end.result c.as_str.result.now c.name.result.now c.columns.invariant
    (mapped-at name_in merges c.columns.i c.index-merges-i.result c.as_str.result.now below c.index-merges-i.is (c.as_str.ensures.bytes ∙ ap name_in (sym c.index-merges-i.is)))
    c.name.ensures (not-false (bytes_eq c.as_str.result.now c.name.result.now) (sym c.if-ne.ensures))
