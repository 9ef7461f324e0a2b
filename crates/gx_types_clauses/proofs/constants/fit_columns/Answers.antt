use Rattle.std.proofs.Common.{◌<◌, arith, length, map}
use Rattle.std.proofs.lemmas.List.{length-map}
use Rattle.gx_types_clauses.specs.Constants as constants
use Rattle.gx_types_clauses.specs.SameColumns.{is_same_kind, kinds_in}
use Rattle.gx_types_clauses.proofs.ColumnLemmas.{compared-next, compared-stop, kind-at, mapped-at}
use Rattle.gx_types_clauses.proofs.constants.fit_columns.Goals as goal

pub returns-then-not-is_same_kind : goal.returns-then-not-is_same_kind
returns-then-not-is_same_kind c =
    let below : c.columns.i < length c.as_slice-row.result.now = omega (arith, c.columns.invariant.left_long, length-map c.as_slice-row.result.now constants.const_kind) in
    rw (← c.as_slice-row.ensures)
    (compared-stop is_same_kind (map constants.const_kind c.as_slice-row.result.now) (kinds_in c.args.columns.now) c.columns.i c.len-i-end.result c.const_kind.result c.kind.result c.columns.invariant
    (mapped-at constants.const_kind c.as_slice-row.result.now c.columns.i c.index-row-i.result c.const_kind.result below c.index-row-i.is c.const_kind.ensures)
    (kind-at c.args.columns.now c.columns.i c.kind.result c.kind.ensures) (cc))

pub columns-preserved : goal.columns-preserved
columns-preserved c =
    let below : c.columns.i < length c.as_slice-row.result.now = omega (arith, c.columns.invariant.left_long, length-map c.as_slice-row.result.now constants.const_kind) in
    compared-next is_same_kind (map constants.const_kind c.as_slice-row.result.now) (kinds_in c.args.columns.now) c.columns.i c.len-i-end.result c.const_kind.result c.kind.result c.columns.invariant
    (mapped-at constants.const_kind c.as_slice-row.result.now c.columns.i c.index-row-i.result c.const_kind.result below c.index-row-i.is c.const_kind.ensures)
    (kind-at c.args.columns.now c.columns.i c.kind.result c.kind.ensures) (cc)
