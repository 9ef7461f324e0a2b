use Rattle.std.proofs.Common.{◌≡◌, drop}
use Rattle.std.specs.List.{position_from}
use Rattle.std.specs.Str.{bytes_eq}
use Rattle.gx_rows.specs.Columns.{names_of, position_of}
use Rattle.gx_rows.proofs.row_type.RowType.find.Given as goal

-- the name is not among the columns passed, so its position is that among the rest
abbrev pub invariant-loop-i : goal.invariant-loop-i
invariant-loop-i l =
    position_from (λ n. bytes_eq n l.name) l.i (names_of (drop l.i l.column-items))
    ≡ position_of l.name (names_of l.column-items)
