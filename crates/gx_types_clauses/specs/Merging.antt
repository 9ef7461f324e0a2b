-- Check 5: merges of sent values, and of the columns of edges.
use Rattle.std.specs.Prelude.{◌≡◌, ℕ, Bool, ◌&&◌, if◌then◌else◌, nat_eq, Result, Ok, List, [], ◌∷◌}
use Rattle.std.specs.Prelude.{length, map, zip, codes, refl}
use Rattle.std.specs.Cmp.Lexicographic.{pointwise}
use Rattle.std.specs.List.{list_all}
use Rattle.std.specs.Str.{bytes_eq}
use Rattle.gx_merge.specs.Kinds.{kind_given, takes_kind}
use Rattle.gx_merge.specs.declared.merge_kind.MergeKind.{MergeKind}
use Rattle.gx_rows.specs.Columns.{Column, names_of}
use Rattle.gx_rows.specs.declared.value.ValueKind.{ValueKind}
use Rattle.gx_rows.specs.declared.value.ValueKind.TheVariants as kind
use Rattle.gx_syntax_tree.specs.declared.parts.ColumnMerge.{ColumnMerge}
use Rattle.gx_syntax_tree.specs.declared.words.MergeWord.TheVariants as merge_words
use Rattle.gx_types_exprs.specs.declared.type_kind.TypeKind.TheVariants as type_kind
use Rattle.gx_types_clauses.specs.SameColumns.{is_same_kind, kinds_in}
use Rattle.gx_types_clauses.specs.StmtStops.{stmt_refusal}
use Rattle.gx_types_clauses.specs.StmtWords.{merge_of_written}
use Rattle.gx_types_clauses.specs.declared.stmt_stop.StmtStop.{StmtStop}

abbrev pub merge_kinds : List ColumnMerge → List MergeKind
merge_kinds merges = map (λ m. merge_of_written m.by) merges

-- each merge takes its kind
abbrev pub take_each : List ColumnMerge → List ValueKind → Bool
take_each merges kinds = list_all (λ p. takes_kind (merge_of_written p.0.by) p.1) (zip merges kinds)

-- the names of merges with the kinds that they give
abbrev pub given_columns : List ColumnMerge → List ValueKind → List Column
given_columns merges kinds =
    map (λ p. (p.0.name, kind_given (merge_of_written p.0.by) p.1)) (zip merges kinds)

abbrev pub merged_columns : List ColumnMerge → List ValueKind → Result (List Column) StmtStop
merged_columns merges kinds =
    if take_each merges kinds then Ok (given_columns merges kinds)
    else stmt_refusal type_kind.MergeKind

-- ---- messages, from the kinds of the values of each send

abbrev pub first_kinds : List (List ValueKind) → List ValueKind
first_kinds [] = []
first_kinds (kinds ∷ sent) = kinds

-- each send, and so the first, has a value for each merge
abbrev pub have_merges : ℕ → List (List ValueKind) → Bool
have_merges n sent =
    nat_eq (length (first_kinds sent)) n && list_all (λ kinds. nat_eq (length kinds) n) sent

-- the numbers of values are compared before the kinds, in which all sends agree
abbrev pub message_columns : List ColumnMerge → List (List ValueKind)
    → Result (List Column) StmtStop
message_columns merges sent =
    if have_merges (length merges) sent then
    (if list_all (pointwise is_same_kind (first_kinds sent)) sent
    then merged_columns merges (first_kinds sent)
    else stmt_refusal type_kind.MergeKind)
    else stmt_refusal type_kind.ColumnsDiffer

-- ---- merged edges: one merge for each column, by its name in order

abbrev pub grouped_columns : List ColumnMerge → List Column → Result (List Column) StmtStop
grouped_columns merges edges =
    if pointwise bytes_eq (map (λ m. m.name) merges) (names_of edges)
    then merged_columns merges (kinds_in edges)
    else stmt_refusal type_kind.ColumnsDiffer

-- `merge (s: sum)` of numbers, of a text, of a number and a text, and of two numbers
sum_merge : List ColumnMerge
sum_merge = record { name = codes "s"; by = merge_words.Sum } ∷ []

sums-merged :
    (message_columns sum_merge ((kind.Int ∷ []) ∷ (kind.Int ∷ []) ∷ [])
    ≡ Ok ((codes "s", kind.Int) ∷ []))
    × (message_columns sum_merge ((kind.Text ∷ []) ∷ []) ≡ stmt_refusal type_kind.MergeKind)
    × (message_columns sum_merge ((kind.Int ∷ []) ∷ (kind.Text ∷ []) ∷ [])
    ≡ stmt_refusal type_kind.MergeKind)
    × (message_columns sum_merge ((kind.Text ∷ []) ∷ (kind.Int ∷ kind.Int ∷ []) ∷ [])
    ≡ stmt_refusal type_kind.ColumnsDiffer)
    × (grouped_columns sum_merge ((codes "t", kind.Int) ∷ [])
    ≡ stmt_refusal type_kind.ColumnsDiffer)
unfolding sum_merge
sums-merged = (refl, refl, refl, refl, refl)
