-- Check 3: names of columns, and what is counted.
use Rattle.std.specs.Prelude.{◌≡◌, ℕ, ℤ, pos, negsuc, ◌+◌, Bool, ◌||◌, if◌then◌else◌, nat_le}
use Rattle.std.specs.Prelude.{Result, Ok, Err, List, [], ◌∷◌, ◌++◌, length, codes, refl}
use Rattle.std.specs.List.{list_any}
use Rattle.std.specs.Str.{bytes_eq}
use Rattle.gx_rows.specs.Limits.{most_of}
use Rattle.gx_rows.specs.Results.{◌>>=◌}
use Rattle.gx_rows.specs.declared.limit_kind.LimitKind.{LimitKind}
use Rattle.gx_rows.specs.declared.limit_kind.LimitKind.TheVariants as limit
use Rattle.gx_types_exprs.specs.declared.type_kind.TypeKind.TheVariants as type_kind
use Rattle.gx_types_clauses.specs.NamedParts.{NamedParts}
use Rattle.gx_types_clauses.specs.StmtStops.{stmt_refusal}
use Rattle.gx_types_clauses.specs.declared.stmt_stop.StmtStop.{StmtStop}
use Rattle.gx_types_clauses.specs.declared.stmt_stop.StmtStop.TheVariants as stop

-- a number is within its limit
abbrev pub checked_limit : LimitKind → ℕ → Result (Unit {0}) StmtStop
checked_limit l n = if nat_le n (most_of l) then Ok tt else Err (stop.Limit l)

-- ---- names

-- no column has this name
abbrev pub is_reserved : List ℕ → Bool
is_reserved name =
    bytes_eq name (codes "id") || (bytes_eq name (codes "src") || bytes_eq name (codes "dst"))

-- a name after those before it
abbrev pub checked_name : List (List ℕ) → List ℕ → Result (Unit {0}) StmtStop
checked_name before name =
    if is_reserved name then stmt_refusal type_kind.ColumnName
    else (if list_any (λ n. bytes_eq n name) before then stmt_refusal type_kind.ColumnTwice
    else Ok tt)

-- names in order, after those before them
abbrev pub checked_names : List (List ℕ) → List (List ℕ) → Result (Unit {0}) StmtStop
checked_names before [] = Ok tt
checked_names before (name ∷ rest) =
    checked_name before name >>= λ _. checked_names (before ++ name ∷ []) rest

-- a list of columns: their number, and then name by name
abbrev pub checked_columns : List (List ℕ) → Result (Unit {0}) StmtStop
checked_columns names = checked_limit limit.Columns (length names) >>= λ _. checked_names [] names

-- ---- rounds

-- the number of rounds that is written; a script has no number below 0
abbrev pub rounds_of : ℤ → ℕ
rounds_of (pos n) = n
rounds_of (negsuc n) = 0

-- rounds, after those of the statements before
abbrev pub checked_rounds : ℕ → ℕ → Result (Unit {0}) StmtStop
checked_rounds before rounds =
    checked_limit limit.Rounds rounds >>= λ _. checked_limit limit.AllRounds (before + rounds)

-- ---- all of a statement: its lists in text order, its sends, its rounds

abbrev pub checked_lists : ℕ → NamedParts → Result (Unit {0}) StmtStop
checked_lists rounds p =
    checked_columns p.columns >>= λ _. checked_columns p.program >>= λ _.
    checked_limit limit.Sends p.sends >>= λ _. checked_rounds rounds (rounds_of p.rounds)

-- `(a, a, id)` repeats a name before it has one that is not allowed
names-in_order :
    (checked_columns (codes "a" ∷ codes "a" ∷ codes "id" ∷ []) ≡ stmt_refusal type_kind.ColumnTwice)
    × (checked_columns (codes "a" ∷ codes "id" ∷ codes "a" ∷ [])
    ≡ stmt_refusal type_kind.ColumnName)
    × (checked_columns (codes "a" ∷ codes "b" ∷ []) ≡ Ok tt)
names-in_order = (refl, refl, refl)

-- 1,001 rounds of one `pregel` are too many, even if all rounds are too many as well
rounds-in_order :
    (checked_rounds 9999 1001 ≡ Err (stop.Limit limit.Rounds))
    × (checked_rounds 9999 2 ≡ Err (stop.Limit limit.AllRounds))
    × (checked_rounds 9999 1 ≡ Ok tt)
rounds-in_order = (refl, refl, refl)
