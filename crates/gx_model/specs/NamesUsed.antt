-- Which statements a statement uses, directly and through others.
use Rattle.std.specs.Prelude.{◌≡◌, ℕ, ◌+◌, ◌-◌, ◌==◌, if◌then◌else◌, List, [], ◌∷◌, ◌++◌, length, take, reverse, slice_get, unwrap_or, option_map, None, refl}
use Rattle.std.specs.List.{list_any}
use Rattle.gx_types_stmts.specs.StmtNumbers.{named_numbers}
use Rattle.gx_types_stmts.specs.declared.checked_stmt.CheckedStmt.{CheckedStmt}
use Rattle.gx_types_stmts.specs.declared.typed_stmt.TypedStmt.{TypedStmt}
use Rattle.gx_types_stmts.specs.declared.typed_stmt.TypedStmt.TheVariants as stmts

-- the numbers that statement s names
abbrev pub names_of_number : List TypedStmt → ℕ → List ℕ
names_of_number stmts s = unwrap_or (option_map named_numbers (slice_get stmts (s - 1))) []

-- Of the statements, latest first, the numbers of those that are wanted, and of what they use; the
-- earliest has number 1. A statement uses earlier ones alone, so that each is met before what it uses.
abbrev pub stmts_wanted : List CheckedStmt → List ℕ → List ℕ
stmts_wanted [] wanted = []
stmts_wanted (c ∷ earlier) wanted =
    if list_any (λ n. n == length earlier + 1) wanted
    then stmts_wanted earlier (wanted ++ c.uses) ++ (length earlier + 1) ∷ []
    else stmts_wanted earlier wanted

-- the statements that statement s uses, directly or through others, ascending, without s
abbrev pub stmts_used : List CheckedStmt → ℕ → List ℕ
stmts_used checked s =
    stmts_wanted (reverse (take (s - 1) checked)) (unwrap_or (option_map (λ c. c.uses) (slice_get checked (s - 1))) [])

stmt_using : List ℕ → CheckedStmt
stmt_using used = record { stmt = stmts.Vertices []; made = record { vertices = None; edges = None }; uses = used }

-- the fifth uses the fourth, which uses the first and the third; nothing uses the second
stmts_used-example : stmts_used (stmt_using [] ∷ stmt_using [] ∷ stmt_using [] ∷ stmt_using (1 ∷ 3 ∷ []) ∷ stmt_using (4 ∷ []) ∷ []) 5
    ≡ 1 ∷ 3 ∷ 4 ∷ []
unfolding stmt_using
stmts_used-example = refl
