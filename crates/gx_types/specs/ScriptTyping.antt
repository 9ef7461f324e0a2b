-- Typing of a script.
use Rattle.std.specs.Prelude.{◌+◌, if◌then◌else◌, nat_le, Result, Ok, Err, List, [], ◌∷◌, length, All}
use Rattle.gx_rows.specs.Limits.{most_of}
use Rattle.gx_rows.specs.Results.{◌>>=◌}
use Rattle.gx_rows.specs.declared.limit_kind.LimitKind.TheVariants as limit
use Rattle.gx_syntax_tree.specs.Bounds.{AreBounded}
use Rattle.gx_syntax_tree.specs.declared.stmt.Stmt.{Stmt}
use Rattle.gx_types.specs.Built.{built_statements}
use Rattle.gx_types.specs.TypeStops.{at_statement}
use Rattle.gx_types.specs.declared.type_stop.TypeStop.{TypeStop}
use Rattle.gx_types.specs.declared.type_stop.TypeStop.TheVariants as stop
use Rattle.gx_types_stmts.specs.KnownNames.{Context, no_context}
use Rattle.gx_types_stmts.specs.StmtBounds.{IsTypable}
use Rattle.gx_types_stmts.specs.StmtTyping.{context_with, typed_stmt}
use Rattle.gx_types_stmts.specs.declared.checked_stmt.CheckedStmt.{CheckedStmt}

-- the next statement, with its number
abbrev pub numbered_stmt : Context → Stmt → Result CheckedStmt TypeStop
numbered_stmt k s = at_statement (k.count + 1) (typed_stmt k s)

-- statements in order, over what is known before them
abbrev pub typed_statements : Context → List Stmt → Result (List CheckedStmt) TypeStop
typed_statements k [] = Ok []
typed_statements k (s ∷ rest) =
    numbered_stmt k s >>= λ t. typed_statements (context_with k s t.made) rest >>= λ ts. Ok (t ∷ ts)

abbrev pub typed_statements_of : List Stmt → Result (List CheckedStmt) TypeStop
typed_statements_of stmts = typed_statements no_context stmts

-- each statement, and whether all are run
abbrev pub checked_statements : List Stmt → Result (List CheckedStmt) TypeStop
checked_statements stmts = typed_statements_of stmts >>= λ ts. built_statements 1 stmts >>= λ _. Ok ts

-- a script: the number of its statements, and each of them
abbrev pub typing_of : List Stmt → Result (List CheckedStmt) TypeStop
typing_of stmts =
    if nat_le (length stmts) (most_of limit.Statements) then checked_statements stmts
    else Err (stop.Limit limit.Statements)

-- each script that some text spells has few nodes and short texts
abbrev pub BoundedAreTypable : Type 0
BoundedAreTypable = (stmts : List Stmt) → AreBounded stmts → All IsTypable stmts
