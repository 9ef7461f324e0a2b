-- The script in a file: its checked statements, or why it is refused.
use Rattle.std.specs.Prelude.{ℕ, if◌then◌else◌, List, Result, Ok, Err}
use Rattle.std.specs.Str.{is_utf8}
use Rattle.std.specs.Str.Lossy.{utf8_valid_len}
use Rattle.gx_rows.specs.Results.{◌>>=◌}
use Rattle.gx_rows.specs.declared.limit_kind.LimitKind.TheVariants as limit_kind
use Rattle.gx_outside.specs.Contents.{Contents}
use Rattle.gx_syntax_tree.specs.declared.stmt.Stmt.{Stmt}
use Rattle.gx_syntax.specs.Meanings.{meaning_of}
use Rattle.gx_syntax.specs.Texts as syntax
use Rattle.gx_types_stmts.specs.declared.checked_stmt.CheckedStmt.{CheckedStmt}
use Rattle.gx_types.specs.ScriptTyping.{typing_of}
use Rattle.gx_types.specs.declared.type_stop.TypeStop.{TypeStop}
use Rattle.gx_types.specs.declared.type_stop.TypeStop.TheVariants as type_stop
use Rattle.gx_print.specs.declared.status.ScriptStop.TheVariants as script_stop
use Rattle.gx_print.specs.declared.status.Status.{Status}
use Rattle.gx_print.specs.declared.status.Status.TheVariants as status
use Rattle.gx_model.specs.DataFiles.{bytes_within}

-- the text of these bytes, which must be UTF-8
abbrev pub text_in : List ℕ → Result (List ℕ) Status
text_in bytes =
    if is_utf8 bytes then Ok bytes else Err (status.Script (script_stop.NotUtf8 (utf8_valid_len bytes)))

-- the statements, if the meaning of a text is a script
abbrev pub stmts_meant : syntax.Meaning → Result (List Stmt) Status
stmts_meant (syntax.script stmts) = Ok stmts
stmts_meant (syntax.refused offset kind) = Err (status.Script (script_stop.Syntax offset kind))
stmts_meant (syntax.long offset) = Err (status.Limit limit_kind.StatementTokens)

-- why a script is refused that is not well typed
abbrev pub refusal_of_typing : TypeStop → Status
refusal_of_typing (type_stop.At s expr kind) = status.Script (script_stop.Typing s expr kind)
refusal_of_typing (type_stop.Limit kind) = status.Limit kind
refusal_of_typing type_stop.NoMemory = status.NoMemory

abbrev pub checked_or_refusal : Result (List CheckedStmt) TypeStop → Result (List CheckedStmt) Status
checked_or_refusal (Ok checked) = Ok checked
checked_or_refusal (Err stop) = Err (refusal_of_typing stop)

-- the checked statements of the script that these bytes spell
abbrev pub script_in : List ℕ → Result (List CheckedStmt) Status
script_in bytes =
    text_in bytes >>= λ text. stmts_meant (meaning_of text) >>= λ stmts. checked_or_refusal (typing_of stmts)

-- those of the script in the file of this name
abbrev pub script_under : List ℕ → Contents → Result (List CheckedStmt) Status
script_under name contents = bytes_within limit_kind.ScriptBytes name contents >>= script_in
