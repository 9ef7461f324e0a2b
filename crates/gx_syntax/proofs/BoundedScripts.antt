-- A script is bounded if its lines are valid and short.
use Rattle.std.proofs.Common.{◌≤◌, List, [], ◌∷◌, length, arith}
use Rattle.std.proofs.lemmas.List.Elements.{All-nil, All-cons}
use Rattle.gx_syntax_tokens.specs.SpacedText.{token, AreValidLines, terminals_of_lines}
use Rattle.gx_syntax_tokens.specs.Terminals.{symbol}
use Rattle.gx_syntax_tokens.specs.declared.symbol.Symbol.TheVariants as symbols
use Rattle.gx_syntax_tree.specs.Bounds.{IsBoundedStmt, AreBounded}
use Rattle.gx_syntax_tree.specs.declared.stmt.Stmt.{Stmt}
use Rattle.gx_syntax_show.specs.ScriptLines.{lines_of_script}
use Rattle.gx_syntax_show.specs.StmtPieces.{stmt_pieces}
use Rattle.gx_syntax.proofs.OpenStatements.{IsShortAfter, short_split}
use Rattle.gx_syntax.proofs.ShownBounds.{bounded_stmt, covers-stmt, valid-left}

pub bounded_script : (s : List Stmt) → AreValidLines (lines_of_script s) → IsShortAfter 0 (terminals_of_lines (lines_of_script s)) → AreBounded s
bounded_script [] v short = All-nil IsBoundedStmt
bounded_script (x ∷ s) v short =
    let split = short_split 0 (stmt_pieces x) (terminals_of_lines (lines_of_script s)) (covers-stmt x).no_semicolon (omega arith) short in
    let few : length (stmt_pieces x) ≤ 2048 = omega (arith, split.0) in
    All-cons IsBoundedStmt x s (bounded_stmt x (valid-left (stmt_pieces x) (token (symbol symbols.Semicolon) ∷ []) v.0) few) (bounded_script s v.1 split.1)
