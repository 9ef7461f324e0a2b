-- The canonical text of a script: each statement on a line of its own.
use Rattle.std.specs.Prelude.{◌≡◌, ℕ, None, List, [], ◌∷◌, ◌++◌, map, codes, refl}
use Rattle.gx_syntax_tokens.specs.Terminals.{symbol}
use Rattle.gx_syntax_tokens.specs.SpacedText.{Piece, token, lines_text}
use Rattle.gx_syntax_tokens.specs.declared.symbol.Symbol.TheVariants as symbols
use Rattle.gx_syntax_tree.specs.declared.constant.Const.TheVariants as consts
use Rattle.gx_syntax_tree.specs.declared.stmt.Stmt.{Stmt}
use Rattle.gx_syntax_tree.specs.declared.stmt.Stmt.TheVariants as stmts
use Rattle.gx_syntax_tree.specs.declared.words.MergeWord.TheVariants as merge_words
use Rattle.gx_syntax_tree.specs.declared.words.SideWord.TheVariants as sides
use Rattle.gx_syntax_show.specs.StmtPieces.{stmt_pieces}

-- the line of a statement
abbrev pub line_of_stmt : Stmt → List Piece
line_of_stmt s = stmt_pieces s ++ token (symbol symbols.Semicolon) ∷ []

abbrev pub lines_of_script : List Stmt → List (List Piece)
lines_of_script ss = map line_of_stmt ss

abbrev pub text_of_script : List Stmt → List ℕ
text_of_script ss = lines_text (lines_of_script ss)

text_of_script-two_lines : text_of_script (stmts.Graph (codes "g") (codes "v") (codes "e") (consts.Quoted (codes "a") ∷ consts.NoIds ∷ [])
    ∷ stmts.Aggregate (codes "t") (codes "g") (record { to = sides.Dst; values = []; when = None } ∷ []) (record { name = codes "n"; by = merge_words.Count } ∷ []) ∷ [])
    ≡ codes "graph g = v, e default (\"a\", ids());\naggregate t = g to dst () merge (n: count);\n"
text_of_script-two_lines = refl
