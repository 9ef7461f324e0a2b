-- The pieces of statements: the keyword, and the form of the keyword with the values that the statement has.
--
-- To add a statement, give its keyword a word in specs/Words.antt, and add its arm in src/statement.rt and the arm's line
-- in proofs/statement/put_statement/Answers.antt. To add a part of forms, add its line in `part_pieces` and its printer in
-- proofs/PartPrinters.antt.
use Rattle.std.specs.Prelude.{List, [], ◌∷◌, ◌++◌}
use Rattle.gx_syntax_tokens.specs.Terminals.{word, number, quoted, symbol}
use Rattle.gx_syntax_tokens.specs.SpacedText.{Piece, token}
use Rattle.gx_syntax_tree.specs.Forms.{Part, a_name, a_text, a_number, a_cut, a_neighbour, columns, sets, consts, named, merges, sends, condition, subgraph_filter, oriented, active, print_target, counted, Value, Form, fin, mark, say, part, Values, form_of, StmtView, view_of}
use Rattle.gx_syntax_tree.specs.declared.keyword.StmtKeyword.{StmtKeyword}
use Rattle.gx_syntax_tree.specs.declared.stmt.Stmt.{Stmt}
use Rattle.gx_syntax_stmts.specs.Forms.{symbol_of}
use Rattle.gx_syntax_show.specs.ExprPieces.{magnitude, expr_pieces}
use Rattle.gx_syntax_show.specs.ItemPieces.{column_decl_pieces, column_expr_pieces, const_pieces, column_const_pieces, column_merge_pieces, send_clauses_pieces, subgraph_filter_pieces, oriented_pieces, active_pieces}
use Rattle.gx_syntax_show.specs.ListPieces.{word_pieces, paren_list_pieces}
use Rattle.gx_syntax_show.specs.Words.{cut_word, neighbour_word, print_target_word, count_target_word, stmt_word}

-- a part of a statement
abbrev pub part_pieces : (p : Part) → Value p → List Piece
part_pieces a_name w = word_pieces w
part_pieces a_text s = token (quoted s) ∷ []
part_pieces a_number z = token (number (magnitude z)) ∷ []
part_pieces a_cut c = word_pieces (cut_word c)
part_pieces a_neighbour n = word_pieces (neighbour_word n)
part_pieces columns cs = paren_list_pieces column_decl_pieces cs
part_pieces sets cs = paren_list_pieces column_expr_pieces cs
part_pieces consts cs = paren_list_pieces const_pieces cs
part_pieces named cs = paren_list_pieces column_const_pieces cs
part_pieces merges cs = paren_list_pieces column_merge_pieces cs
part_pieces sends ss = send_clauses_pieces ss
part_pieces condition x = expr_pieces 1 x
part_pieces subgraph_filter f = subgraph_filter_pieces f
part_pieces oriented b = oriented_pieces b
part_pieces active a = active_pieces a
part_pieces print_target t = word_pieces (print_target_word t)
part_pieces counted t = word_pieces (count_target_word t)

-- a form with the values of its parts
abbrev pub form_pieces : (f : Form) → Values f → List Piece
form_pieces fin v = []
form_pieces (mark p f) v = token (symbol (symbol_of p)) ∷ form_pieces f v
form_pieces (say w f) v = token (word w) ∷ form_pieces f v
form_pieces (part p f) v = part_pieces p v.0 ++ form_pieces f v.1

-- a keyword and its form
abbrev pub keyword_pieces : (k : StmtKeyword) → Values (form_of k) → List Piece
keyword_pieces k v = token (word (stmt_word k)) ∷ form_pieces (form_of k) v

abbrev pub view_pieces : StmtView → List Piece
view_pieces v = keyword_pieces v.keyword v.values

-- a statement without its `;`
abbrev pub stmt_pieces : Stmt → List Piece
stmt_pieces s = view_pieces (view_of s)
