-- Printers of the parts of statements.
use Rattle.std.proofs.Common.{ℕ, true, false, Some, None, inl, inr, List, ◌∷◌, codes, refl, ap, arith}
use Rattle.gx_syntax_tokens.specs.Terminals.{Terminal, word}
use Rattle.gx_syntax_tokens.specs.SpacedText.{token}
use Rattle.gx_syntax_exprs.specs.Combinators.{Satisfies, Empty, Then}
use Rattle.gx_syntax_exprs.specs.Grammar.{Spells}
use Rattle.gx_syntax_exprs.specs.TokenParsers.{expected_word, keyword_value}
use Rattle.gx_syntax_stmts.specs.Forms.{SpellsPart}
use Rattle.gx_syntax_stmts.specs.Keywords.{kind_of, cut_of, merge_of, side_of, neighbour_of, active_of, print_target_of, count_target_of}
use Rattle.gx_syntax_stmts.specs.Parts as parts
use Rattle.gx_syntax_stmts.specs.Parts.{SpellsColumnDecl, SpellsColumnExpr, SpellsConst, SpellsColumnConst, SpellsColumnMerge, KeywordExpr, OptionalExpr, SpellsSendClause, SpellsSendClauses, subgraph_filter_of, SpellsSubgraphFilter, SpellsOriented, SpellsActive}
use Rattle.gx_syntax_tree.specs.Forms.{Part, a_name, a_text, a_number, a_cut, a_neighbour, columns, sets, consts, named, merges, sends, condition, subgraph_filter, oriented, active, print_target, counted}
use Rattle.gx_syntax_tree.specs.declared.words.ActiveWord.{ActiveWord}
use Rattle.gx_syntax_tree.specs.declared.words.ActiveWord.TheVariants as actives
use Rattle.gx_syntax_show.specs.ExprPieces.{expr_pieces}
use Rattle.gx_syntax_show.specs.ItemPieces.{column_decl_pieces, column_expr_pieces, column_merge_pieces, const_pieces, column_const_pieces, keyword_expr_pieces, send_clause_pieces, send_clauses_pieces, subgraph_filter_pieces, oriented_pieces, active_pieces}
use Rattle.gx_syntax_show.specs.ListPieces.{word_pieces, optional_pieces}
use Rattle.gx_syntax_show.specs.StmtPieces.{part_pieces}
use Rattle.gx_syntax_show.specs.Words.{kind_word, cut_word, merge_word, side_word, neighbour_word, active_word, print_target_word, count_target_word}
use Rattle.gx_syntax_show.proofs.ConstPrinter.{text_printer, number_printer, const_printer}
use Rattle.gx_syntax_show.proofs.ExprPrinter.{expr_printer}
use Rattle.gx_syntax_show.proofs.ListPrinters.{word_printer, name_printer, one_or_more_printer, list_printer, named_item_printer}
use Rattle.gx_syntax_show.proofs.Printers.{Prints, IsPrinter, prints_as, empty_printed, then_printed, last_printed, either_printer, optional_printer}
use Rattle.gx_syntax_show.proofs.WordPrinters.{kind_is, cut_is, merge_is, side_is, neighbour_is, active_is, print_target_is, count_target_is, choice_printer}

-- items of lists
column_decl_printer : IsPrinter SpellsColumnDecl column_decl_pieces
column_decl_printer = named_item_printer parts.column_decl_of (Satisfies (keyword_value kind_of)) (λ k. word_pieces (kind_word k)) column_decl_pieces (λ name k. refl) (choice_printer kind_of kind_word kind_is)

column_expr_printer : IsPrinter SpellsColumnExpr column_expr_pieces
column_expr_printer = named_item_printer parts.column_expr_of (Spells 1) (expr_pieces 1) column_expr_pieces (λ name x. refl) expr_printer

column_merge_printer : IsPrinter SpellsColumnMerge column_merge_pieces
column_merge_printer = named_item_printer parts.column_merge_of (Satisfies (keyword_value merge_of)) (λ k. word_pieces (merge_word k)) column_merge_pieces (λ name k. refl) (choice_printer merge_of merge_word merge_is)

column_const_printer : IsPrinter SpellsColumnConst column_const_pieces
column_const_printer = named_item_printer parts.column_const_of SpellsConst const_pieces column_const_pieces (λ name c. refl) const_printer

-- a word and an expression
keyword_expr_printer : (w : List ℕ) → IsPrinter (KeywordExpr w) (keyword_expr_pieces w)
unfolding KeywordExpr
keyword_expr_printer w ts x d = then_printed d (word_printer w d.first d.value d.head) (expr_printer d.second x d.tail)

optional_expr_printer : (w : List ℕ) → IsPrinter (OptionalExpr w) (optional_pieces (keyword_expr_pieces w))
unfolding OptionalExpr
optional_expr_printer w = optional_printer (KeywordExpr w) (keyword_expr_pieces w) (keyword_expr_printer w)

-- send clauses
send_clause_printer : IsPrinter SpellsSendClause send_clause_pieces
unfolding SpellsSendClause
send_clause_printer ts s d =
    let side = d.tail in
    let values = side.tail in
    let when = values.tail in
    prints_as (ap send_clause_pieces when.tail.given)
    (then_printed d (word_printer (codes "to") d.first d.value d.head)
    (then_printed side (choice_printer side_of side_word side_is side.first side.value side.head)
    (then_printed values (list_printer (Spells 1) (expr_pieces 1) expr_printer values.first values.value values.head)
    (last_printed when (optional_expr_printer (codes "when") when.first when.value when.head)))))

send_clauses_printer : IsPrinter SpellsSendClauses send_clauses_pieces
unfolding SpellsSendClauses
send_clauses_printer = one_or_more_printer SpellsSendClause SpellsSendClause send_clause_pieces send_clause_pieces send_clauses_pieces (λ s ss. refl) send_clause_printer send_clause_printer

-- `[vertices expr] [edges expr]`, at least one
subgraph_filter_printer : IsPrinter SpellsSubgraphFilter subgraph_filter_pieces
unfolding SpellsSubgraphFilter
subgraph_filter_printer =
    either_printer (Then (KeywordExpr (codes "vertices")) (λ v. Then (OptionalExpr (codes "edges")) (λ e. Empty (subgraph_filter_of (Some v) e)))) (Then (KeywordExpr (codes "edges")) (λ e. Empty (subgraph_filter_of None (Some e)))) subgraph_filter_pieces of_vertices of_edges
  where
    of_vertices : IsPrinter (Then (KeywordExpr (codes "vertices")) (λ v. Then (OptionalExpr (codes "edges")) (λ e. Empty (subgraph_filter_of (Some v) e)))) subgraph_filter_pieces
    of_vertices ts f d =
        let edges = d.tail in
        prints_as (ap subgraph_filter_pieces edges.tail.given) (then_printed d (keyword_expr_printer (codes "vertices") d.first d.value d.head) (last_printed edges (optional_expr_printer (codes "edges") edges.first edges.value edges.head)))

    of_edges : IsPrinter (Then (KeywordExpr (codes "edges")) (λ e. Empty (subgraph_filter_of None (Some e)))) subgraph_filter_pieces
    of_edges ts f d = prints_as (ap subgraph_filter_pieces d.tail.given) (last_printed d (keyword_expr_printer (codes "edges") d.first d.value d.head))

-- `[oriented]`
oriented_printer : IsPrinter SpellsOriented oriented_pieces
unfolding SpellsOriented
oriented_printer = either_printer (Then (Satisfies (expected_word (codes "oriented"))) (λ _. Empty true)) (Empty false) oriented_pieces given left_out
  where
    given : IsPrinter (Then (Satisfies (expected_word (codes "oriented"))) (λ _. Empty true)) oriented_pieces
    given ts b d = prints_as (ap oriented_pieces d.tail.given) (last_printed d (word_printer (codes "oriented") d.first d.value d.head))

    left_out : IsPrinter (Empty false) oriented_pieces
    left_out ts b d = prints_as (ap oriented_pieces d.given) (empty_printed d)

-- `[active WORD]`: `active either` is left out
abbrev GivenActive : List Terminal → ActiveWord → Type 0
GivenActive = Then (Satisfies (expected_word (codes "active"))) (λ _. Satisfies (keyword_value active_of))

given_active_printed : (a : ActiveWord) (ts : List Terminal) → Prints GivenActive ts (token (word (codes "active")) ∷ word_pieces (active_word a)) a → Prints SpellsActive ts (active_pieces a) a
unfolding SpellsActive
given_active_printed actives.Either ts p = record { spells = inr (record { empty = refl; given = refl }); replaces = record { no_more = omega arith; valid = λ v. tt; read = p.replaces.read; written = tt } }
given_active_printed actives.Out ts p = record { spells = inl p.spells; replaces = p.replaces }
given_active_printed actives.In ts p = record { spells = inl p.spells; replaces = p.replaces }
given_active_printed actives.Both ts p = record { spells = inl p.spells; replaces = p.replaces }

active_printer : IsPrinter SpellsActive active_pieces
unfolding SpellsActive
active_printer ts a (inl d) = given_active_printed a ts (then_printed d (word_printer (codes "active") d.first d.value d.head) (choice_printer active_of active_word active_is d.second a d.tail))
active_printer ts a (inr d) = let p = empty_printed d in prints_as (ap active_pieces d.given) (record { spells = inr p.spells; replaces = p.replaces })

pub part_printer : (p : Part) → IsPrinter (SpellsPart p) (part_pieces p)
part_printer a_name = name_printer
part_printer a_text = text_printer
part_printer a_number = number_printer
part_printer a_cut = choice_printer cut_of cut_word cut_is
part_printer a_neighbour = choice_printer neighbour_of neighbour_word neighbour_is
part_printer columns = list_printer SpellsColumnDecl column_decl_pieces column_decl_printer
part_printer sets = list_printer SpellsColumnExpr column_expr_pieces column_expr_printer
part_printer consts = list_printer SpellsConst const_pieces const_printer
part_printer named = list_printer SpellsColumnConst column_const_pieces column_const_printer
part_printer merges = list_printer SpellsColumnMerge column_merge_pieces column_merge_printer
part_printer sends = send_clauses_printer
part_printer condition = expr_printer
part_printer subgraph_filter = subgraph_filter_printer
part_printer oriented = oriented_printer
part_printer active = active_printer
part_printer print_target = choice_printer print_target_of print_target_word print_target_is
part_printer counted = choice_printer count_target_of count_target_word count_target_is
