-- The pieces of the items of lists, and of clauses.
use Rattle.std.specs.Prelude.{ℕ, suc, ℤ, pos, negsuc, Bool, true, false, List, [], ◌∷◌, ◌++◌, codes}
use Rattle.std.specs.List.{flat_map}
use Rattle.gx_syntax_tokens.specs.Terminals.{word, number, quoted, symbol}
use Rattle.gx_syntax_tokens.specs.SpacedText.{Piece, token, sign, function}
use Rattle.gx_syntax_tokens.specs.declared.symbol.Symbol.TheVariants as symbols
use Rattle.gx_syntax_tree.specs.declared.constant.ColumnConst.{ColumnConst}
use Rattle.gx_syntax_tree.specs.declared.constant.Const.{Const}
use Rattle.gx_syntax_tree.specs.declared.constant.Const.TheVariants as consts
use Rattle.gx_syntax_tree.specs.declared.expr.Expr.{Expr}
use Rattle.gx_syntax_tree.specs.declared.parts.ColumnDecl.{ColumnDecl}
use Rattle.gx_syntax_tree.specs.declared.parts.ColumnExpr.{ColumnExpr}
use Rattle.gx_syntax_tree.specs.declared.parts.ColumnMerge.{ColumnMerge}
use Rattle.gx_syntax_tree.specs.declared.parts.SendClause.{SendClause}
use Rattle.gx_syntax_tree.specs.declared.parts.SubgraphFilter.{SubgraphFilter}
use Rattle.gx_syntax_tree.specs.declared.words.ActiveWord.{ActiveWord}
use Rattle.gx_syntax_tree.specs.declared.words.ActiveWord.TheVariants as actives
use Rattle.gx_syntax_show.specs.ExprPieces.{expr_pieces}
use Rattle.gx_syntax_show.specs.ListPieces.{word_pieces, paren_list_pieces, optional_pieces}
use Rattle.gx_syntax_show.specs.Words.{truth_word, kind_word, merge_word, side_word, active_word}

-- `NAME : item`
abbrev pub named_item_pieces : List ℕ → List Piece → List Piece
named_item_pieces name item = token (word name) ∷ token (symbol symbols.Colon) ∷ item

abbrev pub column_decl_pieces : ColumnDecl → List Piece
column_decl_pieces c = named_item_pieces c.name (word_pieces (kind_word c.kind))

abbrev pub column_expr_pieces : ColumnExpr → List Piece
column_expr_pieces c = named_item_pieces c.name (expr_pieces 1 c.value)

abbrev pub column_merge_pieces : ColumnMerge → List Piece
column_merge_pieces c = named_item_pieces c.name (word_pieces (merge_word c.by))

abbrev pub int_pieces : ℤ → List Piece
int_pieces (pos n) = token (number n) ∷ []
int_pieces (negsuc n) = sign ∷ token (number (suc n)) ∷ []

abbrev pub const_pieces : Const → List Piece
const_pieces (consts.Number z) = int_pieces z
const_pieces (consts.Quoted s) = token (quoted s) ∷ []
const_pieces (consts.Truth b) = word_pieces (truth_word b)
const_pieces consts.NoIds = function (codes "ids") ∷ token (symbol symbols.OpenParen) ∷ token (symbol symbols.CloseParen) ∷ []

abbrev pub column_const_pieces : ColumnConst → List Piece
column_const_pieces c = named_item_pieces c.name (const_pieces c.value)

-- a word and an expression
abbrev pub keyword_expr_pieces : List ℕ → Expr → List Piece
keyword_expr_pieces w x = token (word w) ∷ expr_pieces 1 x

-- `to (src | dst) (values) [when expr]`
abbrev pub send_clause_pieces : SendClause → List Piece
send_clause_pieces s =
    token (word (codes "to")) ∷ token (word (side_word s.to)) ∷ paren_list_pieces (expr_pieces 1) s.values ++ optional_pieces (keyword_expr_pieces (codes "when")) s.when

abbrev pub send_clauses_pieces : List SendClause → List Piece
send_clauses_pieces ss = flat_map send_clause_pieces ss

-- `[vertices expr] [edges expr]`
abbrev pub subgraph_filter_pieces : SubgraphFilter → List Piece
subgraph_filter_pieces f = optional_pieces (keyword_expr_pieces (codes "vertices")) f.vertices ++ optional_pieces (keyword_expr_pieces (codes "edges")) f.edges

-- `[oriented]`
abbrev pub oriented_pieces : Bool → List Piece
oriented_pieces true = word_pieces (codes "oriented")
oriented_pieces false = []

-- `[active WORD]`: `either` is left out
abbrev pub active_pieces : ActiveWord → List Piece
active_pieces actives.Either = []
active_pieces actives.Out = token (word (codes "active")) ∷ word_pieces (active_word actives.Out)
active_pieces actives.In = token (word (codes "active")) ∷ word_pieces (active_word actives.In)
active_pieces actives.Both = token (word (codes "active")) ∷ word_pieces (active_word actives.Both)
