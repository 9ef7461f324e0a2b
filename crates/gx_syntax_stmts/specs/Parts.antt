-- The parts of statements: the tokens that spell each, and its parser.
--
-- Each language (`SpellsX`) has the parser of its words below it (`x`). proofs/ExactParts.antt shows
-- that the parser parses these words and nothing else. To add a part, define both here, prove that
-- there, and add its case to specs/Forms.antt.
use Rattle.std.specs.Prelude.{ℕ, ℤ, pos, neg_ℤ, Bool, true, false, if◌then◌else◌, Option, Some, None, List, [], ◌∷◌, ◌++◌, codes}
use Rattle.gx_rows.specs.declared.value.ValueKind.{ValueKind}
use Rattle.gx_syntax_tokens.specs.Terminals.{Terminal, word, number, quoted, symbol, is_symbol}
use Rattle.gx_syntax_tokens.specs.declared.symbol.Symbol.TheVariants as symbols
use Rattle.gx_syntax_exprs.specs.Combinators.{Parser, pure, satisfy, seq, map_value, if_next, many_while, Empty, Satisfies, Then, Either, Many}
use Rattle.gx_syntax_exprs.specs.Expressions.{expression}
use Rattle.gx_syntax_exprs.specs.Grammar.{Spells, fits_i64}
use Rattle.gx_syntax_exprs.specs.TokenParsers.{is_word, expected_symbol, expected_word, name_value, number_value, keyword_value}
use Rattle.gx_syntax_tree.specs.declared.constant.ColumnConst.{ColumnConst}
use Rattle.gx_syntax_tree.specs.declared.constant.Const.{Const}
use Rattle.gx_syntax_tree.specs.declared.constant.Const.TheVariants as consts
use Rattle.gx_syntax_tree.specs.declared.expr.Expr.{Expr}
use Rattle.gx_syntax_tree.specs.declared.parts.ColumnDecl.{ColumnDecl}
use Rattle.gx_syntax_tree.specs.declared.parts.ColumnExpr.{ColumnExpr}
use Rattle.gx_syntax_tree.specs.declared.parts.ColumnMerge.{ColumnMerge}
use Rattle.gx_syntax_tree.specs.declared.parts.SendClause.{SendClause}
use Rattle.gx_syntax_tree.specs.declared.parts.SubgraphFilter.{SubgraphFilter}
use Rattle.gx_syntax_tree.specs.declared.words.ActiveWord.{ActiveWord}
use Rattle.gx_syntax_tree.specs.declared.words.ActiveWord.TheVariants as actives
use Rattle.gx_syntax_tree.specs.declared.words.MergeWord.{MergeWord}
use Rattle.gx_syntax_tree.specs.declared.words.SideWord.{SideWord}
use Rattle.gx_syntax_stmts.specs.Keywords.{kind_of, merge_of, side_of, active_of, truth_of}

-- values that follow some items, parsed while the next token passes a test
abbrev pub appended : {A : Type 0} → List A → (Terminal → Bool) → Parser Terminal A
    → Parser Terminal (List A)
appended items starts p = map_value (λ xs. items ++ xs) (many_while starts p)

-- one word or more: the first of L, the others of M

abbrev pub OneOrMore : {A : Type 0} → (List Terminal → A → Type 0) → (List Terminal → A → Type 0)
    → List Terminal → List A → Type 0
OneOrMore L M = Then L (λ x. Then (Many M) (λ xs. Empty (x ∷ xs)))

abbrev pub one_or_more : {A : Type 0} → Parser Terminal A → (Terminal → Bool) → Parser Terminal A
    → Parser Terminal (List A)
one_or_more p starts q = seq p (λ x. appended (x ∷ []) starts q)

-- lists: `( [ item { , item } ] )`

abbrev pub CommaItem : {A : Type 0} → (List Terminal → A → Type 0) → List Terminal → A → Type 0
CommaItem L = Then (Satisfies (expected_symbol symbols.Comma)) (λ _. L)

abbrev pub comma_item : {A : Type 0} → Parser Terminal A → Parser Terminal A
comma_item p = seq (satisfy (expected_symbol symbols.Comma)) (λ _. p)

unfoldable pub CommaList : {A : Type 0} → (List Terminal → A → Type 0)
    → List Terminal → List A → Type 0
CommaList L = OneOrMore L (CommaItem L)

unfoldable pub comma_list : {A : Type 0} → Parser Terminal A → Parser Terminal (List A)
comma_list p = one_or_more p (is_symbol symbols.Comma) (comma_item p)

unfoldable pub ParenList : {A : Type 0} → (List Terminal → A → Type 0)
    → List Terminal → List A → Type 0
ParenList L = Then (Satisfies (expected_symbol symbols.OpenParen)) (λ _. Either
    (Then (Satisfies (expected_symbol symbols.CloseParen)) (λ _. Empty []))
    (Then (CommaList L) (λ xs.
    Then (Satisfies (expected_symbol symbols.CloseParen)) (λ _. Empty xs))))

unfoldable pub paren_list : {A : Type 0} → Parser Terminal A → Parser Terminal (List A)
paren_list p = seq (satisfy (expected_symbol symbols.OpenParen)) (λ _.
    if_next (is_symbol symbols.CloseParen)
    (seq (satisfy (expected_symbol symbols.CloseParen)) (λ _. pure []))
    (seq (comma_list p) (λ xs. seq (satisfy (expected_symbol symbols.CloseParen)) (λ _. pure xs))))

-- `NAME : item`

unfoldable pub NamedItem : {A B : Type 0} → (List ℕ → A → B) → (List Terminal → A → Type 0)
    → List Terminal → B → Type 0
NamedItem make L = Then (Satisfies name_value) (λ name.
    Then (Satisfies (expected_symbol symbols.Colon)) (λ _. Then L (λ x. Empty (make name x))))

unfoldable pub named_item : {A B : Type 0} → (List ℕ → A → B) → Parser Terminal A
    → Parser Terminal B
named_item make p = seq (satisfy name_value) (λ name.
    seq (satisfy (expected_symbol symbols.Colon)) (λ _. seq p (λ x. pure (make name x))))

-- columns: a name with a kind, an expression or a merge

abbrev pub column_decl_of : List ℕ → ValueKind → ColumnDecl
column_decl_of name kind = record { name = name; kind = kind }

abbrev pub SpellsColumnDecl : List Terminal → ColumnDecl → Type 0
SpellsColumnDecl = NamedItem column_decl_of (Satisfies (keyword_value kind_of))

abbrev pub column_decl : Parser Terminal ColumnDecl
column_decl = named_item column_decl_of (satisfy (keyword_value kind_of))

abbrev pub column_expr_of : List ℕ → Expr → ColumnExpr
column_expr_of name value = record { name = name; value = value }

abbrev pub SpellsColumnExpr : List Terminal → ColumnExpr → Type 0
SpellsColumnExpr = NamedItem column_expr_of (Spells 1)

abbrev pub column_expr : Parser Terminal ColumnExpr
column_expr = named_item column_expr_of expression

abbrev pub column_merge_of : List ℕ → MergeWord → ColumnMerge
column_merge_of name by = record { name = name; by = by }

abbrev pub SpellsColumnMerge : List Terminal → ColumnMerge → Type 0
SpellsColumnMerge = NamedItem column_merge_of (Satisfies (keyword_value merge_of))

abbrev pub column_merge : Parser Terminal ColumnMerge
column_merge = named_item column_merge_of (satisfy (keyword_value merge_of))

-- constants: a number, a text, `true`, `false`, `-` and a number, `ids ( )`

abbrev pub negative : ℤ → Const
negative n = consts.Number (neg_ℤ n)

abbrev pub truth_const : Option Bool → Option Const
truth_const (Some b) = Some (consts.Truth b)
truth_const None = None

-- a constant of one token
abbrev pub literal_value : Terminal → Option Const
literal_value (word w) = truth_const (truth_of w)
literal_value (number n) = if fits_i64 n then Some (consts.Number (pos n)) else None
literal_value (quoted s) = Some (consts.Quoted s)
literal_value (symbol s) = None

abbrev pub SpellsNegative : List Terminal → Const → Type 0
SpellsNegative = Then (Satisfies (expected_symbol symbols.Minus)) (λ _.
    Then (Satisfies number_value) (λ n. Empty (negative n)))

abbrev pub SpellsNoIds : List Terminal → Const → Type 0
SpellsNoIds = Then (Satisfies (expected_word (codes "ids"))) (λ _.
    Then (Satisfies (expected_symbol symbols.OpenParen)) (λ _.
    Then (Satisfies (expected_symbol symbols.CloseParen)) (λ _. Empty consts.NoIds)))

unfoldable pub SpellsConst : List Terminal → Const → Type 0
SpellsConst = Either SpellsNegative (Either SpellsNoIds (Satisfies literal_value))

abbrev pub negative_number : Parser Terminal Const
negative_number = seq (satisfy (expected_symbol symbols.Minus)) (λ _.
    seq (satisfy number_value) (λ n. pure (negative n)))

abbrev pub no_ids : Parser Terminal Const
no_ids = seq (satisfy (expected_word (codes "ids"))) (λ _.
    seq (satisfy (expected_symbol symbols.OpenParen)) (λ _.
    seq (satisfy (expected_symbol symbols.CloseParen)) (λ _. pure consts.NoIds)))

unfoldable pub constant : Parser Terminal Const
constant = if_next (is_symbol symbols.Minus) negative_number
    (if_next (is_word (codes "ids")) no_ids (satisfy literal_value))

abbrev pub column_const_of : List ℕ → Const → ColumnConst
column_const_of name value = record { name = name; value = value }

abbrev pub SpellsColumnConst : List Terminal → ColumnConst → Type 0
SpellsColumnConst = NamedItem column_const_of SpellsConst

abbrev pub column_const : Parser Terminal ColumnConst
column_const = named_item column_const_of constant

-- an expression after a word

unfoldable pub KeywordExpr : List ℕ → List Terminal → Expr → Type 0
KeywordExpr w = Then (Satisfies (expected_word w)) (λ _. Spells 1)

unfoldable pub keyword_expr : List ℕ → Parser Terminal Expr
keyword_expr w = seq (satisfy (expected_word w)) (λ _. expression)

-- the same, if the word is there

unfoldable pub OptionalExpr : List ℕ → List Terminal → Option Expr → Type 0
OptionalExpr w = Either (Then (KeywordExpr w) (λ x. Empty (Some x))) (Empty None)

unfoldable pub optional_expr : List ℕ → Parser Terminal (Option Expr)
optional_expr w = if_next (is_word w) (seq (keyword_expr w) (λ x. pure (Some x))) (pure None)

-- send clauses: `to (src | dst) ( [ expr { , expr } ] ) [ when expr ]`, one or more

abbrev pub send_clause_of : SideWord → List Expr → Option Expr → SendClause
send_clause_of to values when = record { to = to; values = values; when = when }

unfoldable pub SpellsSendClause : List Terminal → SendClause → Type 0
SpellsSendClause = Then (Satisfies (expected_word (codes "to"))) (λ _.
    Then (Satisfies (keyword_value side_of)) (λ to.
    Then (ParenList (Spells 1)) (λ values.
    Then (OptionalExpr (codes "when")) (λ when. Empty (send_clause_of to values when)))))

unfoldable pub send_clause : Parser Terminal SendClause
send_clause = seq (satisfy (expected_word (codes "to"))) (λ _.
    seq (satisfy (keyword_value side_of)) (λ to.
    seq (paren_list expression) (λ values.
    seq (optional_expr (codes "when")) (λ when. pure (send_clause_of to values when)))))

unfoldable pub SpellsSendClauses : List Terminal → List SendClause → Type 0
SpellsSendClauses = OneOrMore SpellsSendClause SpellsSendClause

unfoldable pub send_clauses : Parser Terminal (List SendClause)
send_clauses = one_or_more send_clause (is_word (codes "to")) send_clause

-- the filter of a subgraph: `[ vertices expr ] [ edges expr ]`, at least one

abbrev pub subgraph_filter_of : Option Expr → Option Expr → SubgraphFilter
subgraph_filter_of vertices edges = record { vertices = vertices; edges = edges }

unfoldable pub SpellsSubgraphFilter : List Terminal → SubgraphFilter → Type 0
SpellsSubgraphFilter = Either
    (Then (KeywordExpr (codes "vertices")) (λ v.
    Then (OptionalExpr (codes "edges")) (λ e. Empty (subgraph_filter_of (Some v) e))))
    (Then (KeywordExpr (codes "edges")) (λ e. Empty (subgraph_filter_of None (Some e))))

unfoldable pub subgraph_filter : Parser Terminal SubgraphFilter
subgraph_filter = if_next (is_word (codes "vertices"))
    (seq (keyword_expr (codes "vertices")) (λ v.
    seq (optional_expr (codes "edges")) (λ e. pure (subgraph_filter_of (Some v) e))))
    (seq (keyword_expr (codes "edges")) (λ e. pure (subgraph_filter_of None (Some e))))

-- `[ oriented ]`

unfoldable pub SpellsOriented : List Terminal → Bool → Type 0
SpellsOriented =
    Either (Then (Satisfies (expected_word (codes "oriented"))) (λ _. Empty true)) (Empty false)

unfoldable pub oriented : Parser Terminal Bool
oriented = if_next (is_word (codes "oriented"))
    (seq (satisfy (expected_word (codes "oriented"))) (λ _. pure true)) (pure false)

-- `[ active DIRECTION ]`, which is `active either` if it is left out

unfoldable pub SpellsActive : List Terminal → ActiveWord → Type 0
SpellsActive = Either
    (Then (Satisfies (expected_word (codes "active"))) (λ _. Satisfies (keyword_value active_of)))
    (Empty actives.Either)

unfoldable pub active : Parser Terminal ActiveWord
active = if_next (is_word (codes "active"))
    (seq (satisfy (expected_word (codes "active"))) (λ _. satisfy (keyword_value active_of)))
    (pure actives.Either)
