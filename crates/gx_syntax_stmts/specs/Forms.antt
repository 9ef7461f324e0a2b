-- The statements: each is spelled by its keyword, and then by the parts of its form, in text order.
--
-- The forms themselves are in specs/Forms.antt of gx_syntax_tree. To add a statement, add it there
-- first; then add its keyword to specs/Keywords.antt and src/keywords.rt, its function to the file of
-- its family, and its arm to `rest` of src/script.rt. If its form does not begin with `NAME = SOURCE`,
-- add its case to `has_target` and `rest` here, and its arm to `body` of src/script.rt. If it has a
-- part of a new kind, see specs/Parts.antt, and give the part a case in `SpellsPart` and `parse_part`
-- here, and in `goes` and `part_exact` of proofs/ExactForms.antt. HACKING.md has the whole list of
-- files for a new statement.
use Rattle.std.specs.Prelude.{ℕ, Bool, true, false, if◌then◌else◌, Err, List}
use Rattle.gx_syntax_tokens.specs.Terminals.{Terminal}
use Rattle.gx_syntax_tokens.specs.declared.symbol.Symbol.{Symbol}
use Rattle.gx_syntax_tokens.specs.declared.symbol.Symbol.TheVariants as symbols
use Rattle.gx_syntax_exprs.specs.Combinators.{Parser, pure, satisfy, seq, many_while, Empty, Satisfies, Then, Many}
use Rattle.gx_syntax_exprs.specs.Expressions.{expression}
use Rattle.gx_syntax_exprs.specs.Grammar.{Spells}
use Rattle.gx_syntax_exprs.specs.TokenParsers.{expected_symbol, expected_word, name_value, quoted_value, number_value, keyword_value}
use Rattle.gx_syntax_tree.specs.Forms.{Part, a_name, a_text, a_number, a_cut, a_neighbour, columns, sets, consts, named, merges, sends, condition, subgraph_filter, oriented, active, print_target, counted, Value, Punctuation, equals, comma, Form, fin, mark, say, part, Values, form_of, stmt_of}
use Rattle.gx_syntax_tree.specs.declared.keyword.StmtKeyword.{StmtKeyword}
use Rattle.gx_syntax_tree.specs.declared.keyword.StmtKeyword.TheVariants as keywords
use Rattle.gx_syntax_tree.specs.declared.stmt.Stmt.{Stmt}
use Rattle.gx_syntax_stmts.specs.Keywords.{cut_of, neighbour_of, print_target_of, count_target_of, keyword_of}
use Rattle.gx_syntax_stmts.specs.Parts as parts

-- the tokens that spell a part
abbrev pub SpellsPart : (p : Part) → List Terminal → Value p → Type 0
SpellsPart a_name = Satisfies name_value
SpellsPart a_text = Satisfies quoted_value
SpellsPart a_number = Satisfies number_value
SpellsPart a_cut = Satisfies (keyword_value cut_of)
SpellsPart a_neighbour = Satisfies (keyword_value neighbour_of)
SpellsPart columns = parts.ParenList parts.SpellsColumnDecl
SpellsPart sets = parts.ParenList parts.SpellsColumnExpr
SpellsPart consts = parts.ParenList parts.SpellsConst
SpellsPart named = parts.ParenList parts.SpellsColumnConst
SpellsPart merges = parts.ParenList parts.SpellsColumnMerge
SpellsPart sends = parts.SpellsSendClauses
SpellsPart condition = Spells 1
SpellsPart subgraph_filter = parts.SpellsSubgraphFilter
SpellsPart oriented = parts.SpellsOriented
SpellsPart active = parts.SpellsActive
SpellsPart print_target = Satisfies (keyword_value print_target_of)
SpellsPart counted = Satisfies (keyword_value count_target_of)

-- the parser of a part
abbrev pub parse_part : (p : Part) → Parser Terminal (Value p)
parse_part a_name = satisfy name_value
parse_part a_text = satisfy quoted_value
parse_part a_number = satisfy number_value
parse_part a_cut = satisfy (keyword_value cut_of)
parse_part a_neighbour = satisfy (keyword_value neighbour_of)
parse_part columns = parts.paren_list parts.column_decl
parse_part sets = parts.paren_list parts.column_expr
parse_part consts = parts.paren_list parts.constant
parse_part named = parts.paren_list parts.column_const
parse_part merges = parts.paren_list parts.column_merge
parse_part sends = parts.send_clauses
parse_part condition = expression
parse_part subgraph_filter = parts.subgraph_filter
parse_part oriented = parts.oriented
parse_part active = parts.active
parse_part print_target = satisfy (keyword_value print_target_of)
parse_part counted = satisfy (keyword_value count_target_of)

-- the symbol of a punctuation
abbrev pub symbol_of : Punctuation → Symbol
symbol_of equals = symbols.Assign
symbol_of comma = symbols.Comma

-- the tokens that spell the parts of a form
abbrev pub SpellsForm : (f : Form) → List Terminal → Values f → Type 0
SpellsForm fin = Empty tt
SpellsForm (mark p f) = Then (Satisfies (expected_symbol (symbol_of p))) (λ _. SpellsForm f)
SpellsForm (say w f) = Then (Satisfies (expected_word w)) (λ _. SpellsForm f)
SpellsForm (part p f) = Then (SpellsPart p) (λ x. Then (SpellsForm f) (λ y. Empty (x, y)))

-- its parser, which returns what is made of the values
abbrev pub parse_form : {A : Type 0} → (f : Form) → (Values f → A) → Parser Terminal A
parse_form fin make = pure (make tt)
parse_form (mark p f) make = seq (satisfy (expected_symbol (symbol_of p))) (λ _. parse_form f make)
parse_form (say w f) make = seq (satisfy (expected_word w)) (λ _. parse_form f make)
parse_form (part p f) make = seq (parse_part p) (λ x. parse_form f (λ y. make (x, y)))

-- a statement after its keyword
abbrev pub SpellsBody : StmtKeyword → List Terminal → Stmt → Type 0
SpellsBody k = Then (SpellsForm (form_of k)) (λ v. Empty (stmt_of k v))

-- whether the form of a statement begins with `NAME = SOURCE`
abbrev pub has_target : StmtKeyword → Bool
has_target keywords.Vertices = false
has_target keywords.Edges = false
has_target keywords.EdgeList = false
has_target keywords.Print = false
has_target keywords.Count = false
has_target _ = true

-- the name and the source
abbrev pub target : Parser Terminal (List ℕ × List ℕ)
target = seq (satisfy name_value) (λ name.
    seq (satisfy (expected_symbol symbols.Assign)) (λ _.
    seq (satisfy name_value) (λ source. pure (name, source))))

-- the form without `NAME = SOURCE`
abbrev pub after_target : Form → Form
after_target (part p (mark s (part q f))) = f
after_target _ = fin

-- the rest of a statement after its name and its source; a statement without these is refused
abbrev pub rest : StmtKeyword → List ℕ → List ℕ → Parser Terminal Stmt
rest keywords.Vertices name source ts = Err ts
rest keywords.Edges name source ts = Err ts
rest keywords.EdgeList name source ts = Err ts
rest keywords.Print name source ts = Err ts
rest keywords.Count name source ts = Err ts
rest k name source ts =
    parse_form (after_target (form_of k)) (λ v. stmt_of k (name, (source, v))) ts

unfoldable pub body : StmtKeyword → Parser Terminal Stmt
body k =
    if has_target k then seq target (λ t. rest k t.0 t.1) else parse_form (form_of k) (stmt_of k)

-- a statement and its `;`
abbrev pub SpellsStatement : List Terminal → Stmt → Type 0
SpellsStatement = Then (Satisfies (keyword_value keyword_of)) (λ k.
    Then (SpellsBody k) (λ s.
    Then (Satisfies (expected_symbol symbols.Semicolon)) (λ _. Empty s)))

unfoldable pub statement : Parser Terminal Stmt
statement = seq (satisfy (keyword_value keyword_of)) (λ k.
    seq (body k) (λ s.
    seq (satisfy (expected_symbol symbols.Semicolon)) (λ _. pure s)))

-- a script: statements up to the end of the tokens
abbrev pub SpellsScript : List Terminal → List Stmt → Type 0
SpellsScript = Many SpellsStatement

unfoldable pub script : Parser Terminal (List Stmt)
script = many_while (λ t. true) statement
