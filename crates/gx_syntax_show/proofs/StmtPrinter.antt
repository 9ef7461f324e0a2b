-- The printer of statements.
use Rattle.std.proofs.Common.{◌≡◌, false, List, [], ◌∷◌, ◌++◌, map, refl, sym, ◌∙◌, ap, subst, append_assoc}
use Rattle.std.proofs.lemmas.List.{map-append}
use Rattle.gx_syntax_tokens.specs.Terminals.{Terminal, symbol, is_symbol}
use Rattle.gx_syntax_tokens.specs.SpacedText.{Piece, token, terminal}
use Rattle.gx_syntax_tokens.specs.declared.symbol.Symbol.TheVariants as symbols
use Rattle.gx_syntax_stmts.specs.Forms.{SpellsForm, symbol_of, SpellsStatement}
use Rattle.gx_syntax_stmts.specs.Keywords.{keyword_of}
use Rattle.gx_syntax_tree.specs.Forms.{Punctuation, equals, comma, Form, fin, mark, say, part, form_of, ViewsWhatItIsMadeOf}
use Rattle.gx_syntax_tree.specs.declared.stmt.Stmt.{Stmt}
use Rattle.gx_syntax_show.specs.ListPieces.{word_pieces}
use Rattle.gx_syntax_show.specs.ScriptLines.{line_of_stmt}
use Rattle.gx_syntax_show.specs.StmtPieces.{form_pieces, view_pieces, stmt_pieces}
use Rattle.gx_syntax_show.specs.Words.{stmt_word}
use Rattle.gx_syntax_show.proofs.ListPrinters.{symbol_is, symbol_printer, word_printer}
use Rattle.gx_syntax_show.proofs.PartPrinters.{part_printer}
use Rattle.gx_syntax_show.proofs.Printers.{IsPrinter, prints_as, empty_printed, then_printed, last_printed}
use Rattle.gx_syntax_show.proofs.Replacing.{CanReplace, replaces-append}
use Rattle.gx_syntax_show.proofs.WordPrinters.{keyword_is, choice_printer}

punctuation-no_semicolon : (p : Punctuation) → is_symbol symbols.Semicolon (symbol (symbol_of p)) ≡ false
punctuation-no_semicolon equals = refl
punctuation-no_semicolon comma = refl

form_printer : (f : Form) → IsPrinter (SpellsForm f) (form_pieces f)
form_printer fin ts v d = empty_printed d
form_printer (mark p f) ts v d = then_printed d (symbol_printer (symbol_of p) (punctuation-no_semicolon p) d.first d.value d.head) (form_printer f d.second v d.tail)
form_printer (say w f) ts v d = then_printed d (word_printer w d.first d.value d.head) (form_printer f d.second v d.tail)
form_printer (part p f) ts v d =
    let rest = d.tail in
    prints_as (ap (form_pieces (part p f)) rest.tail.given) (then_printed d (part_printer p d.first d.value d.head) (last_printed rest (form_printer f rest.first rest.value rest.head)))

-- the line of a statement, beside the tokens that spelled it
pub record IsPrintedLine (ts : List Terminal) (s : Stmt) : Type 0 where
  pub front : List Terminal
  pub whole : ts ≡ front ++ symbol symbols.Semicolon ∷ []
  pub replaces : CanReplace front (stmt_pieces s)
  pub spells : SpellsStatement (map terminal (line_of_stmt s)) s

pub line_of_stmt-terminal : (s : Stmt) → map terminal (line_of_stmt s) ≡ map terminal (stmt_pieces s) ++ symbol symbols.Semicolon ∷ []
line_of_stmt-terminal s = map-append terminal (stmt_pieces s) (token (symbol symbols.Semicolon) ∷ [])

pub line_printed : ViewsWhatItIsMadeOf → (ts : List Terminal) (s : Stmt) → SpellsStatement ts s → IsPrintedLine ts s
line_printed seen ts s d =
    let k = d.value in
    let body = d.tail in
    let finish = body.tail in
    let values : List Piece = form_pieces (form_of k) body.head.value in
    let keyword = choice_printer keyword_of stmt_word keyword_is d.first k d.head in
    let form = last_printed body.head (form_printer (form_of k) body.head.first body.head.value body.head.head) in
    let pieces : stmt_pieces s ≡ word_pieces (stmt_word k) ++ values = ap stmt_pieces (finish.tail.given ∙ body.head.tail.given) ∙ ap view_pieces (seen k body.head.value) in
    let semicolon : finish.first ≡ symbol symbols.Semicolon ∷ [] = finish.head.whole ∙ ap (λ t. t ∷ []) (symbol_is symbols.Semicolon finish.head.token finish.value finish.head.passes) in
    let last : body.second ≡ symbol symbols.Semicolon ∷ [] = finish.whole ∙ rw (semicolon, finish.tail.empty) refl in
    record {
      front = d.first ++ body.first;
      whole = d.whole ∙ ap (λ l. d.first ++ l) (body.whole ∙ ap (λ l. body.first ++ l) last) ∙ sym (append_assoc d.first body.first (symbol symbols.Semicolon ∷ []));
      replaces = subst (CanReplace (d.first ++ body.first)) (sym pieces) (replaces-append d.first body.first (word_pieces (stmt_word k)) values keyword.replaces form.replaces);
      spells = record {
        first = map terminal (word_pieces (stmt_word k));
        second = map terminal values ++ symbol symbols.Semicolon ∷ [];
        value = k;
        whole = line_of_stmt-terminal s ∙ ap (λ ps. map terminal ps ++ symbol symbols.Semicolon ∷ []) pieces;
        head = keyword.spells;
        tail = record {
          first = map terminal values;
          second = symbol symbols.Semicolon ∷ [];
          value = body.value;
          whole = refl;
          head = form.spells;
          tail = record { first = symbol symbols.Semicolon ∷ []; second = []; value = tt; whole = refl; head = record { token = symbol symbols.Semicolon; whole = refl; passes = refl }; tail = record { empty = refl; given = finish.tail.given } };
        };
      };
    }
