-- The printer of scripts.
use Rattle.std.proofs.Common.{◌≡◌, ◌≤◌, List, [], ◌∷◌, ◌++◌, length, map, sym, ◌∙◌, ap, subst, append_assoc, length-append, arith}
use Rattle.std.proofs.lemmas.List.{length-map}
use Rattle.gx_syntax_tokens.specs.Terminals.{Terminal, symbol}
use Rattle.gx_syntax_tokens.specs.SpacedText.{token, terminal, AreValid, AreValidLines, AreValidTerminals, terminals_of_lines}
use Rattle.gx_syntax_tokens.specs.declared.symbol.Symbol.TheVariants as symbols
use Rattle.gx_syntax_exprs.specs.Combinators.{Many, none, more}
use Rattle.gx_syntax_stmts.specs.Forms.{SpellsStatement, SpellsScript}
use Rattle.gx_syntax_stmts.specs.Limits.{IsShort}
use Rattle.gx_syntax_tree.specs.Forms.{ViewsWhatItIsMadeOf}
use Rattle.gx_syntax_tree.specs.declared.stmt.Stmt.{Stmt}
use Rattle.gx_syntax_show.specs.CanonicalScripts.{ShownScriptSpellsIt, ShownScriptIsShortest, ShownScriptIsWithinLimit, ShownScriptHasValidTokens}
use Rattle.gx_syntax_show.specs.ScriptLines.{line_of_stmt, lines_of_script}
use Rattle.gx_syntax_show.specs.StmtPieces.{stmt_pieces}
use Rattle.gx_syntax_show.proofs.Replacing.{valid-append, valid-left, valid-right}
use Rattle.gx_syntax_show.proofs.StmtPrinter.{IsPrintedLine, line_of_stmt-terminal, line_printed}
use Rattle.gx_syntax_show.proofs.WithinLimit.{short_split, short_join}

-- the lines of a script, beside the tokens that spelled it
record IsPrinted (ts : List Terminal) (ss : List Stmt) : Type 0 where
  spells : SpellsScript (terminals_of_lines (lines_of_script ss)) ss
  no_more : length (terminals_of_lines (lines_of_script ss)) ≤ length ts
  short : IsShort ts → IsShort (terminals_of_lines (lines_of_script ss))
  valid : AreValidTerminals ts → AreValidLines (lines_of_script ss)

-- tokens after the `;` of a statement
after_semicolon : (front rest : List Terminal) → (front ++ symbol symbols.Semicolon ∷ []) ++ rest ≡ front ++ symbol symbols.Semicolon ∷ rest
after_semicolon front rest = append_assoc front (symbol symbols.Semicolon ∷ []) rest

line_no_more : (w : List Terminal) (s : Stmt) → IsPrintedLine w s → length (map terminal (line_of_stmt s)) ≤ length w
line_no_more w s l = omega (
  arith,
  l.replaces.no_more,
  ap length l.whole,
  length-append l.front (symbol symbols.Semicolon ∷ []),
  length-map (line_of_stmt s) terminal,
  length-append (stmt_pieces s) (token (symbol symbols.Semicolon) ∷ []),
)

line_valid : (w : List Terminal) (s : Stmt) → IsPrintedLine w s → AreValidTerminals w → AreValid (line_of_stmt s)
line_valid w s l v = valid-append (stmt_pieces s) (token (symbol symbols.Semicolon) ∷ []) (l.replaces.valid (valid-left l.front (symbol symbols.Semicolon ∷ []) (subst AreValidTerminals l.whole v))) (tt, tt)

next_short : (w ws : List Terminal) (s : Stmt) (rest : List Terminal) → IsPrintedLine w s → (IsShort ws → IsShort rest) → IsShort (w ++ ws) → IsShort (map terminal (line_of_stmt s) ++ rest)
next_short w ws s rest l next short =
    let read : w ++ ws ≡ l.front ++ symbol symbols.Semicolon ∷ ws = ap (λ v. v ++ ws) l.whole ∙ after_semicolon l.front ws in
    let both = short_split l.front ws l.replaces.read (subst IsShort read short) in
    let few : length (map terminal (stmt_pieces s)) ≤ length l.front = omega (arith, length-map (stmt_pieces s) terminal, l.replaces.no_more) in
    let joined = short_join (map terminal (stmt_pieces s)) rest l.replaces.written (omega (arith, few, both.0)) (next both.1) in
    let written : map terminal (line_of_stmt s) ++ rest ≡ map terminal (stmt_pieces s) ++ symbol symbols.Semicolon ∷ rest = ap (λ v. v ++ rest) (line_of_stmt-terminal s) ∙ after_semicolon (map terminal (stmt_pieces s)) rest in
    subst IsShort (sym written) joined

module _ (seen : ViewsWhatItIsMadeOf) where
  printed : {ts : List Terminal} {ss : List Stmt} → Many SpellsStatement ts ss → IsPrinted ts ss
  printed none = record { spells = none; no_more = omega arith; short = λ e. e; valid = λ v. tt }
  printed (more {w} {ws} {x} {xs} d ds) =
      let l = line_printed seen w x d in
      let r = printed ds in
      record {
        spells = more l.spells r.spells;
        no_more = omega (arith, line_no_more w x l, r.no_more, length-append (map terminal (line_of_stmt x)) (terminals_of_lines (lines_of_script xs)), length-append w ws);
        short = next_short w ws x (terminals_of_lines (lines_of_script xs)) l r.short;
        valid = λ v. (line_valid w x l (valid-left w ws v), r.valid (valid-right w ws v));
      }

  pub shown_script_spells_it : ShownScriptSpellsIt
  shown_script_spells_it ts ss d = (printed d).spells

  pub shown_script_is_shortest : ShownScriptIsShortest
  shown_script_is_shortest ts ss d = (printed d).no_more

  pub shown_script_is_within_limit : ShownScriptIsWithinLimit
  shown_script_is_within_limit ts ss d = (printed d).short

  pub shown_script_has_valid_tokens : ShownScriptHasValidTokens
  shown_script_has_valid_tokens ts ss d = (printed d).valid
