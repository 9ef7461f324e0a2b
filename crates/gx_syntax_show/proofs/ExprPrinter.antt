-- The printer of expressions.
use Rattle.std.proofs.Common.{◌≡◌, ℕ, ◌≤◌, Bool, true, false, if◌then◌else◌, List, [], ◌∷◌, ◌++◌, map, refl, sym, ◌∙◌, ap, append_assoc, arith, nat_le, pos, codes}
use Rattle.std.specs.List.{flat_map}
use Rattle.std.proofs.lemmas.Grind.{flat_map-append}
use Rattle.std.proofs.lemmas.Bool.{leb-true, le-leb}
use Rattle.std.proofs.lemmas.List.{append-nil, map-append, length-map}
use Rattle.gx_syntax_tokens.specs.Terminals.{Terminal, word, number, quoted, symbol, is_symbol}
use Rattle.gx_syntax_tokens.specs.SpacedText.{Piece, token, function, terminal}
use Rattle.gx_syntax_tokens.specs.declared.symbol.Symbol.TheVariants as symbols
use Rattle.gx_syntax_exprs.specs.Grammar.{number_expr, quoted_expr, truth_expr, matched_expr, column_expr, call_expr, unary_expr, binary_expr, Spells, looser, infix_op, prefix_op, int_literal, text_literal, true_literal, false_literal, matched_literal, column_ref, call, parenthesized, spells_at_looser, SpellsArguments, no_arguments, arguments, SpellsLeading, no_leading, leading}
use Rattle.gx_syntax_exprs.specs.Operators.{infix_token, prefix_token}
use Rattle.gx_syntax_tree.specs.Precedence.{binary_precedence, left_precedence, right_precedence, unary_precedence, operand_precedence, left_precedence-at_most_8, right_precedence-at_most_8, operand_precedence-at_most_8}
use Rattle.gx_syntax_tree.specs.declared.expr.BinaryOp.{BinaryOp}
use Rattle.gx_syntax_tree.specs.declared.expr.BinaryOp.TheVariants as binary
use Rattle.gx_syntax_tree.specs.declared.expr.Expr.{Expr}
use Rattle.gx_syntax_tree.specs.declared.expr.Expr.TheOpen as layer
use Rattle.gx_syntax_tree.specs.declared.expr.UnaryOp.{UnaryOp}
use Rattle.gx_syntax_tree.specs.declared.expr.UnaryOp.TheVariants as unary
use Rattle.gx_syntax_show.specs.CanonicalExprs.{ShownExprSpellsIt, ShownExprIsShortest, ShownExprHasValidTokens}
use Rattle.gx_syntax_show.specs.ExprPieces.{operand_pieces, prefix_piece, expr_pieces}
use Rattle.gx_syntax_show.specs.ListPieces.{next_item_pieces, items_pieces, paren_list_pieces}
use Rattle.gx_syntax_show.proofs.ExprWriting.{expr_pieces-roll, expr_pieces-call}
use Rattle.gx_syntax_show.proofs.Printers.{Prints, IsPrinter, prints_as}
use Rattle.gx_syntax_show.proofs.Replacing.{HasNoSemicolon, CanReplace, replaces-none, replaces-token, replaces-same, replaces-append, replaces-in_parens, replaces-without_parens}

-- tokens of level l spell the expression: its pieces at each level k spell it; they replace the tokens if k is at most l,
-- and the tokens in parentheses in any case
record IsPrinted (l : ℕ) (ts : List Terminal) (x : Expr) : Type 0 where
  spells : (k : ℕ) → k ≤ 8 → Spells k (map terminal (expr_pieces k x)) x
  replaces : (k : ℕ) → k ≤ 8 → k ≤ l → CanReplace ts (expr_pieces k x)
  replaces_in_parens : (k : ℕ) → k ≤ 8 → CanReplace (symbol symbols.OpenParen ∷ ts ++ symbol symbols.CloseParen ∷ []) (expr_pieces k x)

-- an expression whose pieces have level m: at a tighter level they are in parentheses
module _ (m : ℕ) (ts : List Terminal) (x : Expr) (ps : List Piece) where
  abbrev operand : Bool → List Piece
  operand b = if b then ps else token (symbol symbols.OpenParen) ∷ ps ++ token (symbol symbols.CloseParen) ∷ []

  operand-spells : (k : ℕ) → k ≤ 8 → 1 ≤ m → Spells m (map terminal ps) x → Spells k (map terminal (operand_pieces k m ps)) x
  operand-spells k high low d = go (nat_le k m) refl
    where
      go : (b : Bool) → nat_le k m ≡ b → Spells k (map terminal (operand b)) x
      go true e = spells_at_looser k m (leb-true k m e) d
      go false e = rw (map-append terminal ps (token (symbol symbols.CloseParen) ∷ [])) (spells_at_looser k 8 high (parenthesized (spells_at_looser 1 m low d)))

  operand-same : (k : ℕ) → k ≤ m → operand_pieces k m ps ≡ ps
  operand-same k h = let test : nat_le k m ≡ true = le-leb k m h in rw test refl

  operand-replaces : (k : ℕ) → CanReplace ts ps → CanReplace (symbol symbols.OpenParen ∷ ts ++ symbol symbols.CloseParen ∷ []) (operand_pieces k m ps)
  operand-replaces k r = go (nat_le k m)
    where
      go : (b : Bool) → CanReplace (symbol symbols.OpenParen ∷ ts ++ symbol symbols.CloseParen ∷ []) (operand b)
      go true = replaces-without_parens ts ps r
      go false = replaces-in_parens ts ps r

  operand_printed : 1 ≤ m → ((k : ℕ) → k ≤ 8 → expr_pieces k x ≡ operand_pieces k m ps) → Spells m (map terminal ps) x → CanReplace ts ps → IsPrinted m ts x
  operand_printed low is d r = record {
    spells = λ k h. rw (is k h) (operand-spells k h low d);
    replaces = λ k h tight. rw (is k h, operand-same k tight) r;
    replaces_in_parens = λ k h. rw (is k h) (operand-replaces k r);
  }

-- an expression that never needs parentheses
atom_printed : (ts : List Terminal) (x : Expr) (ps : List Piece) → ((k : ℕ) → expr_pieces k x ≡ ps) → Spells 8 (map terminal ps) x → CanReplace ts ps → IsPrinted 8 ts x
atom_printed ts x ps is d r = operand_printed 8 ts x ps (omega arith) (λ k h. is k ∙ sym (operand-same 8 ts x ps k h)) d r

same_printed : (x : Expr) (ps : List Piece) → ((k : ℕ) → expr_pieces k x ≡ ps) → Spells 8 (map terminal ps) x → HasNoSemicolon (map terminal ps) → IsPrinted 8 (map terminal ps) x
same_printed x ps is d n = atom_printed (map terminal ps) x ps is d (replaces-same ps n)

binary_precedence-positive : (o : BinaryOp) → 1 ≤ binary_precedence o
binary_precedence-positive binary.Or = omega arith
binary_precedence-positive _ = omega arith

unary_precedence-positive : (o : UnaryOp) → 1 ≤ unary_precedence o
unary_precedence-positive unary.Not = omega arith
unary_precedence-positive unary.Neg = omega arith

infix_token-no_semicolon : (o : BinaryOp) → is_symbol symbols.Semicolon (infix_token o) ≡ false
infix_token-no_semicolon binary.Or = refl
infix_token-no_semicolon _ = refl

prefix_piece-no_semicolon : (o : UnaryOp) → is_symbol symbols.Semicolon (terminal (prefix_piece o)) ≡ false
prefix_piece-no_semicolon unary.Not = refl
prefix_piece-no_semicolon unary.Neg = refl

prefix_piece-terminal : (o : UnaryOp) → prefix_token o ≡ terminal (prefix_piece o)
prefix_piece-terminal unary.Not = refl
prefix_piece-terminal unary.Neg = refl

infix_printed : (o : BinaryOp) (ts us : List Terminal) (a b : Expr) → IsPrinted (left_precedence o) ts a → IsPrinted (right_precedence o) us b → IsPrinted (binary_precedence o) (ts ++ infix_token o ∷ us) (binary_expr o a b)
infix_printed o ts us a b p q =
    let left : List Piece = expr_pieces (left_precedence o) a in
    let right : List Piece = token (infix_token o) ∷ expr_pieces (right_precedence o) b in
    let spelled = infix_op o (p.spells (left_precedence o) (left_precedence-at_most_8 o)) (q.spells (right_precedence o) (right_precedence-at_most_8 o)) in
    operand_printed (binary_precedence o) (ts ++ infix_token o ∷ us) (binary_expr o a b) (left ++ right) (binary_precedence-positive o) (λ k h. expr_pieces-roll k (layer.Binary o a b)) (rw (map-append terminal left right) spelled)
    (replaces-append ts (infix_token o ∷ us) left right (p.replaces (left_precedence o) (left_precedence-at_most_8 o) (omega arith)) (replaces-token (token (infix_token o)) (infix_token-no_semicolon o) (q.replaces (right_precedence o) (right_precedence-at_most_8 o) (omega arith))))

prefix_printed : (o : UnaryOp) (ts : List Terminal) (a : Expr) → IsPrinted (operand_precedence o) ts a → IsPrinted (unary_precedence o) (prefix_token o ∷ ts) (unary_expr o a)
prefix_printed o ts a p =
    let spelled = prefix_op o (p.spells (operand_precedence o) (operand_precedence-at_most_8 o)) in
    let replaced = replaces-token (prefix_piece o) (prefix_piece-no_semicolon o) (p.replaces (operand_precedence o) (operand_precedence-at_most_8 o) (omega arith)) in
    operand_printed (unary_precedence o) (prefix_token o ∷ ts) (unary_expr o a) (prefix_piece o ∷ expr_pieces (operand_precedence o) a) (unary_precedence-positive o) (λ k h. expr_pieces-roll k (layer.Unary o a)) (rw (← prefix_piece-terminal o) spelled) (rw (prefix_piece-terminal o) replaced)

call_printed : (name : List ℕ) (ts : List Terminal) (xs : List Expr) → Spells 8 (word name ∷ symbol symbols.OpenParen ∷ map terminal (items_pieces (expr_pieces 1) xs) ++ symbol symbols.CloseParen ∷ []) (call_expr name xs) → CanReplace ts (items_pieces (expr_pieces 1) xs)
    → IsPrinted 8 (word name ∷ symbol symbols.OpenParen ∷ ts ++ symbol symbols.CloseParen ∷ []) (call_expr name xs)
call_printed name ts xs d r =
    let items : List Piece = items_pieces (expr_pieces 1) xs in
    atom_printed (word name ∷ symbol symbols.OpenParen ∷ ts ++ symbol symbols.CloseParen ∷ []) (call_expr name xs) (function name ∷ paren_list_pieces (expr_pieces 1) xs) (λ k. expr_pieces-call k name xs)
    (rw (map-append terminal items (token (symbol symbols.CloseParen) ∷ [])) d) (replaces-token (function name) refl (replaces-in_parens ts items r))

-- arguments, each with a comma after it
abbrev leading_pieces : List Expr → List Piece
leading_pieces xs = flat_map (λ x. expr_pieces 1 x ++ token (symbol symbols.Comma) ∷ []) xs

leading-last : (xs : List Expr) (x : Expr) → leading_pieces (xs ++ x ∷ []) ≡ leading_pieces xs ++ expr_pieces 1 x ++ token (symbol symbols.Comma) ∷ []
leading-last xs x = flat_map-append (λ x. expr_pieces 1 x ++ token (symbol symbols.Comma) ∷ []) xs (x ∷ []) ∙ simp (append-nil, append_assoc)

next_items-last : (xs : List Expr) (x : Expr) → flat_map (next_item_pieces (expr_pieces 1)) (xs ++ x ∷ []) ≡ token (symbol symbols.Comma) ∷ leading_pieces xs ++ expr_pieces 1 x
next_items-last [] x = ap (λ ps. token (symbol symbols.Comma) ∷ ps) (append-nil (expr_pieces 1 x))
next_items-last (y ∷ ys) x = rw (append_assoc, append_assoc, next_items-last ys x) refl

items-last : (xs : List Expr) (x : Expr) → items_pieces (expr_pieces 1) (xs ++ x ∷ []) ≡ leading_pieces xs ++ expr_pieces 1 x
items-last [] x = append-nil (expr_pieces 1 x)
items-last (y ∷ ys) x = rw (append_assoc, append_assoc, next_items-last ys x) refl

mutual
  printed : {l : ℕ} {ts : List Terminal} {x : Expr} → Spells l ts x → IsPrinted l ts x
  printed (looser d) = let p = printed d in record { spells = p.spells; replaces = λ k h tight. p.replaces k h (omega arith); replaces_in_parens = p.replaces_in_parens }
  printed (infix_op {ts} {us} {a} {b} o d e) = infix_printed o ts us a b (printed d) (printed e)
  printed (prefix_op {ts} {a} o d) = prefix_printed o ts a (printed d)
  printed (int_literal n p) = same_printed (number_expr n) (token (number n) ∷ []) (λ k. expr_pieces-roll k (layer.Number (pos n))) (int_literal n p) (refl, tt)
  printed (text_literal s) = same_printed (quoted_expr s) (token (quoted s) ∷ []) (λ k. expr_pieces-roll k (layer.Quoted s)) (text_literal s) (refl, tt)
  printed true_literal = same_printed (truth_expr true) (token (word (codes "true")) ∷ []) (λ k. expr_pieces-roll k (layer.Truth true)) true_literal (refl, tt)
  printed false_literal = same_printed (truth_expr false) (token (word (codes "false")) ∷ []) (λ k. expr_pieces-roll k (layer.Truth false)) false_literal (refl, tt)
  printed matched_literal = same_printed matched_expr (token (word (codes "matched")) ∷ []) (λ k. expr_pieces-roll k layer.Matched) matched_literal (refl, tt)
  printed (column_ref side name) =
      same_printed (column_expr side name) (token (word side) ∷ token (symbol symbols.Dot) ∷ token (word name) ∷ []) (λ k. expr_pieces-roll k (layer.Column side name)) (column_ref side name) (refl, (refl, (refl, tt)))
  printed (call {ts} {xs} name p d) = let r = printed_arguments d in call_printed name ts xs (call name p r.spells) r.replaces
  printed (parenthesized {ts} {x} d) =
      let p = printed d in
      record {
        spells = p.spells;
        replaces = λ k h tight. p.replaces_in_parens k h;
        replaces_in_parens = λ k h. replaces-without_parens (symbol symbols.OpenParen ∷ ts ++ symbol symbols.CloseParen ∷ []) (expr_pieces k x) (p.replaces_in_parens k h);
      }

  printed_arguments : {ts : List Terminal} {xs : List Expr} → SpellsArguments ts xs → Prints SpellsArguments ts (items_pieces (expr_pieces 1) xs) xs
  printed_arguments no_arguments = record { spells = no_arguments; replaces = replaces-none }
  printed_arguments (arguments {ts} {us} {xs} {x} f d) =
      let p = printed_leading f in
      let q = printed d in
      prints_as (items-last xs x) (record {
        spells = rw (map-append terminal (leading_pieces xs) (expr_pieces 1 x)) (arguments p.spells (q.spells 1 (omega arith)));
        replaces = replaces-append ts us (leading_pieces xs) (expr_pieces 1 x) p.replaces (q.replaces 1 (omega arith) (omega arith));
      })

  printed_leading : {ts : List Terminal} {xs : List Expr} → SpellsLeading ts xs → Prints SpellsLeading ts (leading_pieces xs) xs
  printed_leading no_leading = record { spells = no_leading; replaces = replaces-none }
  printed_leading (leading {ts} {us} {xs} {x} f d) =
      let p = printed_leading f in
      let q = printed d in
      let both = replaces-append ts us (leading_pieces xs) (expr_pieces 1 x) p.replaces (q.replaces 1 (omega arith) (omega arith)) in
      prints_as (leading-last xs x) (record {
        spells = rw (map-append terminal (leading_pieces xs ++ expr_pieces 1 x) (token (symbol symbols.Comma) ∷ []), map-append terminal (leading_pieces xs) (expr_pieces 1 x)) (leading p.spells (q.spells 1 (omega arith)));
        replaces = replaces-append (ts ++ us) (symbol symbols.Comma ∷ []) (leading_pieces xs ++ expr_pieces 1 x) (token (symbol symbols.Comma) ∷ []) both (replaces-same (token (symbol symbols.Comma) ∷ []) (refl, tt));
      })

pub expr_printer : IsPrinter (Spells 1) (expr_pieces 1)
expr_printer ts x d = let p = printed d in record { spells = p.spells 1 (omega arith); replaces = p.replaces 1 (omega arith) (omega arith) }

pub shown_expr_spells_it : ShownExprSpellsIt
shown_expr_spells_it ts x d = (expr_printer ts x d).spells

pub shown_expr_is_shortest : ShownExprIsShortest
shown_expr_is_shortest ts x d = omega (arith, length-map (expr_pieces 1 x) terminal, (expr_printer ts x d).replaces.no_more)

pub shown_expr_has_valid_tokens : ShownExprHasValidTokens
shown_expr_has_valid_tokens ts x d = (expr_printer ts x d).replaces.valid
