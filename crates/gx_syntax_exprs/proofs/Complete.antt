-- Each expression that tokens spell is parsed.
use Rattle.std.proofs.Common.{◌≡◌, ℕ, suc, ◌<◌, ◌≤◌, true, false, IsTrue, Some, None, List, [], ◌∷◌, ◌++◌, refl, ◌∙◌, ap, append_assoc, arith, nat_le, bytes_eq, codes}
use Rattle.std.proofs.lemmas.Bool.{le-leb}
use Rattle.gx_syntax_tokens.specs.Terminals.{Terminal, word, number, quoted, symbol, is_symbol}
use Rattle.gx_syntax_tokens.specs.declared.symbol.Symbol.TheVariants as symbols
use Rattle.gx_syntax_exprs.specs.Operators.{operator, infix_token, prefix_token, not_word}
use Rattle.gx_syntax_tree.specs.Precedence.{binary_precedence, left_precedence, right_precedence, unary_precedence, operand_precedence}
use Rattle.gx_syntax_exprs.specs.Grammar.{number_expr, truth_expr, matched_expr, call_expr, Spells, looser, infix_op, prefix_op, int_literal, text_literal, true_literal, false_literal, matched_literal, column_ref, call, parenthesized, SpellsArguments, no_arguments, arguments, SpellsLeading, no_leading, leading, is_call_name, fits_i64}
use Rattle.gx_syntax_exprs.specs.PrecedenceParser.{continues, pending_precedence, apply, min_precedence, reduce, constant_word, left_precedence_of, precedence_before, after_reduction, after_operand, outcome_at_end, outcome_then, transition, parse_from}
use Rattle.gx_syntax_tree.specs.declared.expr.Expr.{Expr}
use Rattle.gx_syntax_tree.specs.declared.expr.BinaryOp.{BinaryOp}
use Rattle.gx_syntax_tree.specs.declared.expr.BinaryOp.TheVariants as binary
use Rattle.gx_syntax_tree.specs.declared.expr.UnaryOp.{UnaryOp}
use Rattle.gx_syntax_tree.specs.declared.expr.UnaryOp.TheVariants as unary
use Rattle.gx_syntax_exprs.specs.declared.stack.Pending.{Pending}
use Rattle.gx_syntax_exprs.specs.declared.stack.Pending.TheVariants as pending
use Rattle.gx_syntax_exprs.specs.declared.steps.State.TheVariants as states
use Rattle.gx_syntax_exprs.specs.declared.stack.Frame.{Frame}
use Rattle.gx_syntax_exprs.specs.declared.stack.Frame.TheVariants as frames
use Rattle.gx_syntax_exprs.proofs.Levels.{binary_precedence-left_precedence, binary_precedence-right_precedence, unary_precedence-operand_precedence, reduce_stays, reduce_applies, not_true, operator-infix_token}

-- an expression of level l ends before a token
pub record EndsLevelAt (l : ℕ) (t : Terminal) : Type 0 where
  pub needed : left_precedence_of (operator t) ≤ l
  pub no_dot : is_symbol symbols.Dot t ≡ false
  pub no_open : is_symbol symbols.OpenParen t ≡ false

abbrev pub EndsLevel : ℕ → List Terminal → Type 0
EndsLevel l [] = 1 ≤ l
EndsLevel l (t ∷ ts) = EndsLevelAt l t

stops_tighter : (l m : ℕ) (ts : List Terminal) → l ≤ m → EndsLevel l ts → EndsLevel m ts
stops_tighter l m [] h s = omega arith
stops_tighter l m (t ∷ ts) h s = record { needed = (let low : left_precedence_of (operator t) ≤ l = s.needed in omega arith); no_dot = s.no_dot; no_open = s.no_open }

stops_operator : (o : BinaryOp) (ts : List Terminal) → EndsLevel (left_precedence o) (infix_token o ∷ ts)
stops_operator binary.Or ts = record { needed = omega arith; no_dot = refl; no_open = refl }
stops_operator _ ts = record { needed = omega arith; no_dot = refl; no_open = refl }

-- the first token of an expression
pub record First (ts : List Terminal) : Type 0 where
  pub head : Terminal
  pub tail : List Terminal
  pub whole : ts ≡ head ∷ tail
  pub no_dot : is_symbol symbols.Dot head ≡ false
  pub no_close : is_symbol symbols.CloseParen head ≡ false

first_append : (ts us : List Terminal) → First ts → First (ts ++ us)
first_append ts us f = record { head = f.head; tail = f.tail ++ us; whole = rw f.whole refl; no_dot = f.no_dot; no_close = f.no_close }

first_before : (o : UnaryOp) (ts : List Terminal) → First (prefix_token o ∷ ts)
first_before unary.Not ts = record { head = word not_word; tail = ts; whole = refl; no_dot = refl; no_close = refl }
first_before unary.Neg ts = record { head = symbol symbols.Minus; tail = ts; whole = refl; no_dot = refl; no_close = refl }

pub first_of : {l : ℕ} {ts : List Terminal} {x : Expr} → Spells l ts x → First ts
first_of (looser d) = first_of d
first_of (infix_op {ts} {us} o d e) = first_append ts (infix_token o ∷ us) (first_of d)
first_of (prefix_op {ts} o d) = first_before o ts
first_of (int_literal n p) = record { head = number n; tail = []; whole = refl; no_dot = refl; no_close = refl }
first_of (text_literal s) = record { head = quoted s; tail = []; whole = refl; no_dot = refl; no_close = refl }
first_of true_literal = record { head = word (codes "true"); tail = []; whole = refl; no_dot = refl; no_close = refl }
first_of false_literal = record { head = word (codes "false"); tail = []; whole = refl; no_dot = refl; no_close = refl }
first_of matched_literal = record { head = word (codes "matched"); tail = []; whole = refl; no_dot = refl; no_close = refl }
first_of (column_ref side name) = record { head = word side; tail = symbol symbols.Dot ∷ word name ∷ []; whole = refl; no_dot = refl; no_close = refl }
first_of (call {ts} name p d) = record { head = word name; tail = symbol symbols.OpenParen ∷ ts ++ symbol symbols.CloseParen ∷ []; whole = refl; no_dot = refl; no_close = refl }
first_of (parenthesized {ts} d) = record { head = symbol symbols.OpenParen; tail = ts ++ symbol symbols.CloseParen ∷ []; whole = refl; no_dot = refl; no_close = refl }

-- a pending operation is applied if its last operand ends
folds : (w : Pending) (x : Expr) (st : List Frame) (rest : List Terminal) → EndsLevel (pending_precedence w) rest → parse_from (states.AfterOperand x) (frames.Operator w ∷ st) rest ≡ parse_from (states.AfterOperand (apply w x)) st rest
unfolding parse_from transition
folds w x st [] s = ap (λ (r : Expr × List Frame). outcome_at_end (after_reduction None r.0 r.1)) (reduce_applies 1 w x st s)
folds w x st (t ∷ ts) s = ap (λ (r : Expr × List Frame). outcome_then (λ s' st'. parse_from s' st' ts) (t ∷ ts) (after_reduction (Some t) r.0 r.1)) (reduce_applies (precedence_before (Some t)) w x st s.needed)

-- an infix operator after its left operand
having_operator : (o : BinaryOp) (a : Expr) (st : List Frame) → min_precedence st ≤ binary_precedence o → after_operand a st (Some (infix_token o)) ≡ continues states.ExpectOperand (frames.Operator (pending.Infix a o) ∷ st)
having_operator o a st h =
    let found : operator (infix_token o) ≡ Some o = operator-infix_token o in
    let low : binary_precedence o ≤ left_precedence o = binary_precedence-left_precedence o in
    let kept : reduce (left_precedence o) a st ≡ (a, st) = reduce_stays (left_precedence o) a st (omega arith) in
    let room_there : nat_le (min_precedence st) (binary_precedence o) ≡ true = le-leb (min_precedence st) (binary_precedence o) h in
    rw (found, kept, room_there) refl

operates : (o : BinaryOp) (a : Expr) (st : List Frame) (ts : List Terminal) → min_precedence st ≤ binary_precedence o → parse_from (states.AfterOperand a) st (infix_token o ∷ ts) ≡ parse_from states.ExpectOperand (frames.Operator (pending.Infix a o) ∷ st) ts
unfolding parse_from transition
operates o a st ts h = ap (λ r. outcome_then (λ s' st'. parse_from s' st' ts) (infix_token o ∷ ts) r) (having_operator o a st h)

-- a prefix operator
enters : (o : UnaryOp) (st : List Frame) (ts : List Terminal) → First ts → min_precedence st ≤ unary_precedence o → parse_from states.ExpectOperand st (prefix_token o ∷ ts) ≡ parse_from states.ExpectOperand (frames.Operator (pending.Prefix o) ∷ st) ts
unfolding parse_from transition
enters unary.Neg st ts f h = let test : nat_le (min_precedence st) (unary_precedence unary.Neg) ≡ true = le-leb (min_precedence st) (unary_precedence unary.Neg) h in rw test refl
enters unary.Not st ts f h =
    let test : nat_le (min_precedence st) (unary_precedence unary.Not) ≡ true = le-leb (min_precedence st) (unary_precedence unary.Not) h in
    rw (f.whole, f.no_dot, test) refl

-- a word that is a literal
stands_alone : (w : List ℕ) (x : Expr) (st : List Frame) (rest : List Terminal) (l : ℕ) → constant_word w ≡ Some x → bytes_eq w not_word ≡ false → EndsLevel l rest → parse_from (states.AfterWord w) st rest ≡ parse_from (states.AfterOperand x) st rest
unfolding parse_from transition
stands_alone w x st [] l e n s = rw (n, e) refl
stands_alone w x st (t ∷ ts) l e n s = rw (s.no_dot, n, s.no_open, e) refl

-- the open parenthesis of a call
opens : (f : List ℕ) (st : List Frame) (ts : List Terminal) → IsTrue (is_call_name f) → parse_from (states.AfterWord f) st (symbol symbols.OpenParen ∷ ts) ≡ parse_from states.AfterCallParen (frames.Call f [] ∷ st) ts
unfolding parse_from transition
opens f st ts h = let other : bytes_eq f not_word ≡ false = not_true (bytes_eq f not_word) h in rw other refl

number_read : (n : ℕ) (st : List Frame) (rest : List Terminal) → IsTrue (fits_i64 n) → parse_from states.ExpectOperand st (number n ∷ rest) ≡ parse_from (states.AfterOperand (number_expr n)) st rest
unfolding parse_from transition
number_read n st rest h = rw h refl

begun_want : (f : List ℕ) (st : List Frame) (ts rest : List Terminal) → First ts → parse_from states.AfterCallParen (frames.Call f [] ∷ st) (ts ++ rest) ≡ parse_from states.ExpectOperand (frames.Call f [] ∷ st) (ts ++ rest)
unfolding parse_from transition
begun_want f st ts rest d = rw (d.whole, d.no_close) refl

comma_read : (f : List ℕ) (xs : List Expr) (x : Expr) (st : List Frame) (ts : List Terminal) → parse_from (states.AfterOperand x) (frames.Call f xs ∷ st) (symbol symbols.Comma ∷ ts) ≡ parse_from states.ExpectOperand (frames.Call f (xs ++ x ∷ []) ∷ st) ts
unfolding parse_from transition
comma_read f xs x st ts = refl

call_closed : (f : List ℕ) (xs : List Expr) (x : Expr) (st : List Frame) (ts : List Terminal) → parse_from (states.AfterOperand x) (frames.Call f xs ∷ st) (symbol symbols.CloseParen ∷ ts) ≡ parse_from (states.AfterOperand (call_expr f (xs ++ x ∷ []))) st ts
unfolding parse_from transition
call_closed f xs x st ts = refl

group_opened : (st : List Frame) (ts : List Terminal) → parse_from states.ExpectOperand st (symbol symbols.OpenParen ∷ ts) ≡ parse_from states.ExpectOperand (frames.Paren ∷ st) ts
unfolding parse_from transition
group_opened st ts = refl

group_closed : (x : Expr) (st : List Frame) (ts : List Terminal) → parse_from (states.AfterOperand x) (frames.Paren ∷ st) (symbol symbols.CloseParen ∷ ts) ≡ parse_from (states.AfterOperand x) st ts
unfolding parse_from transition
group_closed x st ts = refl

stops_close : (ts : List Terminal) → EndsLevel 1 (symbol symbols.CloseParen ∷ ts)
stops_close ts = record { needed = omega arith; no_dot = refl; no_open = refl }

stops_comma : (ts : List Terminal) → EndsLevel 1 (symbol symbols.Comma ∷ ts)
stops_comma ts = record { needed = omega arith; no_dot = refl; no_open = refl }

mutual
  unfolding parse_from transition

  pub complete : {l : ℕ} {ts : List Terminal} {x : Expr} → Spells l ts x → (st : List Frame) (rest : List Terminal) → min_precedence st ≤ l → EndsLevel l rest → parse_from states.ExpectOperand st (ts ++ rest) ≡ parse_from (states.AfterOperand x) st rest
  complete (looser {l} d) st rest h s = complete d st rest (omega arith) (stops_tighter l (suc l) rest (omega arith) s)
  complete (infix_op {ts} {us} {a} {b} o d e) st rest h s =
      let low : binary_precedence o ≤ left_precedence o = binary_precedence-left_precedence o in
      let high : binary_precedence o < right_precedence o = binary_precedence-right_precedence o in
      ap (λ v. parse_from states.ExpectOperand st v) (append_assoc ts (infix_token o ∷ us) rest)
      ∙ (complete d st (infix_token o ∷ (us ++ rest)) (omega arith) (stops_operator o (us ++ rest))
      ∙ operates o a st (us ++ rest) h
      ∙ complete e (frames.Operator (pending.Infix a o) ∷ st) rest (omega arith) (stops_tighter (binary_precedence o) (right_precedence o) rest (omega arith) s)
      ∙ folds (pending.Infix a o) b st rest s)
  complete (prefix_op {ts} {a} o d) st rest h s =
      let high : unary_precedence o < operand_precedence o = unary_precedence-operand_precedence o in
      enters o st (ts ++ rest) (first_append ts rest (first_of d)) h
      ∙ complete d (frames.Operator (pending.Prefix o) ∷ st) rest (omega arith) (stops_tighter (unary_precedence o) (operand_precedence o) rest (omega arith) s)
      ∙ folds (pending.Prefix o) a st rest s
  complete (int_literal n p) st rest h s = number_read n st rest p
  complete (text_literal q) st rest h s = refl
  complete true_literal st rest h s = stands_alone (codes "true") (truth_expr true) st rest 8 refl refl s
  complete false_literal st rest h s = stands_alone (codes "false") (truth_expr false) st rest 8 refl refl s
  complete matched_literal st rest h s = stands_alone (codes "matched") matched_expr st rest 8 refl refl s
  complete (column_ref side name) st rest h s = refl
  complete (call {ts} f p d) st rest h s =
      let regroup : (ts ++ symbol symbols.CloseParen ∷ []) ++ rest ≡ ts ++ (symbol symbols.CloseParen ∷ rest) = simp append_assoc in
      opens f st ((ts ++ symbol symbols.CloseParen ∷ []) ++ rest) p ∙ ap (λ v. parse_from states.AfterCallParen (frames.Call f [] ∷ st) v) regroup ∙ complete_call d f st rest
  complete (parenthesized {ts} {x} d) st rest h s =
      let regroup : (ts ++ symbol symbols.CloseParen ∷ []) ++ rest ≡ ts ++ (symbol symbols.CloseParen ∷ rest) = simp append_assoc in
      group_opened st ((ts ++ symbol symbols.CloseParen ∷ []) ++ rest) ∙ ap (λ v. parse_from states.ExpectOperand (frames.Paren ∷ st) v) regroup
      ∙ complete d (frames.Paren ∷ st) (symbol symbols.CloseParen ∷ rest) (omega arith) (stops_close rest) ∙ group_closed x st rest

  complete_call : {ts : List Terminal} {xs : List Expr} → SpellsArguments ts xs → (f : List ℕ) (st : List Frame) (rest : List Terminal) → parse_from states.AfterCallParen (frames.Call f [] ∷ st) (ts ++ symbol symbols.CloseParen ∷ rest) ≡ parse_from (states.AfterOperand (call_expr f xs)) st rest
  complete_call no_arguments f st rest = refl
  complete_call (arguments {ts} {us} {xs} {x} e d) f st rest =
      ap (λ v. parse_from states.AfterCallParen (frames.Call f [] ∷ st) v) (append_assoc ts us (symbol symbols.CloseParen ∷ rest))
      ∙ (complete_front e f st us (symbol symbols.CloseParen ∷ rest) (first_of d)
      ∙ complete d (frames.Call f xs ∷ st) (symbol symbols.CloseParen ∷ rest) (omega arith) (stops_close rest)
      ∙ call_closed f xs x st rest)

  complete_front : {ts : List Terminal} {xs : List Expr} → SpellsLeading ts xs → (f : List ℕ) (st : List Frame) (us rest : List Terminal) → First us → parse_from states.AfterCallParen (frames.Call f [] ∷ st) (ts ++ (us ++ rest)) ≡ parse_from states.ExpectOperand (frames.Call f xs ∷ st) (us ++ rest)
  complete_front no_leading f st us rest i = begun_want f st us rest i
  complete_front (leading {ts = ts} {us = vs} {xs = xs} {x = x} e d) f st us rest i =
      let regroup : ((ts ++ vs) ++ symbol symbols.Comma ∷ []) ++ (us ++ rest) ≡ ts ++ (vs ++ (symbol symbols.Comma ∷ (us ++ rest))) = simp append_assoc in
      rw regroup (complete_front e f st vs (symbol symbols.Comma ∷ (us ++ rest)) (first_of d)
      ∙ complete d (frames.Call f xs ∷ st) (symbol symbols.Comma ∷ (us ++ rest)) (omega arith) (stops_comma (us ++ rest))
      ∙ comma_read f xs x st (us ++ rest))
