-- How expressions are parsed: token by token, by operator precedence, with a stack of what was
-- begun and not ended.
--
-- These are the definitions of the private functions of src/stack.rt and src/steps.rt. Crates above
-- cite specs/Expressions.antt, which says what is parsed, and not how. A new infix operator needs no
-- change here; a new prefix operator needs a branch in `on_operand_start`, or in `after_word` if it
-- is a word. A new kind of operand needs a branch in `on_atom` or `after_word`, and a state if it
-- has several tokens.
use Rattle.std.specs.Prelude.{◌≡◌, ℕ, true, false, nat_le, if◌then◌else◌, Option, Some, None, List, [], ◌∷◌, ◌++◌, Result, Ok, Err, codes, bytes_eq}
use Rattle.gx_syntax_tokens.specs.Terminals.{Terminal, word, number, quoted, symbol, is_symbol}
use Rattle.gx_syntax_tokens.specs.declared.symbol.Symbol.TheVariants as symbols
use Rattle.gx_syntax_exprs.specs.Operators.{operator, not_word}
use Rattle.gx_syntax_tree.specs.Precedence.{binary_precedence, left_precedence, right_precedence, unary_precedence, operand_precedence}
use Rattle.gx_syntax_exprs.specs.Grammar.{number_expr, quoted_expr, truth_expr, matched_expr, column_expr, call_expr, unary_expr, binary_expr, fits_i64}
use Rattle.gx_syntax_tree.specs.declared.expr.BinaryOp.{BinaryOp}
use Rattle.gx_syntax_tree.specs.declared.expr.UnaryOp.{UnaryOp}
use Rattle.gx_syntax_tree.specs.declared.expr.UnaryOp.TheVariants as unary
use Rattle.gx_syntax_tree.specs.declared.expr.Expr.{Expr}
use Rattle.gx_syntax_exprs.specs.declared.stack.Pending.{Pending}
use Rattle.gx_syntax_exprs.specs.declared.stack.Pending.TheVariants as pending
use Rattle.gx_syntax_exprs.specs.declared.stack.Frame.{Frame}
use Rattle.gx_syntax_exprs.specs.declared.stack.Frame.TheVariants as frames
use Rattle.gx_syntax_exprs.specs.declared.steps.State.{State}
use Rattle.gx_syntax_exprs.specs.declared.steps.State.TheVariants as states

-- the level of an operation whose last operand is still to be parsed
abbrev pub pending_precedence : Pending → ℕ
pending_precedence (pending.Infix a o) = binary_precedence o
pending_precedence (pending.Prefix o) = unary_precedence o

-- the least level of that operand
abbrev pub pending_operand_precedence : Pending → ℕ
pending_operand_precedence (pending.Infix a o) = right_precedence o
pending_operand_precedence (pending.Prefix o) = operand_precedence o

-- the whole operation
abbrev pub apply : Pending → Expr → Expr
apply (pending.Infix a o) x = binary_expr o a x
apply (pending.Prefix o) x = unary_expr o x

-- the least level of the operand that is parsed next
abbrev pub min_precedence : List Frame → ℕ
min_precedence [] = 1
min_precedence (frames.Operator w ∷ st) = pending_operand_precedence w
min_precedence (frames.Paren ∷ st) = 1
min_precedence (frames.Call f xs ∷ st) = 1

-- the innermost operation, if its level is at least k
abbrev pub pending_at_least : ℕ → List Frame → Option (Pending × List Frame)
pending_at_least k [] = None
pending_at_least k (frames.Operator w ∷ st) = if nat_le k (pending_precedence w) then Some (w, st) else None
pending_at_least k (frames.Paren ∷ st) = None
pending_at_least k (frames.Call f xs ∷ st) = None

-- the innermost part is removed, if there is one
abbrev pub Pops : List Frame → Option Frame → List Frame → Type 0
Pops before None after = (before ≡ []) × (after ≡ [])
Pops before (Some f) after = before ≡ f ∷ after

-- the innermost operation is removed, if its level is at least k
abbrev pub PopsPending : ℕ → List Frame → Option Pending → List Frame → Type 0
PopsPending k before None after = (pending_at_least k before ≡ None) × (after ≡ before)
PopsPending k before (Some w) after = pending_at_least k before ≡ Some (w, after)

-- the operations of level k and more that end with x, applied
abbrev pub reduce : ℕ → Expr → List Frame → Expr × List Frame
reduce k x [] = (x, [])
reduce k x (frames.Operator w ∷ st) = if nat_le k (pending_precedence w) then reduce k (apply w x) st else (x, frames.Operator w ∷ st)
reduce k x (frames.Paren ∷ st) = (x, frames.Paren ∷ st)
reduce k x (frames.Call f xs ∷ st) = (x, frames.Call f xs ∷ st)

-- what one token does: the expression goes on, or it ended before the token, or the token is
-- refused
pub data StepOutcome : Type 0 where
  continues : State → List Frame → StepOutcome
  done : Expr → StepOutcome
  rejects : StepOutcome

-- `)` after a whole operand
abbrev pub on_close_paren : Expr → List Frame → StepOutcome
on_close_paren x [] = done x
on_close_paren x (frames.Operator w ∷ st) = rejects
on_close_paren x (frames.Paren ∷ st) = continues (states.AfterOperand x) st
on_close_paren x (frames.Call f xs ∷ st) = continues (states.AfterOperand (call_expr f (xs ++ x ∷ []))) st

-- `,` after a whole operand
abbrev pub on_comma : Expr → List Frame → StepOutcome
on_comma x [] = done x
on_comma x (frames.Operator w ∷ st) = rejects
on_comma x (frames.Paren ∷ st) = rejects
on_comma x (frames.Call f xs ∷ st) = continues states.ExpectOperand (frames.Call f (xs ++ x ∷ []) ∷ st)

-- after a whole operand, the end, or a token with which no expression goes on
abbrev pub on_end : Expr → List Frame → StepOutcome
on_end x [] = done x
on_end x (f ∷ st) = rejects

-- an operator after a whole operand
abbrev pub on_operator : BinaryOp → Expr → List Frame → StepOutcome
on_operator o x st =
    if nat_le (min_precedence st) (binary_precedence o)
    then continues states.ExpectOperand (frames.Operator (pending.Infix x o) ∷ st)
    else rejects

-- a token that is not an operator, after a whole operand
abbrev pub on_delimiter : Terminal → Expr → List Frame → StepOutcome
on_delimiter t x st =
    if is_symbol symbols.CloseParen t then on_close_paren x st
    else (if is_symbol symbols.Comma t then on_comma x st else on_end x st)

-- the least level of the operations that end before a token
abbrev pub left_precedence_of : Option BinaryOp → ℕ
left_precedence_of None = 1
left_precedence_of (Some o) = left_precedence o

abbrev pub on_reduced : Terminal → Option BinaryOp → Expr → List Frame → StepOutcome
on_reduced t None x st = on_delimiter t x st
on_reduced t (Some o) x st = on_operator o x st

abbrev pub precedence_before : Option Terminal → ℕ
precedence_before None = 1
precedence_before (Some t) = left_precedence_of (operator t)

abbrev pub after_reduction : Option Terminal → Expr → List Frame → StepOutcome
after_reduction None x st = on_end x st
after_reduction (Some t) x st = on_reduced t (operator t) x st

-- after an operand
abbrev pub after_operand : Expr → List Frame → Option Terminal → StepOutcome
after_operand x st t = after_reduction t (reduce (precedence_before t) x st).0 (reduce (precedence_before t) x st).1

-- a token that is not a symbol, at the start of an operand
abbrev pub on_atom : Terminal → List Frame → StepOutcome
on_atom (word w) st = continues (states.AfterWord w) st
on_atom (number n) st = if fits_i64 n then continues (states.AfterOperand (number_expr n)) st else rejects
on_atom (quoted s) st = continues (states.AfterOperand (quoted_expr s)) st
on_atom (symbol s) st = rejects

-- a prefix operator
abbrev pub on_prefix : UnaryOp → List Frame → StepOutcome
on_prefix o st =
    if nat_le (min_precedence st) (unary_precedence o)
    then continues states.ExpectOperand (frames.Operator (pending.Prefix o) ∷ st)
    else rejects

-- at the start of an operand
abbrev pub on_operand_start : Terminal → List Frame → StepOutcome
on_operand_start t st =
    if is_symbol symbols.OpenParen t then continues states.ExpectOperand (frames.Paren ∷ st)
    else (if is_symbol symbols.Minus t then on_prefix unary.Neg st else on_atom t st)

-- `)` after the open parenthesis of a call
abbrev pub on_empty_call : List Frame → StepOutcome
on_empty_call [] = rejects
on_empty_call (frames.Operator w ∷ st) = rejects
on_empty_call (frames.Paren ∷ st) = rejects
on_empty_call (frames.Call f xs ∷ st) = continues (states.AfterOperand (call_expr f xs)) st

-- the literal that a word is, if it is not a name
abbrev pub constant_word : List ℕ → Option Expr
constant_word w =
    if bytes_eq w (codes "true") then Some (truth_expr true)
    else (if bytes_eq w (codes "false") then Some (truth_expr false)
    else (if bytes_eq w (codes "matched") then Some matched_expr
    else None))

abbrev pub on_constant_word : Option Expr → List Frame → Option Terminal → StepOutcome
on_constant_word None st t = rejects
on_constant_word (Some x) st t = after_operand x st t

-- after a word that is neither a side nor the name of a call
abbrev pub on_lone_word : List ℕ → List Frame → Option Terminal → StepOutcome
on_lone_word w st t = on_constant_word (constant_word w) st t

-- after the word `not`, if no `.` follows
abbrev pub on_not : List Frame → Option Terminal → StepOutcome
on_not st None = rejects
on_not st (Some t) =
    if nat_le (min_precedence st) (unary_precedence unary.Not)
    then on_operand_start t (frames.Operator (pending.Prefix unary.Not) ∷ st)
    else rejects

-- after a word
abbrev pub after_word : List ℕ → List Frame → Option Terminal → StepOutcome
after_word w st None = if bytes_eq w not_word then rejects else on_constant_word (constant_word w) st None
after_word w st (Some t) =
    if is_symbol symbols.Dot t then continues (states.AfterDot w) st
    else (if bytes_eq w not_word then on_not st (Some t)
    else (if is_symbol symbols.OpenParen t then continues states.AfterCallParen (frames.Call w [] ∷ st)
    else on_constant_word (constant_word w) st (Some t)))

-- after a word and a `.`
abbrev pub after_dot : List ℕ → List Frame → Terminal → StepOutcome
after_dot side st (word w) = continues (states.AfterOperand (column_expr side w)) st
after_dot side st (number n) = rejects
after_dot side st (quoted s) = rejects
after_dot side st (symbol s) = rejects

-- one token, or the end
unfoldable pub transition : State → List Frame → Option Terminal → StepOutcome
transition states.ExpectOperand st None = rejects
transition states.ExpectOperand st (Some t) = on_operand_start t st
transition states.AfterCallParen st None = rejects
transition states.AfterCallParen st (Some t) =
    if is_symbol symbols.CloseParen t then on_empty_call st else on_operand_start t st
transition (states.AfterWord w) st t = after_word w st t
transition (states.AfterDot side) st None = rejects
transition (states.AfterDot side) st (Some t) = after_dot side st t
transition (states.AfterOperand x) st t = after_operand x st t

-- what a token, or the end, does, and the tokens that remain
abbrev pub outcome_with_rest : StepOutcome → Terminal → List Terminal → StepOutcome × List Terminal
outcome_with_rest (continues s st) t ts = (continues s st, ts)
outcome_with_rest (done x) t ts = (done x, t ∷ ts)
outcome_with_rest rejects t ts = (rejects, t ∷ ts)

abbrev pub step_over : State → List Frame → List Terminal → StepOutcome × List Terminal
step_over s st [] = (transition s st None, [])
step_over s st (t ∷ ts) = outcome_with_rest (transition s st (Some t)) t ts

abbrev pub outcome_at_end : StepOutcome → Result (Expr × List Terminal) (List Terminal)
outcome_at_end (continues s st) = Err []
outcome_at_end (done x) = Ok (x, [])
outcome_at_end rejects = Err []

abbrev pub outcome_then : (State → List Frame → Result (Expr × List Terminal) (List Terminal)) → List Terminal → StepOutcome → Result (Expr × List Terminal) (List Terminal)
outcome_then next ts (continues s st) = next s st
outcome_then next ts (done x) = Ok (x, ts)
outcome_then next ts rejects = Err ts

-- the expression and the rest of the tokens; or the tokens from the refused one on
unfoldable pub parse_from : State → List Frame → List Terminal → Result (Expr × List Terminal) (List Terminal)
parse_from s st [] = outcome_at_end (transition s st None)
parse_from s st (t ∷ ts) = outcome_then (λ s' st'. parse_from s' st' ts) (t ∷ ts) (transition s st (Some t))

-- the first expression of tokens
abbrev pub parse_first : List Terminal → Result (Expr × List Terminal) (List Terminal)
parse_first ts = parse_from states.ExpectOperand [] ts
