-- One step of the loop over the tokens of an expression.
use Rattle.std.proofs.Common.{◌≡◌, ℕ, ◌<◌, Bool, true, false, if◌then◌else◌, Option, Some, None, Result, Ok, Err, List, [], ◌∷◌, length, refl, sym, arith, bytes_eq}
use Rattle.gx_syntax_tokens.specs.Terminals.{Terminal}
use Rattle.gx_syntax_exprs.specs.Operators.{not_word}
use Rattle.gx_syntax_exprs.specs.PrecedenceParser.{StepOutcome, continues, done, rejects, reduce, on_end, on_constant_word, constant_word, transition, parse_from, outcome_with_rest, step_over, outcome_at_end, outcome_then}
use Rattle.gx_syntax_tree.specs.declared.expr.Expr.{Expr}
use Rattle.gx_syntax_exprs.specs.declared.steps.State.{State}
use Rattle.gx_syntax_exprs.specs.declared.steps.State.TheVariants as states
use Rattle.gx_syntax_exprs.specs.declared.stack.Frame.{Frame}

-- the end of the tokens ends the loop
abbrev NeverContinues : StepOutcome → Type 0
NeverContinues a = (s : State) (st : List Frame) → a ≡ continues s st → ⊥

on_end_never_continues : (x : Expr) (st : List Frame) → NeverContinues (on_end x st)
on_end_never_continues x [] s st' e = cc
on_end_never_continues x (f ∷ st) s st' e = cc

reject_never_continues : NeverContinues rejects
reject_never_continues s st e = cc

on_constant_word_never_continues : (o : Option Expr) (st : List Frame) → NeverContinues (on_constant_word o st None)
on_constant_word_never_continues None st = reject_never_continues
on_constant_word_never_continues (Some x) st = on_end_never_continues (reduce 1 x st).0 (reduce 1 x st).1

after_word_never_continues : (w : List ℕ) (st : List Frame) (b : Bool) → NeverContinues (if b then rejects else on_constant_word (constant_word w) st None)
after_word_never_continues w st true = reject_never_continues
after_word_never_continues w st false = on_constant_word_never_continues (constant_word w) st

pub end_never_continues : (s : State) (st : List Frame) → NeverContinues (transition s st None)
unfolding transition
end_never_continues states.ExpectOperand st = reject_never_continues
end_never_continues states.AfterCallParen st = reject_never_continues
end_never_continues (states.AfterWord w) st = after_word_never_continues w st (bytes_eq w not_word)
end_never_continues (states.AfterDot w) st = reject_never_continues
end_never_continues (states.AfterOperand x) st = on_end_never_continues (reduce 1 x st).0 (reduce 1 x st).1

-- what the outcome of a step says of the result
abbrev HasOutcome : Result (Expr × List Terminal) (List Terminal) → ℕ → StepOutcome × List Terminal → Type 0
HasOutcome result n (continues s st, ts) = (result ≡ parse_from s st ts) × (length ts < n)
HasOutcome result n (done x, ts) = result ≡ Ok (x, ts)
HasOutcome result n (rejects, ts) = result ≡ Err ts

outcome_at_the_end : (a : StepOutcome) → ((s : State) (st : List Frame) → a ≡ continues s st → ⊥) → HasOutcome (outcome_at_end a) 0 (a, [])
outcome_at_the_end (continues s st) h = absurd (h s st refl)
outcome_at_the_end (done x) h = refl
outcome_at_the_end rejects h = refl

outcome_of_token : (t : Terminal) (ts : List Terminal) (a : StepOutcome) → HasOutcome (outcome_then (λ s' st'. parse_from s' st' ts) (t ∷ ts) a) (length (t ∷ ts)) (outcome_with_rest a t ts)
outcome_of_token t ts (continues s st) = (refl, omega arith)
outcome_of_token t ts (done x) = refl
outcome_of_token t ts rejects = refl

outcome_of_step : (s : State) (st : List Frame) (ts : List Terminal) → HasOutcome (parse_from s st ts) (length ts) (step_over s st ts)
unfolding parse_from
outcome_of_step s st [] = outcome_at_the_end (transition s st None) (end_never_continues s st)
outcome_of_step s st (t ∷ ts) = outcome_of_token t ts (transition s st (Some t))

pub step_continues : (s : State) (st : List Frame) (ts : List Terminal) (s' : State) (st' : List Frame) (ts' : List Terminal) → (continues s' st', ts') ≡ step_over s st ts → parse_from s' st' ts' ≡ parse_from s st ts
step_continues s st ts s' st' ts' e = sym ((rw (← e) at (outcome_of_step s st ts)).0)

pub step_shortens : (s : State) (st : List Frame) (ts : List Terminal) (s' : State) (st' : List Frame) (ts' : List Terminal) → (continues s' st', ts') ≡ step_over s st ts → length ts' < length ts
step_shortens s st ts s' st' ts' e = (rw (← e) at (outcome_of_step s st ts)).1

pub step_done : (s : State) (st : List Frame) (ts : List Terminal) (x : Expr) (ts' : List Terminal) → (done x, ts') ≡ step_over s st ts → parse_from s st ts ≡ Ok (x, ts')
step_done s st ts x ts' e = rw (← e) at (outcome_of_step s st ts)

pub step_rejects : (s : State) (st : List Frame) (ts ts' : List Terminal) → (rejects, ts') ≡ step_over s st ts → parse_from s st ts ≡ Err ts'
step_rejects s st ts ts' e = rw (← e) at (outcome_of_step s st ts)
