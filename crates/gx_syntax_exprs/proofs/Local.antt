-- The parser of expressions does not look beyond the token at which it stops.
use Rattle.std.proofs.Common.{◌≡◌, ◌<◌, ◌≤◌, Option, Some, None, Result, Ok, Err, List, [], ◌∷◌, ◌++◌, length, refl, ap, subst, arith, length-append}
use Rattle.gx_syntax_tokens.specs.Terminals.{Terminal}
use Rattle.gx_syntax_exprs.specs.Combinators.{result_at}
use Rattle.gx_syntax_exprs.specs.PrecedenceParser.{StepOutcome, continues, done, rejects, outcome_at_end, outcome_then, transition, parse_from}
use Rattle.gx_syntax_tree.specs.declared.expr.Expr.{Expr}
use Rattle.gx_syntax_exprs.specs.declared.steps.State.{State}
use Rattle.gx_syntax_exprs.specs.declared.stack.Frame.{Frame}
use Rattle.gx_syntax_exprs.specs.ExactParsers.{ok_same, err_same}

-- no more tokens remain than there were
abbrev Within : List Terminal → Result (Expr × List Terminal) (List Terminal) → Type 0
Within ts (Ok r) = length r.1 ≤ length ts
Within ts (Err rest) = length rest ≤ length ts

within_finished : (a : StepOutcome) → Within [] (outcome_at_end a)
within_finished (continues s st) = omega arith
within_finished (done x) = omega arith
within_finished rejects = omega arith

within_more : (t : Terminal) (ts : List Terminal) (r : Result (Expr × List Terminal) (List Terminal)) → Within ts r → Within (t ∷ ts) r
within_more t ts (Ok r) h = omega arith
within_more t ts (Err rest) h = omega arith

within_outcome : (next : State → List Frame → Result (Expr × List Terminal) (List Terminal)) (t : Terminal) (ts : List Terminal) (a : StepOutcome)
    → ((s : State) (st : List Frame) → Within ts (next s st)) → Within (t ∷ ts) (outcome_then next (t ∷ ts) a)
within_outcome next t ts (continues s st) h = within_more t ts (next s st) (h s st)
within_outcome next t ts (done x) h = omega arith
within_outcome next t ts rejects h = omega arith

within : (ts : List Terminal) (s : State) (st : List Frame) → Within ts (parse_from s st ts)
unfolding parse_from
within [] s st = within_finished (transition s st None)
within (t ∷ ts) s st = within_outcome (λ s' st'. parse_from s' st' ts) t ts (transition s st (Some t)) (λ s' st'. within ts s' st')

-- no result has a longer rest
too_long : (ts rest : List Terminal) (o : Option Expr) → length ts < length rest → Within ts (result_at o rest) → ⊥
too_long ts rest (Some x) h w = absurd (omega arith)
too_long ts rest None h w = absurd (omega arith)

-- the outcome at the token at which it stops
ends_local : (x : Expr) (ts : List Terminal) (t : Terminal) (r s : List Terminal) (o : Option Expr) → ts ≡ t ∷ r → ◌≡◌ {A = Result (Expr × List Terminal) (List Terminal)} (Ok (x, ts)) (result_at o (t ∷ r))
    → ◌≡◌ {A = Result (Expr × List Terminal) (List Terminal)} (Ok (x, t ∷ s)) (result_at o (t ∷ s))
ends_local x ts t r s None e h = cc
ends_local x ts t r s (Some y) e h =
    let same : x ≡ y = ap (λ (p : Expr × List Terminal). p.0) (ok_same {X = Expr × List Terminal} {Y = List Terminal} h) in
    rw same refl

refuses_local : (ts : List Terminal) (t : Terminal) (r s : List Terminal) (o : Option Expr) → ◌≡◌ {A = Result (Expr × List Terminal) (List Terminal)} (Err ts) (result_at o (t ∷ r))
    → ◌≡◌ {A = Result (Expr × List Terminal) (List Terminal)} (Err (t ∷ s)) (result_at o (t ∷ s))
refuses_local ts t r s None h = refl
refuses_local ts t r s (Some y) h = cc

here : (next next' : State → List Frame → Result (Expr × List Terminal) (List Terminal)) (t : Terminal) (r s : List Terminal) (o : Option Expr) (a : StepOutcome)
    → ((s' : State) (st' : List Frame) → Within r (next s' st')) → outcome_then next (t ∷ r) a ≡ result_at o (t ∷ r) → outcome_then next' (t ∷ s) a ≡ result_at o (t ∷ s)
here next next' t r s o (continues s' st') h e = absurd (too_long r (t ∷ r) o (omega arith) (subst (λ q. Within r q) e (h s' st')))
here next next' t r s o (done x) h e = ends_local x (t ∷ r) t r s o refl e
here next next' t r s o rejects h e = refuses_local (t ∷ r) t r s o e

ends_early : (x : Expr) (ts rest : List Terminal) (o : Option Expr) → length rest < length ts → ◌≡◌ {A = Result (Expr × List Terminal) (List Terminal)} (Ok (x, ts)) (result_at o rest) → ⊥
ends_early x ts rest None h e = cc
ends_early x ts rest (Some y) h e =
    let same : length ts ≡ length rest = ap (λ (p : Expr × List Terminal). length p.1) (ok_same {X = Expr × List Terminal} {Y = List Terminal} e) in
    absurd (omega arith)

refuses_early : (ts rest : List Terminal) (o : Option Expr) → length rest < length ts → ◌≡◌ {A = Result (Expr × List Terminal) (List Terminal)} (Err ts) (result_at o rest) → ⊥
refuses_early ts rest (Some y) h e = cc
refuses_early ts rest None h e =
    let same : length ts ≡ length rest = ap (λ (p : List Terminal). length p) (err_same {X = Expr × List Terminal} {Y = List Terminal} e) in
    absurd (omega arith)

there : (next next' : State → List Frame → Result (Expr × List Terminal) (List Terminal)) (u : Terminal) (ts ts' rest rest' : List Terminal) (o : Option Expr) (a : StepOutcome)
    → length rest ≤ length ts → ((s' : State) (st' : List Frame) → next s' st' ≡ result_at o rest → next' s' st' ≡ result_at o rest')
    → outcome_then next (u ∷ ts) a ≡ result_at o rest → outcome_then next' (u ∷ ts') a ≡ result_at o rest'
there next next' u ts ts' rest rest' o (continues s' st') l h e = h s' st' e
there next next' u ts ts' rest rest' o (done x) l h e = absurd (ends_early x (u ∷ ts) rest o (omega arith) e)
there next next' u ts ts' rest rest' o rejects l h e = absurd (refuses_early (u ∷ ts) rest o (omega arith) e)

pub local : (w : List Terminal) (s : State) (st : List Frame) (t : Terminal) (r r' : List Terminal) (o : Option Expr) → parse_from s st (w ++ t ∷ r) ≡ result_at o (t ∷ r) → parse_from s st (w ++ t ∷ r') ≡ result_at o (t ∷ r')
unfolding parse_from
local [] s st t r r' o e = here (λ a b. parse_from a b r) (λ a b. parse_from a b r') t r r' o (transition s st (Some t)) (λ a b. within r a b) e
local (u ∷ w) s st t r r' o e =
    there (λ a b. parse_from a b (w ++ t ∷ r)) (λ a b. parse_from a b (w ++ t ∷ r')) u (w ++ t ∷ r) (w ++ t ∷ r') (t ∷ r) (t ∷ r') o (transition s st (Some u))
    (simp length-append (omega arith)) (λ a b h. local w a b t r r' o h) e
