-- Each iteration of the loop, and how it ends.
use Rattle.std.proofs.Common.{◌∙◌, ◌-◌, ◌+◌, ◌<◌, ◌≤◌, sym, ap, arith}
use Rattle.gx_syntax_stmts.proofs.Loops.{appended_within, appended-all, appended-some, appended-none, appended-zero, appended-stop}
use Rattle.gx_syntax_stmts.proofs.repetition.many.Goals as goal

pub items-init : goal.items-init
items-init g c = appended-all g.R.Repeated.starts g.R.Repeated.parsed c.args.items _ c.args.cursor.now (omega (arith, c.len-most.ensures.count))

pub returns-then-not-is_next : goal.returns-then-not-is_next
returns-then-not-is_next g c =
    sym c.items.invariant ∙ appended-none g.R.Repeated.starts g.R.Repeated.parsed c.items.items _ (c.len-most.result + 1 - (c.items.counter + 1)) c.items.cursor (let below : c.items.counter < c.len-most.result + 1 = c.items-test.true in omega arith) (sym c.is_next.ensures ∙ c.if-not-is_next.true)

pub returns-in-Err : goal.returns-in-Err
returns-in-Err g c =
    appended-stop g.R.Repeated.starts g.R.Repeated.parsed c.items.items _ (c.len-most.result + 1 - (c.items.counter + 1)) c.items.cursor c.parse.new.cursor c.in-Err.stop _ (let below : c.items.counter < c.len-most.result + 1 = c.items-test.true in omega arith) (sym c.is_next.ensures ∙ c.if-not-is_next.false) c.items.invariant c.in-Err.ensures

pub items-preserved : goal.items-preserved
items-preserved g c =
    ap (λ v. appended_within g.R.Repeated.starts g.R.Repeated.parsed v (c.len-most.result + 1 - (c.items.counter + 1)) c.parse.new.cursor) c.in_ok-append-in-Ok.ensures
    ∙ appended-some g.R.Repeated.starts g.R.Repeated.parsed c.items.items (c.len-most.result + 1 - c.items.counter) (c.len-most.result + 1 - (c.items.counter + 1)) c.items.cursor c.parse.new.cursor c.in-Ok.item (let below : c.items.counter < c.len-most.result + 1 = c.items-test.true in omega arith) (sym c.is_next.ensures ∙ c.if-not-is_next.false) c.in-Ok.ensures
    ∙ c.items.invariant

pub returns : goal.returns
returns g c = sym c.items.invariant ∙ appended-zero g.R.Repeated.starts g.R.Repeated.parsed c.items.items _ c.items.cursor (let ended : c.len-most.result + 1 ≤ c.items.counter = c.items-test.false in omega arith)
