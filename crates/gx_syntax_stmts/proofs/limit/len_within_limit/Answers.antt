use Rattle.std.proofs.Common.{◌<◌, ◌≤◌, arith}
use Rattle.gx_syntax_exprs.specs.Parses.{terminals_of}
use Rattle.gx_syntax_stmts.proofs.LimitLemmas.{counted_none, counted_more, counted_anew, kept_before, kept_all}
use Rattle.gx_syntax_stmts.proofs.limit.len_within_limit.Goals as goal
use Rattle.gx_syntax_stmts.proofs.limit.len_within_limit.Goals.{then-is, else-is+then-open_len-most}

pub loop-at-init : goal.loop-at-init
loop-at-init c = counted_none (terminals_of c.args.tokens.now)

pub returns-else-open_len-most : goal.returns-else-open_len-most
returns-else-open_len-most c = kept_before c.args.tokens.now c.loop-at.at c.loop-at.open_len _ _ c.loop-at.invariant c.loop-at-test.true c.is.ensures c.if-is.false (let many : c.most-most.result ≤ c.loop-at.open_len = c.if-open_len-most.false in omega (arith, c.most-most.ensures))

pub loop-at-preserved : goal.loop-at-preserved
loop-at-preserved c =
    elim c.if-is.branch [
      | then-is w ↦ counted_anew c.args.tokens.now c.loop-at.at c.loop-at.open_len _ _ c.loop-at.invariant c.loop-at-test.true c.is.ensures c.if-is.open_len w.if-is.true w.open_len-is
      | else-is+then-open_len-most w ↦ counted_more c.args.tokens.now c.loop-at.at c.loop-at.open_len _ _ c.loop-at.invariant c.loop-at-test.true c.is.ensures c.if-is.open_len w.if-is.false (let few : c.loop-at.open_len < c.most-most.result = w.if-open_len-most.true in omega (arith, c.most-most.ensures)) w.open_len-is
    ]

pub returns : goal.returns
returns c = kept_all c.args.tokens.now c.loop-at.at c.loop-at.open_len c.loop-at.invariant c.loop-at-test.false
