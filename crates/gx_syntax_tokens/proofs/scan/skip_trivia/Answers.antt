use Rattle.std.proofs.Common.{◌≡◌, ◌∙◌, Some, arith, drop, length-drop}
use Rattle.gx_syntax_tokens.specs.Lexing.{trivia_len}
use Rattle.gx_syntax_tokens.proofs.LexingLemmas.{trivia_len-bounds, tokens_at-trivia}
use Rattle.gx_syntax_tokens.proofs.scan.skip_trivia.Goals as goal

trivia : (c : goal.In-Some) → trivia_len (drop c.loop-len.at c.args.text.now) ≡ Some c.in-Some.len
trivia c = cc

pub overflow_add-at : goal.overflow_add-at
overflow_add-at c = omega (arith, (trivia_len-bounds _ _ (trivia c)).1, length-drop c.loop-len.at c.args.text.now)

pub loop-len-smaller : goal.loop-len-smaller
loop-len-smaller c = omega (arith, (trivia_len-bounds _ _ (trivia c)).0, (trivia_len-bounds _ _ (trivia c)).1, length-drop c.loop-len.at c.args.text.now)

pub loop-len-preserved : goal.loop-len-preserved
loop-len-preserved c = record {
  tokens_kept = tokens_at-trivia c.args.text.now c.loop-len.at c.in-Some.len (trivia c) ∙ c.loop-len.invariant.tokens_kept;
  in_order = omega arith;
  within = omega (arith, (trivia_len-bounds _ _ (trivia c)).1, length-drop c.loop-len.at c.args.text.now);
}
