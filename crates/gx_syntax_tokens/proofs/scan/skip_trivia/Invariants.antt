use Rattle.std.proofs.Common.{◌≡◌, ◌≤◌, ◌-◌, length}
use Rattle.gx_syntax_tokens.specs.Lexing.{tokens_at}
use Rattle.gx_syntax_tokens.proofs.scan.skip_trivia.Given as goal

abbrev pub invariant-loop-len : goal.invariant-loop-len
invariant-loop-len l = record {
  tokens_kept : tokens_at l.text l.at ≡ tokens_at l.text l.fn.from;
  in_order : l.fn.from ≤ l.at;
  within : l.at ≤ length l.text;
}

abbrev pub decreases-loop-len : goal.decreases-loop-len
decreases-loop-len l = length l.text - l.at
