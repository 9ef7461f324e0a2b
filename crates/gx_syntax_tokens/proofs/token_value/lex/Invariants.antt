use Rattle.std.proofs.Common.{◌≡◌, ◌-◌, ◌≤◌, length, map}
use Rattle.gx_syntax_tokens.specs.Lexing.{tokens_at, tokens_of}
use Rattle.gx_syntax_tokens.specs.TokenTexts.{placed_of}
use Rattle.gx_syntax_tokens.proofs.NextTokenLemmas.{with_tokens}
use Rattle.gx_syntax_tokens.proofs.token_value.lex.Given as goal

abbrev pub invariant-loop-placed : goal.invariant-loop-placed
invariant-loop-placed l = record {
  tokens : with_tokens (map placed_of l.tokens.items) (tokens_at l.text l.at) ≡ tokens_of l.text;
  within : l.at ≤ length l.text;
}

abbrev pub decreases-loop-placed : goal.decreases-loop-placed
decreases-loop-placed l = length l.text - l.at
