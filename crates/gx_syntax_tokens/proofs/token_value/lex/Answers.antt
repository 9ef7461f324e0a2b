use Rattle.std.proofs.Common.{◌≡◌, arith}
use Rattle.gx_syntax_tokens.specs.Lexing.{bom_len}
use Rattle.gx_syntax_tokens.proofs.LexingLemmas.{tokens_of-after_bom, bom_len-within}
use Rattle.gx_syntax_tokens.proofs.ValidityLemmas.{placed-valid}
use Rattle.gx_syntax_tokens.proofs.NextTokenLemmas.{with_tokens-done}
use Rattle.gx_syntax_tokens.proofs.token_value.lex.Goals as goal

pub loop-placed-init : goal.loop-placed-init
loop-placed-init c =
    let len : c.bom_len-at.result ≡ bom_len c.args.text.now = cc in
    record {
      tokens = rw (c.new-tokens.ensures.items, len) (tokens_of-after_bom c.args.text.now);
      within = omega (arith, bom_len-within c.args.text.now);
    }

pub returns-in-Ends-clause-valid : goal.returns-in-Ends-clause-valid
returns-in-Ends-clause-valid c =
    placed-valid c.loop-placed.tokens.items c.in-Ends.end c.args.text.now (with_tokens-done c.loop-placed.tokens.items c.in-Ends.end _ _ c.in-Ends.ensures.0 c.loop-placed.invariant.tokens)
