use Rattle.std.proofs.Common.{◌≡◌, arith}
use Rattle.gx_syntax_tokens.specs.Lexing.{bom_len}
use Rattle.gx_syntax_tokens.proofs.LexingLemmas.{tokens_of-after_bom, bom_len-within}
use Rattle.gx_syntax_tokens.proofs.tokens.Tokens.of.Goals as goal

pub invariant_of-result : goal.invariant_of-result
invariant_of-result c =
    let len : c.bom_len.result ≡ bom_len c.args.text.now = cc in
    (omega (arith, bom_len-within c.args.text.now), c.requires)

pub returns-clause-rest : goal.returns-clause-rest
returns-clause-rest c =
    let len : c.bom_len.result ≡ bom_len c.args.text.now = cc in
    rw len (tokens_of-after_bom c.args.text.now)
