use Rattle.gx_syntax.proofs.ParserLemmas.{next_token}
use Rattle.gx_syntax.proofs.parser.end_after.Goals as goal

pub returns-then-allowed-tokens : goal.returns-then-allowed-tokens
returns-then-allowed-tokens c = next_token c.args.tokens.now c.args.allowed _ c.if-allowed-tokens.true
