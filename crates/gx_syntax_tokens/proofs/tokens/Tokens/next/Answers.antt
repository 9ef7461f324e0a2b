use Rattle.gx_syntax_tokens.proofs.NextTokenLemmas.{next_token}
use Rattle.gx_syntax_tokens.proofs.tokens.Tokens.next.Goals as goal

pub returns-in-Token : goal.returns-in-Token
returns-in-Token c = rw (← c.self.view_is) (next_token c.self.inside.text.now c.self.inside.at c.in-Token.placed c.in-Token.text c.kind-kind.result c.kind-kind.ensures c.in-Token.ensures)
