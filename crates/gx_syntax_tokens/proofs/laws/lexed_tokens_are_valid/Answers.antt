use Rattle.gx_syntax_tokens.proofs.ValidityLemmas.{lexes_valid_tokens}
use Rattle.gx_syntax_tokens.proofs.laws.lexed_tokens_are_valid.Goals as goal

pub returns : goal.returns
returns c = lexes_valid_tokens
