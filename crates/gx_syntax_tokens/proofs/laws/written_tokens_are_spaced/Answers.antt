use Rattle.gx_syntax_tokens.proofs.WritingLemmas.{spaces_pieces}
use Rattle.gx_syntax_tokens.proofs.laws.written_tokens_are_spaced.Goals as goal

pub returns : goal.returns
returns c = spaces_pieces
