use Rattle.gx_syntax_tokens.proofs.SpacingLemmas.{spaced_text-round_trips, lines_text-round_trips}
use Rattle.gx_syntax_tokens.proofs.laws.spaced_text_round_trips.Goals as goal

pub returns-clause-tokens : goal.returns-clause-tokens
returns-clause-tokens c = spaced_text-round_trips

pub returns-clause-lines : goal.returns-clause-lines
returns-clause-lines c = lines_text-round_trips
