use Rattle.gx_syntax_tokens.proofs.ScanLemmas.{end-boundary}
use Rattle.gx_syntax_tokens.proofs.lexer.slice.Goals as goal

pub range-requires-clause-end_boundary : goal.range-requires-clause-end_boundary
range-requires-clause-end_boundary c = end-boundary c.args.text.now c.args.at c.args.len c.utf8.text c.requires
