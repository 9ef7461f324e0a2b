-- The tokens before this index: none is one too many, and as many as are counted stand behind the last `;`.
use Rattle.gx_syntax_exprs.specs.Parses.{terminals_of}
use Rattle.gx_syntax_stmts.proofs.LimitLemmas.{IsCounted}
use Rattle.gx_syntax_stmts.proofs.limit.len_within_limit.Given as goal

abbrev pub invariant-loop-at : goal.invariant-loop-at
invariant-loop-at l = IsCounted (terminals_of l.tokens) l.at l.open_len
