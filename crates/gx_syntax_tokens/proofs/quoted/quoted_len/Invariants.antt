use Rattle.std.specs.Prelude.{option_map}
use Rattle.std.proofs.Common.{◌≡◌, ◌+◌, false, drop}
use Rattle.gx_syntax_tokens.specs.Quotes.{closing_quote}
use Rattle.gx_syntax_tokens.proofs.quoted.quoted_len.Given as goal

abbrev pub invariant-loop-i : goal.invariant-loop-i
invariant-loop-i l = closing_quote false l.after ≡ option_map (λ n. l.i + n) (closing_quote l.escape (drop l.i l.after))
