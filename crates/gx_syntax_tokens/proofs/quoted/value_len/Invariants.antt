use Rattle.std.proofs.Common.{◌≡◌, ◌+◌, ◌≤◌, false, drop, length}
use Rattle.gx_syntax_tokens.specs.Quotes.{unescaped_from}
use Rattle.gx_syntax_tokens.proofs.quoted.value_len.Given as goal

abbrev pub invariant-loop-byte : goal.invariant-loop-byte
invariant-loop-byte l = record {
  so_far : length (unescaped_from false l.raw) ≡ l.len + length (unescaped_from l.escape (drop l.byte-index l.raw));
  few : l.len ≤ l.byte-index;
}
