use denote.Shadow.{shadow}
use denote.Text.{Utf8}
use Rattle.std.specs.Prelude.{string_bytes}
use Rattle.std.proofs.Common.{◌≡◌, ◌++◌, false, length}
use Rattle.gx_syntax_tokens.specs.Quotes.{unescaped_from}
use Rattle.gx_syntax_tokens.proofs.unescaping.value_of.Given as goal

abbrev pub invariant-runs : goal.invariant-runs
invariant-runs l = record {
  so_far : string_bytes l.value ++ unescaped_from false l.rest ≡ unescaped_from false l.fn.raw;
  text : shadow (Utf8 l.rest);
}

abbrev pub decreases-runs : goal.decreases-runs
decreases-runs l = length l.rest
