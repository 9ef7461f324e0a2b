use denote.Shadow.{shadow}
use denote.Text.{Utf8}
use Rattle.std.specs.Prelude.{string_bytes}
use Rattle.std.proofs.Common.{◌≡◌, ◌++◌, length}
use Rattle.gx_syntax_tokens.specs.SpacedText.{escaped_text}
use Rattle.gx_syntax_tokens.specs.Writing.{Extends}
use Rattle.gx_syntax_tokens.proofs.escaping.put_escaped.Given as goal

abbrev pub invariant-runs : goal.invariant-runs
invariant-runs l = record {
  so_far : string_bytes l.out ++ escaped_text l.rest ≡ string_bytes l.fn.out ++ escaped_text l.fn.value;
  extends : Extends (string_bytes l.fn.out) (string_bytes l.out);
  text : shadow (Utf8 l.rest);
}

abbrev pub decreases-runs : goal.decreases-runs
decreases-runs l = length l.rest
