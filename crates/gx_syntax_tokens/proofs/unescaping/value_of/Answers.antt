use Rattle.std.specs.Prelude.{string_bytes}
use Rattle.std.proofs.Common.{◌≡◌, ◌∙◌, ◌++◌, arith, false, rules, sym}
use Rattle.std.proofs.lemmas.Bool.{eqb-false, eqb-true}
use Rattle.gx_syntax_tokens.specs.Quotes.{unescaped_from}
use Rattle.gx_syntax_tokens.specs.Scanning.{is_not_backslash}
use Rattle.gx_syntax_tokens.proofs.QuoteLemmas.{backslash_is, unescaped-keeps}
use Rattle.gx_syntax_tokens.proofs.RunLemmas.{run-done, run-end, run-more}
use Rattle.gx_syntax_tokens.proofs.unescaping.value_of.Goals as goal

pub returns-then-is_empty : goal.returns-then-is_empty
returns-then-is_empty c =
    let written : string_bytes c.push_str.new.self ≡ string_bytes c.runs.value ++ c.split_plain.result.0.now = c.in_ok-push_str.ensures.bytes in
    written ∙ run-done is_not_backslash (unescaped_from false) unescaped-keeps (string_bytes c.runs.value) c.runs.rest.now _ c.split_plain.result.0.now c.split_plain.result.1.now c.runs.invariant.so_far
    c.split_plain.ensures.plain c.split_plain.ensures.rest (eqb-true _ _ (sym c.if-is_empty.ensures))

pub split_escape-requires-clause-backslash : goal.split_escape-requires-clause-backslash
split_escape-requires-clause-backslash c =
    backslash_is _ (run-end is_not_backslash c.runs.rest.now c.split_plain.result.1.now c.split_plain.ensures.rest (omega (arith, eqb-false _ _ (sym c.if-is_empty.ensures))))

pub runs-preserved : goal.runs-preserved
runs-preserved c =
    let plain : string_bytes c.push_str.new.self ≡ string_bytes c.runs.value ++ c.split_plain.result.0.now = c.in_ok-push_str.ensures.bytes in
    let more : string_bytes c.push_str-in-runs.new.self ≡ string_bytes c.push_str.new.self ++ c.split_escape.result.0.now = c.in_ok-push_str-2.ensures.bytes in
    record {
      so_far = rw (more, plain) (run-more is_not_backslash (unescaped_from false) unescaped-keeps (string_bytes c.runs.value) c.runs.rest.now _ c.split_plain.result.0.now c.split_plain.result.1.now
          c.split_escape.result.0.now c.split_escape.result.1.now c.runs.invariant.so_far c.split_plain.ensures.plain c.split_plain.ensures.rest c.split_escape.ensures.value);
      text = search rules;
    }
