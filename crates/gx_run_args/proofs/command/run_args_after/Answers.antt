-- Each way through the loop, by the lemma on the word that it begins with.
use Rattle.std.proofs.Common.{◌∙◌, refl, sym}
use Rattle.gx_run_args.proofs.GivenLemmas.{all-end, dash-ends, last-option-ends, script-kept, second-ends, value-ends, value-kept}
use Rattle.gx_run_args.proofs.command.run_args_after.Goals as goal
use Rattle.gx_run_args.proofs.command.run_args_after.Goals.{then-is_some-via-then-is_some, then-is_some-via-else-is_some+then-begins_with_dash}

pub returns-in_default-after-clause-exact : goal.returns-in_default-after-clause-exact
returns-in_default-after-clause-exact c =
    last-option-ends _ c.loop-rest.options c.loop-rest.rest.now _ c.as_str-word.result.now _ c.in-Some.name c.loop-rest.invariant.0
    (record { item = c.word-item.result; some = c.in-len1-up.len_at_least; is = c.word-item.is; bytes = c.as_str-word.ensures.value; ends = refl })
    c.in-Some.ensures c.in_default-after.len_below

pub returns-in_err-options-clause-exact : goal.returns-in_err-options-clause-exact
returns-in_err-options-clause-exact c =
    rw c.from_residual.ensures
    (value-ends _ c.loop-rest.options c.loop-rest.rest.now _ c.as_str-word.result.now c.as_str.result.now _ _ c.in-Some.name c.loop-rest.invariant.0
    (record { item = c.word-item.result; some = c.in-len1-up.len_at_least; is = c.word-item.is; bytes = c.as_str-word.ensures.value; ends = refl })
    (record { item = c.value-item.result; some = c.in-len1-up-after.len_at_least; is = c.value-item.is; bytes = c.as_str.ensures.value; ends = refl })
    c.in-Some.ensures c.in_err-options.ensures.exact)

pub loop-rest-preserved-in-Some : goal.loop-rest-preserved-in-Some
loop-rest-preserved-in-Some c = (
  value-kept _ c.loop-rest.options _ c.loop-rest.rest.now _ c.as_str-word.result.now c.as_str.result.now _ _ c.in-Some.name c.loop-rest.invariant.0
      (record { item = c.word-item.result; some = c.in-len1-up.len_at_least; is = c.word-item.is; bytes = c.as_str-word.ensures.value; ends = refl })
      (record { item = c.value-item.result; some = c.in-len1-up-after.len_at_least; is = c.value-item.is; bytes = c.as_str.ensures.value; ends = refl })
      c.in-Some.ensures c.in_ok-options.ensures.exact,
  c.in_ok-options.ensures.in_range c.loop-rest.invariant.1,
)

pub returns-then-is_some-clause-exact : goal.returns-then-is_some-clause-exact
returns-then-is_some-clause-exact c =
    elim c.then-is_some.branch [
      | then-is_some-via-then-is_some w ↦
          second-ends (λ name. name.now) c.loop-rest.script c.loop-rest.options c.loop-rest.rest.now _ c.as_str-word.result.now _ c.loop-rest.invariant.0
          (record { item = c.word-item.result; some = c.in-len1-up.len_at_least; is = c.word-item.is; bytes = c.as_str-word.ensures.value; ends = refl })
          c.in_default-of_word.ensures (sym c.is_some.ensures ∙ w.if-is_some.true)
      | then-is_some-via-else-is_some+then-begins_with_dash w ↦
          dash-ends _ c.loop-rest.options c.loop-rest.rest.now _ c.as_str-word.result.now _ c.loop-rest.invariant.0
          (record { item = c.word-item.result; some = c.in-len1-up.len_at_least; is = c.word-item.is; bytes = c.as_str-word.ensures.value; ends = refl })
          c.in_default-of_word.ensures (sym w.begins_with_dash.ensures ∙ w.if-begins_with_dash.true)
    ]

pub loop-rest-preserved : goal.loop-rest-preserved
loop-rest-preserved c = (
  script-kept (λ name. name.now) c.loop-rest.script c.loop-rest.options c.loop-rest.rest.now _ c.as_str-word.result.now _ c.loop-rest.invariant.0
      (record { item = c.word-item.result; some = c.in-len1-up.len_at_least; is = c.word-item.is; bytes = c.as_str-word.ensures.value; ends = refl })
      c.in_default-of_word.ensures (sym c.is_some.ensures ∙ c.if-is_some.false) (sym c.begins_with_dash.ensures ∙ c.if-begins_with_dash.false),
  c.loop-rest.invariant.1,
)

pub returns-in_err-script-clause-exact : goal.returns-in_err-script-clause-exact
returns-in_err-script-clause-exact c =
    let all = all-end _ c.loop-rest.options c.loop-rest.rest.now _ c.loop-rest.invariant.0 c.in_default.len_below in
    rw c.from_residual-in_err-script.ensures (rw c.in_err-script.was at all)

pub returns-clause-exact : goal.returns-clause-exact
returns-clause-exact c =
    let all = all-end _ c.loop-rest.options c.loop-rest.rest.now _ c.loop-rest.invariant.0 c.in_default.len_below in
    rw (c.unwrap_or.ensures, c.unwrap_or-2.ensures, c.unwrap_or-3.ensures) (rw c.in_ok-script.was at all)
