use Rattle.std.specs.Char.{is_ascii_digit}
use Rattle.std.specs.List.{prefix_len}
use Rattle.std.proofs.Common.{◌≡◌, drop}
use Rattle.gx_syntax_tokens.proofs.ScanLemmas.{all_digits, digit-ascii, number-found, number-large, run-ends}
use Rattle.gx_syntax_tokens.proofs.lexer.number.Goals as goal

pub slice-digits-requires : goal.slice-digits-requires
slice-digits-requires c =
    let len : c.digits_len-len.result ≡ prefix_len is_ascii_digit (drop c.args.at c.args.text.now) = cc in
    run-ends is_ascii_digit digit-ascii _ _ _ len c.requires.within c.requires.digit

pub value_of-requires-clause-digits : goal.value_of-requires-clause-digits
value_of-requires-clause-digits c =
    let len : c.digits_len-len.result ≡ prefix_len is_ascii_digit (drop c.args.at c.args.text.now) = cc in
    all_digits _ c.slice-digits.result.now _ len c.slice-digits.ensures

pub returns-in_default : goal.returns-in_default
returns-in_default c =
    let len : c.digits_len-len.result ≡ prefix_len is_ascii_digit (drop c.args.at c.args.text.now) = cc in
    number-large _ c.slice-digits.result.now _ len c.slice-digits.ensures c.in_default.ensures

pub returns : goal.returns
returns c =
    let len : c.digits_len-len.result ≡ prefix_len is_ascii_digit (drop c.args.at c.args.text.now) = cc in
    number-found _ c.slice-digits.result _ c.in-Some.value len c.in-Some.ensures c.slice-digits.ensures
