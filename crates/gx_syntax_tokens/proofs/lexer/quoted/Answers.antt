use Rattle.std.proofs.Common.{◌≡◌, ◌+◌, arith, drop, false, length, Some, None}
use Rattle.gx_syntax_tokens.specs.Quotes.{closing_quote, unescaped_from}
use Rattle.gx_syntax_tokens.proofs.ScanLemmas.{quoted-ends, quoted-first, quoted-found, quoted-last, quoted-long, quoted-open}
use Rattle.gx_syntax_tokens.proofs.lexer.quoted.Goals as goal

pub returns-in_default : goal.returns-in_default
returns-in_default c =
    let open_text : closing_quote false (drop (c.args.at + 1) c.args.text.now) ≡ None = cc (c.in_default.ensures) in
    quoted-open c.args.text.now c.args.at open_text

pub overflow_add-len : goal.overflow_add-len
overflow_add-len c =
    let closes : closing_quote false (drop (c.args.at + 1) c.args.text.now) ≡ Some c.in-Some.len = cc (c.in-Some.ensures) in
    omega (arith, (quoted-ends _ c.args.at c.in-Some.len c.requires.within c.requires.quote closes).within)

pub slice-quoted-requires : goal.slice-quoted-requires
slice-quoted-requires c =
    let closes : closing_quote false (drop (c.args.at + 1) c.args.text.now) ≡ Some c.in-Some.len = cc (c.in-Some.ensures) in
    quoted-ends _ _ c.in-Some.len c.requires.within c.requires.quote closes

pub inside-raw-requires-clause-first : goal.inside-raw-requires-clause-first
inside-raw-requires-clause-first c = quoted-first c.args.text.now _ c.args.at c.in-Some.len c.requires.quote c.slice-quoted.ensures

pub inside-raw-requires-clause-last : goal.inside-raw-requires-clause-last
inside-raw-requires-clause-last c =
    let closes : closing_quote false (drop (c.args.at + 1) c.args.text.now) ≡ Some c.in-Some.len = cc (c.in-Some.ensures) in
    quoted-last c.args.text.now _ c.args.at c.in-Some.len closes c.slice-quoted.ensures

pub returns-then-value_len-gt-MOST_TEXT_BYTES : goal.returns-then-value_len-gt-MOST_TEXT_BYTES
returns-then-value_len-gt-MOST_TEXT_BYTES c =
    let closes : closing_quote false (drop (c.args.at + 1) c.args.text.now) ≡ Some c.in-Some.len = cc (c.in-Some.ensures) in
    let len : c.value_len.result ≡ length (unescaped_from false c.inside-raw.result.now) = cc in
    quoted-long c.args.text.now _ c.inside-raw.result.now c.args.at c.in-Some.len closes c.slice-quoted.ensures c.inside-raw.ensures.slice (omega (arith, len, c.if-value_len-gt-MOST_TEXT_BYTES.true))

pub returns : goal.returns
returns c =
    let closes : closing_quote false (drop (c.args.at + 1) c.args.text.now) ≡ Some c.in-Some.len = cc (c.in-Some.ensures) in
    let len : c.value_len.result ≡ length (unescaped_from false c.inside-raw.result.now) = cc in
    quoted-found c.args.text.now c.args.at c.in-Some.len c.slice-quoted.result c.inside-raw.result closes c.slice-quoted.ensures c.inside-raw.ensures.slice c.inside-raw.ensures.between_quotes
    (omega (arith, len, c.if-value_len-gt-MOST_TEXT_BYTES.false))
