use Rattle.std.specs.Char.{is_ascii_alphabetic, is_ascii_digit}
use Rattle.std.proofs.Common.{◌≡◌, ◌≢◌, get_or, true, false}
use Rattle.std.proofs.lemmas.Bool.{eq-eqb, ne_eqb}
use Rattle.gx_syntax_tokens.specs.Lexing.{token_at}
use Rattle.gx_syntax_tokens.proofs.ScanLemmas.{first_byte}
use Rattle.gx_syntax_tokens.proofs.lexer.token.Goals as goal

pub returns-then-is_ascii_alphabetic : goal.returns-then-is_ascii_alphabetic
unfolding token_at
returns-then-is_ascii_alphabetic c =
    let word : is_ascii_alphabetic (get_or c.args.text.now c.args.at 0) ≡ true = cc in
    rw (first_byte c.args.text.now c.args.at, word) c.word.ensures

pub returns-then-is_ascii_digit : goal.returns-then-is_ascii_digit
unfolding token_at
returns-then-is_ascii_digit c =
    let not_word : is_ascii_alphabetic (get_or c.args.text.now c.args.at 0) ≡ false = cc in
    let number : is_ascii_digit (get_or c.args.text.now c.args.at 0) ≡ true = cc in
    rw (first_byte c.args.text.now c.args.at, not_word, number) c.number.ensures

pub returns-then-first-eq34 : goal.returns-then-first-eq34
unfolding token_at
returns-then-first-eq34 c =
    let not_word : is_ascii_alphabetic (get_or c.args.text.now c.args.at 0) ≡ false = cc in
    let not_number : is_ascii_digit (get_or c.args.text.now c.args.at 0) ≡ false = cc in
    let quote : get_or c.args.text.now c.args.at 0 ≡ 34 = cc in
    rw (first_byte c.args.text.now c.args.at, not_word, not_number, eq-eqb _ 34 quote) c.quoted.ensures

pub returns-else-first-eq34 : goal.returns-else-first-eq34
unfolding token_at
returns-else-first-eq34 c =
    let not_word : is_ascii_alphabetic (get_or c.args.text.now c.args.at 0) ≡ false = cc in
    let not_number : is_ascii_digit (get_or c.args.text.now c.args.at 0) ≡ false = cc in
    let no_quote : get_or c.args.text.now c.args.at 0 ≢ 34 = rw c.as_bytes.ensures.value at c.if-first-eq34.false in
    rw (first_byte c.args.text.now c.args.at, not_word, not_number, ne_eqb _ 34 no_quote) c.symbol.ensures
