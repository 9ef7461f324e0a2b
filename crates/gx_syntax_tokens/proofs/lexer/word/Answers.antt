use Rattle.std.specs.List.{prefix_len}
use Rattle.std.proofs.Common.{◌≡◌, arith, drop}
use Rattle.gx_syntax_tokens.specs.Lexing.{is_word_byte}
use Rattle.gx_syntax_tokens.proofs.ScanLemmas.{run-ends, word-found, word-long, word_byte-ascii}
use Rattle.gx_syntax_tokens.proofs.lexer.word.Goals as goal

pub returns-then-len-gt-MOST_WORD_BYTES : goal.returns-then-len-gt-MOST_WORD_BYTES
returns-then-len-gt-MOST_WORD_BYTES c =
    let len : c.word_len-len.result ≡ prefix_len is_word_byte (drop c.args.at c.args.text.now) = cc in
    word-long _ (omega (arith, len, c.if-len-gt-MOST_WORD_BYTES.true))

pub slice-word-requires : goal.slice-word-requires
slice-word-requires c =
    let len : c.word_len-len.result ≡ prefix_len is_word_byte (drop c.args.at c.args.text.now) = cc in
    run-ends is_word_byte word_byte-ascii _ _ _ len c.requires.within c.requires.word_byte

pub returns : goal.returns
returns c =
    let len : c.word_len-len.result ≡ prefix_len is_word_byte (drop c.args.at c.args.text.now) = cc in
    word-found (drop c.args.at c.args.text.now) c.slice-word.result c.word_len-len.result len c.if-len-gt-MOST_WORD_BYTES.false c.slice-word.ensures
