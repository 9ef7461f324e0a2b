use Rattle.std.proofs.Common.{◌≡◌, ◌∙◌, arith, drop, None}
use Rattle.gx_syntax_tokens.specs.Lexing.{trivia_len, tokens_at}
use Rattle.gx_syntax_tokens.proofs.LexingLemmas.{tokens_at-lex_error, tokens_at-end}
use Rattle.gx_syntax_tokens.proofs.ScanLemmas.{first_token}
use Rattle.gx_syntax_tokens.proofs.lexer.next_at.Goals as goal

pub returns-then-at-text : goal.returns-then-at-text
returns-then-at-text c =
    let same : tokens_at c.args.text.now c.args.from ≡ tokens_at c.args.text.now c.skip_trivia-at.result = cc in
    (same ∙ tokens_at-end c.args.text.now c.skip_trivia-at.result (omega arith), omega arith)

pub returns-in-Ok : goal.returns-in-Ok
returns-in-Ok c =
    let same : tokens_at c.args.text.now c.skip_trivia-at.result ≡ tokens_at c.args.text.now c.args.from = cc in
    let none : trivia_len (drop c.skip_trivia-at.result c.args.text.now) ≡ None = cc in
    first_token c.args.text.now c.args.from c.skip_trivia-at.result c.in-Ok.found same (omega arith) (omega arith) none c.in-Ok.ensures

pub returns-in-Err : goal.returns-in-Err
returns-in-Err c =
    let same : tokens_at c.args.text.now c.args.from ≡ tokens_at c.args.text.now c.skip_trivia-at.result = cc in
    let none : trivia_len (drop c.skip_trivia-at.result c.args.text.now) ≡ None = cc in
    (same ∙ tokens_at-lex_error c.args.text.now c.skip_trivia-at.result c.in-Err.kind (omega arith) none c.in-Err.ensures, omega arith)
