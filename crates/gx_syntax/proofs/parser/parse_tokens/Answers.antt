use Rattle.std.proofs.Common.{take}
use Rattle.gx_syntax_tokens.specs.TokenTexts.{token_stream_of}
use Rattle.gx_syntax_exprs.specs.Parses.{terminals_of}
use Rattle.gx_syntax_stmts.specs.Refusals.{IsRefusedAt}
use Rattle.gx_syntax.proofs.ParserLemmas.{passed_on, refused_at_end, refused_at_stop, refused_at_token, parsed_to_end, parsed_to_stop}
use Rattle.gx_syntax.proofs.parser.parse_tokens.Goals as goal

pub returns-in_err-after-in-Ok : goal.returns-in_err-after-in-Ok
returns-in_err-after-in-Ok c =
    passed_on (token_stream_of c.args.tokens.now c.args.end) c.in_err-after-in-Ok.field-0.0 c.from_residual.result c.from_residual.ensures.1
    (parsed_to_stop c.args.tokens.now c.args.end c.len_within_limit-allowed.result c.len_within_limit-allowed.ensures c.in_err-after-in-Ok.field-0.0 c.in-Ok.script.statements c.in-Ok.ensures.parses c.in_err-after-in-Ok.ensures)

pub returns-in_ok-after-in-Ok : goal.returns-in_ok-after-in-Ok
returns-in_ok-after-in-Ok c = parsed_to_end c.args.tokens.now c.args.end c.len_within_limit-allowed.result c.len_within_limit-allowed.ensures c.in_ok-after-in-Ok.field-0 c.in-Ok.script.statements c.in-Ok.ensures.parses c.in_ok-after-in-Ok.ensures

pub returns-in-Err-At : goal.returns-in-Err-At
returns-in-Err-At c =
    let refused : IsRefusedAt (terminals_of (take c.len_within_limit-allowed.result c.args.tokens.now)) c.in-Err-At.at = rw c.in-Err-At.field-0-is at c.in-Err-At.ensures.parses in
    refused_at_token c.args.tokens.now c.args.end c.len_within_limit-allowed.result c.len_within_limit-allowed.ensures c.in-Err-At.at refused _ c.if-at-allowed.true

pub returns-in_ok-after-in-Err-At-2 : goal.returns-in_ok-after-in-Err-At-2
returns-in_ok-after-in-Err-At-2 c =
    let refused : IsRefusedAt (terminals_of (take c.len_within_limit-allowed.result c.args.tokens.now)) c.in-Err-At.at = rw c.in-Err-At.field-0-is at c.in-Err-At.ensures.parses in
    refused_at_end c.args.tokens.now c.args.end c.len_within_limit-allowed.result c.len_within_limit-allowed.ensures c.in-Err-At.at refused c.in_ok-after-in-Err-At-2.field-0 c.if-at-allowed.false c.in_ok-after-in-Err-At-2.ensures

pub returns-in_err-after-in-Err-At-2 : goal.returns-in_err-after-in-Err-At-2
returns-in_err-after-in-Err-At-2 c =
    let refused : IsRefusedAt (terminals_of (take c.len_within_limit-allowed.result c.args.tokens.now)) c.in-Err-At.at = rw c.in-Err-At.field-0-is at c.in-Err-At.ensures.parses in
    passed_on (token_stream_of c.args.tokens.now c.args.end) c.in_err-after-in-Err-At-2.field-0.0 c.from_residual-in_err-after-in-Err-At-2.result c.from_residual-in_err-after-in-Err-At-2.ensures.1
    (refused_at_stop c.args.tokens.now c.args.end c.len_within_limit-allowed.result c.len_within_limit-allowed.ensures c.in-Err-At.at refused c.in_err-after-in-Err-At-2.field-0.0 c.if-at-allowed.false c.in_err-after-in-Err-At-2.ensures)
