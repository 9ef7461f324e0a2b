use Rattle.std.proofs.Common.{◌≡◌, ◌∙◌, ap, arith, get_or, length, sym, true}
use Rattle.std.proofs.lemmas.Str.{IsCharBoundary-after_ascii}
use Rattle.gx_syntax_tokens.specs.Quotes.{is_escape}
use Rattle.gx_syntax_tokens.proofs.QuoteLemmas.{escape-ascii}
use Rattle.gx_syntax_tokens.proofs.unescaping.split_escape.Goals as goal

pub range_from-rest-requires : goal.range_from-rest-requires
range_from-rest-requires c = λ _. IsCharBoundary-after_ascii c.args.text.now 0 c.utf8.text (omega (arith, c.requires.nonempty)) (omega (arith, c.requires.backslash))

pub range_from-requires : goal.range_from-requires
range_from-requires c = λ _.
    let bytes : c.as_bytes.result.now ≡ c.range_from-rest.result.now = c.as_bytes.ensures.value in
    let escape : is_escape (get_or c.range_from-rest.result.now 0 0) ≡ true = ap (λ l. is_escape (get_or l 0 0)) (sym bytes) ∙ sym c.is_escape.ensures ∙ c.if-is_escape.true in
    IsCharBoundary-after_ascii c.range_from-rest.result.now 0 c.range_from-rest.utf8 (omega (arith, c.in-len1-up.len_at_least, ap length bytes)) (escape-ascii _ escape)
