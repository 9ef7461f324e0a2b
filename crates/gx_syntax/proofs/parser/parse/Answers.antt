use Rattle.std.proofs.Common.{◌≡◌, ◌∙◌, ap, subst}
use Rattle.gx_syntax_tokens.specs.Lexing.{tokens_of}
use Rattle.gx_syntax_tokens.specs.TokenTexts.{token_stream_of}
use Rattle.std.specs.Prelude.{IfSome}
use Rattle.gx_syntax.specs.Meanings.{meaning_of_result}
use Rattle.gx_syntax.specs.Texts.{IsMeaning}
use Rattle.gx_syntax.proofs.ParserLemmas.{claimed}
use Rattle.gx_syntax.proofs.parser.parse.Goals as goal

pub returns : goal.returns
returns c =
    let same : token_stream_of c.as_slice.result.now c.in_ok-tokens.end ≡ tokens_of c.args.text.now = ap (λ items. token_stream_of items c.in_ok-tokens.end) c.as_slice.ensures.value ∙ c.in_ok-tokens.ensures.tokens in
    record {
      means = claimed c.texts_have_one_meaning.ensures (tokens_of c.args.text.now) (meaning_of_result c.parse_tokens.result)
          (subst (λ l. IfSome (meaning_of_result c.parse_tokens.result) (IsMeaning l)) same c.parse_tokens.ensures);
    }
