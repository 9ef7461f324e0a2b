use Rattle.std.specs.List.{prefix_len}
use Rattle.std.proofs.Common.{◌≡◌, false, length}
use Rattle.gx_syntax_tokens.specs.Quotes.{unescaped_from, unescaped_text}
use Rattle.gx_syntax_tokens.specs.Scanning.{is_not_backslash}
use Rattle.gx_syntax_tokens.proofs.QuoteLemmas.{unescaped-keeps}
use Rattle.gx_syntax_tokens.proofs.RunLemmas.{run-all}
use Rattle.gx_syntax_tokens.proofs.token_value.unescape.Goals as goal

pub returns-then-plain_len-raw : goal.returns-then-plain_len-raw
unfolding unescaped_text
returns-then-plain_len-raw c =
    let all : prefix_len is_not_backslash c.args.raw.now ≡ length c.args.raw.now = cc in
    rw (run-all is_not_backslash (unescaped_from false) unescaped-keeps c.args.raw.now all) c.of.ensures
