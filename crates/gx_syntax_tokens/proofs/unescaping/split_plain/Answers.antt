use Rattle.std.specs.Prelude.{IsCharBoundary}
use Rattle.std.specs.List.{prefix_len}
use Rattle.std.proofs.Common.{◌≡◌, subst}
use Rattle.gx_syntax_tokens.specs.Scanning.{is_not_backslash}
use Rattle.gx_syntax_tokens.proofs.QuoteLemmas.{backslash-ascii}
use Rattle.gx_syntax_tokens.proofs.RunLemmas.{run-boundary}
use Rattle.gx_syntax_tokens.proofs.unescaping.split_plain.Goals as goal

pub split_at-requires : goal.split_at-requires
split_at-requires c =
    let len : prefix_len is_not_backslash c.args.text.now ≡ c.plain_len.result = cc in
    subst (IsCharBoundary c.args.text.now) len (run-boundary is_not_backslash backslash-ascii c.args.text.now)
