use Rattle.std.specs.Prelude.{IsCharBoundary}
use Rattle.std.specs.List.{prefix_len}
use Rattle.std.proofs.Common.{◌≡◌, subst}
use Rattle.gx_syntax_tokens.specs.Scanning.{is_unescaped_byte}
use Rattle.gx_syntax_tokens.proofs.QuoteLemmas.{special-ascii}
use Rattle.gx_syntax_tokens.proofs.RunLemmas.{run-boundary}
use Rattle.gx_syntax_tokens.proofs.escaping.split_plain.Goals as goal

pub split_at-requires : goal.split_at-requires
split_at-requires c =
    let len : prefix_len is_unescaped_byte c.args.value.now ≡ c.plain_len.result = cc in
    subst (IsCharBoundary c.args.value.now) len (run-boundary is_unescaped_byte special-ascii c.args.value.now)
