use Rattle.std.proofs.Common.{subst, sym, arith}
use Rattle.std.specs.Prelude.{IsUtf8}
use Rattle.std.proofs.lemmas.Str.{IsUtf8-string_bytes}
use Rattle.gx_rows.specs.Chars.{Fits, bytes_of}
use Rattle.gx_rows.proofs.text.Text.long.Goals as goal

pub invariant_of-result : goal.invariant_of-result
invariant_of-result c =
    subst (λ x. Fits x × IsUtf8 (bytes_of x)) (sym c.in_ok-chars.ensures.ok)
    (omega arith, IsUtf8-string_bytes c.in_ok-boxed.boxed.value)
