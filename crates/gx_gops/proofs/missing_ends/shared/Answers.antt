use Rattle.std.proofs.Common.{◌≡◌, ◌∙◌}
use Rattle.gx_vpart.specs.Operators.{minus}
use Rattle.gx_gops.specs.RowLaws.{minus-none}
use Rattle.std.proofs.lemmas.Result.{IfOk-weaker}
use Rattle.gx_gops.proofs.missing_ends.shared.Goals as goal

pub returns : goal.returns
returns c =
    let rows = c.args.rows.now in
    let none = c.in_ok-no_rows.field-0 in
    IfOk-weaker c.minus-2.result (λ new. new ≡ minus rows none) (λ same. same ≡ rows) (λ new e. e ∙ minus-none rows none c.in_ok-no_rows.ensures) c.minus-2.ensures
