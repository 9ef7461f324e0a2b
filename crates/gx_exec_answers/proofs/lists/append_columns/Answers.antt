use Rattle.std.proofs.Common.{◌++◌, [], ◌∷◌, ap, ◌∙◌}
use Rattle.gx_rows.specs.Columns.{names_of}
use Rattle.gx_exec_answers.proofs.MovedItems.{item-moved}
use Rattle.gx_exec_answers.proofs.lists.append_columns.Goals as goal

pub loop-i-preserved : goal.loop-i-preserved
loop-i-preserved c =
    let made = c.loop-i.header.items in
    item-moved made _ (names_of c.args.columns.now) _ c.loop-i.i c.name.result.now c.name.ensures
    (c.in_ok-append.ensures ∙ ap (λ t. made ++ t ∷ []) c.in_ok-of.ensures) c.loop-i.invariant
