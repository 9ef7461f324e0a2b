use Rattle.std.proofs.Common.{◌≡◌, List, [], IsPermutation, ap, ◌∙◌, subst}
use Rattle.std.proofs.lemmas.Result.{IfOk-weaker}
use Rattle.gx_exec_contents.specs.PartContents.{Edges}
use Rattle.gx_exec_work.specs.Works.{shown}
use Rattle.gx_gops.specs.RowLaws.{none_are_left}
use Rattle.gx_rows.specs.Order.{Edge}
use Rattle.gx_exec_work.proofs.kernels.no_edges.Goals as goal

pub returns : goal.returns
returns c =
    let edges = c.in_ok-from_edges.field-0 in
    let none : edges ≡ [] = none_are_left edges (subst (λ (es : List Edge). IsPermutation es edges) c.new.ensures.items c.in_ok-from_edges.ensures.same) in
    IfOk-weaker c.edges_block.result (λ b. shown b ≡ Edges edges) (λ b. shown b ≡ Edges []) (λ b e. e ∙ ap Edges none) c.edges_block.ensures
