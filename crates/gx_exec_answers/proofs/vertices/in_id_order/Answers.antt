use Rattle.std.proofs.Common.{rules, ◌∙◌, ap}
use Rattle.std.proofs.lemmas.List.Sorted.{answers_always}
use Rattle.gx_exec_answers.specs.VertexOrder.{id_order_of}
use Rattle.gx_exec_answers.specs.VertexOrderLaws.{id_order_of-stable}
use Rattle.gx_exec_answers.proofs.vertices.in_id_order.Goals as goal

pub returns : goal.returns
returns c =
    let by_id = answers_always _ _ _ (λ f a r f' k. search rules) in
    id_order_of-stable (λ v. (v.0, v.1.now)) c.in_ok-vertices.vertices.items c.sort_by_key.new.self.items
    (c.in_ok-sort_by_key.ensures.sorted (λ v. v.0) by_id) (c.in_ok-sort_by_key.ensures.stable (λ v. v.0) by_id)
    ∙ ap id_order_of c.in_ok-vertices.ensures
