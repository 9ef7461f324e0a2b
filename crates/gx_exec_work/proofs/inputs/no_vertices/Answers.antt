use Rattle.std.proofs.Common.{◌≡◌, List, [], IsPermutation, subst}
use Rattle.std.specs.List.{IsDistinct}
use Rattle.std.proofs.lemmas.Result.{IfOk-weaker}
use Rattle.gx_gops.specs.RowLaws.{none_are_left}
use Rattle.gx_vpart.specs.Operators.{VertexRow}
use Rattle.gx_exec_work.proofs.inputs.no_vertices.Goals as goal

pub of-requires-clause-distinct : goal.of-requires-clause-distinct
unfolding IsDistinct
of-requires-clause-distinct c = rw c.new.ensures.items tt

pub returns : goal.returns
returns c =
    IfOk-weaker c.of.result (λ part. IsPermutation c.new.result.items part) (λ part. part ≡ [])
    (λ part same. none_are_left part (subst (λ (rs : List VertexRow). IsPermutation rs part) c.new.ensures.items same)) c.of.ensures.same
