use Rattle.gx_index.specs.Ids.{HasDistinctIds-IsPermutation, HasDistinctIds-from_ascending}
use Rattle.gx_bench.proofs.vertices.vertices.Goals as goal

pub returns : goal.returns
returns c =
    HasDistinctIds-IsPermutation (λ r. r.0) _ _ c.sort_unstable_by_key.ensures.permutation
    (rw (c.in_ok-rows.ensures, c.as_slice.ensures.value) (HasDistinctIds-from_ascending _ c.in_ok-ids.ensures))
