use Rattle.std.proofs.Common.{◌≡◌, Result, Ok, Err, List, ℤ, IfOk, IsPermutation, IsSorted}
use Rattle.std.specs.Ordering.{int_cmp}
use Rattle.gx_load.specs.Ascending.{ascending}
use Rattle.gx_load.proofs.AscendingLemmas.{sorted_is_ascending}
use Rattle.gx_load.proofs.cell_value.sorted_list.Goals as goal

if_ok : {E : Type 0} (r : Result (List ℤ) E) (xs : List ℤ) → IfOk r (λ l. IsSorted int_cmp l) → IfOk r (λ l. IsPermutation xs l) → IfOk r (λ l. l ≡ ascending xs)
if_ok (Ok l) xs sorted same = sorted_is_ascending xs l sorted same
if_ok (Err e) xs sorted same = tt

pub returns : goal.returns
returns c = if_ok c.of.result c.args.numbers.now c.of.ensures.sorted c.of.ensures.same
