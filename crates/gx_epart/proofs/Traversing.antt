-- The loops over the edges of a partition by position.
use Rattle.std.proofs.Common.{◌≡◌, ℕ, suc, ◌+◌, ◌<◌, List, ◌∷◌, Some, Result, Ok, Err, drop, length, slice_get, arith}
use Rattle.std.proofs.lemmas.Option.{get_or_from_slice_get, slice_get_within}
use Rattle.std.proofs.Math.Seq.{drop-cons}
use Rattle.gx_rows.specs.declared.eval_stop.EvalStop.{EvalStop}
use Rattle.gx_rows.specs.declared.part_stop.PartStop.{PartStop}
use Rattle.gx_rows.specs.declared.part_stop.PartStop.TheVariants as part_stop
use Rattle.gx_rows.specs.declared.row_key.RowKey.{RowKey}
use Rattle.gx_traverse.specs.Traversal.{IsTraversal}

-- the item at a position is the first of those from there on
pub drop-at : {X : Type 0} (xs : List X) (i : ℕ) (x : X) → slice_get xs i ≡ Some x → drop i xs ≡ x ∷ drop (i + 1) xs
drop-at xs i x at =
    let within : i < length xs = slice_get_within xs i x at in
    let next : suc i ≡ i + 1 = omega arith in
    rw (next, get_or_from_slice_get xs i x x at) at (drop-cons xs i x within)

-- a refusal says nothing of what is made of the values
pub IsTraversal-Err : {A B V W : Type 0} {returns : A → Result B EvalStop → Type 0} {key : A → RowKey} {xs : List A} {makes : List B → V → Type 0} (makes' : List B → W → Type 0) (stop : PartStop)
    → IsTraversal returns key xs makes (Err stop) → IsTraversal returns key xs makes' (Err stop)
IsTraversal-Err makes' part_stop.NoMemory traversal = record { says = tt }
IsTraversal-Err makes' (part_stop.Fault key expr cause) traversal = record { says = traversal.says }

-- what is made of the values themselves may be made of what holds them
pub IsTraversal-Ok : {A B V W : Type 0} {returns : A → Result B EvalStop → Type 0} {key : A → RowKey} {xs : List A} (seen : V → List B) (makes : List B → W → Type 0) (values : V) (new : W)
    → IsTraversal returns key xs (λ ys v. seen v ≡ ys) (Ok values) → makes (seen values) new → IsTraversal returns key xs makes (Ok new)
IsTraversal-Ok {returns = returns} {xs = xs} seen makes values new traversal made =
    let said = traversal.says in
    record { says = (seen values, rw said.2 said.1, made) }
