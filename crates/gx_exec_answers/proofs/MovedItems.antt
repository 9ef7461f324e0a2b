-- Lists that grow by the items of another list, one by one.
use Rattle.std.proofs.Common.{◌≡◌, ℕ, suc, ◌+◌, ◌<◌, List, [], ◌∷◌, ◌++◌, Some, drop, length, map, slice_get, append_assoc, sym, ap, ◌∙◌, arith}
use Rattle.std.proofs.lemmas.List.{map_push}
use Rattle.std.proofs.lemmas.Option.{get_or_from_slice_get, slice_get_within}
use Rattle.std.proofs.Math.Seq.{drop-cons}

-- the item at a position is the first of those from there on
drop-item : {X : Type 0} (xs : List X) (i : ℕ) (x : X) → slice_get xs i ≡ Some x → drop i xs ≡ x ∷ drop (i + 1) xs
drop-item xs i x at =
    let within : i < length xs = slice_get_within xs i x at in
    let next : suc i ≡ i + 1 = omega arith in
    rw (next, get_or_from_slice_get xs i x x at) at (drop-cons xs i x within)

-- with the item at a position, those so far and those from the next position on are all
pub item-moved : {X : Type 0} (made new all whole : List X) (i : ℕ) (x : X) → slice_get all i ≡ Some x → new ≡ made ++ x ∷ [] → made ++ drop i all ≡ whole → new ++ drop (i + 1) all ≡ whole
item-moved made new all whole i x at pushed so_far =
    ap (λ xs. xs ++ drop (i + 1) all) pushed
    ∙ append_assoc made (x ∷ []) (drop (i + 1) all)
    ∙ ap (λ xs. made ++ xs) (sym (drop-item all i x at))
    ∙ so_far

-- the same for items that are seen as others
pub seen-moved : {X Y : Type 0} (seen : X → Y) (made new : List X) (all whole : List Y) (i : ℕ) (x : X)
    → slice_get all i ≡ Some (seen x) → new ≡ made ++ x ∷ [] → map seen made ++ drop i all ≡ whole → map seen new ++ drop (i + 1) all ≡ whole
seen-moved seen made new all whole i x at pushed so_far =
    item-moved (map seen made) (map seen new) all whole i (seen x) at (ap (map seen) pushed ∙ map_push seen made x) so_far
