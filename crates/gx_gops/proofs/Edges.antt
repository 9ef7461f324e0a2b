-- The walk over the edges of several partitions.
use Rattle.std.proofs.Common.{◌≡◌, ℕ, suc, ◌+◌, ◌<◌, ◌≤◌, List, [], ◌∷◌, ◌++◌, Some, drop, length, get_or, slice_get, Bool, true, cond, append_assoc, sym, ap, ◌∙◌, subst, arith}
use Rattle.std.specs.List.{filter}
use Rattle.std.specs.Global.{Global}
use Rattle.std.specs.declared.rc.Rc.{Rc}
use Rattle.std.proofs.lemmas.Option.{get_or_from_slice_get, slice_get_within}
use Rattle.std.proofs.Math.Seq.{drop-cons}
use Rattle.gx_rows.specs.Order.{Edge}
use Rattle.gx_gops.specs.AllEdges.{edges_after, edges_of_parts}

-- the item at a position is the first of those from there on
pub drop-at : {X : Type 0} (xs : List X) (i : ℕ) (x : X) → slice_get xs i ≡ Some x → drop i xs ≡ x ∷ drop (i + 1) xs
drop-at xs i x at =
    let within : i < length xs = slice_get_within xs i x at in
    let next : suc i ≡ i + 1 = omega arith in
    rw (next, get_or_from_slice_get xs i x x at) at (drop-cons xs i x within)

-- the edge at a position of the first partition is the first of those that are left
pub edges_after-next : (i : ℕ) (parts : List (Rc (List Edge) Global)) (part : Rc (List Edge) Global) (e : Edge)
    → 1 ≤ length parts → part ≡ get_or parts 0 part → slice_get part.value i ≡ Some e → edges_after i parts ≡ e ∷ edges_after (i + 1) parts
edges_after-next i [] part e some is at = absurd (omega (arith, some))
edges_after-next i (p ∷ parts) part e some is at =
    ap (λ es. es ++ edges_of_parts parts) (drop-at p.value i e (subst (λ (q : Rc (List Edge) Global). slice_get q.value i ≡ Some e) is at))

-- one more item that passes the test
pub filter-next : {X : Type 0} (test : X → Bool) (kept xs rest new all : List X) (x : X)
    → xs ≡ x ∷ rest → test x ≡ true → new ≡ kept ++ x ∷ [] → kept ++ filter test xs ≡ all → new ++ filter test rest ≡ all
filter-next test kept xs rest new all x split passes pushed so_far =
    ap (λ ys. ys ++ filter test rest) pushed
    ∙ append_assoc kept (x ∷ []) (filter test rest)
    ∙ sym (ap (λ b. kept ++ cond b (x ∷ filter test rest) (filter test rest)) passes)
    ∙ sym (ap (λ ys. kept ++ filter test ys) split)
    ∙ so_far
