-- Edges that the order of edges does not tell apart are equal.
use Rattle.std.proofs.Common.{◌≡◌, ◌↔◌, Bool, true, false, List, [], ◌∷◌, refl, ap, subst}
use Rattle.std.specs.declared.cmp.Ordering.{Ordering}
use Rattle.std.specs.declared.cmp.Ordering.TheVariants.{Less, Equal, Greater}
use Rattle.std.specs.Cmp.Lexicographic.{slice_cmp}
use Rattle.std.specs.Ordering.{bool_cmp, int_cmp, ordering_then}
use Rattle.std.proofs.lemmas.Cmp.{tied_itself}
use Rattle.std.proofs.lemmas.Map.Lookups.{exact_bytes, exact_signed}
use Rattle.gx_rows.specs.Order.{Edge, edge_cmp, edge_cmp-total, value_cmp}
use Rattle.gx_rows.specs.declared.value.Value.{Value}
use Rattle.gx_rows.specs.declared.value.Value.TheVariants.{Int, Text, Bool as Truth, Ids}

first-equal : (a b : Ordering) → ordering_then a b ≡ Equal → a ≡ Equal
first-equal Less b e = e
first-equal Equal b e = refl
first-equal Greater b e = e

second-equal : (a b : Ordering) → ordering_then a b ≡ Equal → b ≡ Equal
second-equal Less b e = cc
second-equal Equal b e = e
second-equal Greater b e = cc

lists-exact : {K : Type 0} (R : K → K → Ordering) → ((x y : K) → R x y ≡ Equal → x ≡ y) → (xs ys : List K) → slice_cmp R xs ys ≡ Equal → xs ≡ ys
lists-exact R exact [] [] e = refl
lists-exact R exact [] (y ∷ ys) e = cc
lists-exact R exact (x ∷ xs) [] e = cc
lists-exact R exact (x ∷ xs) (y ∷ ys) e =
    let first = exact x y (first-equal (R x y) _ e) in
    let rest = lists-exact R exact xs ys (second-equal (R x y) _ e) in
    λ i. first i ∷ rest i

truths-exact : (a b : Bool) → bool_cmp a b ≡ Equal → a ≡ b
truths-exact false false e = refl
truths-exact true true e = refl
truths-exact _ _ e = cc

values-exact : (a b : Value) → value_cmp a b ≡ Equal → a ≡ b
values-exact (Int a) (Int b) e = ap Int (exact_signed a b e)
values-exact (Text a) (Text b) e = ap Text (exact_bytes a b e)
values-exact (Truth a) (Truth b) e = ap Truth (truths-exact a b e)
values-exact (Ids a) (Ids b) e = ap Ids (lists-exact int_cmp exact_signed a b e)
values-exact _ _ e = cc

edges-exact : (e f : Edge) → edge_cmp e f ≡ Equal → e ≡ f
edges-exact e f tied =
    let rest = second-equal (int_cmp e.0.0 f.0.0) _ tied in
    let src = exact_signed e.0.0 f.0.0 (first-equal (int_cmp e.0.0 f.0.0) _ tied) in
    let dst = exact_signed e.1.0 f.1.0 (first-equal (int_cmp e.1.0 f.1.0) _ rest) in
    let row = lists-exact value_cmp values-exact e.2 f.2 (second-equal (int_cmp e.1.0 f.1.0) _ rest) in
    λ i. (record { 0 = src i }, record { 0 = dst i }, row i)

-- the order of edges ties exactly what is equal
pub edge_cmp-exact : (e f : Edge) → (edge_cmp e f ≡ Equal) ↔ (e ≡ f)
edge_cmp-exact e f = (edges-exact e f, λ same. subst (λ g. edge_cmp e g ≡ Equal) same (tied_itself edge_cmp-total e))
