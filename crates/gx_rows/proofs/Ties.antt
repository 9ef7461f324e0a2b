-- What the orders of values, rows and edges do not tell apart is equal.
use Rattle.std.proofs.Common.{◌≡◌, ◌↔◌, ℤ, Bool, true, false, List, [], ◌∷◌, refl, sym, ap, subst}
use Rattle.std.specs.declared.cmp.Ordering.{Ordering}
use Rattle.std.specs.declared.cmp.Ordering.TheVariants.{Less, Equal, Greater}
use Rattle.std.specs.Cmp.{IsTotalOrder}
use Rattle.std.specs.Cmp.Lexicographic.{slice_cmp}
use Rattle.std.specs.Ordering.{nat_cmp, int_cmp, bool_cmp, ordering_then}
use Rattle.std.proofs.lemmas.Cmp.{ranked, int_ranked, tied_itself}
use Rattle.gx_rows.specs.declared.value.Value.{Value}
use Rattle.gx_rows.specs.declared.value.Value.TheVariants.{Int, Text, Bool as Truth, Ids}
use Rattle.gx_rows.specs.Order.{Edge, value_cmp, row_cmp, edge_cmp, value_cmp-total, row_cmp-total, edge_cmp-total}

first-tied : (a b : Ordering) → ordering_then a b ≡ Equal → a ≡ Equal
first-tied Less b e = e
first-tied Equal b e = refl
first-tied Greater b e = e

rest-tied : (a b : Ordering) → ordering_then a b ≡ Equal → b ≡ Equal
rest-tied Less b e = cc
rest-tied Equal b e = e
rest-tied Greater b e = cc

int-tied : (a b : ℤ) → int_cmp a b ≡ Equal → a ≡ b
int-tied a b e = int_ranked a b Equal (sym e)

bool-tied : (a b : Bool) → bool_cmp a b ≡ Equal → a ≡ b
bool-tied false false e = refl
bool-tied false true e = cc
bool-tied true false e = cc
bool-tied true true e = refl

list-tied : {K : Type 0} (R : K → K → Ordering) → ((x y : K) → R x y ≡ Equal → x ≡ y)
    → (xs ys : List K) → slice_cmp R xs ys ≡ Equal → xs ≡ ys
list-tied R t [] [] e = refl
list-tied R t [] (y ∷ ys) e = cc
list-tied R t (x ∷ xs) [] e = cc
list-tied R t (x ∷ xs) (y ∷ ys) e =
    let p = t x y (first-tied _ _ e) in
    let q = list-tied R t xs ys (rest-tied (R x y) _ e) in
    λ i. p i ∷ q i

value-tied : (a b : Value) → value_cmp a b ≡ Equal → a ≡ b
value-tied (Int a) (Int b) e = ap Int (int-tied a b e)
value-tied (Int a) (Text b) e = cc
value-tied (Int a) (Truth b) e = cc
value-tied (Int a) (Ids b) e = cc
value-tied (Text a) (Int b) e = cc
value-tied (Text a) (Text b) e = ap Text (list-tied nat_cmp (λ x y h. ranked x y Equal (sym h)) a b e)
value-tied (Text a) (Truth b) e = cc
value-tied (Text a) (Ids b) e = cc
value-tied (Truth a) (Int b) e = cc
value-tied (Truth a) (Text b) e = cc
value-tied (Truth a) (Truth b) e = ap Truth (bool-tied a b e)
value-tied (Truth a) (Ids b) e = cc
value-tied (Ids a) (Int b) e = cc
value-tied (Ids a) (Text b) e = cc
value-tied (Ids a) (Truth b) e = cc
value-tied (Ids a) (Ids b) e = ap Ids (list-tied int_cmp int-tied a b e)

row-tied : (r s : List Value) → row_cmp r s ≡ Equal → r ≡ s
row-tied = list-tied value_cmp value-tied

edge-tied : (e f : Edge) → edge_cmp e f ≡ Equal → e ≡ f
edge-tied e f h =
    let rest = rest-tied (int_cmp e.0.0 f.0.0) _ h in
    let p = int-tied e.0.0 f.0.0 (first-tied _ _ h) in
    let q = int-tied e.1.0 f.1.0 (first-tied _ _ rest) in
    let r = row-tied e.2 f.2 (rest-tied (int_cmp e.1.0 f.1.0) _ rest) in
    λ i. (record { 0 = p i }, record { 0 = q i }, r i)

-- a total order whose ties are equal ties exactly what is equal
ties-exactly : {K : Type 0} {R : K → K → Ordering} → IsTotalOrder R
    → ((x y : K) → R x y ≡ Equal → x ≡ y) → (x y : K) → (R x y ≡ Equal) ↔ (x ≡ y)
ties-exactly {K} {R} o t x y = (t x y, λ e. subst (λ z. R x z ≡ Equal) e (tied_itself o x))

pub equal_values : (a b : Value) → (value_cmp a b ≡ Equal) ↔ (a ≡ b)
equal_values = ties-exactly value_cmp-total value-tied

pub equal_rows : (r s : List Value) → (row_cmp r s ≡ Equal) ↔ (r ≡ s)
equal_rows = ties-exactly row_cmp-total row-tied

pub equal_edges : (e f : Edge) → (edge_cmp e f ≡ Equal) ↔ (e ≡ f)
equal_edges = ties-exactly edge_cmp-total edge-tied
