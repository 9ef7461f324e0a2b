-- A list of edges has one edge order: two lists with the same sums that rise are equal, and sums do
-- not depend on the order.
use Rattle.std.proofs.Common.{
  ◌≡◌,
  ◌↔◌,
  ℕ,
  ◌+◌,
  Bool,
  true,
  false,
  cond,
  List,
  [],
  ◌∷◌,
  refl,
  sym,
  ap,
  ◌∙◌,
  arith,
}
use Rattle.std.specs.List.{AllByRecursion, sum_by}
use Rattle.std.specs.Ordering.{is_gt, is_lt, ordering_reverse}
use Rattle.std.specs.declared.cmp.Ordering.{Ordering}
use Rattle.std.specs.declared.cmp.Ordering.TheVariants.{Less, Equal, Greater}
use Rattle.std.proofs.lemmas.Cmp.{tied_itself, upto}
use Rattle.std.proofs.lemmas.List.MinMax.{ranks_by}
use Rattle.std.proofs.lemmas.List.Sorted.{sum_by-IsPermutation}
use Rattle.std.proofs.lemmas.List.Sums.{sum_by-cons}
use Rattle.gx_rows.specs.Order.{Edge, edge_cmp, edge_cmp-total}
use Rattle.gx_epart.specs.Edges.{IsEdgeOrderOf, edge_order_of, with_edge}
use Rattle.gx_epart.specs.OrderLaws.{Rises, Rises-from_sorted}

abbrev edge_lt : Edge → Edge → Bool
edge_lt e f = is_lt (edge_cmp e f)

lt-turned : (r : Ordering) → is_lt (ordering_reverse r) ≡ is_gt r
lt-turned Less = refl
lt-turned Equal = refl
lt-turned Greater = refl

lt-gt : (e f : Edge) → edge_lt e f ≡ is_gt (edge_cmp f e)
lt-gt e f = ap is_lt (edge_cmp-total.antisymm e f) ∙ lt-turned (edge_cmp f e)

gt-if-lt : (r : Ordering) → is_lt r ≡ true → is_gt r ≡ false
gt-if-lt Less less = refl
gt-if-lt Equal less = cc
gt-if-lt Greater less = cc

not_less : (e f g : Edge) → edge_lt f e ≡ false → edge_lt g f ≡ false → edge_lt g e ≡ false
not_less e f g first second =
    lt-gt g e ∙ upto edge_cmp-total e f g (sym (lt-gt f e) ∙ first) (sym (lt-gt g f) ∙ second)

-- ---- one more edge

All-with : (P : Edge → Type 0) (e : Edge) (edges : List Edge) → P e → AllByRecursion P edges
    → AllByRecursion P (with_edge e edges)
All-with P e [] one all = (one, tt)
All-with P e (f ∷ edges) one all = by (edge_lt e f) (All-with P e edges one all.1)
  where
    by : (b : Bool) → AllByRecursion P (with_edge e edges)
        → AllByRecursion P (cond b (e ∷ f ∷ edges) (f ∷ with_edge e edges))
    by true more = (one, all)
    by false more = (all.0, more)

All-not_less : (e f : Edge) (edges : List Edge) → edge_lt f e ≡ false
    → AllByRecursion (λ g. edge_lt g f ≡ false) edges
    → AllByRecursion (λ g. edge_lt g e ≡ false) edges
All-not_less e f [] first all = tt
All-not_less e f (g ∷ edges) first all =
    (not_less e f g first all.0, All-not_less e f edges first all.1)

Rises-with : (e : Edge) (edges : List Edge) → Rises edge_lt edges
    → Rises edge_lt (with_edge e edges)
Rises-with e [] rises = (tt, tt)
Rises-with e (f ∷ edges) rises = by (edge_lt e f) refl (Rises-with e edges rises.1)
  where
    by : (b : Bool) → edge_lt e f ≡ b → Rises edge_lt (with_edge e edges)
        → Rises edge_lt (cond b (e ∷ f ∷ edges) (f ∷ with_edge e edges))
    by true less more =
        let first : edge_lt f e ≡ false = lt-gt f e ∙ gt-if-lt (edge_cmp e f) less in
        ((first, All-not_less e f edges first rises.0), rises)
    by false less more = (All-with (λ g. edge_lt g f ≡ false) e edges less rises.0, more)

Rises-edge_order_of : (edges : List Edge) → Rises edge_lt (edge_order_of edges)
Rises-edge_order_of [] = tt
Rises-edge_order_of (e ∷ edges) = Rises-with e (edge_order_of edges) (Rises-edge_order_of edges)

module _ (f : Edge → ℕ) where
  sum-with : (e : Edge) (edges : List Edge) → sum_by f (with_edge e edges) ≡ f e + sum_by f edges
  sum-with e [] = sum_by-cons f e []
  sum-with e (g ∷ edges) = by (edge_lt e g) (sum-with e edges)
    where
      by : (b : Bool) → sum_by f (with_edge e edges) ≡ f e + sum_by f edges
          → sum_by f (cond b (e ∷ g ∷ edges) (g ∷ with_edge e edges)) ≡ f e + sum_by f (g ∷ edges)
      by true more = sum_by-cons f e (g ∷ edges)
      by false more = omega
          (arith, sum_by-cons f g (with_edge e edges), sum_by-cons f g edges, more)

  sum-edge_order_of : (edges : List Edge) → sum_by f (edge_order_of edges) ≡ sum_by f edges
  sum-edge_order_of [] = refl
  sum-edge_order_of (e ∷ edges) =
      omega (
        arith,
        sum-with e (edge_order_of edges),
        sum-edge_order_of edges,
        sum_by-cons f e edges,
      )

-- ---- lists that rise

-- 1 for an edge that is less than this
abbrev one_if_less : Edge → Edge → ℕ
one_if_less e f = cond (edge_lt f e) 1 0

none_less : (e : Edge) (edges : List Edge) → AllByRecursion (λ f. edge_lt f e ≡ false) edges
    → sum_by (one_if_less e) edges ≡ 0
none_less e [] all = refl
none_less e (f ∷ edges) all =
    let first : one_if_less e f ≡ 0 = rw all.0 refl in
    omega (arith, sum_by-cons (one_if_less e) f edges, first, none_less e edges all.1)

least_first : (e : Edge) (edges : List Edge) → Rises edge_lt (e ∷ edges)
    → sum_by (one_if_less e) (e ∷ edges) ≡ 0
least_first e edges rises =
    none_less e (e ∷ edges) (ap is_lt (tied_itself edge_cmp-total e), rises.0)

first_not_less : (e f : Edge) (edges : List Edge) → sum_by (one_if_less f) (e ∷ edges) ≡ 0
    → edge_lt e f ≡ false
first_not_less e f edges none =
    let first : one_if_less f e ≡ 0 = omega (arith, sum_by-cons (one_if_less f) e edges, none) in
    by (edge_lt e f) (one_if_less f e) refl first
  where
    by : (b : Bool) (n : ℕ) → n ≡ cond b 1 0 → n ≡ 0 → b ≡ false
    by true n is none = absurd (omega (arith, is, none))
    by false n is none = refl

tie : (r : Ordering) → is_lt r ≡ false → is_gt r ≡ false → r ≡ Equal
tie Less less greater = cc
tie Equal less greater = refl
tie Greater less greater = cc

module _ (exact : (e f : Edge) → (edge_cmp e f ≡ Equal) ↔ (e ≡ f)) where
  same_if_rises : (xs ys : List Edge) → Rises edge_lt xs → Rises edge_lt ys
      → ((f : Edge → ℕ) → sum_by f xs ≡ sum_by f ys) → xs ≡ ys
  same_if_rises [] [] rises_x rises_y same = refl
  same_if_rises [] (y ∷ ys) rises_x rises_y same =
      absurd (omega (arith, same (λ e. 1), sum_by-cons (λ e. 1) y ys))
  same_if_rises (x ∷ xs) [] rises_x rises_y same =
      absurd (omega (arith, same (λ e. 1), sum_by-cons (λ e. 1) x xs))
  same_if_rises (x ∷ xs) (y ∷ ys) rises_x rises_y same =
      let not_less : edge_lt x y ≡ false =
      first_not_less x y xs (same (one_if_less y) ∙ least_first y ys rises_y) in
      let not_greater : edge_lt y x ≡ false =
      first_not_less y x ys (sym (same (one_if_less x)) ∙ least_first x xs rises_x) in
      let first : x ≡ y = (exact x y).0
      (tie (edge_cmp x y) not_less (sym (lt-gt y x) ∙ not_greater)) in
      let rest : xs ≡ ys
      = same_if_rises xs ys rises_x.1 rises_y.1
      (λ f. omega (arith, same f, sum_by-cons f x xs, sum_by-cons f y ys, ap f first)) in
      λ i. first i ∷ rest i

  pub IsEdgeOrderOf-unique : (edges ordered : List Edge) → IsEdgeOrderOf edges ordered
      → ordered ≡ edge_order_of edges
  IsEdgeOrderOf-unique edges ordered order =
      same_if_rises ordered (edge_order_of edges)
      (Rises-from_sorted edge_lt (ranks_by edge_cmp-total (λ e. e)) ordered order.sorted)
      (Rises-edge_order_of edges)
      (λ f. sum_by-IsPermutation f edges ordered order.same ∙ sym (sum-edge_order_of f edges))
