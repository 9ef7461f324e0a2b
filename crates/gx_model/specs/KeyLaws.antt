-- Keys put in order one by one, and the entries that are picked for them.
use Rattle.std.proofs.Common.{
  ◌≡◌,
  Bool,
  true,
  false,
  cond,
  ◌||◌,
  List,
  [],
  ◌∷◌,
  Option,
  None,
  Some,
  refl,
  sym,
  ap,
  ◌∙◌,
  option_map,
}
use Rattle.std.specs.declared.cmp.Ordering.{Ordering}
use Rattle.std.specs.declared.cmp.Ordering.TheVariants.{Less, Equal, Greater}
use Rattle.std.specs.BTreeMap.{is_at}
use Rattle.std.specs.BTreeSet.{insert_key}
use Rattle.std.specs.Cmp.{IsTotalOrder, Equal-is}
use Rattle.std.specs.List.{AllByRecursion, filter_map, list_any, cons_option}
use Rattle.std.specs.List.Sorted.{IsStrictlySortedBy}
use Rattle.std.specs.Map.{keys_of, lookup}
use Rattle.std.specs.Ordering.{match_ordering, ordering_reverse}
use Rattle.std.proofs.lemmas.Map.Entries.{lookup_head, lookup_tail}

or_twice : (a b : Bool) → a || b ≡ a || (a || b)
or_twice true b = refl
or_twice false b = refl

or_swap : (a b c : Bool) → a || (b || c) ≡ b || (a || c)
or_swap true true c = refl
or_swap true false c = refl
or_swap false b c = refl

cond_same : {X : Type 0} (b : Bool) (x : X) → cond b x x ≡ x
cond_same true x = refl
cond_same false x = refl

module _ {K : Type 0} {R : K → K → Ordering} (o : IsTotalOrder R) (exact : (a b : K) → R a b ≡ Equal
    → a ≡ b) where
  -- whether a key is among these
  abbrev pub among : K → List K → Bool
  among q ks = list_any (is_at (R q)) ks

  inserted : (q k x : K) (xs : List K) → among q (insert_key R xs k) ≡ is_at (R q) k || among q xs
      → (r : Ordering) → R k x ≡ r
      → among q (match_ordering r (k ∷ x ∷ xs) (x ∷ xs) (x ∷ insert_key R xs k)) ≡ is_at (R q) k
      || (is_at (R q) x || among q xs)
  inserted q k x xs more Less p = refl
  inserted q k x xs more Equal p = rw (exact k x p) (or_twice (is_at (R q) x) (among q xs))
  inserted q k x xs more Greater p =
      ap (λ b. is_at (R q) x || b) more ∙ or_swap (is_at (R q) x) (is_at (R q) k) (among q xs)

  -- a key is among those after an insertion if it is the new one or was among them
  pub among-insert_key : (q k : K) (ks : List K)
      → among q (insert_key R ks k) ≡ is_at (R q) k || among q ks
  among-insert_key q k [] = refl
  among-insert_key q k (x ∷ xs) = inserted q k x xs (among-insert_key q k xs) (R k x) refl

  -- what is below the new key and below all others is below all after the insertion
  below_step : (z k x : K) (xs : List K) → R z x ≡ Less → R z k ≡ Less
      → AllByRecursion (λ y. R z y ≡ Less) xs
      → AllByRecursion (λ y. R z y ≡ Less) (insert_key R xs k)
      → (r : Ordering) → AllByRecursion (λ y. R z y ≡ Less)
      (match_ordering r (k ∷ x ∷ xs) (x ∷ xs) (x ∷ insert_key R xs k))
  below_step z k x xs h new rest more Less = (new, (h, rest))
  below_step z k x xs h new rest more Equal = (h, rest)
  below_step z k x xs h new rest more Greater = (h, more)

  below-insert_key : (z k : K) (ks : List K) → AllByRecursion (λ y. R z y ≡ Less) ks → R z k ≡ Less
      → AllByRecursion (λ y. R z y ≡ Less) (insert_key R ks k)
  below-insert_key z k [] all new = (new, tt)
  below-insert_key z k (x ∷ xs) all new =
      below_step z k x xs all.0 new all.1 (below-insert_key z k xs all.1 new) (R k x)

  -- what is below a key is below all that it is below
  below_all : (k x : K) (xs : List K) → R k x ≡ Less → AllByRecursion (λ y. R x y ≡ Less) xs
      → AllByRecursion (λ y. R k y ≡ Less) xs
  below_all k x [] p all = tt
  below_all k x (y ∷ ys) p all = (o.trans k x y p all.0, below_all k x ys p all.1)

  sorted_step : (k x : K) (xs : List K) → AllByRecursion (λ y. R x y ≡ Less) xs
      → IsStrictlySortedBy R xs → IsStrictlySortedBy R (insert_key R xs k)
      → (r : Ordering) → R k x ≡ r
      → IsStrictlySortedBy R (match_ordering r (k ∷ x ∷ xs) (x ∷ xs) (x ∷ insert_key R xs k))
  unfolding IsStrictlySortedBy
  sorted_step k x xs head tail more Less p = ((p, below_all k x xs p head), (head, tail))
  sorted_step k x xs head tail more Equal p = (head, tail)
  sorted_step k x xs head tail more Greater p =
      (below-insert_key x k xs head (o.antisymm x k ∙ ap ordering_reverse p), more)

  -- ascending keys ascend after an insertion
  pub sorted-insert_key : (k : K) (ks : List K) → IsStrictlySortedBy R ks
      → IsStrictlySortedBy R (insert_key R ks k)
  unfolding IsStrictlySortedBy
  sorted-insert_key k [] s = (tt, tt)
  sorted-insert_key k (x ∷ xs) s =
      sorted_step k x xs s.0 s.1 (sorted-insert_key k xs s.1) (R k x) refl

  module _ {X : Type 0} (f : K → Option X) where
    -- the keys at which f has a value, each with that value
    abbrev pub picked : List K → List (K × X)
    picked ks = filter_map (λ k. option_map (λ x. (k, x)) (f k)) ks

    found_step : (q k : K) (ks : List K)
        → lookup (is_at (R q)) (picked ks) ≡ cond (among q ks) (f q) None
        → (t : Bool) → is_at (R q) k ≡ t → (v : Option X) → f k ≡ v
        → lookup (is_at (R q)) (cons_option (option_map (λ x. (k, x)) v) (picked ks))
        ≡ cond (t || among q ks) (f q) None
    found_step q k ks more true e None p =
        let none : f q ≡ None = ap f (exact q k ((Equal-is (R q k)).0 e)) ∙ p in
        more ∙ rw none (cond_same (among q ks) None)
    found_step q k ks more true e (Some x) p =
        lookup_head (is_at (R q)) (k, x) (picked ks) e
        ∙ sym (ap f (exact q k ((Equal-is (R q k)).0 e)) ∙ p)
    found_step q k ks more false e None p = more
    found_step q k ks more false e (Some x) p =
        lookup_tail (is_at (R q)) (k, x) (picked ks) e ∙ more

    -- a look-up among the picked entries finds the value of f at a key that is among theirs
    pub lookup-picked : (q : K) (ks : List K)
        → lookup (is_at (R q)) (picked ks) ≡ cond (among q ks) (f q) None
    lookup-picked q [] = refl
    lookup-picked q (k ∷ ks) =
        found_step q k ks (lookup-picked q ks) (is_at (R q) k) refl (f k) refl

    below_picked_step : (z k : K) (ks : List K) → R z k ≡ Less
        → AllByRecursion (λ y. R z y ≡ Less) (keys_of (picked ks))
        → (v : Option X) → AllByRecursion (λ y. R z y ≡ Less)
        (keys_of (cons_option (option_map (λ x. (k, x)) v) (picked ks)))
    below_picked_step z k ks h more None = more
    below_picked_step z k ks h more (Some x) = (h, more)

    below-picked : (z : K) (ks : List K) → AllByRecursion (λ y. R z y ≡ Less) ks
        → AllByRecursion (λ y. R z y ≡ Less) (keys_of (picked ks))
    below-picked z [] all = tt
    below-picked z (k ∷ ks) all = below_picked_step z k ks all.0 (below-picked z ks all.1) (f k)

    sorted_picked_step : (k : K) (ks : List K)
        → AllByRecursion (λ y. R k y ≡ Less) (keys_of (picked ks))
        → IsStrictlySortedBy R (keys_of (picked ks))
        → (v : Option X) → IsStrictlySortedBy R
        (keys_of (cons_option (option_map (λ x. (k, x)) v) (picked ks)))
    unfolding IsStrictlySortedBy
    sorted_picked_step k ks head tail None = tail
    sorted_picked_step k ks head tail (Some x) = (head, tail)

    -- entries picked for ascending keys ascend
    pub sorted-picked : (ks : List K) → IsStrictlySortedBy R ks
        → IsStrictlySortedBy R (keys_of (picked ks))
    unfolding IsStrictlySortedBy
    sorted-picked [] s = tt
    sorted-picked (k ∷ ks) s =
        sorted_picked_step k ks (below-picked k ks s.0) (sorted-picked ks s.1) (f k)
