-- Entries whose keys ascend: they are known by what a look-up finds.
use Rattle.std.proofs.Common.{
  ◌≡◌,
  true,
  List,
  [],
  ◌∷◌,
  Option,
  None,
  Some,
  refl,
  sym,
  ap,
  ◌∙◌,
  ⊎_elim,
  unwrap_or,
}
use Rattle.std.specs.declared.cmp.Ordering.{Ordering}
use Rattle.std.specs.declared.cmp.Ordering.TheVariants.{Less, Equal, Greater}
use Rattle.std.specs.BTreeMap.{is_at}
use Rattle.std.specs.Cmp.{IsTotalOrder}
use Rattle.std.specs.List.Sorted.{IsStrictlySortedBy}
use Rattle.std.specs.Map.{keys_of, lookup}
use Rattle.std.specs.Ordering.{is_eq, ordering_reverse}
use Rattle.std.proofs.lemmas.Bool.{cases_Bool}
use Rattle.std.proofs.lemmas.Cmp.{eq_by_cmp_equiv, tied_itself}
use Rattle.std.proofs.lemmas.Map.{lookup-none}
use Rattle.std.proofs.lemmas.Map.Entries.{lookup_head, lookup_tail, none_past_head, none_below_head}
use Rattle.std.proofs.lemmas.Map.Keys.{sorted_tail, IsDistinct-from_sorted}

some_is_not_none : {X : Type 0} (x : X) → Some x ≡ None → ⊥
some_is_not_none x h = cc

module _ {K X : Type 0} {R : K → K → Ordering} (o : IsTotalOrder R) (exact : (a b : K)
    → R a b ≡ Equal → a ≡ b) where
  abbrev found : List (K × X) → K → Option X
  found es q = lookup (is_at (R q)) es

  found_first : (e : K × X) (es : List (K × X)) → found (e ∷ es) e.0 ≡ Some e.1
  found_first e es = lookup_head (is_at (R e.0)) e es (ap is_eq (tied_itself o e.0))

  -- past the head of ascending entries its key is not found
  gone_past_head : (q : K) (e : K × X) (es : List (K × X)) → IsStrictlySortedBy R (keys_of (e ∷ es))
      → is_at (R q) e.0 ≡ true → found es q ≡ None
  gone_past_head q e es s t =
      lookup-none (is_at (R q)) es
      (none_past_head (eq_by_cmp_equiv o) q e es (IsDistinct-from_sorted R _ s) t)

  module _ (x y : K × X) (xs ys : List (K × X)) (s : IsStrictlySortedBy R (keys_of (x ∷ xs)))
      (t : IsStrictlySortedBy R (keys_of (y ∷ ys)))
      (h : (q : K) → found (x ∷ xs) q ≡ found (y ∷ ys) q) where
    tied_by : (r : Ordering) → R x.0 y.0 ≡ r → R x.0 y.0 ≡ Equal
    tied_by Less p = absurd
        (some_is_not_none x.1
        (sym (found_first x xs) ∙ h x.0 ∙ lookup-none _ (y ∷ ys) (none_below_head o x.0 y ys t p)))
    tied_by Equal p = p
    tied_by Greater p =
        absurd (some_is_not_none y.1
        (sym (found_first y ys) ∙ sym (h y.0)
        ∙ lookup-none _ (x ∷ xs)
        (none_below_head o y.0 x xs s (o.antisymm y.0 x.0 ∙ ap ordering_reverse p))))

    same_key : x.0 ≡ y.0
    same_key = exact x.0 y.0 (tied_by (R x.0 y.0) refl)

    same_value : x.1 ≡ y.1
    same_value = ap (λ u. unwrap_or u x.1)
        (sym (found_first x xs) ∙ h x.0 ∙ ap (found (y ∷ ys)) same_key ∙ found_first y ys)

    same_rest : (q : K) → found xs q ≡ found ys q
    same_rest q =
        let key : is_at (R q) y.0 ≡ is_at (R q) x.0 = ap (is_at (R q)) (sym same_key) in
        ⊎_elim
        (λ b. gone_past_head q x xs s b ∙ sym (gone_past_head q y ys t (key ∙ b)))
        (λ b. sym (lookup_tail (is_at (R q)) x xs b) ∙ h q
        ∙ lookup_tail (is_at (R q)) y ys (key ∙ b))
        (cases_Bool (is_at (R q) x.0))

  -- ascending entries with equal look-ups are the same
  pub same_entries : (xs ys : List (K × X)) → IsStrictlySortedBy R (keys_of xs)
      → IsStrictlySortedBy R (keys_of ys) → ((q : K) → found xs q ≡ found ys q) → xs ≡ ys
  same_entries [] [] s t h = refl
  same_entries [] (y ∷ ys) s t h = absurd (some_is_not_none y.1 (sym (h y.0 ∙ found_first y ys)))
  same_entries (x ∷ xs) [] s t h = absurd (some_is_not_none x.1 (sym (found_first x xs) ∙ h x.0))
  same_entries (x ∷ xs) (y ∷ ys) s t h =
      let rest = same_entries xs ys (sorted_tail R x.0 (keys_of xs) s)
      (sorted_tail R y.0 (keys_of ys) t) (same_rest x y xs ys s t h) in
      λ i. (same_key x y xs ys s t h i, same_value x y xs ys s t h i) ∷ rest i
