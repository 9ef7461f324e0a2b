-- The ends of edges, from the runs of their sources and of their sorted destinations.
use Rattle.std.proofs.Common.{◌≡◌, ℕ, ◌+◌, Bool, true, false, cond, ◌||◌, List, [], ◌∷◌, ◌++◌, IsPermutation, map, refl, sym, ap, ◌∙◌}
use Rattle.std.specs.Cmp.{Equal-is}
use Rattle.std.specs.List.{dedup, dedup_from, list_any}
use Rattle.std.proofs.lemmas.List.Folds.{list_any-append}
use Rattle.std.proofs.lemmas.List.Sorted.{IsPermutation-map, list_any-IsPermutation}
use Rattle.gx_rows.specs.Order.{Edge}
use Rattle.gx_rows.specs.declared.vid.Vid.{Vid}
use Rattle.gx_index.specs.Ends.{IsSetOf}
use Rattle.gx_index.specs.Ids.{has_id, id_cmp, id_cmp-exact, is_same_id}
use Rattle.gx_epart.specs.Edges.{sources_and_destinations}
use Rattle.gx_epart.specs.Numbers.{HasEndsOf, destinations_from}

twice : (t c : Bool) → t || (t || c) ≡ t || c
twice true c = refl
twice false c = refl

has_id-dedup_from : (v w : Vid) (ids : List Vid) → has_id v (dedup_from is_same_id w ids) ≡ is_same_id v w || has_id v ids
has_id-dedup_from v w [] = refl
has_id-dedup_from v w (x ∷ ids) = by (is_same_id x w) refl (has_id-dedup_from v w ids) (has_id-dedup_from v x ids)
  where
    by : (b : Bool) → is_same_id x w ≡ b
        → has_id v (dedup_from is_same_id w ids) ≡ is_same_id v w || has_id v ids
        → has_id v (dedup_from is_same_id x ids) ≡ is_same_id v x || has_id v ids
        → has_id v (cond b (dedup_from is_same_id w ids) (w ∷ dedup_from is_same_id x ids)) ≡ is_same_id v w || (is_same_id v x || has_id v ids)
    by true same joined apart =
        let key : x ≡ w = id_cmp-exact x w ((Equal-is (id_cmp x w)).0 same) in
        joined ∙ sym (twice (is_same_id v w) (has_id v ids)) ∙ ap (λ y. is_same_id v w || (is_same_id v y || has_id v ids)) (sym key)
    by false same joined apart = ap (λ c. is_same_id v w || c) apart

has_id-dedup : (v : Vid) (ids : List Vid) → has_id v (dedup is_same_id ids) ≡ has_id v ids
has_id-dedup v [] = refl
has_id-dedup v (w ∷ ids) = has_id-dedup_from v w ids

keys-destinations : (n : ℕ) (edges : List Edge) → map (λ d. d.0) (destinations_from n edges) ≡ map (λ e. e.1) edges
keys-destinations n [] = refl
keys-destinations n (e ∷ edges) = ap (λ ids. e.1 ∷ ids) (keys-destinations (n + 1) edges)

or_pairs : (a b c d : Bool) → (a || c) || (b || d) ≡ a || (b || (c || d))
or_pairs true b c d = refl
or_pairs false true true d = refl
or_pairs false true false d = refl
or_pairs false false c d = refl

both : (v : Vid) (edges : List Edge) → has_id v (map (λ e. e.0) edges) || has_id v (map (λ e. e.1) edges) ≡ has_id v (sources_and_destinations edges)
both v [] = refl
both v (e ∷ edges) = or_pairs (is_same_id v e.0) (is_same_id v e.1) _ _ ∙ ap (λ b. is_same_id v e.0 || (is_same_id v e.1 || b)) (both v edges)

pub HasEndsOf-runs : (edges : List Edge) (ds : List (Vid × ℕ)) → IsPermutation (destinations_from 0 edges) ds
    → HasEndsOf edges (dedup is_same_id (map (λ e. e.0) edges) ++ dedup is_same_id (map (λ d. d.0) ds))
HasEndsOf-runs edges ds same v =
    let sources = map (λ (e : Edge). e.0) edges in
    let others = map (λ (d : Vid × ℕ). d.0) ds in
    let moved : has_id v others ≡ has_id v (map (λ (e : Edge). e.1) edges)
    = sym (list_any-IsPermutation (is_same_id v) (map (λ (d : Vid × ℕ). d.0) (destinations_from 0 edges)) others (IsPermutation-map (λ (d : Vid × ℕ). d.0) (destinations_from 0 edges) ds same))
    ∙ ap (has_id v) (keys-destinations 0 edges) in
    list_any-append (is_same_id v) (dedup is_same_id sources) (dedup is_same_id others)
    ∙ (λ i. has_id-dedup v sources i || has_id-dedup v others i)
    ∙ ap (λ b. has_id v sources || b) moved
    ∙ both v edges

-- the set of the same identifiers
pub IsSetOf-same : (ends ids set : List Vid) → ((v : Vid) → has_id v ids ≡ has_id v ends) → IsSetOf ids set → IsSetOf ends set
IsSetOf-same ends ids set same are = record {
  ascending = are.ascending;
  exact = λ v. are.exact v ∙ same v;
}
