-- The ends of the edges of all parts are the ends of all edges.
use Rattle.std.proofs.Common.{◌≡◌, ℕ, ◌<◌, ◌+◌, ◌==◌, Bool, true, false, cond, ◌&&◌, ◌||◌, List, [], ◌∷◌, refl, sym, ap, ◌∙◌, subst, arith}
use Rattle.std.specs.List.{AllByRecursion, filter, flat_map, list_any, range_with_len}
use Rattle.std.specs.Ordering.{is_lt}
use Rattle.std.proofs.lemmas.Cmp.{nat_eq_equiv}
use Rattle.std.proofs.lemmas.List.Folds.{list_any-append, list_any_at}
use Rattle.std.proofs.lemmas.List.FromFn.{get_or-range_with_len, length-range_with_len}
use Rattle.gx_rows.specs.Order.{Edge, edge_cmp}
use Rattle.gx_rows.specs.declared.vid.Vid.{Vid}
use Rattle.gx_index.specs.Ids.{has_id, is_same_id}
use Rattle.gx_epart.specs.Edges.{edge_order_of, with_edge}
use Rattle.gx_gops.specs.Tables.{both_ends}
use Rattle.gx_model.specs.Graphs.{plain_edges}
use Rattle.gx_exec_contents.specs.PartContents.{part_of_edges}
use Rattle.gx_exec_contents.specs.TablePartLaws.{same_from_test}

-- ---- whether some item passes a test

or_assoc : (a b c : Bool) → a || (b || c) ≡ (a || b) || c
or_assoc true b c = refl
or_assoc false b c = refl

or_swap : (a b c : Bool) → a || (b || c) ≡ b || (a || c)
or_swap true true c = refl
or_swap true false c = refl
or_swap false b c = refl

or_true : (b : Bool) → b || true ≡ true
or_true true = refl
or_true false = refl

or_four : (a b c d : Bool) → (a || b) || (c || d) ≡ (a || c) || (b || d)
or_four true b c d = refl
or_four false true true d = refl
or_four false true false d = refl
or_four false false c d = refl

or_and : (a b c : Bool) → (a && c) || (b && c) ≡ (a || b) && c
or_and true true true = refl
or_and true true false = refl
or_and true false true = refl
or_and true false false = refl
or_and false b c = refl

module _ {X : Type 0} where
  any_never : (xs : List X) → list_any (λ x. false) xs ≡ false
  any_never [] = refl
  any_never (x ∷ xs) = any_never xs

  any_or : (f g : X → Bool) (xs : List X) → list_any (λ x. f x || g x) xs ≡ list_any f xs || list_any g xs
  any_or f g [] = refl
  any_or f g (x ∷ xs) = ap (λ b. (f x || g x) || b) (any_or f g xs) ∙ or_four (f x) (g x) (list_any f xs) (list_any g xs)

  any_and : (f : X → Bool) (b : Bool) (xs : List X) → list_any (λ x. f x && b) xs ≡ list_any f xs && b
  any_and f b [] = refl
  any_and f b (x ∷ xs) = ap (λ c. (f x && b) || c) (any_and f b xs) ∙ or_and (f x) (list_any f xs) b

  any_same : (f g : X → Bool) → ((x : X) → f x ≡ g x) → (xs : List X) → list_any f xs ≡ list_any g xs
  any_same f g same xs = ap (λ h. list_any h xs) (λ i x. same x i)

  any-flat_map : {Y : Type 0} (p : Y → Bool) (f : X → List Y) (xs : List X) → list_any p (flat_map f xs) ≡ list_any (λ x. list_any p (f x)) xs
  any-flat_map p f [] = refl
  any-flat_map p f (x ∷ xs) = list_any-append p (f x) (flat_map f xs) ∙ ap (λ b. list_any p (f x) || b) (any-flat_map p f xs)

-- ---- ends

-- the vertex is an end of the edge
abbrev touches : Vid → Edge → Bool
touches q e = is_same_id q e.0 || is_same_id q e.1

has_id-both_ends : (q : Vid) (edges : List Edge) → has_id q (both_ends edges) ≡ list_any (touches q) edges
has_id-both_ends q [] = refl
has_id-both_ends q (e ∷ edges) =
    ap (λ b. is_same_id q e.0 || (is_same_id q e.1 || b)) (has_id-both_ends q edges) ∙ or_assoc (is_same_id q e.0) (is_same_id q e.1) (list_any (touches q) edges)

-- ---- edges in edge order

any-with_edge : (p : Edge → Bool) (e : Edge) (edges : List Edge) → list_any p (with_edge e edges) ≡ p e || list_any p edges
any-with_edge p e [] = refl
any-with_edge p e (f ∷ edges) = by (is_lt (edge_cmp e f)) (any-with_edge p e edges)
  where
    by : (b : Bool) → list_any p (with_edge e edges) ≡ p e || list_any p edges
        → list_any p (cond b (e ∷ f ∷ edges) (f ∷ with_edge e edges)) ≡ p e || (p f || list_any p edges)
    by true more = refl
    by false more = ap (λ b. p f || b) more ∙ or_swap (p f) (p e) (list_any p edges)

any-edge_order_of : (p : Edge → Bool) (edges : List Edge) → list_any p (edge_order_of edges) ≡ list_any p edges
any-edge_order_of p [] = refl
any-edge_order_of p (e ∷ edges) = any-with_edge p e (edge_order_of edges) ∙ ap (λ b. p e || b) (any-edge_order_of p edges)

-- ---- the edges of all parts

-- each edge is placed in one of the parts
abbrev pub ArePlaced : ℕ → List (ℕ × Edge) → Type 0
ArePlaced parts edges = AllByRecursion (λ e. e.0 < parts) edges

is_part : (n parts : ℕ) → n < parts → list_any (λ j. n == j) (range_with_len 0 parts) ≡ true
is_part n parts within =
    let same : 0 + n ≡ n = omega arith in
    list_any_at (λ j. n == j) (range_with_len 0 parts) n 0 (subst (λ k. n < k) (sym (length-range_with_len 0 parts)) within)
    (ap (λ j. n == j) (get_or-range_with_len 0 parts n 0 within ∙ same) ∙ nat_eq_equiv.refl n)

any-one_part : (p : Edge → Bool) (e : ℕ × Edge) (edges : List (ℕ × Edge)) (j : ℕ)
    → list_any p (part_of_edges j (e ∷ edges)) ≡ ((e.0 == j) && p e.1) || list_any p (part_of_edges j edges)
any-one_part p e edges j = by (e.0 == j)
  where
    by : (b : Bool) → list_any p (plain_edges (cond b (e ∷ filter (λ f. f.0 == j) edges) (filter (λ f. f.0 == j) edges))) ≡ (b && p e.1) || list_any p (part_of_edges j edges)
    by true = refl
    by false = refl

any-parts : (p : Edge → Bool) (parts : ℕ) (edges : List (ℕ × Edge)) → ArePlaced parts edges
    → list_any (λ j. list_any p (part_of_edges j edges)) (range_with_len 0 parts) ≡ list_any p (plain_edges edges)
any-parts p parts [] placed = any_never (range_with_len 0 parts)
any-parts p parts (e ∷ edges) placed =
    let all : List ℕ = range_with_len 0 parts in
    any_same (λ j. list_any p (part_of_edges j (e ∷ edges))) (λ j. ((e.0 == j) && p e.1) || list_any p (part_of_edges j edges)) (any-one_part p e edges) all
    ∙ any_or (λ j. (e.0 == j) && p e.1) (λ j. list_any p (part_of_edges j edges)) all
    ∙ ap (λ b. b || list_any (λ j. list_any p (part_of_edges j edges)) all) (any_and (λ j. e.0 == j) (p e.1) all ∙ ap (λ b. b && p e.1) (is_part e.0 parts placed.0))
    ∙ ap (λ b. p e.1 || b) (any-parts p parts edges placed.1)

-- all parts together have the ends of all edges
pub ends_of_parts : (q : Vid) (parts : ℕ) (edges : List (ℕ × Edge)) → ArePlaced parts edges
    → has_id q (both_ends (flat_map (λ j. edge_order_of (part_of_edges j edges)) (range_with_len 0 parts))) ≡ has_id q (both_ends (plain_edges edges))
ends_of_parts q parts edges placed =
    let all : List ℕ = range_with_len 0 parts in
    has_id-both_ends q (flat_map (λ j. edge_order_of (part_of_edges j edges)) all)
    ∙ any-flat_map (touches q) (λ j. edge_order_of (part_of_edges j edges)) all
    ∙ any_same (λ j. list_any (touches q) (edge_order_of (part_of_edges j edges))) (λ j. list_any (touches q) (part_of_edges j edges))
    (λ j. any-edge_order_of (touches q) (part_of_edges j edges)) all
    ∙ any-parts (touches q) parts edges placed
    ∙ sym (has_id-both_ends q (plain_edges edges))

-- of the identifiers that pass a test
pub has_id-filter : (p : Vid → Bool) (q : Vid) (ids : List Vid) → has_id q (filter p ids) ≡ p q && has_id q ids
has_id-filter p q [] = and_false (p q)
  where
    and_false : (b : Bool) → false ≡ b && false
    and_false true = refl
    and_false false = refl
has_id-filter p q (id ∷ ids) = by (p id) refl (is_same_id q id) refl (has_id-filter p q ids)
  where
    by : (b : Bool) → p id ≡ b → (t : Bool) → is_same_id q id ≡ t → has_id q (filter p ids) ≡ p q && has_id q ids
        → has_id q (cond b (id ∷ filter p ids) (filter p ids)) ≡ p q && (t || has_id q ids)
    by true e true same more = rw (same, sym (ap p (same_from_test q id same)) ∙ e) refl
    by true e false other more = rw other more
    by false e true same more = more ∙ rw (sym (ap p (same_from_test q id same)) ∙ e) refl
    by false e false other more = more
