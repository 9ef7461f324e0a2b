-- The nodes that a statement adds, among the nodes of a plan.
use Rattle.std.proofs.Common.{◌≡◌, ℕ, ◌<◌, ◌+◌, Bool, true, false, if◌then◌else◌, List, [], ◌∷◌, ◌++◌, length, map, Option, Some, None, sym, ap, subst, ◌∙◌, refl, append_assoc, arith}
use Rattle.std.specs.List.{list_any}
use Rattle.std.proofs.lemmas.List.{length-append}
use Rattle.std.proofs.Math.Seq.{get_or-append_seam}
use Rattle.gx_lineage.specs.declared.node_id.NodeId.{NodeId}
use Rattle.gx_plan.specs.Plans.{own_node, recipe_at}
use Rattle.gx_plan.specs.Recipes.{is_kind, recipe_of}
use Rattle.gx_plan.specs.declared.kind.Kind.{Kind}
use Rattle.gx_plan.specs.declared.kind.Kind.TheVariants.{Vertices, Edges}
use Rattle.gx_plan.specs.declared.recipe.Recipe.{Recipe}

pub is_kind-same : (k : Kind) → is_kind k k ≡ true
is_kind-same Vertices = refl
is_kind-same Edges = refl

pub same-kind : (j k : Kind) → is_kind j k ≡ true → k ≡ j
same-kind Vertices Vertices h = refl
same-kind Edges Edges h = refl
same-kind Vertices Edges h = cc
same-kind Edges Vertices h = cc

-- node n is among these nodes, and has the recipe of statement s for kind k
pub record IsOwnNode (all : List Recipe) (s : ℕ) (k : Kind) (ks : List Kind) (n : ℕ) : Type 0 where
  pub inside : n < length all
  pub recipe : recipe_at all n ≡ recipe_of k s
  pub among : list_any (is_kind k) ks ≡ true

-- what is found, if nodes of kinds ks end these nodes
abbrev pub IsOwnFound : List Recipe → ℕ → Kind → List Kind → Option NodeId → Type 0
IsOwnFound all s k ks (Some n) = IsOwnNode all s k ks n.0
IsOwnFound all s k ks None = list_any (is_kind k) ks ≡ false

found-later : (all : List Recipe) (s : ℕ) (k x : Kind) (ks : List Kind) (o : Option NodeId) → is_kind k x ≡ false → IsOwnFound all s k ks o → IsOwnFound all s k (x ∷ ks) o
found-later all s k x ks (Some n) other h = record { inside = h.inside; recipe = h.recipe; among = rw other h.among }
found-later all s k x ks None other h = rw other h

found-here : (xs rest : List Recipe) (s : ℕ) (k x : Kind) (ks : List Kind) → is_kind k x ≡ true → IsOwnNode (xs ++ recipe_of x s ∷ rest) s k (x ∷ ks) (length xs)
found-here xs rest s k x ks same = record {
  inside = let long : length (xs ++ recipe_of x s ∷ rest) ≡ length xs + length (recipe_of x s ∷ rest) = length-append xs (recipe_of x s ∷ rest) in omega (arith, long);
  recipe = get_or-append_seam xs (recipe_of x s) rest _ ∙ ap (λ j. recipe_of j s) (same-kind k x same);
  among = rw same refl;
}

pub own-found : (xs : List Recipe) (s : ℕ) (k : Kind) (ks : List Kind) (n : ℕ) → n ≡ length xs → IsOwnFound (xs ++ map (λ j. recipe_of j s) ks) s k ks (own_node n k ks)
own-found xs s k [] n at = refl
own-found xs s k (x ∷ ks) n at = found-by (is_kind k x) refl (own-found (xs ++ recipe_of x s ∷ []) s k ks (n + 1) (omega (arith, at, length-append xs (recipe_of x s ∷ []))))
  where
    found-by : (b : Bool) → is_kind k x ≡ b → IsOwnFound ((xs ++ recipe_of x s ∷ []) ++ map (λ j. recipe_of j s) ks) s k ks (own_node (n + 1) k ks)
        → IsOwnFound (xs ++ recipe_of x s ∷ map (λ j. recipe_of j s) ks) s k (x ∷ ks) (if b then Some (record { 0 = n }) else own_node (n + 1) k ks)
    found-by true same later = subst (IsOwnNode (xs ++ recipe_of x s ∷ map (λ j. recipe_of j s) ks) s k (x ∷ ks)) (sym at) (found-here xs (map (λ j. recipe_of j s) ks) s k x ks same)
    found-by false other later =
        found-later (xs ++ recipe_of x s ∷ map (λ j. recipe_of j s) ks) s k x ks (own_node (n + 1) k ks) other
        (subst (λ all. IsOwnFound all s k ks (own_node (n + 1) k ks)) (append_assoc xs (recipe_of x s ∷ []) (map (λ j. recipe_of j s) ks)) later)
