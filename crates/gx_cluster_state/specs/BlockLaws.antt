-- Blocks that compare equal are equal, and look-ups by block.
use Rattle.std.proofs.Common.{
  ◌≡◌,
  ◌∙◌,
  ℕ,
  Bool,
  true,
  false,
  cond,
  List,
  [],
  ◌∷◌,
  Some,
  None,
  Ordering,
  refl,
  ap,
  sym,
  subst,
}
use Rattle.std.specs.declared.cmp.Ordering.TheVariants.{Less, Equal, Greater}
use Rattle.std.specs.Cmp.{IsTotalOrder, IsEquivalence}
use Rattle.std.specs.Ordering.{is_gt, match_ordering, nat_cmp, ordering_reverse}
use Rattle.std.specs.Map.{lookup}
use Rattle.std.specs.BTreeMap.{insert_entry}
use Rattle.std.proofs.lemmas.Cmp.{eq_by_cmp_equiv, nat_cmp_total, on_total, then_total, tied_itself}
use Rattle.std.proofs.lemmas.Map.Lookups.{CmpEqualImpliesEq, exact_pairs, exact_unsigned}
use Rattle.std.proofs.lemmas.Map.Views.{tells_apart}
use Rattle.gx_lineage.specs.declared.block_id.BlockId.{BlockId}
use Rattle.gx_cluster_state.specs.Blocks.{block_cmp, same_block}

pub block_exact : CmpEqualImpliesEq block_cmp
block_exact a b h =
    ap (λ (p : ℕ × ℕ). let b : BlockId = record { node = record { 0 = p.0 }; part = p.1 } in b)
    (exact_pairs nat_cmp nat_cmp exact_unsigned exact_unsigned (a.node.0, a.part)
    (b.node.0, b.part) h)

pub block_total : IsTotalOrder block_cmp
block_total = then_total (on_total (λ b. b.node.0) nat_cmp_total)
    (on_total (λ b. b.part) nat_cmp_total)

pub same_block_laws : IsEquivalence same_block
same_block_laws = eq_by_cmp_equiv block_total

pub same_exact : (a b : BlockId) → same_block a b ≡ true → a ≡ b
same_exact a b h = tells_apart block_exact a b h

-- neither of two answers is greater, so they are equal
not_greater : (o p : Ordering) → o ≡ ordering_reverse p → is_gt o ≡ false → is_gt p ≡ false
    → o ≡ Equal
not_greater Less Less h f g = cc
not_greater Less Equal h f g = cc
not_greater Less Greater h f g = cc
not_greater Equal p h f g = refl
not_greater Greater p h f g = cc

-- neither of two blocks is greater, so they are equal
pub not_greater_same : (a b : BlockId) → is_gt (block_cmp a b) ≡ false
    → is_gt (block_cmp b a) ≡ false → a ≡ b
not_greater_same a b f g =
    block_exact a b (not_greater (block_cmp a b) (block_cmp b a) (block_total.antisymm a b) f g)

cond_twice : {A : Type 0} (t : Bool) (a b c : A) → cond t a (cond t b c) ≡ cond t a c
cond_twice true a b c = refl
cond_twice false a b c = refl

cond_swap : {A : Type 0} (s t : Bool) (a b c : A) → (s ≡ true → t ≡ true → ⊥)
    → cond s a (cond t b c) ≡ cond t b (cond s a c)
cond_swap true true a b c h = absurd (h refl refl)
cond_swap true false a b c h = refl
cond_swap false t a b c h = refl

-- a block that is greater than another is not the same
apart : (k q e : BlockId) → block_cmp k e ≡ Greater → same_block q e ≡ true → same_block k q ≡ true
    → ⊥
apart k q e h x y =
    let same : k ≡ e = same_exact k q y ∙ same_exact q e x in
    let tied : block_cmp e e ≡ Equal = tied_itself block_total e in
    let equal : block_cmp k e ≡ Equal =
    subst (λ (z : BlockId). block_cmp z e ≡ Equal) (sym same) tied in
    let contrary : Greater ≡ Equal = sym h ∙ equal in
    cc

insert_head : {X : Type 0} (o : Ordering) (e : BlockId × X) (es : List (BlockId × X))
    (k q : BlockId) (v : X) → block_cmp k e.0 ≡ o
    → lookup (same_block q) (insert_entry block_cmp es k v)
    ≡ cond (same_block k q) (Some v) (lookup (same_block q) es)
    → lookup (same_block q)
    (match_ordering o ((k, v) ∷ e ∷ es) ((e.0, v) ∷ es) (e ∷ insert_entry block_cmp es k v))
    ≡ cond (same_block k q) (Some v) (lookup (same_block q) (e ∷ es))
insert_head {X} Less e es k q v h ih =
    ap (λ (t : Bool). cond t (Some v)
    (cond (same_block q e.0) (Some e.1) (lookup (same_block q) es))) (same_block_laws.symm q k)
insert_head {X} Equal e es k q v h ih =
    let at_key : same_block q e.0 ≡ same_block k q =
    ap (same_block q) (sym (block_exact k e.0 h)) ∙ same_block_laws.symm q k in
    rw at_key (sym (cond_twice (same_block k q) (Some v) (Some e.1) (lookup (same_block q) es)))
insert_head {X} Greater e es k q v h ih =
    rw ih (cond_swap (same_block q e.0) (same_block k q) (Some e.1) (Some v)
    (lookup (same_block q) es) (apart k q e.0 h))

-- what a look-up finds after an insertion
pub lookup-insert_entry : {X : Type 0} (es : List (BlockId × X)) (k q : BlockId) (v : X)
    → lookup (same_block q) (insert_entry block_cmp es k v)
    ≡ cond (same_block k q) (Some v) (lookup (same_block q) es)
lookup-insert_entry [] k q v = ap (λ (t : Bool). cond t (Some v) None) (same_block_laws.symm q k)
lookup-insert_entry (e ∷ es) k q v =
    insert_head (block_cmp k e.0) e es k q v refl (lookup-insert_entry es k q v)
