-- Blocks of lists.
use Rattle.std.proofs.Common.{◌≡◌, ◌∙◌, ◌⊎◌, inl, inr, ⊎_elim, Bool, true, false, ◌||◌, cond, List, [], ◌∷◌, ◌++◌, get_or, refl, ap, sym}
use Rattle.std.specs.Prelude.{All, Contains}
use Rattle.std.proofs.lemmas.List.Elements.{All-contains, Contains-get_or}
use Rattle.std.proofs.lemmas.List.Folds.{list_any-append}
use Rattle.std.proofs.lemmas.Map.Views.{Contains-from_any, list_any-from_Contains}
use Rattle.gx_lineage.specs.declared.block_id.BlockId.{BlockId}
use Rattle.gx_cluster_state.specs.Blocks.{same_block}
use Rattle.gx_cluster_state.specs.BlockLaws.{same_block_laws, same_exact}
use Rattle.gx_cluster.specs.Agendas.{has_block}

pub both : {b : Bool} {A : Type 0} → b ≡ true → b ≡ false → A
both {b = b} t f = let contrary : true ≡ false = sym t ∙ f in absurd (cc)

pub or_cases : (a b : Bool) → (a || b) ≡ true → (a ≡ true) ⊎ (b ≡ true)
or_cases true b h = inl refl
or_cases false b h = inr h

pub or_first : (a b : Bool) → a ≡ true → (a || b) ≡ true
or_first true b h = refl
or_first false b h = absurd (cc)

pub or_second : (a b : Bool) → b ≡ true → (a || b) ≡ true
or_second true b h = refl
or_second false b h = h

or_false : (a : Bool) → (a || false) ≡ a
or_false true = refl
or_false false = refl

pub cond_or : (t u : Bool) → u ≡ true → cond t true u ≡ true
cond_or true u h = refl
cond_or false u h = h

pub same_itself : (b : BlockId) → same_block b b ≡ true
same_itself b = same_block_laws.refl b

pub same_sym : (a b : BlockId) → same_block a b ≡ same_block b a
same_sym a b = same_block_laws.symm a b

-- the blocks of a list and one more
pub has_push : (bs : List BlockId) (b q : BlockId) → has_block (bs ++ b ∷ []) q ≡ (has_block bs q || same_block q b)
has_push bs b q = list_any-append (same_block q) bs (b ∷ []) ∙ ap (λ (t : Bool). has_block bs q || t) (or_false (same_block q b))

pub has_push_kept : (bs : List BlockId) (b q : BlockId) → has_block bs q ≡ true → has_block (bs ++ b ∷ []) q ≡ true
has_push_kept bs b q h = has_push bs b q ∙ or_first (has_block bs q) (same_block q b) h

pub has_push_last : (bs : List BlockId) (b : BlockId) → has_block (bs ++ b ∷ []) b ≡ true
has_push_last bs b = has_push bs b b ∙ or_second (has_block bs b) (same_block b b) (same_itself b)

pub has_push_cases : (bs : List BlockId) (b q : BlockId) → has_block (bs ++ b ∷ []) q ≡ true → (has_block bs q ≡ true) ⊎ (q ≡ b)
has_push_cases bs b q h = ⊎_elim (λ x. inl x) (λ x. inr (same_exact q b x)) (or_cases (has_block bs q) (same_block q b) (sym (has_push bs b q) ∙ h))

-- what holds of each of a list
pub All-has : (P : BlockId → Type 0) (bs : List BlockId) (q : BlockId) → All P bs → has_block bs q ≡ true → P q
All-has P bs q a h = All-contains P bs q a (Contains-from_any same_exact q bs h)

pub has_by_contains : (bs : List BlockId) (b : BlockId) → Contains bs b → has_block bs b ≡ true
has_by_contains bs b h = list_any-from_Contains same_block_laws b bs h

pub All-from_has : (P : BlockId → Type 0) (bs : List BlockId) → ((q : BlockId) → has_block bs q ≡ true → P q) → All P bs
All-from_has P bs h = λ k d below. h (get_or bs k d) (has_by_contains bs (get_or bs k d) (Contains-get_or bs k d below))
