-- Look-ups and lists.
use Rattle.std.proofs.Common.{◌≡◌, ◌∙◌, ℕ, Bool, true, false, cond, List, [], ◌∷◌, ◌++◌, Option, Some, None, Result, Ok, Err, get_or, refl, ap, sym, arith}
use Rattle.std.specs.Prelude.{◌<◌, ◌+◌, IsSome, OnErr, OnOk, is_some, length, map, option_map, take, unwrap_or}
use Rattle.std.specs.Map.{lookup}
use Rattle.std.proofs.lemmas.List.{map_more, map_push}
use Rattle.gx_lineage.specs.declared.block_id.BlockId.{BlockId}
use Rattle.gx_cluster_state.specs.declared.held.Held.{Held}
use Rattle.gx_cluster_state.specs.Blocks.{same_block}
use Rattle.gx_cluster.specs.Agendas.{waiting_for}
use Rattle.gx_cluster.specs.States.{held_value}

pub unwrap_or-cond_none : {A : Type 0} (t : Bool) (o : Option (List A)) → unwrap_or (cond t None o) [] ≡ cond t [] (unwrap_or o [])
unwrap_or-cond_none true o = refl
unwrap_or-cond_none false o = refl

pub unwrap_or-cond_some : {A : Type 0} (t : Bool) (xs : List A) (o : Option (List A)) → unwrap_or (cond t (Some xs) o) [] ≡ cond t xs (unwrap_or o [])
unwrap_or-cond_some true xs o = refl
unwrap_or-cond_some false xs o = refl

pub cond_twice : {A : Type 0} (t : Bool) (a b c : A) → cond t a (cond t b c) ≡ cond t a c
cond_twice true a b c = refl
cond_twice false a b c = refl

-- a block was added to those that wait for an input
pub waiting_more : (old mid new : List (BlockId × List BlockId)) (input b k : BlockId) (xs ys : List BlockId) → xs ≡ waiting_for old input
    → waiting_for mid k ≡ cond (same_block input k) [] (waiting_for old k) → ys ≡ xs ++ b ∷ []
    → lookup (same_block k) new ≡ cond (same_block input k) (Some ys) (lookup (same_block k) mid)
    → waiting_for new k ≡ cond (same_block input k) (waiting_for old input ++ b ∷ []) (waiting_for old k)
waiting_more old mid new input b k xs ys h m p i =
    ap (λ o. unwrap_or o []) i ∙ (unwrap_or-cond_some (same_block input k) ys (lookup (same_block k) mid)
    ∙ (ap (cond (same_block input k) ys) m ∙ (cond_twice (same_block input k) ys [] (waiting_for old k)
    ∙ ap (λ (zs : List BlockId). cond (same_block input k) zs (waiting_for old k)) (p ∙ ap (λ (zs : List BlockId). zs ++ b ∷ []) h))))

pub not_held : {A : Type 0} (held : List (BlockId × Held A)) (b : BlockId) → IsSome (held_value held b) → None ≡ lookup (same_block b) held → ⊥
not_held {A} held b h e = let none : held_value held b ≡ None = ap (option_map (λ (x : Held A). x.value)) (sym e) in let no : is_some (held_value held b) ≡ false = ap is_some none in let contrary : true ≡ false = sym h ∙ no in absurd (cc)

-- one more value was captured
pub captured_more : {A : Type 0} (held : List (BlockId × Held A)) (bs : List BlockId) (i : ℕ) (d : BlockId) (vs ws : List A) (h : Held A) (v : A)
    → map Some vs ≡ map (held_value held) (take i bs) → i < length bs → Some h ≡ lookup (same_block (get_or bs i d)) held → v ≡ h.value
    → ws ≡ vs ++ v ∷ [] → map Some ws ≡ map (held_value held) (take (i + 1) bs)
captured_more {A} held bs i d vs ws h v so_far below found is more =
    ap (map Some) more ∙ (map_push Some vs v ∙ (ap (λ os. os ++ Some v ∷ []) so_far
    ∙ (ap (λ o. map (held_value held) (take i bs) ++ o ∷ []) (ap Some is ∙ ap (option_map (λ (x : Held A). x.value)) found)
    ∙ sym (map_more (held_value held) bs i d below))))

-- two facts of a success give a third
pub on_both : {A E P Q R : Type 0} (r : Result A E) → (P → Q → R) → OnOk r P → OnOk r Q → OnOk r R
on_both (Ok x) f p q = f p q
on_both (Err e) f p q = tt

pub on_ok : {A E P Q : Type 0} (r : Result A E) → OnOk r P → (P → Q) → OnOk r Q
on_ok (Ok x) p f = f p
on_ok (Err e) p f = tt

-- what follows from a success and from a failure
pub either_way : {A E P Q G : Type 0} (r : Result A E) → OnOk r P → OnErr r Q → (P → G) → (Q → G) → G
either_way (Ok x) p q f h = f p
either_way (Err e) p q f h = h q

pub empty_by : {A : Type 0} (xs : List A) → (0 < length xs → false ≡ true) → xs ≡ []
empty_by [] h = refl
empty_by (x ∷ xs) h = let contrary : false ≡ true = h (omega arith) in absurd (cc)

pub on_ok_any : {A E P : Type 0} (r : Result A E) → P → OnOk r P
on_ok_any (Ok x) p = p
on_ok_any (Err e) p = tt
