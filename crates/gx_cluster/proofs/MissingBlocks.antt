-- Which of some blocks are not held, block by block.
use Rattle.std.proofs.Common.{◌≡◌, ◌∙◌, ◌⊎◌, ⊎_elim, ℕ, ◌+◌, ◌<◌, Bool, true, false, cond, List, [], ◌∷◌, length, get_or, take, Option, Some, None, refl, ap, sym, subst, arith}
use Rattle.std.specs.Prelude.{All, Contains, IfNone, IfSome}
use Rattle.std.proofs.lemmas.List.{take_more}
use Rattle.std.proofs.lemmas.List.Elements.{All-more, All-nil, Contains-append_left, Contains-push, Contains-push_cases}
use Rattle.gx_lineage.specs.declared.block_id.BlockId.{BlockId}
use Rattle.gx_cluster_state.specs.Blocks.{same_block}
use Rattle.gx_cluster_state.specs.Shapes.{Shape, is_held}
use Rattle.gx_cluster_state.specs.BlockLaws.{same_block_laws, same_exact}
use Rattle.gx_cluster.specs.Agendas.{has_block}
use Rattle.gx_cluster.proofs.Members.{both, cond_or}
use Rattle.gx_cluster.specs.Sweeps.{AddsMissing, IsAddedFrom, is_missing, was_there}

contains_more : (bs : List BlockId) (i : ℕ) (d b : BlockId) → i < length bs → Contains (take i bs) b → Contains (take (i + 1) bs) b
contains_more bs i d b h c = subst (λ (xs : List BlockId). Contains xs b) (sym (take_more bs i d h)) (Contains-append_left (take i bs) (get_or bs i d ∷ []) b c)

contains_last : (bs : List BlockId) (i : ℕ) (d : BlockId) → i < length bs → Contains (take (i + 1) bs) (get_or bs i d)
contains_last bs i d h = subst (λ (xs : List BlockId). Contains xs (get_or bs i d)) (sym (take_more bs i d h)) (Contains-push (take i bs) (get_or bs i d))

contains_cases : (bs : List BlockId) (i : ℕ) (d b : BlockId) → i < length bs → Contains (take (i + 1) bs) b → Contains (take i bs) b ⊎ (get_or bs i d ≡ b)
contains_cases bs i d b h c = Contains-push_cases (take i bs) (get_or bs i d) b (subst (λ (xs : List BlockId). Contains xs b) (take_more bs i d h) c)

contains_none : (b : BlockId) → Contains [] b → ⊥
contains_none b c = let below : c.0 < 0 = c.1 in omega arith

-- the last of some blocks that is not held
pub record IsLastMissing (s : Shape) (bs : List BlockId) (missing : Option BlockId) : Type 0 where
  pub all : missing ≡ None → All (λ b. is_held s b ≡ true) bs
  pub one : (b : BlockId) → missing ≡ Some b → Contains bs b × (is_held s b ≡ false)

pub last_missing-none : (s : Shape) (bs : List BlockId) → IsLastMissing s (take 0 bs) None
last_missing-none s bs = record { all = λ h. All-nil (λ b. is_held s b ≡ true); one = λ b h. absurd (cc) }

pub last_missing-held : (s : Shape) (bs : List BlockId) (i : ℕ) (d : BlockId) (m : Option BlockId) → i < length bs → is_held s (get_or bs i d) ≡ true
    → IsLastMissing s (take i bs) m → IsLastMissing s (take (i + 1) bs) m
last_missing-held s bs i d m below held r = record {
  all = λ h. All-more (λ b. is_held s b ≡ true) bs i d below (r.all h) held;
  one = λ b h. let is = r.one b h in (contains_more bs i d b below is.0, is.1);
}

pub last_missing-more : (s : Shape) (bs : List BlockId) (i : ℕ) (d : BlockId) → i < length bs → is_held s (get_or bs i d) ≡ false
    → IsLastMissing s (take (i + 1) bs) (Some (get_or bs i d))
last_missing-more s bs i d below missing = record {
  all = λ h. absurd (cc);
  one = λ b h. let same : get_or bs i d ≡ b = cc in
      subst (λ (x : BlockId). Contains (take (i + 1) bs) x × (is_held s x ≡ false)) same (contains_last bs i d below, missing);
}

pub last_missing-if_none : (s : Shape) (bs : List BlockId) (m : Option BlockId) → IsLastMissing s bs m → IfNone m (All (λ b. is_held s b ≡ true) bs)
last_missing-if_none s bs None r = r.all refl
last_missing-if_none s bs (Some b) r = tt

pub last_missing-if_some : (s : Shape) (bs : List BlockId) (m : Option BlockId) → IsLastMissing s bs m → IfSome m (λ b. Contains bs b)
last_missing-if_some s bs None r = tt
last_missing-if_some s bs (Some b) r = (r.one b refl).0

pub last_missing-if_missing : (s : Shape) (bs : List BlockId) (m : Option BlockId) → IsLastMissing s bs m → IfSome m (λ b. is_held s b ≡ false)
last_missing-if_missing s bs None r = tt
last_missing-if_missing s bs (Some b) r = (r.one b refl).1

pub adds_missing-none : (s : Shape) (bs old : List BlockId) → AddsMissing s (take 0 bs) old old
adds_missing-none s bs old = record { kept = λ b h. h; added = λ b c f. absurd (contains_none b c); only = λ b h. was_there h }

added_more : (s : Shape) (bs old : List BlockId) (i : ℕ) (d b : BlockId) → i < length bs → IsAddedFrom s (take i bs) old b → IsAddedFrom s (take (i + 1) bs) old b
added_more s bs old i d b below (was_there h) = was_there h
added_more s bs old i d b below (is_missing c f) = is_missing (contains_more bs i d b below c) f

pub adds_missing-held : (s : Shape) (bs old new : List BlockId) (i : ℕ) (d : BlockId) → i < length bs → is_held s (get_or bs i d) ≡ true
    → AddsMissing s (take i bs) old new → AddsMissing s (take (i + 1) bs) old new
adds_missing-held s bs old new i d below held r = record {
  kept = r.kept;
  added = λ b c f. ⊎_elim (λ earlier. r.added b earlier f) (λ same. both held (ap (is_held s) same ∙ f)) (contains_cases bs i d b below c);
  only = λ b h. added_more s bs old i d b below (r.only b h);
}

only_more : (s : Shape) (bs old new : List BlockId) (i : ℕ) (d b : BlockId) (t : Bool) → i < length bs → is_held s (get_or bs i d) ≡ false
    → AddsMissing s (take i bs) old new → same_block (get_or bs i d) b ≡ t → cond t true (has_block new b) ≡ true → IsAddedFrom s (take (i + 1) bs) old b
only_more s bs old new i d b true below missing r same h =
    let equal : get_or bs i d ≡ b = same_exact (get_or bs i d) b same in
    subst (λ (x : BlockId). IsAddedFrom s (take (i + 1) bs) old x) equal (is_missing (contains_last bs i d below) missing)
only_more s bs old new i d b false below missing r same h = added_more s bs old i d b below (r.only b h)

pub adds_missing-more : (s : Shape) (bs old new more : List BlockId) (i : ℕ) (d : BlockId) → i < length bs → is_held s (get_or bs i d) ≡ false
    → ((q : BlockId) → has_block more q ≡ cond (same_block (get_or bs i d) q) true (has_block new q))
    → AddsMissing s (take i bs) old new → AddsMissing s (take (i + 1) bs) old more
adds_missing-more s bs old new more i d below missing updates r = record {
  kept = λ b h. updates b ∙ cond_or (same_block (get_or bs i d) b) (has_block new b) (r.kept b h);
  added = λ b c f. updates b ∙ ⊎_elim (λ earlier. cond_or (same_block (get_or bs i d) b) (has_block new b) (r.added b earlier f))
      (λ same. ap (λ (t : Bool). cond t true (has_block new b))
      (subst (λ (x : BlockId). same_block (get_or bs i d) x ≡ true) same (same_block_laws.refl (get_or bs i d))))
      (contains_cases bs i d b below c);
  only = λ b h. only_more s bs old new i d b (same_block (get_or bs i d) b) below missing r refl (sym (updates b) ∙ h);
}
