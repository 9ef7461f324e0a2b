-- A pending block is filed.
use Rattle.std.proofs.Common.{◌≡◌, ◌∙◌, ⊎_elim, Bool, true, false, cond, List, [], ◌∷◌, ◌++◌, refl, ap, sym, subst}
use Rattle.std.specs.Prelude.{All, Contains}
use Rattle.gx_lineage.specs.declared.block_id.BlockId.{BlockId}
use Rattle.gx_cluster_state.specs.Blocks.{same_block}
use Rattle.gx_cluster_state.specs.Nets.{Net, IsReady}
use Rattle.gx_cluster_state.specs.Shapes.{Shape, is_held}
use Rattle.gx_cluster_state.specs.BlockLaws.{same_exact}
use Rattle.gx_cluster.specs.Agendas.{BlockAgenda, IsAgenda, IsListed, Waits, has_block, is_pending, is_ready, is_waiting, waiting_for}
use Rattle.gx_cluster.proofs.Members.{cond_or, has_push_cases, has_push_kept, has_push_last, or_cases, or_first, or_second, same_itself, same_sym}

-- ---- as ready
ready_cases : (n : Net) (ts : List BlockId) (s : Shape) (a : BlockAgenda) (b q : BlockId) (t : Bool) → same_block b q ≡ t → IsReady n ts s b
    → ((x : BlockId) → has_block a.ready x ≡ true → IsReady n ts s x) → cond t true (has_block a.ready q) ≡ true → IsReady n ts s q
ready_cases n ts s a b q true same is old h = subst (IsReady n ts s) (same_exact b q same) is
ready_cases n ts s a b q false same is old h = old q h

ready_listed : (a new : BlockAgenda) (b q : BlockId) (rest : List BlockId)
    → ((x : BlockId) → has_block new.ready x ≡ cond (same_block b x) true (has_block a.ready x)) → new.waiting ≡ a.waiting
    → IsListed a (b ∷ rest) q → IsListed new rest q
ready_listed a new b q rest updates kept (is_ready h) = is_ready (updates q ∙ cond_or (same_block b q) (has_block a.ready q) h)
ready_listed a new b q rest updates kept (is_waiting c h) = is_waiting c (ap (λ w. has_block (waiting_for w c) q) kept ∙ h)
ready_listed a new b q rest updates kept (is_pending h) =
    ⊎_elim (λ same. is_ready (updates q ∙ ap (λ (t : Bool). cond t true (has_block a.ready q)) (same_sym b q ∙ same))) (λ later. is_pending later)
    (or_cases (same_block q b) (has_block rest q) h)

pub filed_ready : (n : Net) (ts : List BlockId) (s : Shape) (a new : BlockAgenda) (b : BlockId) (rest : List BlockId)
    → All (λ c. is_held s c ≡ true) (n.inputs b)
    → ((x : BlockId) → has_block new.ready x ≡ cond (same_block b x) true (has_block a.ready x)) → new.waiting ≡ a.waiting
    → IsAgenda n ts s a (b ∷ rest) → IsAgenda n ts s new rest
filed_ready n ts s a new b rest held updates kept r =
    let is = r.unfiled b (or_first (same_block b b) (has_block rest b) (same_itself b)) in
    record {
      ready = λ q h. ready_cases n ts s a b q (same_block b q) refl (record { wanted = is.wanted; idle = is.idle; inputs = held }) r.ready (sym (updates q) ∙ h);
      waiting = λ c q h. r.waiting c q (sym (ap (λ w. has_block (waiting_for w c) q) kept) ∙ h);
      unfiled = λ q h. r.unfiled q (or_second (same_block q b) (has_block rest q) h);
      complete = λ q o. ready_listed a new b q rest updates kept (r.complete q o);
    }

-- ---- as waiting
waiting_kept : (old new : List (BlockId × List BlockId)) (c b k q : BlockId) (t : Bool) → same_block c k ≡ t
    → waiting_for new k ≡ cond t (waiting_for old c ++ b ∷ []) (waiting_for old k) → has_block (waiting_for old k) q ≡ true
    → has_block (waiting_for new k) q ≡ true
waiting_kept old new c b k q true same is h =
    let equal : c ≡ k = same_exact c k same in
    let there : has_block (waiting_for old c) q ≡ true = subst (λ (x : BlockId). has_block (waiting_for old x) q ≡ true) (sym equal) h in
    ap (λ bs. has_block bs q) is ∙ has_push_kept (waiting_for old c) b q there
waiting_kept old new c b k q false same is h = ap (λ bs. has_block bs q) is ∙ h

waiting_cases : (n : Net) (ts : List BlockId) (s : Shape) (old new : List (BlockId × List BlockId)) (c b k q : BlockId) (t : Bool) → same_block c k ≡ t
    → Waits n ts s c b → ((x y : BlockId) → has_block (waiting_for old x) y ≡ true → Waits n ts s x y)
    → waiting_for new k ≡ cond t (waiting_for old c ++ b ∷ []) (waiting_for old k) → has_block (waiting_for new k) q ≡ true → Waits n ts s k q
waiting_cases n ts s old new c b k q true same is waits updates h =
    let equal : c ≡ k = same_exact c k same in
    subst (λ (x : BlockId). Waits n ts s x q) equal
    (⊎_elim (λ earlier. waits c q earlier) (λ last. subst (λ (x : BlockId). Waits n ts s c x) (sym last) is)
    (has_push_cases (waiting_for old c) b q (sym (ap (λ bs. has_block bs q) updates) ∙ h)))
waiting_cases n ts s old new c b k q false same is waits updates h = waits k q (sym (ap (λ bs. has_block bs q) updates) ∙ h)

waiting_listed : (a new : BlockAgenda) (c b q : BlockId) (rest : List BlockId) → new.ready ≡ a.ready
    → ((k : BlockId) → waiting_for new.waiting k ≡ cond (same_block c k) (waiting_for a.waiting c ++ b ∷ []) (waiting_for a.waiting k))
    → IsListed a (b ∷ rest) q → IsListed new rest q
waiting_listed a new c b q rest kept updates (is_ready h) = is_ready (ap (λ bs. has_block bs q) kept ∙ h)
waiting_listed a new c b q rest kept updates (is_waiting k h) =
    is_waiting k (waiting_kept a.waiting new.waiting c b k q (same_block c k) refl (updates k) h)
waiting_listed a new c b q rest kept updates (is_pending h) =
    ⊎_elim
    (λ same. is_waiting c
    (ap (λ bs. has_block bs q) (updates c ∙ ap (λ (t : Bool). cond t (waiting_for a.waiting c ++ b ∷ []) (waiting_for a.waiting c)) (same_itself c))
    ∙ subst (λ (x : BlockId). has_block (waiting_for a.waiting c ++ b ∷ []) x ≡ true) (sym (same_exact q b same)) (has_push_last (waiting_for a.waiting c) b)))
    (λ later. is_pending later)
    (or_cases (same_block q b) (has_block rest q) h)

pub filed_waiting : (n : Net) (ts : List BlockId) (s : Shape) (a new : BlockAgenda) (c b : BlockId) (rest : List BlockId)
    → Contains (n.inputs b) c → is_held s c ≡ false → new.ready ≡ a.ready
    → ((k : BlockId) → waiting_for new.waiting k ≡ cond (same_block c k) (waiting_for a.waiting c ++ b ∷ []) (waiting_for a.waiting k))
    → IsAgenda n ts s a (b ∷ rest) → IsAgenda n ts s new rest
filed_waiting n ts s a new c b rest inside missing kept updates r =
    let is = r.unfiled b (or_first (same_block b b) (has_block rest b) (same_itself b)) in
    record {
      ready = λ q h. r.ready q (sym (ap (λ bs. has_block bs q) kept) ∙ h);
      waiting = λ k q h. waiting_cases n ts s a.waiting new.waiting c b k q (same_block c k) refl
          (record { wanted = is.wanted; idle = is.idle; is_input = inside; missing = missing }) r.waiting (updates k) h;
      unfiled = λ q h. r.unfiled q (or_second (same_block q b) (has_block rest q) h);
      complete = λ q o. waiting_listed a new c b q rest kept updates (r.complete q o);
    }
