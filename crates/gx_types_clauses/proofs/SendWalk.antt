-- Sends that are checked one after the other.
use Rattle.std.proofs.Common.{◌≡◌, ℕ, ◌+◌, ◌<◌, ◌≤◌, All, Result, Ok, Err, List, [], ◌∷◌, ◌++◌, length, map, drop, get_or, refl, sym, ap, subst, ◌∙◌, arith, append_assoc}
use Rattle.std.specs.Prelude.{sum}
use Rattle.std.proofs.lemmas.List.{append-nil, drop_all}
use Rattle.gx_rows.specs.Results.{◌>>=◌}
use Rattle.gx_syntax_tree.specs.Bounds.{node_count}
use Rattle.gx_syntax_tree.specs.declared.parts.SendClause.{SendClause}
use Rattle.gx_types_exprs.specs.ExprScopes.{ScopeNames}
use Rattle.gx_types_clauses.specs.Sending.{clause_before, clause_exprs, sent_exprs, typed_clause, typed_sends, with_clause}
use Rattle.gx_types_clauses.specs.ClauseBounds.{HasShortTexts}
use Rattle.gx_types_clauses.specs.declared.sending.TypedClause.{TypedClause}
use Rattle.gx_types_clauses.specs.declared.sending.TypedSends.{TypedSends}
use Rattle.gx_types_clauses.specs.declared.stmt_stop.StmtStop.{StmtStop}
use Rattle.gx_types_clauses.specs.BoundLaws.{joined_counted, left_short, right_short}
use Rattle.gx_types_clauses.proofs.ValueWalk.{rest-is}

-- sends that are checked already, before those of the rest
abbrev pub prefixed_sends : TypedSends → Result TypedSends StmtStop → Result TypedSends StmtStop
prefixed_sends c rest = rest >>= λ xs. Ok (record { sends = c.sends ++ xs.sends; kinds = c.kinds ++ xs.kinds; next = xs.next })

-- the first i sends are checked
pub record AreSent (s : ScopeNames) (cs : List SendClause) (first i : ℕ) (c : TypedSends) : Type 0 where
  pub so_far : prefixed_sends c (typed_sends s c.next (drop i cs)) ≡ typed_sends s first cs
  pub counted : c.next + sum (map node_count (sent_exprs (drop i cs))) ≡ first + sum (map node_count (sent_exprs cs))
  pub short : All HasShortTexts (sent_exprs (drop i cs))

abbrev no_sends : ℕ → TypedSends
no_sends n = record { sends = []; kinds = []; next = n }

prefixed-none : (n : ℕ) (rest : Result TypedSends StmtStop) → prefixed_sends (no_sends n) rest ≡ rest
prefixed-none n (Ok xs) = refl
prefixed-none n (Err e) = refl

pub sent-none : (s : ScopeNames) (cs : List SendClause) (first : ℕ) (c : TypedSends) → c ≡ record { sends = []; kinds = []; next = first } → All HasShortTexts (sent_exprs cs) → AreSent s cs first 0 c
sent-none s cs first c is short = subst (AreSent s cs first 0) (sym is) (record { so_far = prefixed-none first (typed_sends s first cs); counted = refl; short = short })

-- the next send
split-exprs : (cs : List SendClause) (i : ℕ) (x : SendClause) → i < length cs → x ≡ get_or cs i x → sent_exprs (drop i cs) ≡ clause_exprs x ++ sent_exprs (drop (i + 1) cs)
split-exprs cs i x below is = ap sent_exprs (rest-is cs i x below is)

pub sent-counted : (s : ScopeNames) (cs : List SendClause) (first i : ℕ) (c : TypedSends) (x : SendClause) → i < length cs → x ≡ get_or cs i x → AreSent s cs first i c
    → c.next + (sum (map node_count (clause_exprs x)) + sum (map node_count (sent_exprs (drop (i + 1) cs)))) ≡ first + sum (map node_count (sent_exprs cs))
sent-counted s cs first i c x below is h =
    let split : sum (map node_count (sent_exprs (drop i cs))) ≡ sum (map node_count (clause_exprs x)) + sum (map node_count (sent_exprs (drop (i + 1) cs))) =
    ap (λ es. sum (map node_count es)) (split-exprs cs i x below is) ∙ joined_counted (clause_exprs x) (sent_exprs (drop (i + 1) cs)) in
    omega (arith, h.counted)

pub sent-short : (s : ScopeNames) (cs : List SendClause) (first i : ℕ) (c : TypedSends) (x : SendClause) → i < length cs → x ≡ get_or cs i x → AreSent s cs first i c → All HasShortTexts (clause_exprs x)
sent-short s cs first i c x below is h =
    left_short (clause_exprs x) (sent_exprs (drop (i + 1) cs)) (subst (All HasShortTexts) (split-exprs cs i x below is) h.short)

prefixed-more : (c : TypedSends) (t : TypedClause) (x : Result TypedClause StmtStop) (rest : ℕ → Result TypedSends StmtStop) → x ≡ Ok t
    → prefixed_sends c (x >>= λ y. rest y.next >>= λ ys. Ok (clause_before y ys)) ≡ prefixed_sends (with_clause c t) (rest t.next)
prefixed-more c t x rest is = rw is (go (rest t.next))
  where
    go : (r : Result TypedSends StmtStop) → prefixed_sends c (r >>= λ ys. Ok (clause_before t ys)) ≡ prefixed_sends (with_clause c t) r
    go (Ok ys) = rw (append_assoc, append_assoc) refl
    go (Err e) = refl

pub sent-next : (s : ScopeNames) (cs : List SendClause) (first i : ℕ) (c d : TypedSends) (x : SendClause) (t : TypedClause) → i < length cs → x ≡ get_or cs i x → AreSent s cs first i c
    → typed_clause s c.next x ≡ Ok t → t.next ≡ c.next + sum (map node_count (clause_exprs x)) → d ≡ with_clause c t → AreSent s cs first (i + 1) d
sent-next s cs first i c d x t below is h typed counted after =
    let split : typed_sends s c.next (drop i cs) ≡ typed_sends s c.next (x ∷ drop (i + 1) cs) = ap (typed_sends s c.next) (rest-is cs i x below is) in
    let moved : prefixed_sends c (typed_sends s c.next (x ∷ drop (i + 1) cs)) ≡ prefixed_sends (with_clause c t) (typed_sends s t.next (drop (i + 1) cs)) =
    prefixed-more c t (typed_clause s c.next x) (λ n. typed_sends s n (drop (i + 1) cs)) typed in
    subst (AreSent s cs first (i + 1)) (sym after) (record {
      so_far = sym moved ∙ sym (ap (prefixed_sends c) split) ∙ h.so_far;
      counted = omega (arith, sent-counted s cs first i c x below is h);
      short = right_short (clause_exprs x) (sent_exprs (drop (i + 1) cs)) (subst (All HasShortTexts) (split-exprs cs i x below is) h.short);
    })

pub sent-stop : (s : ScopeNames) (cs : List SendClause) (first i : ℕ) (c : TypedSends) (x : SendClause) (e : StmtStop) → i < length cs → x ≡ get_or cs i x → AreSent s cs first i c
    → typed_clause s c.next x ≡ Err e → typed_sends s first cs ≡ Err e
sent-stop s cs first i c x e below is h typed =
    let split : typed_sends s c.next (drop i cs) ≡ typed_sends s c.next (x ∷ drop (i + 1) cs) = ap (typed_sends s c.next) (rest-is cs i x below is) in
    let refused : typed_sends s c.next (x ∷ drop (i + 1) cs) ≡ Err e = rw typed refl in
    sym h.so_far ∙ ap (prefixed_sends c) (split ∙ refused)

pub sent-all : (s : ScopeNames) (cs : List SendClause) (first i : ℕ) (c : TypedSends) → length cs ≤ i → AreSent s cs first i c → typed_sends s first cs ≡ Ok c
sent-all s cs first i c past h =
    let none : drop i cs ≡ [] = drop_all i cs past in
    let so_far : prefixed_sends c (typed_sends s c.next []) ≡ typed_sends s first cs =
    subst (λ ys. prefixed_sends c (typed_sends s c.next ys) ≡ typed_sends s first cs) none h.so_far in
    let all : typed_sends s first cs ≡ Ok c = sym so_far ∙ rw (append-nil, append-nil) refl in
    all
