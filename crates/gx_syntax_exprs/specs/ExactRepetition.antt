-- A parser that repeats an exact parser is exact.
use Rattle.std.proofs.Common.{◌≡◌, ℕ, zero, suc, ◌<◌, ◌≤◌, ◌+◌, Bool, true, false, ◌||◌, inl, inr, Option, Some, None, Result, Ok, Err, List, [], ◌∷◌, ◌++◌, length, refl, sym, ◌∙◌, ap, append_assoc, arith, length-append}
use Rattle.std.proofs.lemmas.List.{append-nil}
use Rattle.gx_syntax_exprs.specs.Combinators.{Parser, ◌>>=◌, pure, seq, map_value, many, many_while, Empty, Then, Either, Many, none, more, IsViablePrefix, IsSound, result_at, StopsBefore, Starts, IsSoundAndLocal, IsComplete, IsExact}
use Rattle.gx_syntax_exprs.specs.ExactParsers.{ok_same, err_same, empty_prefix, sound_and_local_in, pure_exact, seq_sound_and_local, if_next_sound_and_local, stops_left, stops_right}

module _ {T A : Type 0} (L : List T → A → Type 0) (starts : T → Bool) (p : Parser T A) where
  abbrev Round : List T → List A → Type 0
  Round = Either (Then L (λ x. Then (Many L) (λ xs. Empty (x ∷ xs)))) (Empty [])

  round_is : (w : List T) (xs : List A) → Round w xs → Many L w xs
  round_is w xs (inl d) =
      let words : Many L (d.first ++ d.tail.first) (d.value ∷ d.tail.value) = more d.head d.tail.head in
      rw (d.whole, d.tail.whole, d.tail.tail.empty, append-nil, d.tail.tail.given) words
  round_is w xs (inr d) = rw (d.empty, d.given) none

  stuck_local : (w : List T) (t : T) (r s : List T) (o : Option (List A)) → ◌≡◌ {A = Result (List A × List T) (List T)} (Err (w ++ t ∷ r)) (result_at o (t ∷ r)) → ◌≡◌ {A = Result (List A × List T) (List T)} (Err (w ++ t ∷ s)) (result_at o (t ∷ s))
  stuck_local w t r s (Some x) e = cc
  stuck_local w t r s None e = let empty : w ≡ [] = empty_prefix w (t ∷ r) (err_same e) in rw empty refl

  none_viable : IsViablePrefix (Many L) []
  none_viable = record { rest = []; value = []; spells = none }

  pub many_sound_and_local : IsSoundAndLocal L p → (n : ℕ) → IsSoundAndLocal (Many L) (many starts p n)
  unfolding many
  many_sound_and_local P zero = record {
    nonempty = none_viable;
    sound = λ ts. record { consumed = []; whole = refl; viable = none_viable };
    local = stuck_local;
  }
  many_sound_and_local P (suc n) = sound_and_local_in Round (Many L) (many starts p (suc n)) round_is
      (if_next_sound_and_local (Then L (λ x. Then (Many L) (λ xs. Empty (x ∷ xs)))) (Empty []) starts (seq p (λ x. map_value (λ xs. x ∷ xs) (many starts p n))) (pure [])
      (seq_sound_and_local L (λ x. Then (Many L) (λ xs. Empty (x ∷ xs))) p (λ x. map_value (λ xs. x ∷ xs) (many starts p n)) P
      (λ x. seq_sound_and_local (Many L) (λ xs. Empty (x ∷ xs)) (many starts p n) (λ xs. pure (x ∷ xs)) (many_sound_and_local P n) (λ xs. (pure_exact (x ∷ xs)).sound_and_local)))
      (pure_exact []).sound_and_local)

  many_none : (n : ℕ) (ts : List T) → StopsBefore starts ts → many starts p (suc n) ts ≡ Ok ([], ts)
  unfolding many
  many_none n [] e = refl
  many_none n (t ∷ ts) e = rw e refl

  many_some : (n : ℕ) (t : T) (ts : List T) → starts t ≡ true → many starts p (suc n) (t ∷ ts) ≡ p (t ∷ ts) >>= λ x. map_value (λ xs. x ∷ xs) (many starts p n)
  unfolding many
  many_some n t ts e = rw e refl

  enough_after : (n m : ℕ) (ts : List T) (q : Result (A × List T) (List T)) → IsSound L (ts) q → ((w : List T) (x : A) → L w x → Starts starts w) → length ts ≤ n → length ts ≤ m
      → ((mid : List T) → length mid < n → length mid < m → many starts p n mid ≡ many starts p m mid)
      → (q >>= λ x. map_value (λ xs. x ∷ xs) (many starts p n)) ≡ (q >>= λ x. map_value (λ xs. x ∷ xs) (many starts p m))
  enough_after n m ts (Err rest) h heads a b again = refl
  enough_after n m ts (Ok q) h heads a b again =
      let word = heads h.consumed q.0 h.spells in
      let lengths : length ts ≡ length (word.head ∷ word.tail) + length q.1 = ap length h.whole ∙ length-append h.consumed q.1 ∙ ap (λ w. length w + length q.1) word.whole in
      let same : many starts p n q.1 ≡ many starts p m q.1 = again q.1 (omega (arith, lengths)) (omega (arith, lengths)) in
      rw same refl

  pub many_enough : IsSoundAndLocal L p → ((w : List T) (x : A) → L w x → Starts starts w) → (n m : ℕ) (ts : List T) → length ts < n → length ts < m → many starts p n ts ≡ many starts p m ts
  many_enough P heads zero m ts a b = absurd (omega arith)
  many_enough P heads (suc n) zero ts a b = absurd (omega arith)
  many_enough P heads (suc n) (suc m) [] a b = many_none n [] tt ∙ sym (many_none m [] tt)
  many_enough P heads (suc n) (suc m) (t ∷ ts) a b = go (λ mid c d. many_enough P heads n m mid c d) (starts t) refl
    where
      go : ((mid : List T) → length mid < n → length mid < m → many starts p n mid ≡ many starts p m mid) → (c : Bool) → starts t ≡ c → many starts p (suc n) (t ∷ ts) ≡ many starts p (suc m) (t ∷ ts)
      go again false e = many_none n (t ∷ ts) e ∙ sym (many_none m (t ∷ ts) e)
      go again true e = many_some n t ts e
          ∙ enough_after n m (t ∷ ts) (p (t ∷ ts)) (P.sound (t ∷ ts)) heads (omega arith) (omega arith) again
          ∙ sym (many_some m t ts e)

  many_on : (q : Result (A × List T) (List T)) (n : ℕ) (xs : List A) (rest : List T) → ((mid : List T) (ys : List A) → many starts p n mid ≡ Ok (ys, rest) → rest ≡ [])
      → (q >>= λ x. map_value (λ ys. x ∷ ys) (many starts p n)) ≡ Ok (xs, rest) → rest ≡ []
  many_on (Err stuck) n xs rest again e = absurd (let lie : ◌≡◌ {A = Result (List A × List T) (List T)} (Err stuck) (Ok (xs, rest)) = e in cc)
  many_on (Ok q) n xs rest again e = go (many starts p n q.1) refl e
    where
      go : (r : Result (List A × List T) (List T)) → many starts p n q.1 ≡ r → (r >>= λ ys rest. Ok (q.0 ∷ ys, rest)) ≡ Ok (xs, rest) → rest ≡ []
      go (Err stuck) h i = absurd (let lie : ◌≡◌ {A = Result (List A × List T) (List T)} (Err stuck) (Ok (xs, rest)) = i in cc)
      go (Ok r) h i =
          let same : r.1 ≡ rest = ap (λ (v : List A × List T). v.1) (ok_same i) in
          again q.1 r.0 (h ∙ ap (λ l. Ok (r.0, l)) same)

  -- if each token begins a word, no token remains
  pub many_whole : ((t : T) → starts t ≡ true) → (n : ℕ) (ts : List T) (xs : List A) (rest : List T) → many starts p n ts ≡ Ok (xs, rest) → rest ≡ []
  unfolding many
  many_whole all zero ts xs rest e = absurd (let lie : ◌≡◌ {A = Result (List A × List T) (List T)} (Err ts) (Ok (xs, rest)) = e in cc)
  many_whole all (suc n) [] xs rest e = sym (ap (λ (v : List A × List T). v.1) (ok_same (sym (many_none n [] tt) ∙ e)))
  many_whole all (suc n) (t ∷ ts) xs rest e = many_on (p (t ∷ ts)) n xs rest (λ mid ys h. many_whole all n mid ys rest h) (sym (many_some n t ts (all t)) ∙ e)

  -- any bound above the number of tokens serves
  pub many_while_many : IsSoundAndLocal L p → ((w : List T) (x : A) → L w x → Starts starts w) → (n : ℕ) (ts : List T) → length ts < n → many_while starts p ts ≡ many starts p n ts
  unfolding many_while
  many_while_many P heads n ts a = many_enough P heads (suc (length ts)) n ts (omega arith) a

  pub many_while_sound_and_local : IsSoundAndLocal L p → ((w : List T) (x : A) → L w x → Starts starts w) → IsSoundAndLocal (Many L) (many_while starts p)
  unfolding many_while
  many_while_sound_and_local P heads = record { nonempty = none_viable; sound = sound; local = local }
    where
      sound : (ts : List T) → IsSound (Many L) ts (many_while starts p ts)
      sound ts = (many_sound_and_local P (suc (length ts))).sound ts

      local : (w : List T) (t : T) (r s : List T) (o : Option (List A)) → many_while starts p (w ++ t ∷ r) ≡ result_at o (t ∷ r) → many_while starts p (w ++ t ∷ s) ≡ result_at o (t ∷ s)
      local w t r s o e =
          let n : ℕ = suc (length (w ++ t ∷ r) + length (w ++ t ∷ s)) in
          let here : many starts p n (w ++ t ∷ r) ≡ result_at o (t ∷ r) = sym (many_while_many P heads n (w ++ t ∷ r) (omega arith)) ∙ e in
          many_while_many P heads n (w ++ t ∷ s) (omega arith) ∙ (many_sound_and_local P n).local w t r s o here

  -- one more word
  many_more : (n : ℕ) (w mid : List T) (x : A) → Starts starts w → p (w ++ mid) ≡ Ok (x, mid) → many starts p (suc n) (w ++ mid) ≡ many starts p n mid >>= λ xs rest. Ok (x ∷ xs, rest)
  many_more n w mid x s e =
      let begins : w ++ mid ≡ s.head ∷ (s.tail ++ mid) = ap (λ v. v ++ mid) s.whole in
      let read : p (s.head ∷ (s.tail ++ mid)) ≡ Ok (x, mid) = ap p (sym begins) ∙ e in
      ap (λ v. many starts p (suc n) v) begins ∙ many_some n s.head (s.tail ++ mid) s.passes ∙ ap (λ r. r >>= λ y. map_value (λ xs. y ∷ xs) (many starts p n)) read

  ends_many : (g : T → Bool) → ((t : T) → starts t ≡ true → g t ≡ false) → ((w : List T) (x : A) → L w x → Starts starts w) → {ws : List T} {xs : List A} → Many L ws xs → (rest : List T) → StopsBefore (λ t. g t || starts t) rest → StopsBefore g (ws ++ rest)
  ends_many g apart heads none rest e = stops_left g starts rest e
  ends_many g apart heads (more {w} {ws} {x} d ds) rest e =
      let s = heads w x d in
      rw s.whole (apart s.head s.passes)

  pub many_complete : (g : T → Bool) → IsExact L g p → ((w : List T) (x : A) → L w x → Starts starts w) → ((t : T) → starts t ≡ true → g t ≡ false)
      → (n : ℕ) {ws : List T} {xs : List A} → Many L ws xs → (rest : List T) → length (ws ++ rest) < n → StopsBefore (λ t. g t || starts t) rest → many starts p n (ws ++ rest) ≡ Ok (xs, rest)
  many_complete g P heads apart zero d rest a e = absurd (omega arith)
  many_complete g P heads apart (suc n) none rest a e = many_none n rest (stops_right g starts rest e)
  many_complete g P heads apart (suc n) (more {w} {ws} {x} {xs} d ds) rest a e =
      let s = heads w x d in
      let lengths : length (w ++ ws ++ rest) ≡ length (s.head ∷ s.tail) + length (ws ++ rest) = ap length (append_assoc w ws rest) ∙ length-append w (ws ++ rest) ∙ ap (λ v. length v + length (ws ++ rest)) s.whole in
      let read : p (w ++ (ws ++ rest)) ≡ Ok (x, ws ++ rest) = P.complete w (ws ++ rest) x d (ends_many g apart heads ds rest e) in
      let after : many starts p n (ws ++ rest) ≡ Ok (xs, rest) = many_complete g P heads apart n ds rest (omega (arith, lengths)) e in
      rw append_assoc (many_more n w (ws ++ rest) x s read ∙ ap (λ r. r >>= λ ys rest. Ok (x ∷ ys, rest)) after)

  pub many_while_exact : (g : T → Bool) → IsExact L g p → ((w : List T) (x : A) → L w x → Starts starts w) → ((t : T) → starts t ≡ true → g t ≡ false)
      → IsExact (Many L) (λ t. g t || starts t) (many_while starts p)
  unfolding many_while
  many_while_exact g P heads apart = record { sound_and_local = many_while_sound_and_local P.sound_and_local heads; complete = complete }
    where
      complete : IsComplete (Many L) (λ t. g t || starts t) (many_while starts p)
      complete w rest xs d e = many_complete g P heads apart (suc (length (w ++ rest))) d rest (omega arith) e
