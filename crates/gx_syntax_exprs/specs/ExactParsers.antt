-- Parsers that are put together from exact parsers are exact. The theory holds for tokens and
-- values of any type.
use Rattle.std.proofs.Common.{◌≡◌, ◌≤◌, ◌-◌, Bool, true, false, if◌then◌else◌, ◌||◌, inl, inr, Option, Some, None, Result, Ok, Err, List, [], ◌∷◌, ◌++◌, length, take, drop, refl, sym, ◌∙◌, ap, subst, append_assoc, arith, length-append}
use Rattle.std.proofs.Math.Seq.{take-append_seam, drop-append_seam}
use Rattle.std.proofs.lemmas.List.{append-nil}
use Rattle.gx_syntax_exprs.specs.Combinators.{Parser, ◌>>=◌, pure, satisfy, satisfied_by, seq, if_next, Satisfies, Empty, Then, Either, IsViablePrefix, IsParsed, IsStuck, NoWordContinues, IsRefused, IsSound, result_at, StopsBefore, Starts, IsSoundAndLocal, IsComplete, IsExact}

-- equal results have equal values and rests
pub ok_same : {X Y : Type 0} {a b : X} → ◌≡◌ {A = Result X Y} (Ok a) (Ok b) → a ≡ b
ok_same e = cc

pub err_same : {X Y : Type 0} {a b : Y} → ◌≡◌ {A = Result X Y} (Err a) (Err b) → a ≡ b
err_same e = cc

-- tokens end with these
pub record HasSuffix {T : Type 0} (ts rest : List T) : Type 0 where
  pub consumed : List T
  pub whole : ts ≡ consumed ++ rest

pub suffix_of : {T A : Type 0} (L : List T → A → Type 0) (ts rest : List T) (o : Option A) → IsSound L ts (result_at o rest) → HasSuffix ts rest
suffix_of L ts rest (Some x) h = record { consumed = h.consumed; whole = h.whole }
suffix_of L ts rest None h = record { consumed = h.consumed; whole = h.whole }

-- the same tokens after two prefixes
pub cancel : {T : Type 0} (w v : List T) (ts : List T) → w ++ ts ≡ v ++ ts → w ≡ v
cancel [] [] ts e = refl
cancel [] (b ∷ v) ts e = absurd (omega (arith, simp length-append at (ap length e)))
cancel (a ∷ w) [] ts e = absurd (omega (arith, simp length-append at (ap length e)))
cancel (a ∷ w) (b ∷ v) ts e =
    let heads : a ≡ b = cc in
    let tails : w ++ ts ≡ v ++ ts = cc in
    rw (heads, cancel w v ts tails) refl

pub empty_prefix : {T : Type 0} (w : List T) (ts : List T) → w ++ ts ≡ ts → w ≡ []
empty_prefix w ts e = cancel w [] ts e

-- no token
pub pure_local : {T A : Type 0} (y : A) (w : List T) (t : T) (r s : List T) (o : Option A) → pure y (w ++ t ∷ r) ≡ result_at o (t ∷ r) → pure y (w ++ t ∷ s) ≡ result_at o (t ∷ s)
pure_local y w t r s None e = cc
pure_local {T = T} {A = A} y w t r s (Some x) e =
    let both : (y, w ++ t ∷ r) ≡ (x, t ∷ r) = ok_same e in
    let value : y ≡ x = ap (λ (p : A × List T). p.0) both in
    let empty : w ≡ [] = empty_prefix w (t ∷ r) (ap (λ (p : A × List T). p.1) both) in
    rw (value, empty) refl

pub pure_exact : {T A : Type 0} (y : A) → IsExact {T = T} (Empty y) (λ t. false) (pure y)
pure_exact y = record {
  sound_and_local = record {
    nonempty = record { rest = []; value = y; spells = record { empty = refl; given = refl } };
    sound = λ ts. record { consumed = []; whole = refl; spells = record { empty = refl; given = refl } };
    local = pure_local y;
  };
  complete = λ w rest x h e. rw (h.empty, h.given) refl;
}

-- one token
satisfied_sound : {T A : Type 0} (test : T → Option A) → IsViablePrefix (Satisfies test) [] → (t : T) (ts : List T) (o : Option A) → test t ≡ o → IsSound (Satisfies test) (t ∷ ts) (satisfied_by o t ts)
satisfied_sound test b t ts (Some x) e = record { consumed = t ∷ []; whole = refl; spells = record { token = t; whole = refl; passes = e } }
satisfied_sound test b t ts None e = record { consumed = []; whole = refl; viable = b }

satisfied_local : {T A : Type 0} (o' : Option A) (w : List T) (u t : T) (r s : List T) (o : Option A) → satisfied_by o' u (w ++ t ∷ r) ≡ result_at o (t ∷ r) → satisfied_by o' u (w ++ t ∷ s) ≡ result_at o (t ∷ s)
satisfied_local (Some x) w u t r s o e = pure_local x w t r s o e
satisfied_local None w u t r s (Some x) e = cc
satisfied_local None w u t r s None e =
    let same : u ∷ (w ++ t ∷ r) ≡ t ∷ r = err_same e in
    absurd (omega (arith, simp length-append at (ap length same)))

-- a list is not a tail of itself
no_tail : {T : Type 0} (t : T) (r : List T) → r ≡ t ∷ r → ⊥
no_tail t r e = absurd (omega (arith, ap length e))

satisfied_head_local : {T A : Type 0} (o' : Option A) (t : T) (r s : List T) (o : Option A) → satisfied_by o' t r ≡ result_at o (t ∷ r) → satisfied_by o' t s ≡ result_at o (t ∷ s)
satisfied_head_local {T = T} {A = A} (Some x) t r s (Some y) e = absurd (no_tail t r (ap (λ (p : A × List T). p.1) (ok_same e)))
satisfied_head_local (Some x) t r s None e = cc
satisfied_head_local None t r s (Some y) e = cc
satisfied_head_local None t r s None e = refl

satisfy_local : {T A : Type 0} (test : T → Option A) (w : List T) (t : T) (r s : List T) (o : Option A) → satisfy test (w ++ t ∷ r) ≡ result_at o (t ∷ r) → satisfy test (w ++ t ∷ s) ≡ result_at o (t ∷ s)
satisfy_local test [] t r s o e = satisfied_head_local (test t) t r s o e
satisfy_local test (u ∷ w) t r s o e = satisfied_local (test u) w u t r s o e

pub satisfy_exact : {T A : Type 0} (test : T → Option A) (t : T) (x : A) → test t ≡ Some x → IsExact (Satisfies test) (λ t. false) (satisfy test)
satisfy_exact test t x e = record {
  sound_and_local = record {
    nonempty = viable_empty;
    sound = sound;
    local = satisfy_local test;
  };
  complete = λ w rest y h _. rw (h.whole, h.passes) refl;
}
  where
    viable_empty : IsViablePrefix (Satisfies test) []
    viable_empty = record { rest = t ∷ []; value = x; spells = record { token = t; whole = refl; passes = e } }

    sound : (ts : _) → IsSound (Satisfies test) ts (satisfy test ts)
    sound [] = record { consumed = []; whole = refl; viable = viable_empty }
    sound (u ∷ us) = satisfied_sound test viable_empty u us (test u) refl

-- words of a larger language
pub viable_in : {T A : Type 0} (L M : List T → A → Type 0) → ((w : List T) (x : A) → L w x → M w x) → (consumed : List T) → IsViablePrefix L consumed → IsViablePrefix M consumed
viable_in L M f consumed b = record { rest = b.rest; value = b.value; spells = f _ _ b.spells }

pub sound_in : {T A : Type 0} (L M : List T → A → Type 0) → ((w : List T) (x : A) → L w x → M w x) → (ts : List T) (r : Result (A × List T) (List T)) → IsSound L ts r → IsSound M ts r
sound_in L M f ts (Ok r) h = record { consumed = h.consumed; whole = h.whole; spells = f _ _ h.spells }
sound_in L M f ts (Err rest) h = record { consumed = h.consumed; whole = h.whole; viable = viable_in L M f _ h.viable }

pub sound_and_local_in : {T A : Type 0} (L M : List T → A → Type 0) (p : Parser T A) → ((w : List T) (x : A) → L w x → M w x) → IsSoundAndLocal L p → IsSoundAndLocal M p
sound_and_local_in L M p f P = record {
  nonempty = viable_in L M f [] P.nonempty;
  sound = λ ts. sound_in L M f ts (p ts) (P.sound ts);
  local = P.local;
}

-- one parser after another
module _ {T A B : Type 0} (L : List T → A → Type 0) (M : A → List T → B → Type 0) (p : Parser T A) (f : A → Parser T B) where
  then_viable : ((x : A) → IsSoundAndLocal (M x) (f x)) → (consumed : List T) → IsViablePrefix L consumed → IsViablePrefix (Then L M) consumed
  then_viable F consumed b =
      let more_of = (F b.value).nonempty in
      record {
        rest = b.rest ++ more_of.rest;
        value = more_of.value;
        spells = record { first = consumed ++ b.rest; second = more_of.rest; value = b.value; whole = sym (append_assoc consumed b.rest more_of.rest); head = b.spells; tail = more_of.spells };
      }

  then_second : (ts consumed mid : List T) (x : A) → ts ≡ consumed ++ mid → L consumed x → (r : Result (B × List T) (List T)) → IsSound (M x) mid r → IsSound (Then L M) ts r
  then_second ts consumed mid x e h (Ok r) g = record {
    consumed = consumed ++ g.consumed;
    whole = rw (e, g.whole) (simp append_assoc);
    spells = record { first = consumed; second = g.consumed; value = x; whole = refl; head = h; tail = g.spells };
  }
  then_second ts consumed mid x e h (Err rest) g = record {
    consumed = consumed ++ g.consumed;
    whole = rw (e, g.whole) (simp append_assoc);
    viable = record {
      rest = g.viable.rest;
      value = g.viable.value;
      spells = record { first = consumed; second = g.consumed ++ g.viable.rest; value = x; whole = append_assoc consumed g.consumed g.viable.rest; head = h; tail = g.viable.spells };
    };
  }

  then_sound : ((x : A) → IsSoundAndLocal (M x) (f x)) → (ts : List T) (r : Result (A × List T) (List T)) → IsSound L ts r → IsSound (Then L M) ts (r >>= f)
  then_sound F ts (Ok r) h = then_second ts h.consumed r.1 r.0 h.whole h.spells (f r.0 r.1) ((F r.0).sound r.1)
  then_sound F ts (Err rest) h = record { consumed = h.consumed; whole = h.whole; viable = then_viable F h.consumed h.viable }

  -- p parses the same before other tokens, if the token at which it stops is the same
  moved : IsSoundAndLocal L p → (w v : List T) (t : T) (r s : List T) (x : A) → p (w ++ (v ++ t ∷ r)) ≡ Ok (x, v ++ t ∷ r) → p (w ++ (v ++ t ∷ s)) ≡ Ok (x, v ++ t ∷ s)
  moved P w [] t r s x e = P.local w t r s (Some x) e
  moved P w (u ∷ v) t r s x e = P.local w u (v ++ t ∷ r) (v ++ t ∷ s) (Some x) e

  then_again : IsSoundAndLocal L p → (u v mid : List T) (t : T) (r s : List T) (o : Option B) (x : A) → IsSoundAndLocal (M x) (f x)
      → mid ≡ v ++ t ∷ r → p (u ++ mid) ≡ Ok (x, mid) → f x mid ≡ result_at o (t ∷ r) → seq p f ((u ++ v) ++ t ∷ s) ≡ result_at o (t ∷ s)
  then_again P u v mid t r s o x F e h g =
      let read : p (u ++ (v ++ t ∷ r)) ≡ Ok (x, v ++ t ∷ r) = rw (← e) h in
      let again : p (u ++ (v ++ t ∷ s)) ≡ Ok (x, v ++ t ∷ s) = moved P u v t r s x read in
      let after : f x (v ++ t ∷ s) ≡ result_at o (t ∷ s) = F.local v t r s o (rw (← e) g) in
      rw (append_assoc, again) after

  then_local : IsSoundAndLocal L p → ((x : A) → IsSoundAndLocal (M x) (f x)) → (w : List T) (t : T) (r s : List T) (o : Option B)
      → (q : Result (A × List T) (List T)) → p (w ++ t ∷ r) ≡ q → IsSound L (w ++ t ∷ r) q → q >>= f ≡ result_at o (t ∷ r) → seq p f (w ++ t ∷ s) ≡ result_at o (t ∷ s)
  then_local P F w t r s (Some y) (Err rest) e h g = cc
  then_local P F w t r s None (Err rest) e h g =
      let same : rest ≡ t ∷ r = err_same g in
      let here : p (w ++ t ∷ r) ≡ Err (t ∷ r) = e ∙ ap (λ (a : List T). Err a) same in
      let there : p (w ++ t ∷ s) ≡ Err (t ∷ s) = P.local w t r s None here in
      rw there refl
  then_local P F w t r s o (Ok q) e h g =
      let mid = suffix_of (M q.0) q.1 (t ∷ r) o (subst (λ a. IsSound (M q.0) q.1 a) g ((F q.0).sound q.1)) in
      let whole : w ++ t ∷ r ≡ (h.consumed ++ mid.consumed) ++ t ∷ r = h.whole ∙ ap (λ v. h.consumed ++ v) mid.whole ∙ sym (append_assoc h.consumed mid.consumed (t ∷ r)) in
      let prefixes : w ≡ h.consumed ++ mid.consumed = cancel w (h.consumed ++ mid.consumed) (t ∷ r) whole in
      subst (λ a. seq p f (a ++ t ∷ s) ≡ result_at o (t ∷ s)) (sym prefixes) (then_again P h.consumed mid.consumed q.1 t r s o q.0 (F q.0) mid.whole (ap p (sym h.whole) ∙ e) g)

  pub seq_sound_and_local : IsSoundAndLocal L p → ((x : A) → IsSoundAndLocal (M x) (f x)) → IsSoundAndLocal (Then L M) (seq p f)
  seq_sound_and_local P F = record {
    nonempty = then_viable F [] P.nonempty;
    sound = λ ts. then_sound F ts (p ts) (P.sound ts);
    local = λ w t r s o e. then_local P F w t r s o (p (w ++ t ∷ r)) refl (P.sound (w ++ t ∷ r)) e;
  }

  pub seq_exact : (g h : T → Bool) → IsExact L g p → ((x : A) → IsExact (M x) h (f x)) → ((x : A) (v rest : List T) (y : B) → M x v y → StopsBefore h rest → StopsBefore g (v ++ rest)) → IsExact (Then L M) h (seq p f)
  seq_exact g h P F apart = record {
    sound_and_local = seq_sound_and_local P.sound_and_local (λ x. (F x).sound_and_local);
    complete = λ w rest y d e.
        let first = P.complete d.first (d.second ++ rest) d.value d.head (apart d.value d.second rest y d.tail e) in
        let second = (F d.value).complete d.second rest y d.tail e in
        rw (d.whole, append_assoc, first) second;
  }

pub or_left : (a b : Bool) → (a || b) ≡ false → a ≡ false
or_left true b e = e
or_left false b e = refl

pub or_right : (a b : Bool) → (a || b) ≡ false → b ≡ false
or_right true b e = absurd (cc)
or_right false b e = e

pub stops_left : {T : Type 0} (g h : T → Bool) (rest : List T) → StopsBefore (λ t. g t || h t) rest → StopsBefore g rest
stops_left g h [] e = tt
stops_left g h (t ∷ ts) e = or_left (g t) (h t) e

pub stops_right : {T : Type 0} (g h : T → Bool) (rest : List T) → StopsBefore (λ t. g t || h t) rest → StopsBefore h rest
stops_right g h [] e = tt
stops_right g h (t ∷ ts) e = or_right (g t) (h t) e

-- one of two parsers, by the next token
module _ {T A : Type 0} (L M : List T → A → Type 0) (test : T → Bool) (p q : Parser T A) where
  if_next_sound : IsSoundAndLocal L p → IsSoundAndLocal M q → (b : Bool) (ts : List T) → IsSound (Either L M) ts (if b then p ts else q ts)
  if_next_sound P Q true ts = sound_in L (Either L M) (λ w x d. inl d) ts (p ts) (P.sound ts)
  if_next_sound P Q false ts = sound_in M (Either L M) (λ w x d. inr d) ts (q ts) (Q.sound ts)

  branch_local : IsSoundAndLocal L p → IsSoundAndLocal M q → (b : Bool) (w : List T) (t : T) (r s : List T) (o : Option A)
      → (if b then p (w ++ t ∷ r) else q (w ++ t ∷ r)) ≡ result_at o (t ∷ r) → (if b then p (w ++ t ∷ s) else q (w ++ t ∷ s)) ≡ result_at o (t ∷ s)
  branch_local P Q true = P.local
  branch_local P Q false = Q.local

  if_next_local : IsSoundAndLocal L p → IsSoundAndLocal M q → (w : List T) (t : T) (r s : List T) (o : Option A) → if_next test p q (w ++ t ∷ r) ≡ result_at o (t ∷ r) → if_next test p q (w ++ t ∷ s) ≡ result_at o (t ∷ s)
  if_next_local P Q [] t = branch_local P Q (test t) [] t
  if_next_local P Q (u ∷ w) t = branch_local P Q (test u) (u ∷ w) t

  pub if_next_sound_and_local : IsSoundAndLocal L p → IsSoundAndLocal M q → IsSoundAndLocal (Either L M) (if_next test p q)
  if_next_sound_and_local P Q = record {
    nonempty = viable_in M (Either L M) (λ w x d. inr d) [] Q.nonempty;
    sound = sound;
    local = if_next_local P Q;
  }
    where
      sound : (ts : List T) → IsSound (Either L M) ts (if_next test p q ts)
      sound [] = sound_in M (Either L M) (λ w x d. inr d) [] (q []) (Q.sound [])
      sound (t ∷ ts) = if_next_sound P Q (test t) (t ∷ ts)

  pub if_next_first : (w : List T) → Starts test w → (rest : List T) → if_next test p q (w ++ rest) ≡ p (w ++ rest)
  if_next_first w s rest = rw (s.whole, s.passes) refl

  pub if_next_second : (ts : List T) → StopsBefore test ts → if_next test p q ts ≡ q ts
  if_next_second [] e = refl
  if_next_second (t ∷ ts) e = rw e refl

  pub if_next_exact : (go g h : T → Bool) → IsExact L g p → IsExact M h q → ((rest : List T) → StopsBefore go rest → StopsBefore g rest) → ((rest : List T) → StopsBefore go rest → StopsBefore h rest) → ((w : List T) (x : A) → L w x → Starts test w)
      → ((w : List T) (x : A) → M w x → (rest : List T) → StopsBefore go rest → StopsBefore test (w ++ rest)) → IsExact (Either L M) go (if_next test p q)
  if_next_exact go g h P Q to_g to_h heads apart = record { sound_and_local = if_next_sound_and_local P.sound_and_local Q.sound_and_local; complete = complete }
    where
      complete : IsComplete (Either L M) go (if_next test p q)
      complete w rest x (inl d) e = if_next_first w (heads w x d) rest ∙ P.complete w rest x d (to_g rest e)
      complete w rest x (inr d) e = if_next_second (w ++ rest) (apart w x d rest e) ∙ Q.complete w rest x d (to_h rest e)

-- the consumed tokens and the rest, by how many tokens remain
pub length-rest : {T : Type 0} (ts consumed rest : List T) → ts ≡ consumed ++ rest → length rest ≤ length ts
length-rest ts consumed rest e = omega (arith, length-append consumed rest, ap length e)

pub drop-consumed : {T : Type 0} (ts consumed rest : List T) → ts ≡ consumed ++ rest → drop (length ts - length rest) ts ≡ rest
drop-consumed ts consumed rest e =
    let count : length ts - length rest ≡ length consumed = omega (arith, length-append consumed rest, ap length e) in
    rw count (ap (drop (length consumed)) e ∙ drop-append_seam consumed rest)

pub take-consumed : {T : Type 0} (ts consumed rest : List T) → ts ≡ consumed ++ rest → take (length ts - length rest) ts ≡ consumed
take-consumed ts consumed rest e =
    let count : length ts - length rest ≡ length consumed = omega (arith, length-append consumed rest, ap length e) in
    rw count (ap (take (length consumed)) e ∙ take-append_seam consumed rest)

-- a refusal of an exact parser in the words of the language
module _ {T A : Type 0} (L : List T → A → Type 0) (go : T → Bool) (p : Parser T A) (exact : IsExact L go p) where
  not_both : (ts : List T) (x : A) (rest refused : List T) → p ts ≡ Ok (x, rest) → p ts ≡ Err refused → ⊥
  not_both ts x rest refused e h = absurd (let lie : ◌≡◌ {A = Result (A × List T) (List T)} (Ok (x, rest)) (Err refused) = sym e ∙ h in cc)

  not_viable : (w : List T) (t : T) (r : List T) → p (w ++ t ∷ r) ≡ Err (t ∷ r) → IsViablePrefix L (w ++ t ∷ []) → ⊥
  not_viable w t r e b =
      let regroup : ((w ++ t ∷ []) ++ b.rest) ++ [] ≡ w ++ t ∷ b.rest = append-nil ((w ++ t ∷ []) ++ b.rest) ∙ append_assoc w (t ∷ []) b.rest in
      let parsed : p (((w ++ t ∷ []) ++ b.rest) ++ []) ≡ Ok (b.value, []) = exact.complete ((w ++ t ∷ []) ++ b.rest) [] b.value b.spells tt in
      not_both (w ++ t ∷ b.rest) b.value [] (t ∷ b.rest) (ap p (sym regroup) ∙ parsed) (exact.sound_and_local.local w t r b.rest None e)

  no_word_continues : (w rest : List T) → p (w ++ rest) ≡ Err rest → NoWordContinues L w rest
  no_word_continues w [] e = λ x d. not_both (w ++ []) x [] [] (exact.complete w [] x d tt) e
  no_word_continues w (t ∷ r) e = not_viable w t r e

  pub refused : (ts rest : List T) → p ts ≡ Err rest → IsRefused L ts rest
  refused ts rest e =
      let stuck : IsStuck L ts rest = subst (λ r. IsSound L ts r) e (exact.sound_and_local.sound ts) in
      record { consumed = stuck.consumed; whole = stuck.whole; viable = stuck.viable; none = no_word_continues stuck.consumed rest (ap p (sym stuck.whole) ∙ e) }

  pub parsed : (ts : List T) (x : A) (rest : List T) → p ts ≡ Ok (x, rest) → IsParsed L ts x rest
  parsed ts x rest e = subst (λ r. IsSound L ts r) e (exact.sound_and_local.sound ts)
