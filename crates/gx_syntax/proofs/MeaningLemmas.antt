-- A text has no two meanings: of its tokens, those before the first refused one are accepted, and no others.
use Rattle.std.proofs.Common.{◌≡◌, ℕ, ◌⊎◌, inl, inr, List, [], ◌∷◌, ◌++◌, refl, sym, ◌∙◌, ap, subst, append_assoc}
use Rattle.std.proofs.lemmas.List.{append-nil, map-append}
use Rattle.gx_syntax_tokens.specs.SpacedText.{terminals}
use Rattle.gx_syntax_tokens.specs.Terminals.{Terminal, Ending, eof, lex_error, TokenStream}
use Rattle.gx_syntax_tokens.specs.declared.syntax_kind.SyntaxKind.{SyntaxKind}
use Rattle.gx_syntax_tokens.specs.declared.syntax_kind.SyntaxKind.TheVariants.{Unexpected}
use Rattle.gx_syntax_exprs.specs.Combinators.{IsViablePrefix}
use Rattle.gx_syntax_tree.specs.declared.stmt.Stmt.{Stmt}
use Rattle.gx_syntax_stmts.specs.Forms.{SpellsScript}
use Rattle.gx_syntax_stmts.specs.Limits.{IsOneTooMany}
use Rattle.gx_syntax_stmts.specs.Refusals.{ScriptsAreUnique}
use Rattle.gx_syntax.specs.Texts.{without_offsets, SpellsWholly, HasAccepted, IsRefusedText, token, end, no_token, Meaning, script, refused, long, IsMeaning}

-- of one list split twice, as f ++ r and as g ++ s: what g has more than f
record Between {X : Type 0} (f r g s : List X) : Type 0 where
  first : X
  more : List X
  front : g ≡ f ++ first ∷ more
  rest : r ≡ first ∷ more ++ s

two_splits : {X : Type 0} (f r g s : List X) → f ++ r ≡ g ++ s → ((f ≡ g) × (r ≡ s)) ⊎ (Between f r g s ⊎ Between g s f r)
two_splits [] r [] s e = inl (refl, e)
two_splits [] r (b ∷ g) s e = inr (inl (record { first = b; more = g; front = refl; rest = e }))
two_splits (a ∷ f) r [] s e = inr (inr (record { first = a; more = f; front = refl; rest = sym e }))
two_splits (a ∷ f) r (b ∷ g) s e =
    let heads : a ≡ b = cc in
    let tails : f ++ r ≡ g ++ s = cc in
    elim (two_splits f r g s tails) [
      | inl h ↦ inl (rw (heads, h.0) refl, h.1)
      | inr h ↦ inr (elim h [
        | inl d ↦ inl (record { first = d.first; more = d.more; front = rw (heads, d.front) refl; rest = d.rest })
        | inr d ↦ inr (record { first = d.first; more = d.more; front = rw (heads, d.front) refl; rest = d.rest })
      ])
    ]

without_offsets-split : (front more : List (ℕ × Terminal)) (p : ℕ × Terminal) → without_offsets (front ++ p ∷ more) ≡ without_offsets front ++ p.1 ∷ without_offsets more
without_offsets-split front more p = map-append (λ (q : ℕ × Terminal). q.1) front (p ∷ more)

-- the first token of the rest, if there is one, is not accepted
abbrev IsBlocked : List (ℕ × Terminal) → List (ℕ × Terminal) → Type 0
IsBlocked accepted [] = Unit {0}
IsBlocked accepted (p ∷ rest) = IsOneTooMany (without_offsets accepted) p.1 ⊎ ¬ IsViablePrefix SpellsScript (without_offsets accepted ++ p.1 ∷ [])

viable_before : (ts rest : List Terminal) (t : Terminal) → IsViablePrefix SpellsScript (ts ++ t ∷ rest) → IsViablePrefix SpellsScript (ts ++ t ∷ [])
viable_before ts rest t v = record {
  rest = rest ++ v.rest;
  value = v.value;
  spells = subst (λ w. SpellsScript w v.value) (simp append_assoc) v.spells;
}

none_past : (l : TokenStream) (front more rest after : List (ℕ × Terminal)) (p : ℕ × Terminal) → IsBlocked front (p ∷ after) → HasAccepted l (front ++ p ∷ more) rest → ⊥
none_past l front more rest after p (inl excess) a = a.short (without_offsets front) p.1 (without_offsets more) (without_offsets-split front more p) excess
none_past l front more rest after p (inr stuck) a = stuck (viable_before (without_offsets front) (without_offsets more) p.1 (subst (IsViablePrefix SpellsScript) (without_offsets-split front more p) a.viable))

none_between : (l : TokenStream) (f r g s : List (ℕ × Terminal)) → Between f r g s → IsBlocked f r → HasAccepted l g s → ⊥
none_between l f r g s d h a = none_past l f d.more s (d.more ++ s) d.first (subst (IsBlocked f) d.rest h) (subst (λ front. HasAccepted l front s) d.front a)

-- tokens are accepted up to a blocked one in one way
same_split : (l : TokenStream) (f r g s : List (ℕ × Terminal)) → HasAccepted l f r → IsBlocked f r → HasAccepted l g s → IsBlocked g s → (f ≡ g) × (r ≡ s)
same_split l f r g s a h b k =
    elim (two_splits f r g s (sym a.whole ∙ b.whole)) [
      | inl same ↦ same
      | inr other ↦ absurd (elim other [
        | inl d ↦ none_between l f r g s d h b
        | inr d ↦ none_between l g s f r d k a
      ])
    ]

-- what a text means if all of its tokens are accepted
data MeansAtEnd (l : TokenStream) : Meaning → Type 0 where
  spelled : {offset : ℕ} {s : List Stmt} → l.ending ≡ eof offset → SpellsScript (terminals l) s → MeansAtEnd l (script s)
  ended : {offset : ℕ} → l.ending ≡ eof offset → ((s : List Stmt) → ¬ SpellsScript (terminals l) s) → MeansAtEnd l (refused offset Unexpected)
  errs : {offset : ℕ} {kind : SyntaxKind} → l.ending ≡ lex_error offset kind → MeansAtEnd l (refused offset kind)

-- what it means if the next token is not accepted
data MeansAtToken (accepted : List (ℕ × Terminal)) (p : ℕ × Terminal) : Meaning → Type 0 where
  stuck : ¬ IsOneTooMany (without_offsets accepted) p.1 → ¬ IsViablePrefix SpellsScript (without_offsets accepted ++ p.1 ∷ []) → MeansAtToken accepted p (refused p.0 Unexpected)
  full : IsOneTooMany (without_offsets accepted) p.1 → MeansAtToken accepted p (long p.0)

abbrev MeansAfter : TokenStream → List (ℕ × Terminal) → List (ℕ × Terminal) → Meaning → Type 0
MeansAfter l accepted [] m = MeansAtEnd l m
MeansAfter l accepted (p ∷ rest) m = MeansAtToken accepted p m

-- the accepted tokens of a text with this meaning, and the rest
record SplitsAs (l : TokenStream) (m : Meaning) : Type 0 where
  accepted : List (ℕ × Terminal)
  rest : List (ℕ × Terminal)
  accepts : HasAccepted l accepted rest
  means : MeansAfter l accepted rest m

splits_script : (l : TokenStream) (s : List Stmt) → SpellsWholly l s → SplitsAs l (script s)
splits_script l s h = record {
  accepted = l.tokens;
  rest = [];
  accepts = record { whole = sym (append-nil l.tokens); short = h.short; viable = record { rest = []; value = s; spells = rw (append-nil (terminals l)) h.spells } };
  means = spelled h.ends h.spells;
}

splits_refused : (l : TokenStream) (offset : ℕ) (kind : SyntaxKind) → IsRefusedText l offset kind → SplitsAs l (refused offset kind)
splits_refused l offset kind (token {accepted = accepted} {rest = rest} {t = t} a fits none) = record { accepted = accepted; rest = (offset, t) ∷ rest; accepts = a; means = stuck fits none }
splits_refused l offset kind (end a e none) = record { accepted = l.tokens; rest = []; accepts = a; means = ended e none }
splits_refused l offset kind (no_token a e) = record { accepted = l.tokens; rest = []; accepts = a; means = errs e }

splits_as : (l : TokenStream) (m : Meaning) → IsMeaning l m → SplitsAs l m
splits_as l (script s) h = splits_script l s h
splits_as l (refused offset kind) h = splits_refused l offset kind h
splits_as l (long offset) h = record { accepted = h.accepted; rest = (offset, h.token) ∷ h.rest; accepts = h.accepts; means = full h.excess }

blocked : (l : TokenStream) (accepted rest : List (ℕ × Terminal)) (m : Meaning) → MeansAfter l accepted rest m → IsBlocked accepted rest
blocked l accepted [] m h = tt
blocked l accepted (p ∷ rest) m (stuck fits none) = inr none
blocked l accepted (p ∷ rest) m (full excess) = inl excess

eof_and_error : {offset other : ℕ} {kind : SyntaxKind} (e : Ending) → e ≡ eof offset → e ≡ lex_error other kind → ⊥
eof_and_error e h k = absurd (cc)

same_at_end : ScriptsAreUnique → (l : TokenStream) (m n : Meaning) → MeansAtEnd l m → MeansAtEnd l n → m ≡ n
same_at_end unique l m n (spelled {s = s} e d) (spelled {s = u} k c) = ap script (unique (terminals l) s u d c)
same_at_end unique l m n (spelled {s = s} e d) (ended k none) = absurd (none s d)
same_at_end unique l m n (spelled e d) (errs k) = absurd (eof_and_error l.ending e k)
same_at_end unique l m n (ended e none) (spelled {s = s} k d) = absurd (none s d)
same_at_end unique l m n (ended e none) (ended k no_script) = cc
same_at_end unique l m n (ended e none) (errs k) = absurd (eof_and_error l.ending e k)
same_at_end unique l m n (errs e) (spelled k d) = absurd (eof_and_error l.ending k e)
same_at_end unique l m n (errs e) (ended k none) = absurd (eof_and_error l.ending k e)
same_at_end unique l m n (errs e) (errs k) = cc

same_at_token : (accepted : List (ℕ × Terminal)) (p : ℕ × Terminal) (m n : Meaning) → MeansAtToken accepted p m → MeansAtToken accepted p n → m ≡ n
same_at_token accepted p m n (stuck fits none) (stuck fits' none') = refl
same_at_token accepted p m n (stuck fits none) (full excess) = absurd (fits excess)
same_at_token accepted p m n (full excess) (stuck fits none) = absurd (fits excess)
same_at_token accepted p m n (full excess) (full excess') = refl

same_after : ScriptsAreUnique → (l : TokenStream) (accepted rest : List (ℕ × Terminal)) (m n : Meaning) → MeansAfter l accepted rest m → MeansAfter l accepted rest n → m ≡ n
same_after unique l accepted [] m n h k = same_at_end unique l m n h k
same_after unique l accepted (p ∷ rest) m n h k = same_at_token accepted p m n h k

means_there : (l : TokenStream) (f r g s : List (ℕ × Terminal)) (m : Meaning) → (f ≡ g) × (r ≡ s) → MeansAfter l g s m → MeansAfter l f r m
means_there l f r g s m e h = subst (λ rest. MeansAfter l f rest m) (sym e.1) (subst (λ front. MeansAfter l front s m) (sym e.0) h)

-- a text has no two meanings, since tokens spell no more than one script
pub one_meaning : ScriptsAreUnique → (l : TokenStream) (m n : Meaning) → IsMeaning l m → IsMeaning l n → m ≡ n
one_meaning unique l m n h k =
    let a = splits_as l m h in
    let b = splits_as l n k in
    let same : (a.accepted ≡ b.accepted) × (a.rest ≡ b.rest) = same_split l a.accepted a.rest b.accepted b.rest a.accepts (blocked l a.accepted a.rest m a.means) b.accepts (blocked l b.accepted b.rest n b.means) in
    same_after unique l a.accepted a.rest m n a.means (means_there l a.accepted a.rest b.accepted b.rest n same b.means)
