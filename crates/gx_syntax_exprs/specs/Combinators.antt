-- Parser combinators over tokens of any type, languages, and what it means that a parser is exact
-- for a language.
--
-- A parser returns the value that it parsed and the rest of the tokens, or the tokens from the
-- refused one on. A language says which tokens spell which value. To add a combinator, define it
-- beside the language that it parses, and prove in specs/ExactParsers.antt that it is exact if its
-- parts are: parsers that are put together from exact ones then need no proof of their own.
use Rattle.std.specs.Prelude.{◌≡◌, ℕ, zero, suc, Bool, true, false, if◌then◌else◌, ◌⊎◌, Option, Some, None, Result, Ok, Err, List, [], ◌∷◌, ◌++◌, length}

abbrev pub Parser : Type 0 → Type 0 → Type 0
Parser T A = List T → Result (A × List T) (List T)

-- the next parser, on the rest of the tokens
infixl 10 ◌>>=◌
abbrev pub ◌>>=◌ : {T A B : Type 0} → Result (A × List T) (List T) → (A → Parser T B) → Result (B × List T) (List T)
Ok r >>= next = next r.0 r.1
Err rest >>= next = Err rest

-- parses no token, and returns x
abbrev pub pure : {T A : Type 0} → A → Parser T A
pure x ts = Ok (x, ts)

abbrev pub satisfied_by : {T A : Type 0} → Option A → T → List T → Result (A × List T) (List T)
satisfied_by (Some x) t ts = Ok (x, ts)
satisfied_by None t ts = Err (t ∷ ts)

-- parses one token that has a value
abbrev pub satisfy : {T A : Type 0} → (T → Option A) → Parser T A
satisfy value [] = Err []
satisfy value (t ∷ ts) = satisfied_by (value t) t ts

-- parses by p, and the rest by the parser that f returns for the value of p
abbrev pub seq : {T A B : Type 0} → Parser T A → (A → Parser T B) → Parser T B
seq p f ts = p ts >>= f

-- parses by p, and returns f of its value
abbrev pub map_value : {T A B : Type 0} → (A → B) → Parser T A → Parser T B
map_value f p ts = p ts >>= λ x rest. Ok (f x, rest)

-- parses by p if the next token passes a test, and by q otherwise
abbrev pub if_next : {T A : Type 0} → (T → Bool) → Parser T A → Parser T A → Parser T A
if_next test p q [] = q []
if_next test p q (t ∷ ts) = if test t then p (t ∷ ts) else q (t ∷ ts)

-- parses by p while the next token passes a test, fewer than n times
unfoldable pub many : {T A : Type 0} → (T → Bool) → Parser T A → ℕ → Parser T (List A)
many starts p zero ts = Err ts
many starts p (suc n) ts = if_next starts (seq p (λ x. map_value (λ xs. x ∷ xs) (many starts p n))) (pure []) ts

-- parses by p while the next token passes a test
unfoldable pub many_while : {T A : Type 0} → (T → Bool) → Parser T A → Parser T (List A)
many_while starts p ts = many starts p (suc (length ts)) ts

-- the words of one token
pub record Satisfies {T A : Type 0} (test : T → Option A) (w : List T) (x : A) : Type 0 where
  pub token : T
  pub whole : w ≡ token ∷ []
  pub passes : test token ≡ Some x

-- the empty word, which spells y
pub record Empty {T A : Type 0} (y : A) (w : List T) (x : A) : Type 0 where
  pub empty : w ≡ []
  pub given : x ≡ y

-- a word of L, and then a word of the language that M gives for its value
pub record Then {T A B : Type 0} (L : List T → A → Type 0) (M : A → List T → B → Type 0) (w : List T) (y : B) : Type 0 where
  pub first : List T
  pub second : List T
  pub value : A
  pub whole : w ≡ first ++ second
  pub head : L first value
  pub tail : M value second y

-- a word of one of two languages
abbrev pub Either : {T A : Type 0} → (List T → A → Type 0) → (List T → A → Type 0) → List T → A → Type 0
Either L M w x = L w x ⊎ M w x

-- any number of words of a language, one after another
pub data Many {T A : Type 0} (L : List T → A → Type 0) : List T → List A → Type 0 where
  none : Many L [] []
  more : {w ws : List T} {x : A} {xs : List A} → L w x → Many L ws xs → Many L (w ++ ws) (x ∷ xs)

-- some word of the language begins with these tokens
pub record IsViablePrefix {T A : Type 0} (L : List T → A → Type 0) (consumed : List T) : Type 0 where
  pub rest : List T
  pub value : A
  pub spells : L (consumed ++ rest) value

-- the consumed tokens spell x
pub record IsParsed {T A : Type 0} (L : List T → A → Type 0) (ts : List T) (x : A) (rest : List T) : Type 0 where
  pub consumed : List T
  pub whole : ts ≡ consumed ++ rest
  pub spells : L consumed x

-- the consumed tokens begin some word
pub record IsStuck {T A : Type 0} (L : List T → A → Type 0) (ts : List T) (rest : List T) : Type 0 where
  pub consumed : List T
  pub whole : ts ≡ consumed ++ rest
  pub viable : IsViablePrefix L consumed

-- no word begins with the consumed tokens and the next one; if there is no next one, the consumed
-- tokens are not a word
abbrev pub NoWordContinues : {T A : Type 0} → (List T → A → Type 0) → List T → List T → Type 0
NoWordContinues {A = A} L consumed [] = (x : A) → ¬ L consumed x
NoWordContinues L consumed (t ∷ rest) = ¬ IsViablePrefix L (consumed ++ t ∷ [])

-- the consumed tokens begin some word, with which the next token, or the end, does not go on
pub record IsRefused {T A : Type 0} (L : List T → A → Type 0) (ts : List T) (rest : List T) : Type 0 where
  pub consumed : List T
  pub whole : ts ≡ consumed ++ rest
  pub viable : IsViablePrefix L consumed
  pub none : NoWordContinues L consumed rest

-- a result says what the consumed tokens are
abbrev pub IsSound : {T A : Type 0} → (List T → A → Type 0) → List T → Result (A × List T) (List T) → Type 0
IsSound L ts (Ok r) = IsParsed L ts r.0 r.1
IsSound L ts (Err rest) = IsStuck L ts rest

-- the result with this rest: a value, or a refusal
abbrev pub result_at : {T A : Type 0} → Option A → List T → Result (A × List T) (List T)
result_at (Some x) rest = Ok (x, rest)
result_at None rest = Err rest

-- the next token, if there is one, is none with which a word goes on
abbrev pub StopsBefore : {T : Type 0} → (T → Bool) → List T → Type 0
StopsBefore go [] = Unit {0}
StopsBefore go (t ∷ ts) = go t ≡ false

-- the first token of a word passes a test
pub record Starts {T : Type 0} (test : T → Bool) (w : List T) : Type 0 where
  pub head : T
  pub tail : List T
  pub whole : w ≡ head ∷ tail
  pub passes : test head ≡ true

-- each result is sound, and depends on no token after the one at which the parser stops
pub record IsSoundAndLocal {T A : Type 0} (L : List T → A → Type 0) (p : Parser T A) : Type 0 where
  pub nonempty : IsViablePrefix L []
  pub sound : (ts : List T) → IsSound L ts (p ts)
  pub local : (w : List T) (t : T) (r s : List T) (o : Option A) → p (w ++ t ∷ r) ≡ result_at o (t ∷ r) → p (w ++ t ∷ s) ≡ result_at o (t ∷ s)

-- each word is parsed, if no token follows with which a word goes on
abbrev pub IsComplete : {T A : Type 0} → (List T → A → Type 0) → (T → Bool) → Parser T A → Type 0
IsComplete {T = T} {A = A} L go p = (w rest : List T) (x : A) → L w x → StopsBefore go rest → p (w ++ rest) ≡ Ok (x, rest)

-- a parser that parses the words of a language and nothing else
pub record IsExact {T A : Type 0} (L : List T → A → Type 0) (go : T → Bool) (p : Parser T A) : Type 0 where
  pub sound_and_local : IsSoundAndLocal L p
  pub complete : IsComplete L go p
