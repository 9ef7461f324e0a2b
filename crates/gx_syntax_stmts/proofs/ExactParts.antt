-- The parsers of parts parse the words of the parts and nothing else.
use Rattle.std.proofs.Common.{◌≡◌, ℕ, pos, Bool, true, false, not, ◌||◌, inl, inr, Option, Some, None, Result, List, [], ◌∷◌, ◌++◌, codes, refl, sym, ◌∙◌, ap}
use Rattle.std.proofs.lemmas.List.{append-nil}
use Rattle.std.proofs.lemmas.Bool.{not-true}
use Rattle.gx_syntax_tokens.specs.Terminals.{Terminal, word, number, quoted, symbol, is_symbol, is_symbol-true, is_symbol-refl}
use Rattle.gx_syntax_tokens.specs.declared.symbol.Symbol.{Symbol}
use Rattle.gx_syntax_tokens.specs.declared.symbol.Symbol.TheVariants as symbols
use Rattle.gx_syntax_exprs.specs.Combinators.{pure, satisfy, seq, if_next, Satisfies, Empty, Then, Either, Many, none, more, StopsBefore, Starts, IsExact}
use Rattle.gx_syntax_exprs.specs.ExactParsers.{pure_exact, satisfy_exact, seq_exact, if_next_exact, stops_left, stops_right}
use Rattle.gx_syntax_exprs.specs.ExactRepetition.{many_while_exact}
use Rattle.gx_syntax_exprs.specs.Expressions.{expression, goes_on, ExpressionsOpen}
use Rattle.gx_syntax_exprs.specs.Grammar.{Spells}
use Rattle.gx_syntax_exprs.specs.TokenParsers.{is_word, unit_if, expected_symbol, expected_word, name_value, number_value, keyword_value}
use Rattle.gx_syntax_tree.specs.declared.constant.Const.{Const}
use Rattle.gx_syntax_tree.specs.declared.constant.Const.TheVariants as consts
use Rattle.gx_syntax_tree.specs.declared.expr.Expr.{Expr}
use Rattle.gx_syntax_tree.specs.declared.parts.SendClause.{SendClause}
use Rattle.gx_syntax_tree.specs.declared.words.ActiveWord.TheVariants as actives
use Rattle.gx_syntax_stmts.specs.Keywords.{side_of, active_of}
use Rattle.gx_syntax_stmts.specs.TokenTests.{is_word-true, is_word-refl}
use Rattle.gx_syntax_stmts.specs.Parts.{OneOrMore, one_or_more, CommaItem, comma_item, CommaList, comma_list, ParenList, paren_list, NamedItem, named_item, negative, literal_value, SpellsNoIds, SpellsConst, constant, KeywordExpr, keyword_expr, OptionalExpr, optional_expr, send_clause_of, SpellsSendClause, send_clause, SpellsSendClauses, send_clauses, subgraph_filter_of, SpellsSubgraphFilter, subgraph_filter, SpellsOriented, oriented, SpellsActive, active}

abbrev pub nothing : Terminal → Bool
nothing t = false

pub nothing_stops : (ts : List Terminal) → StopsBefore nothing ts
nothing_stops [] = tt
nothing_stops (t ∷ ts) = refl

-- one token

pub symbol_exact : (s : Symbol) → IsExact (Satisfies (expected_symbol s)) nothing (satisfy (expected_symbol s))
symbol_exact s = satisfy_exact (expected_symbol s) (symbol s) tt (ap unit_if (is_symbol-refl s))

pub word_exact : (w : List ℕ) → IsExact (Satisfies (expected_word w)) nothing (satisfy (expected_word w))
word_exact w = satisfy_exact (expected_word w) (word w) tt (ap unit_if (is_word-refl w))

-- the first token of a word

pub satisfies_starts : {A : Type 0} (value : Terminal → Option A) (test : Terminal → Bool) → ((t : Terminal) (x : A) → value t ≡ Some x → test t ≡ true) → (w : List Terminal) (x : A) → Satisfies value w x → Starts test w
satisfies_starts value test h w x d = record { head = d.token; tail = []; whole = d.whole; passes = h d.token x d.passes }

passes_if : (b : Bool) (u : Unit {0}) → unit_if b ≡ Some u → b ≡ true
passes_if true u e = refl
passes_if false u e = cc

pub symbol_starts : (s : Symbol) (w : List Terminal) (u : Unit {0}) → Satisfies (expected_symbol s) w u → Starts (is_symbol s) w
symbol_starts s = satisfies_starts (expected_symbol s) (is_symbol s) (λ t u e. passes_if (is_symbol s t) u e)

pub word_starts : (v : List ℕ) (w : List Terminal) (u : Unit {0}) → Satisfies (expected_word v) w u → Starts (is_word v) w
word_starts v = satisfies_starts (expected_word v) (is_word v) (λ t u e. passes_if (is_word v t) u e)

pub then_starts : {A B : Type 0} {L : List Terminal → A → Type 0} {M : A → List Terminal → B → Type 0} {test : Terminal → Bool} → ((w : List Terminal) (x : A) → L w x → Starts test w)
    → (w : List Terminal) (y : B) → Then L M w y → Starts test w
then_starts h w y d =
    let s = h d.first d.value d.head in
    record { head = s.head; tail = s.tail ++ d.second; whole = d.whole ∙ ap (λ v. v ++ d.second) s.whole; passes = s.passes }

starts_in : (test pass : Terminal → Bool) → ((t : Terminal) → test t ≡ true → pass t ≡ true) → (w : List Terminal) → Starts test w → Starts pass w
starts_in test pass h w s = record { head = s.head; tail = s.tail; whole = s.whole; passes = h s.head s.passes }

-- what begins with a token that passes a test does not go on a word before it, if no such token does
pub stops_at : (test go : Terminal → Bool) → ((t : Terminal) → test t ≡ true → go t ≡ false) → (w rest : List Terminal) → Starts test w → StopsBefore go (w ++ rest)
stops_at test go h w rest s = rw s.whole (h s.head s.passes)

pub apart_symbol : (s : Symbol) (go : Terminal → Bool) → go (symbol s) ≡ false → (t : Terminal) → is_symbol s t ≡ true → go t ≡ false
apart_symbol s go e t h = rw (is_symbol-true s t h) e

pub apart_word : (w : List ℕ) (go : Terminal → Bool) → go (word w) ≡ false → (t : Terminal) → is_word w t ≡ true → go t ≡ false
apart_word w go e t h = rw (is_word-true w t h) e

-- compositions, whose languages and parsers are found from the parts

module _ {A B : Type 0} {L : List Terminal → A → Type 0} {M : A → List Terminal → B → Type 0} {p : List Terminal → Result (A × List Terminal) (List Terminal)} {f : A → List Terminal → Result (B × List Terminal) (List Terminal)} {h : Terminal → Bool} where
  -- a part, and then one that does not go on it
  pub followed : {g : Terminal → Bool} → IsExact L g p → ((x : A) → IsExact (M x) h (f x)) → ((x : A) (v rest : List Terminal) (y : B) → M x v y → StopsBefore h rest → StopsBefore g (v ++ rest)) → IsExact (Then L M) h (seq p f)
  followed {g} P F apart = seq_exact L M p f g h P F apart

  -- a part that no token goes on, and then another
  pub after : IsExact L nothing p → ((x : A) → IsExact (M x) h (f x)) → IsExact (Then L M) h (seq p f)
  after P F = seq_exact L M p f nothing h P F (λ x v rest y d e. nothing_stops (v ++ rest))

-- one of two parts, by the next token
either : {A : Type 0} {L M : List Terminal → A → Type 0} {p q : List Terminal → Result (A × List Terminal) (List Terminal)} {g h : Terminal → Bool} (test go : Terminal → Bool) → IsExact L g p → IsExact M h q
    → ((rest : List Terminal) → StopsBefore go rest → StopsBefore g rest) → ((rest : List Terminal) → StopsBefore go rest → StopsBefore h rest)
    → ((w : List Terminal) (x : A) → L w x → Starts test w) → ((w : List Terminal) (x : A) → M w x → (rest : List Terminal) → StopsBefore go rest → StopsBefore test (w ++ rest)) → IsExact (Either L M) go (if_next test p q)
either {L = L} {M = M} {p = p} {q = q} {g = g} {h = h} test go P Q to_g to_h heads apart = if_next_exact L M test p q go g h P Q to_g to_h heads apart

-- no token, before any other
pub empty_exact : {A : Type 0} (go : Terminal → Bool) (y : A) → IsExact (Empty y) go (pure y)
empty_exact go y = record { sound_and_local = (pure_exact y).sound_and_local; complete = λ w rest x h e. rw (h.empty, h.given) refl }

-- a part, of whose value something is made
pub last : {A B : Type 0} {L : List Terminal → A → Type 0} {p : List Terminal → Result (A × List Terminal) (List Terminal)} {g : Terminal → Bool} (f : A → B) → IsExact L g p → IsExact (Then L (λ x. Empty (f x))) g (seq p (λ x. pure (f x)))
last {g = g} f P = followed P (λ x. empty_exact g (f x)) (λ x v rest y d e. rw d.empty e)

-- one word or more
module _ {A : Type 0} (L M : List Terminal → A → Type 0) (p q : List Terminal → Result (A × List Terminal) (List Terminal)) (starts g : Terminal → Bool)
    (heads : (w : List Terminal) (x : A) → M w x → Starts starts w) (apart : (t : Terminal) → starts t ≡ true → g t ≡ false) where
  many_stops : {ws : List Terminal} {xs : List A} → Many M ws xs → (rest : List Terminal) → StopsBefore (λ t. g t || starts t) rest → StopsBefore g (ws ++ rest)
  many_stops none rest e = stops_left g starts rest e
  many_stops (more {w} {ws} {x} d ds) rest e = let s = heads w x d in rw s.whole (apart s.head s.passes)

  one_or_more_exact : IsExact L g p → IsExact M g q → IsExact (OneOrMore L M) (λ t. g t || starts t) (one_or_more p starts q)
  one_or_more_exact P Q = followed P (λ x. last (λ xs. x ∷ xs) (many_while_exact M starts q g Q heads apart)) (λ x v rest y d e. rw (d.whole, d.tail.empty, append-nil) (many_stops d.head rest e))

-- lists

abbrev no_close : Terminal → Bool
no_close t = not (is_symbol symbols.CloseParen t)

closes : {A : Type 0} (y : A) → IsExact (Then (Satisfies (expected_symbol symbols.CloseParen)) (λ _. Empty y)) nothing (seq (satisfy (expected_symbol symbols.CloseParen)) (λ _. pure y))
closes y = last (λ _. y) (symbol_exact symbols.CloseParen)

closes_starts : {A : Type 0} (y : A) (w : List Terminal) (x : A) → Then (Satisfies (expected_symbol symbols.CloseParen)) (λ _. Empty y) w x → Starts (is_symbol symbols.CloseParen) w
closes_starts y = then_starts (symbol_starts symbols.CloseParen)

module _ {A : Type 0} {L : List Terminal → A → Type 0} {p : List Terminal → Result (A × List Terminal) (List Terminal)} {g : Terminal → Bool} (P : IsExact L g p) where
  abbrev comma_go : Terminal → Bool
  comma_go t = g t || is_symbol symbols.Comma t

  comma_list_exact : g (symbol symbols.Comma) ≡ false → IsExact (CommaList L) comma_go (comma_list p)
  unfolding CommaList comma_list
  comma_list_exact e = one_or_more_exact L (CommaItem L) p (comma_item p) (is_symbol symbols.Comma) g (then_starts (symbol_starts symbols.Comma)) (apart_symbol symbols.Comma g e) P (after (symbol_exact symbols.Comma) (λ _. P))

  abbrev Items : List Terminal → List A → Type 0
  Items = Then (CommaList L) (λ xs. Then (Satisfies (expected_symbol symbols.CloseParen)) (λ _. Empty xs))

  items_open : ((w : List Terminal) (x : A) → L w x → Starts no_close w) → (w : List Terminal) (y : List A) → Items w y → Starts no_close w
  unfolding CommaList
  items_open opens = then_starts (then_starts opens)

  pub paren_list_exact : ((w : List Terminal) (x : A) → L w x → Starts no_close w) → g (symbol symbols.Comma) ≡ false → g (symbol symbols.CloseParen) ≡ false → IsExact (ParenList L) nothing (paren_list p)
  unfolding ParenList paren_list
  paren_list_exact opens e c = after (symbol_exact symbols.OpenParen) (λ _. either (is_symbol symbols.CloseParen) nothing (closes [])
      (followed (comma_list_exact e) closes (λ xs v rest y d h. stops_at (is_symbol symbols.CloseParen) comma_go (apart_symbol symbols.CloseParen comma_go (rw c refl)) v rest (closes_starts xs v y d)))
      (λ rest h. h) (λ rest h. h) (closes_starts []) (λ w y d rest h. stops_at no_close (is_symbol symbols.CloseParen) (λ t. not-true (is_symbol symbols.CloseParen t)) w rest (items_open opens w y d)))

-- `NAME : item`

pub named_item_exact : {A B : Type 0} {L : List Terminal → A → Type 0} {p : List Terminal → Result (A × List Terminal) (List Terminal)} {g : Terminal → Bool} (make : List ℕ → A → B) → IsExact L g p → IsExact (NamedItem make L) g (named_item make p)
unfolding NamedItem named_item
named_item_exact make P = after (satisfy_exact name_value (word []) [] refl) (λ name. after (symbol_exact symbols.Colon) (λ _. last (make name) P))

-- a token that has a value, if symbols have none, is not a symbol
no_symbol : {A : Type 0} (value : Terminal → Option A) → ((s : Symbol) → value (symbol s) ≡ None) → (s : Symbol) (t : Terminal) (x : A) → value t ≡ Some x → not (is_symbol s t) ≡ true
no_symbol value free s (word w) x e = refl
no_symbol value free s (number n) x e = refl
no_symbol value free s (quoted q) x e = refl
no_symbol {A = A} value free s (symbol u) x e = absurd (let lie : ◌≡◌ {A = Option A} None (Some x) = sym (free u) ∙ e in cc)

pub named_item_opens : {A B : Type 0} (make : List ℕ → A → B) (L : List Terminal → A → Type 0) (w : List Terminal) (y : B) → NamedItem make L w y → Starts no_close w
unfolding NamedItem
named_item_opens make L = then_starts (satisfies_starts name_value no_close (no_symbol name_value (λ s. refl) symbols.CloseParen))

-- constants

-- a constant of one token is not the word `ids`
literal_not_ids : (t : Terminal) (c : Const) → literal_value t ≡ Some c → not (is_word (codes "ids") t) ≡ true
literal_not_ids t c e = go (is_word (codes "ids") t) refl
  where
    go : (b : Bool) → is_word (codes "ids") t ≡ b → not b ≡ true
    go false h = refl
    go true h = absurd (let lie : ◌≡◌ {A = Option Const} None (Some c) = rw (is_word-true (codes "ids") t h) at e in cc)

abbrev NotNegative : List Terminal → Const → Type 0
NotNegative = Either SpellsNoIds (Satisfies literal_value)

not_negative_starts : (s : Symbol) (w : List Terminal) (c : Const) → NotNegative w c → Starts (λ t. not (is_symbol s t)) w
not_negative_starts s w c (inl d) = starts_in (is_word (codes "ids")) (λ t. not (is_symbol s t)) (λ t h. rw (is_word-true (codes "ids") t h) refl) w (then_starts (word_starts (codes "ids")) w c d)
not_negative_starts s w c (inr d) = satisfies_starts literal_value (λ t. not (is_symbol s t)) (no_symbol literal_value (λ u. refl) s) w c d

pub constant_exact : IsExact SpellsConst nothing constant
unfolding SpellsConst constant
constant_exact = either (is_symbol symbols.Minus) nothing (after (symbol_exact symbols.Minus) (λ _. last negative (satisfy_exact number_value (number 0) (pos 0) refl)))
    (either (is_word (codes "ids")) nothing (after (word_exact (codes "ids")) (λ _. after (symbol_exact symbols.OpenParen) (λ _. closes consts.NoIds)))
    (satisfy_exact literal_value (quoted []) (consts.Quoted []) refl) (λ rest h. h) (λ rest h. h) (then_starts (word_starts (codes "ids")))
    (λ w c d rest h. stops_at (λ t. not (is_word (codes "ids") t)) (is_word (codes "ids")) (λ t. not-true (is_word (codes "ids") t)) w rest (satisfies_starts literal_value (λ t. not (is_word (codes "ids") t)) literal_not_ids w c d)))
    (λ rest h. h) (λ rest h. h) (then_starts (symbol_starts symbols.Minus))
    (λ w c d rest h. stops_at (λ t. not (is_symbol symbols.Minus t)) (is_symbol symbols.Minus) (λ t. not-true (is_symbol symbols.Minus t)) w rest (not_negative_starts symbols.Minus w c d))

pub constant_opens : (w : List Terminal) (c : Const) → SpellsConst w c → Starts no_close w
unfolding SpellsConst
constant_opens w c (inl d) = starts_in (is_symbol symbols.Minus) no_close (λ t h. rw (is_symbol-true symbols.Minus t h) refl) w (then_starts (symbol_starts symbols.Minus) w c d)
constant_opens w c (inr d) = not_negative_starts symbols.CloseParen w c d

-- `[ oriented ]` and `[ active DIRECTION ]`

-- a language whose words begin with a word, or nothing
optional_exact : {A : Type 0} {L : List Terminal → A → Type 0} {p : List Terminal → Result (A × List Terminal) (List Terminal)} {g : Terminal → Bool} (y : A) (w : List ℕ) → IsExact L g p → ((v : List Terminal) (x : A) → L v x → Starts (is_word w) v)
    → IsExact (Either L (Empty y)) (λ t. g t || is_word w t) (if_next (is_word w) p (pure y))
optional_exact {g = g} y w P heads = either (is_word w) (λ t. g t || is_word w t) P (empty_exact nothing y)
    (λ rest e. stops_left g (is_word w) rest e) (λ rest e. nothing_stops rest) heads (λ v x d rest e. rw d.empty (stops_right g (is_word w) rest e))

pub oriented_exact : IsExact SpellsOriented (λ t. nothing t || is_word (codes "oriented") t) oriented
unfolding SpellsOriented oriented
oriented_exact = optional_exact false (codes "oriented") (last (λ _. true) (word_exact (codes "oriented"))) (then_starts (word_starts (codes "oriented")))

pub active_exact : IsExact SpellsActive (λ t. nothing t || is_word (codes "active") t) active
unfolding SpellsActive active
active_exact = optional_exact actives.Either (codes "active") (after (word_exact (codes "active")) (λ _. satisfy_exact (keyword_value active_of) (word (codes "out")) actives.Out refl)) (then_starts (word_starts (codes "active")))

-- parts with expressions, by the law of expressions

keyword_expr_starts : (v : List ℕ) (w : List Terminal) (x : Expr) → KeywordExpr v w x → Starts (is_word v) w
unfolding KeywordExpr
keyword_expr_starts v = then_starts (word_starts v)

abbrev pub optional_go : List ℕ → Terminal → Bool
optional_go w t = goes_on t || is_word w t

-- an optional part does not go on an expression before it
optional_stops : (v : List ℕ) → goes_on (word v) ≡ false → (w rest : List Terminal) (o : Option Expr) → OptionalExpr v w o → StopsBefore (optional_go v) rest → StopsBefore goes_on (w ++ rest)
unfolding OptionalExpr
optional_stops v h w rest o (inl d) e = stops_at (is_word v) goes_on (apart_word v goes_on h) w rest (then_starts (keyword_expr_starts v) w o d)
optional_stops v h w rest o (inr d) e = rw d.empty (stops_left goes_on (is_word v) rest e)

abbrev pub send_go : Terminal → Bool
send_go = optional_go (codes "when")

send_clause_starts : (w : List Terminal) (x : SendClause) → SpellsSendClause w x → Starts (is_word (codes "to")) w
unfolding SpellsSendClause
send_clause_starts = then_starts (word_starts (codes "to"))

module _ (exact : IsExact (Spells 1) goes_on expression) (open_ : ExpressionsOpen) where
  keyword_expr_exact : (w : List ℕ) → IsExact (KeywordExpr w) goes_on (keyword_expr w)
  unfolding KeywordExpr keyword_expr
  keyword_expr_exact w = after (word_exact w) (λ _. exact)

  optional_expr_exact : (w : List ℕ) → IsExact (OptionalExpr w) (optional_go w) (optional_expr w)
  unfolding OptionalExpr optional_expr
  optional_expr_exact w = optional_exact None w (last (λ x. Some x) (keyword_expr_exact w)) (then_starts (keyword_expr_starts w))

  send_clause_exact : IsExact SpellsSendClause send_go send_clause
  unfolding SpellsSendClause send_clause
  send_clause_exact = after (word_exact (codes "to")) (λ _. after (satisfy_exact (keyword_value side_of) (word (codes "src")) _ refl) (λ to. after (paren_list_exact exact open_ refl refl)
      (λ values. last (send_clause_of to values) (optional_expr_exact (codes "when")))))

  pub send_clauses_exact : IsExact SpellsSendClauses (λ t. send_go t || is_word (codes "to") t) send_clauses
  unfolding SpellsSendClauses send_clauses
  send_clauses_exact = one_or_more_exact SpellsSendClause SpellsSendClause send_clause send_clause (is_word (codes "to")) send_go send_clause_starts (apart_word (codes "to") send_go refl) send_clause_exact send_clause_exact

  pub subgraph_filter_exact : IsExact SpellsSubgraphFilter (optional_go (codes "edges")) subgraph_filter
  unfolding SpellsSubgraphFilter subgraph_filter
  subgraph_filter_exact = either (is_word (codes "vertices")) (optional_go (codes "edges"))
      (followed (keyword_expr_exact (codes "vertices")) (λ v. last (subgraph_filter_of (Some v)) (optional_expr_exact (codes "edges"))) (λ x v rest y d e. rw (d.whole, d.tail.empty, append-nil) (optional_stops (codes "edges") refl d.first rest d.value d.head e)))
      (last (λ e. subgraph_filter_of None (Some e)) (keyword_expr_exact (codes "edges")))
      (λ rest e. e) (λ rest e. stops_left goes_on (is_word (codes "edges")) rest e) (then_starts (keyword_expr_starts (codes "vertices")))
      (λ w x d rest e. stops_at (is_word (codes "edges")) (is_word (codes "vertices")) (apart_word (codes "edges") (is_word (codes "vertices")) refl) w rest (then_starts (keyword_expr_starts (codes "edges")) w x d))
