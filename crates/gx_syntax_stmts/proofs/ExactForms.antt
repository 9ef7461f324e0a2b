-- The parsers of statements and scripts parse the words of these and nothing else.
use Rattle.std.proofs.Common.{◌≡◌, pos, Bool, true, false, not, ◌&&◌, ◌||◌, Option, Some, None, is_none, Result, Ok, Err, ℕ, List, [], ◌∷◌, ◌++◌, codes, refl, sym, ◌∙◌, subst}
use Rattle.std.proofs.lemmas.Bool.{not-true}
use Rattle.gx_syntax_tokens.specs.Terminals.{Terminal, word, number, quoted, symbol, is_symbol}
use Rattle.gx_syntax_tokens.specs.declared.symbol.Symbol.TheVariants as symbols
use Rattle.gx_syntax_exprs.specs.Combinators.{◌>>=◌, pure, satisfy, seq, Satisfies, Empty, Then, StopsBefore, Starts, IsSound, IsExact}
use Rattle.gx_syntax_exprs.specs.ExactParsers.{satisfy_exact}
use Rattle.gx_syntax_exprs.specs.ExactRepetition.{many_while_exact}
use Rattle.gx_syntax_exprs.specs.Expressions.{expression, goes_on, ExpressionsOpen}
use Rattle.gx_syntax_exprs.specs.Grammar.{Spells}
use Rattle.gx_syntax_exprs.specs.TokenParsers.{is_word, expected_symbol, expected_word, name_value, quoted_value, number_value, keyword_value}
use Rattle.gx_syntax_tree.specs.Forms.{Part, a_name, a_text, a_number, a_cut, a_neighbour, columns, sets, consts, named, merges, sends, condition, subgraph_filter, oriented, active, print_target, counted, Form, fin, mark, say, part, Values, form_of, stmt_of}
use Rattle.gx_syntax_tree.specs.declared.keyword.StmtKeyword.{StmtKeyword}
use Rattle.gx_syntax_tree.specs.declared.keyword.StmtKeyword.TheVariants as keywords
use Rattle.gx_syntax_tree.specs.declared.stmt.Stmt.{Stmt}
use Rattle.gx_syntax_stmts.specs.Forms.{SpellsPart, parse_part, symbol_of, SpellsForm, parse_form, SpellsBody, target, rest, body, SpellsStatement, statement, SpellsScript, script}
use Rattle.gx_syntax_stmts.specs.Keywords.{kind_of, merge_of, cut_of, neighbour_of, print_target_of, count_target_of, keyword_of}
use Rattle.gx_syntax_stmts.specs.Parts as parts
use Rattle.gx_syntax_stmts.proofs.ExactParts.{nothing, nothing_stops, symbol_exact, word_exact, satisfies_starts, symbol_starts, word_starts, then_starts, stops_at, apart_symbol, apart_word, empty_exact, followed, after, last, paren_list_exact, named_item_exact, named_item_opens, constant_exact, constant_opens, oriented_exact, active_exact, optional_go, send_go, send_clauses_exact, subgraph_filter_exact}

-- the tokens with which a part goes on, if there are any
abbrev goes : Part → Option (Terminal → Bool)
goes sends = Some (λ t. send_go t || is_word (codes "to") t)
goes condition = Some goes_on
goes subgraph_filter = Some (optional_go (codes "edges"))
goes oriented = Some (λ t. nothing t || is_word (codes "oriented") t)
goes active = Some (λ t. nothing t || is_word (codes "active") t)
goes _ = None

abbrev go_if : Option (Terminal → Bool) → Terminal → Bool
go_if (Some go) = go
go_if None = nothing

abbrev go_part : Part → Terminal → Bool
go_part p = go_if (goes p)

is_none-stops : (o : Option (Terminal → Bool)) → is_none o ≡ true → (ts : List Terminal) → StopsBefore (go_if o) ts
is_none-stops (Some go) e ts = absurd (let lie : false ≡ true = e in cc)
is_none-stops None e ts = nothing_stops ts

-- whether what follows each part of a form does not go on it
abbrev is_separated : Form → Bool
is_separated fin = true
is_separated (mark s f) = is_separated f
is_separated (say w f) = is_separated f
is_separated (part p fin) = true
is_separated (part p (mark s f)) = not (go_part p (symbol (symbol_of s))) && is_separated f
is_separated (part p (say w f)) = not (go_part p (word w)) && is_separated f
is_separated (part p (part q f)) = is_none (goes p) && is_separated (part q f)

-- the tokens with which a form goes on
abbrev go_form : Form → Terminal → Bool
go_form fin = nothing
go_form (mark s f) = go_form f
go_form (say w f) = go_form f
go_form (part p fin) = go_part p
go_form (part p (mark s f)) = go_form f
go_form (part p (say w f)) = go_form f
go_form (part p (part q f)) = go_form (part q f)

both : (a b : Bool) → (a && b) ≡ true → (a ≡ true) × (b ≡ true)
both true b e = (refl, e)
both false b e = absurd (let lie : false ≡ true = e in cc)

-- the parser of the values of a form, which has the shape of its language
abbrev values : (f : Form) → List Terminal → Result (Values f × List Terminal) (List Terminal)
values fin = pure tt
values (mark p f) = seq (satisfy (expected_symbol (symbol_of p))) (λ _. values f)
values (say w f) = seq (satisfy (expected_word w)) (λ _. values f)
values (part p f) = seq (parse_part p) (λ x. seq (values f) (λ y. pure (x, y)))

bind_into : {X Y Z : Type 0} (r : Result (X × List Terminal) (List Terminal)) (f : X → List Terminal → Result (Z × List Terminal) (List Terminal)) (g : X → List Terminal → Result (Y × List Terminal) (List Terminal)) (h : Y → List Terminal → Result (Z × List Terminal) (List Terminal))
    → ((x : X) (t : List Terminal) → f x t ≡ (g x t >>= h)) → (r >>= f) ≡ ((r >>= g) >>= h)
bind_into (Ok r) f g h same = same r.0 r.1
bind_into (Err e) f g h same = refl

parse_form-values : {A : Type 0} (f : Form) (make : Values f → A) (ts : List Terminal) → parse_form f make ts ≡ (values f ts >>= λ v. pure (make v))
parse_form-values fin make ts = refl
parse_form-values (mark p f) make ts = bind_into (satisfy (expected_symbol (symbol_of p)) ts) (λ _. parse_form f make) (λ _. values f) (λ v. pure (make v)) (λ _ t. parse_form-values f make t)
parse_form-values (say w f) make ts = bind_into (satisfy (expected_word w) ts) (λ _. parse_form f make) (λ _. values f) (λ v. pure (make v)) (λ _ t. parse_form-values f make t)
parse_form-values (part p f) make ts = bind_into (parse_part p ts) (λ x. parse_form f (λ y. make (x, y))) (λ x. seq (values f) (λ y. pure (x, y))) (λ v. pure (make v))
    (λ x t. parse_form-values f (λ y. make (x, y)) t ∙ bind_into (values f t) (λ y. pure (make (x, y))) (λ y. pure (x, y)) (λ v. pure (make v)) (λ y u. refl))

-- the parser of a statement parses its form
target_then : (f : List ℕ → List ℕ → List Terminal → Result (Stmt × List Terminal) (List Terminal)) (ts : List Terminal)
    → seq target (λ t. f t.0 t.1) ts ≡ seq (satisfy name_value) (λ name. seq (satisfy (expected_symbol symbols.Assign)) (λ _. seq (satisfy name_value) (λ source. f name source))) ts
target_then f ts = sym (bind_into (satisfy name_value ts) (λ name. seq (satisfy (expected_symbol symbols.Assign)) (λ _. seq (satisfy name_value) (f name)))
    (λ name. seq (satisfy (expected_symbol symbols.Assign)) (λ _. seq (satisfy name_value) (λ source. pure (name, source)))) (λ t. f t.0 t.1)
    (λ name u. bind_into (satisfy (expected_symbol symbols.Assign) u) (λ _. seq (satisfy name_value) (f name)) (λ _. seq (satisfy name_value) (λ source. pure (name, source))) (λ t. f t.0 t.1)
    (λ _ v. bind_into (satisfy name_value v) (f name) (λ source. pure (name, source)) (λ t. f t.0 t.1) (λ source w. refl))))

pub body-form : (k : StmtKeyword) (ts : List Terminal) → body k ts ≡ parse_form (form_of k) (stmt_of k) ts
unfolding body
body-form keywords.Vertices ts = refl
body-form keywords.Edges ts = refl
body-form keywords.EdgeList ts = refl
body-form keywords.Print ts = refl
body-form keywords.Count ts = refl
body-form k ts = target_then (rest k) ts

-- a parser with the results of an exact one is exact
exact_same : {A : Type 0} (L : List Terminal → A → Type 0) (go : Terminal → Bool) (p q : List Terminal → Result (A × List Terminal) (List Terminal)) → ((ts : List Terminal) → p ts ≡ q ts) → IsExact L go q → IsExact L go p
exact_same L go p q same Q = record {
  sound_and_local = record {
    nonempty = Q.sound_and_local.nonempty;
    sound = λ ts. subst (IsSound L ts) (sym (same ts)) (Q.sound_and_local.sound ts);
    local = λ w t r s o e. same (w ++ t ∷ s) ∙ Q.sound_and_local.local w t r s o (sym (same (w ++ t ∷ r)) ∙ e);
  };
  complete = λ w rest x d e. same (w ++ rest) ∙ Q.complete w rest x d e;
}

-- each form is separated, and no statement goes on with a `;`
forms_are_separated : (k : StmtKeyword) → is_separated (form_of k) ≡ true
forms_are_separated keywords.Vertices = refl
forms_are_separated _ = refl

semicolon_stops : (k : StmtKeyword) → go_form (form_of k) (symbol symbols.Semicolon) ≡ false
semicolon_stops keywords.Vertices = refl
semicolon_stops _ = refl

abbrev Semicolon : Stmt → List Terminal → Stmt → Type 0
Semicolon s = Then (Satisfies (expected_symbol symbols.Semicolon)) (λ _. Empty s)

semicolon_exact : (s : Stmt) → IsExact (Semicolon s) nothing (seq (satisfy (expected_symbol symbols.Semicolon)) (λ _. pure s))
semicolon_exact s = last (λ _. s) (symbol_exact symbols.Semicolon)

statement_starts : (w : List Terminal) (s : Stmt) → SpellsStatement w s → Starts (λ t. true) w
statement_starts = then_starts (satisfies_starts (keyword_value keyword_of) (λ t. true) (λ t x e. refl))

abbrev pub script_go : Terminal → Bool
script_go t = nothing t || true

module _ (exact : IsExact (Spells 1) goes_on expression) (open_ : ExpressionsOpen) where
  part_exact : (p : Part) → IsExact (SpellsPart p) (go_part p) (parse_part p)
  part_exact a_name = satisfy_exact name_value (word []) [] refl
  part_exact a_text = satisfy_exact quoted_value (quoted []) [] refl
  part_exact a_number = satisfy_exact number_value (number 0) (pos 0) refl
  part_exact a_cut = satisfy_exact (keyword_value cut_of) (word (codes "oned")) _ refl
  part_exact a_neighbour = satisfy_exact (keyword_value neighbour_of) (word (codes "in")) _ refl
  part_exact columns = paren_list_exact (named_item_exact parts.column_decl_of (satisfy_exact (keyword_value kind_of) (word (codes "int")) _ refl)) (named_item_opens parts.column_decl_of _) refl refl
  part_exact sets = paren_list_exact (named_item_exact parts.column_expr_of exact) (named_item_opens parts.column_expr_of _) refl refl
  part_exact consts = paren_list_exact constant_exact constant_opens refl refl
  part_exact named = paren_list_exact (named_item_exact parts.column_const_of constant_exact) (named_item_opens parts.column_const_of _) refl refl
  part_exact merges = paren_list_exact (named_item_exact parts.column_merge_of (satisfy_exact (keyword_value merge_of) (word (codes "sum")) _ refl)) (named_item_opens parts.column_merge_of _) refl refl
  part_exact sends = send_clauses_exact exact open_
  part_exact condition = exact
  part_exact subgraph_filter = subgraph_filter_exact exact open_
  part_exact oriented = oriented_exact
  part_exact active = active_exact
  part_exact print_target = satisfy_exact (keyword_value print_target_of) (word (codes "edges")) _ refl
  part_exact counted = satisfy_exact (keyword_value count_target_of) (word (codes "edges")) _ refl

  values_exact : (f : Form) → is_separated f ≡ true → IsExact (SpellsForm f) (go_form f) (values f)
  values_exact fin e = empty_exact nothing tt
  values_exact (mark s f) e = after (symbol_exact (symbol_of s)) (λ _. values_exact f e)
  values_exact (say w f) e = after (word_exact w) (λ _. values_exact f e)
  values_exact (part p fin) e = followed (part_exact p) (λ x. last (λ y. (x, y)) (empty_exact (go_part p) tt)) (λ x v rest y d h. rw (d.whole, d.head.empty, d.tail.empty) h)
  values_exact (part p (mark s f)) e =
      let stops = both (not (go_part p (symbol (symbol_of s)))) (is_separated f) e in
      followed (part_exact p) (λ x. last (λ y. (x, y)) (values_exact (mark s f) stops.1))
      (λ x v rest y d h. stops_at (is_symbol (symbol_of s)) (go_part p) (apart_symbol (symbol_of s) (go_part p) (not-true (go_part p (symbol (symbol_of s))) stops.0)) v rest (then_starts (then_starts (symbol_starts (symbol_of s))) v y d))
  values_exact (part p (say w f)) e =
      let stops = both (not (go_part p (word w))) (is_separated f) e in
      followed (part_exact p) (λ x. last (λ y. (x, y)) (values_exact (say w f) stops.1))
      (λ x v rest y d h. stops_at (is_word w) (go_part p) (apart_word w (go_part p) (not-true (go_part p (word w)) stops.0)) v rest (then_starts (then_starts (word_starts w)) v y d))
  values_exact (part p (part q f)) e =
      let stops = both (is_none (goes p)) (is_separated (part q f)) e in
      followed (part_exact p) (λ x. last (λ y. (x, y)) (values_exact (part q f) stops.1)) (λ x v rest y d h. is_none-stops (goes p) stops.0 (v ++ rest))

  body_exact : (k : StmtKeyword) → IsExact (SpellsBody k) (go_form (form_of k)) (body k)
  body_exact k = exact_same (SpellsBody k) (go_form (form_of k)) (body k) (seq (values (form_of k)) (λ v. pure (stmt_of k v))) (λ ts. body-form k ts ∙ parse_form-values (form_of k) (stmt_of k) ts)
      (last (stmt_of k) (values_exact (form_of k) (forms_are_separated k)))

  ended_exact : (k : StmtKeyword) → IsExact (Then (SpellsBody k) Semicolon) nothing (seq (body k) (λ s. seq (satisfy (expected_symbol symbols.Semicolon)) (λ _. pure s)))
  ended_exact k = followed (body_exact k) semicolon_exact
      (λ s v rest y d e. stops_at (is_symbol symbols.Semicolon) (go_form (form_of k)) (apart_symbol symbols.Semicolon (go_form (form_of k)) (semicolon_stops k)) v rest (then_starts (symbol_starts symbols.Semicolon) v y d))

  statement_exact : IsExact SpellsStatement nothing statement
  unfolding statement
  statement_exact = after (satisfy_exact (keyword_value keyword_of) (word (codes "print")) keywords.Print refl) ended_exact

  pub script_exact : IsExact SpellsScript script_go script
  unfolding script
  script_exact = many_while_exact SpellsStatement (λ t. true) statement nothing statement_exact statement_starts (λ t e. refl)
