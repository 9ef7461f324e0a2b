-- The statements of a script that passed its checks are sound.
use Rattle.std.proofs.Common.{◌≡◌, ℕ, zero, suc, ◌+◌, ◌-◌, ◌≤◌, All, Bool, true, false, cond, if◌then◌else◌, Option, Some, None, option_and_then, Result, Ok, Err, IfOk, IfSome, List, [], ◌∷◌, ◌++◌, length, slice_get, length-append, append_assoc, append-nil, refl, sym, ap, subst, ◌∙◌, inl, inr, arith}
use Rattle.std.specs.Prelude.{nat_le, unwrap_or}
use Rattle.std.specs.List.{AllByRecursion}
use Rattle.std.specs.Map.{lookup}
use Rattle.std.specs.Str.{bytes_eq}
use Rattle.std.proofs.lemmas.Bool.Decides.{nat_tests}
use Rattle.gx_rows.specs.Columns.{Column}
use Rattle.gx_rows.specs.Results.{◌>>=◌}
use Rattle.gx_rows.specs.declared.limit_kind.LimitKind.TheVariants as limit
use Rattle.gx_syntax_tree.specs.declared.stmt.Stmt.{Stmt}
use Rattle.gx_types.specs.Built.{built_statements, is_built, is_run}
use Rattle.gx_types.specs.Needs.{NamesAreUsed, UseEarlier}
use Rattle.gx_types.specs.ScriptTyping.{numbered_stmt, typed_statements, typed_statements_of}
use Rattle.gx_types.specs.SoundStmts.{AreRun, HasFewColumns, HasSoundStmts, HasWrittenCut, HaveFewColumns, HaveWrittenCuts, MakeTheirSorts}
use Rattle.gx_types.specs.StmtSorts.{HasNamedSorts, IsMadeWithin, named_sorts, sort_made, sort_of_types}
use Rattle.gx_types.specs.TypeStops.{at_statement}
use Rattle.gx_types.specs.declared.type_stop.TypeStop.{TypeStop}
use Rattle.gx_types_exprs.specs.declared.type_kind.TypeKind.TheVariants as type_kind
use Rattle.gx_types_clauses.specs.ColumnLists.{checked_columns, checked_limit, checked_lists, checked_names}
use Rattle.gx_types_stmts.specs.KnownNames.{Context, definition_of, free_name, no_context, operand_if, used_operand, with_new_name}
use Rattle.gx_types_stmts.specs.Makes.{OperandTypes, is_of_sort, operand_of}
use Rattle.gx_types_clauses.specs.NamedParts.{NamedParts, UsedName, named_parts}
use Rattle.gx_types_clauses.specs.StmtStops.{stmt_refusal}
use Rattle.gx_types_stmts.specs.StmtTyping.{context_with, typed_body, typed_stmt}
use Rattle.gx_types_stmts.specs.declared.checked_stmt.CheckedStmt.{CheckedStmt}
use Rattle.gx_types_stmts.specs.declared.known.Definition.{Definition}
use Rattle.gx_types_clauses.specs.declared.sort.Sort.{Sort}
use Rattle.gx_types_clauses.specs.declared.stmt_stop.StmtStop.{StmtStop}
use Rattle.gx_types_clauses.specs.declared.stmt_stop.StmtStop.TheVariants as stop
use Rattle.gx_types.proofs.ScriptWalk.{AreTypedStmts, typed-all}
use Rattle.gx_types.proofs.TypedBodies.{FitsWritten, IsFewOperand, after-fact, after-step, body-fits, if-fact, made-of_sort, sort_if_used}
use Rattle.gx_types.proofs.UseLemmas.{pushed-at}

-- ---- steps that may stop

always-ok : {A E : Type 0} (r : Result A E) (P : Type 0) → P → IfOk r (λ x. P)
always-ok (Ok x) P h = h
always-ok (Err e) P h = tt

numbered-fact : (P : CheckedStmt → Type 0) (n : ℕ) (r : Result CheckedStmt StmtStop) → IfOk r P → IfOk (at_statement n r) P
numbered-fact P n (Ok t) h = h
numbered-fact P n (Err e) h = tt

built-split : (b : Bool) (rest : Result (Unit {0}) TypeStop) (e : TypeStop) → (if b then rest else Err e) ≡ Ok tt → (b ≡ true) × (rest ≡ Ok tt)
built-split true rest e h = (refl, h)
built-split false rest e h = cc

-- ---- lists

all-weaker : {A : Type 0} (P Q : A → Type 0) (xs : List A) → ((x : A) → P x → Q x) → AllByRecursion P xs → AllByRecursion Q xs
all-weaker P Q [] weaker h = tt
all-weaker P Q (x ∷ xs) weaker h = (weaker x h.0, all-weaker P Q xs weaker h.1)

all-append : {A : Type 0} (P : A → Type 0) (xs ys : List A) → AllByRecursion P xs → AllByRecursion P ys → AllByRecursion P (xs ++ ys)
all-append P [] ys h rest = rest
all-append P (x ∷ xs) ys h rest = (h.0, all-append P xs ys h.1 rest)

at-append : {A B : Type 0} (f : A → Option B) (xs ys : List A) (j : ℕ) (y : B) → option_and_then f (slice_get xs j) ≡ Some y → option_and_then f (slice_get (xs ++ ys) j) ≡ Some y
at-append f [] ys j y e = cc
at-append f (x ∷ xs) ys zero y e = e
at-append f (x ∷ xs) ys (suc j) y e = at-append f xs ys j y e

at-end : {A : Type 0} (xs : List A) (x : A) → slice_get (xs ++ x ∷ []) (length xs) ≡ Some x
at-end [] x = refl
at-end (y ∷ xs) x = at-end xs x

-- what holds of each statement at its index, with one statement more
each-push : (Q R : ℕ → CheckedStmt → Type 0) (ts : List CheckedStmt) (t : CheckedStmt) → ((i : ℕ) (u : CheckedStmt) → slice_get ts i ≡ Some u → Q i u) → ((i : ℕ) (u : CheckedStmt) → Q i u → R i u) → R (length ts) t
    → (i : ℕ) (u : CheckedStmt) → slice_get (ts ++ t ∷ []) i ≡ Some u → R i u
each-push Q R ts t h weaker last i u e =
    elim (pushed-at ts t i u e) [
      | inl old ↦ weaker i u (h i u old)
      | inr new ↦ subst (λ n. R n u) (sym new.0) (subst (R (length ts)) (sym new.1) last)
    ]

-- ---- what is made

within-more : (ts us : List CheckedStmt) (n m : ℕ) (e : Sort × ℕ) → n ≤ m → IsMadeWithin ts n e → IsMadeWithin (ts ++ us) m e
within-more ts us n m e more h = record {
  from_one = h.from_one;
  within = omega (arith, more, h.within);
  made = at-append (λ (c : CheckedStmt). sort_made c.stmt) ts us (e.1 - 1) e.0 h.made;
}

longer : (ts : List CheckedStmt) (t : CheckedStmt) → length (ts ++ t ∷ []) ≡ length ts + 1
longer ts t = length-append ts (t ∷ [])

-- a name stands for what the statement of its number makes
abbrev pub IsDefinedBy : List CheckedStmt → Definition → Type 0
IsDefinedBy ts d = (sort : Sort) → is_of_sort sort d.made ≡ true → IsMadeWithin ts (length ts) (sort, d.number)

-- and has few columns
abbrev pub IsKnownAs : List CheckedStmt → Definition → Type 0
IsKnownAs ts d = IsDefinedBy ts d × HasFewColumns d.made

-- what is known is what these statements make
pub record KnowsSorts (k : Context) (ts : List CheckedStmt) : Type 0 where
  pub counted : k.count ≡ length ts
  pub defined : AllByRecursion (λ e. IsKnownAs ts e.1) k.names

-- ---- the names of a statement

choice-holds : (P : Definition → Type 0) (b : Bool) (d : Definition) (rest : Option Definition) → P d → IfSome rest P → IfSome (cond b (Some d) rest) P
choice-holds P true d rest here there = here
choice-holds P false d rest here there = there

found-holds : (P : Definition → Type 0) (test : List ℕ → Bool) (names : List (List ℕ × Definition)) → AllByRecursion (λ e. P e.1) names → IfSome (lookup test names) P
found-holds P test [] h = tt
found-holds P test (e ∷ names) h = choice-holds P (test e.0) e.1 (lookup test names) h.0 (found-holds P test names h.1)

-- what a used name stands for is made by one of these statements
abbrev pub IsOperandOf : List CheckedStmt → Option UsedName → OperandTypes → Type 0
IsOperandOf ts used a = AllByRecursion (IsMadeWithin ts (length ts)) (sort_if_used used a)

-- and has few columns
abbrev pub IsFewOperandOf : List CheckedStmt → Option UsedName → OperandTypes → Type 0
IsFewOperandOf ts used a = IsOperandOf ts used a × IsFewOperand a

few-or_none : (o : Option (List Column)) → IfSome o (λ cs. length cs ≤ 16) → length (unwrap_or o []) ≤ 16
few-or_none None h = omega arith
few-or_none (Some cs) h = h

operand-if_sort : (ts : List CheckedStmt) (u : UsedName) (d : Definition) (b : Bool) → is_of_sort u.sort d.made ≡ b → IsKnownAs ts d
    → IfOk (if b then Ok (operand_of d.number d.made) else stmt_refusal type_kind.WrongSort) (IsFewOperandOf ts (Some u))
operand-if_sort ts u d true is h = ((h.0 u.sort is, tt), (few-or_none d.made.vertices h.1.0, few-or_none d.made.edges h.1.1))
operand-if_sort ts u d false is h = tt

operand-made : (ts : List CheckedStmt) (u : UsedName) (d : Option Definition) → IfSome d (IsKnownAs ts) → IfOk (operand_if u d) (IsFewOperandOf ts (Some u))
operand-made ts u None h = tt
operand-made ts u (Some d) h = operand-if_sort ts u d (is_of_sort u.sort d.made) refl h

used-made : (k : Context) (ts : List CheckedStmt) (used : Option UsedName) → KnowsSorts k ts → IfOk (used_operand k used) (IsFewOperandOf ts used)
used-made k ts None known = (tt, (omega arith, omega arith))
used-made k ts (Some u) known = operand-made ts u (definition_of k u.name) (found-holds (IsKnownAs ts) (bytes_eq u.name) k.names known.defined)

-- ---- a statement

-- a list of columns that passed its checks has at most 16
limit-few : (n : ℕ) (b : Bool) → nat_le n 16 ≡ b → IfOk (if b then Ok tt else Err (stop.Limit limit.Columns)) (λ (done : Unit {0}). n ≤ 16)
limit-few n true e = grind (arith, nat_tests)
limit-few n false e = tt

columns-few : (names : List (List ℕ)) → IfOk (checked_columns names) (λ done. length names ≤ 16)
columns-few names =
    after-fact (checked_limit limit.Columns (length names)) (λ done. length names ≤ 16) (λ done. length names ≤ 16) _
    (limit-few (length names) (nat_le (length names) 16) refl)
    (λ done h. always-ok (checked_names [] names) (length names ≤ 16) h)

lists-few : (rounds : ℕ) (p : NamedParts) → IfOk (checked_lists rounds p) (λ done. length p.columns ≤ 16)
lists-few rounds p =
    after-fact (checked_columns p.columns) (λ done. length p.columns ≤ 16) (λ done. length p.columns ≤ 16) _ (columns-few p.columns)
    (λ done h. always-ok _ (length p.columns ≤ 16) h)

-- the statement after these names what they make, and makes a thing of its sort
pub record IsSoundNext (ts : List CheckedStmt) (s : Stmt) (t : CheckedStmt) : Type 0 where
  pub sorts : AllByRecursion (IsMadeWithin ts (length ts)) (named_sorts t.stmt)
  pub makes : sort_made t.stmt ≡ sort_of_types t.made.vertices t.made.edges
  pub run : is_run t.stmt ≡ is_built s
  pub cut : HasWrittenCut t.stmt
  pub few : HasFewColumns t.made

stmt-sound : (k : Context) (ts : List CheckedStmt) (s : Stmt) → KnowsSorts k ts → IfOk (typed_stmt k s) (IsSoundNext ts s)
stmt-sound k ts s known =
    after-step (IsSoundNext ts s) (free_name k (named_parts s).new_name) _ (λ free.
    after-fact (used_operand k (named_parts s).first) (IsFewOperandOf ts (named_parts s).first) (IsSoundNext ts s) _ (used-made k ts (named_parts s).first known) (λ a first.
    after-fact (used_operand k (named_parts s).second) (IsFewOperandOf ts (named_parts s).second) (IsSoundNext ts s) _ (used-made k ts (named_parts s).second known) (λ b second.
    after-fact (checked_lists k.rounds (named_parts s)) (λ done. length (named_parts s).columns ≤ 16) (IsSoundNext ts s) _ (lists-few k.rounds (named_parts s)) (λ lists few.
    after-fact (typed_body a b s) (λ t. FitsWritten a b s t.stmt t.made) (IsSoundNext ts s) _ (body-fits a b s) (λ t fit. record {
      sorts = subst (AllByRecursion (IsMadeWithin ts (length ts))) (sym fit.sorts) (all-append (IsMadeWithin ts (length ts)) (sort_if_used (named_parts s).first a) (sort_if_used (named_parts s).second b) first.0 second.0);
      makes = fit.makes;
      run = fit.run;
      cut = fit.cut;
      few = fit.few first.1 second.1 few;
    })))))

-- ---- what is known after it

defined-more : (ts : List CheckedStmt) (t : CheckedStmt) (d : Definition) → IsDefinedBy ts d → IsDefinedBy (ts ++ t ∷ []) d
defined-more ts t d h sort is = within-more ts (t ∷ []) (length ts) (length (ts ++ t ∷ [])) (sort, d.number) (omega (arith, longer ts t)) (h sort is)

known-more : (ts : List CheckedStmt) (t : CheckedStmt) (d : Definition) → IsKnownAs ts d → IsKnownAs (ts ++ t ∷ []) d
known-more ts t d h = (defined-more ts t d h.0, h.1)

last-defined : (ts : List CheckedStmt) (s : Stmt) (t : CheckedStmt) (d : Definition) → IsSoundNext ts s t → d.number ≡ length ts + 1 → d.made ≡ t.made → IsDefinedBy (ts ++ t ∷ []) d
last-defined ts s t d sound number made sort is = record {
  from_one = omega (arith, number);
  within = omega (arith, number, longer ts t);
  made = ap (λ j. option_and_then (λ (c : CheckedStmt). sort_made c.stmt) (slice_get (ts ++ t ∷ []) j)) at ∙ ap (option_and_then (λ (c : CheckedStmt). sort_made c.stmt)) (at-end ts t)
      ∙ sound.makes ∙ made-of_sort sort t.made (subst (λ m. is_of_sort sort m ≡ true) made is);
}
  where
    at : d.number - 1 ≡ length ts
    at = omega (arith, number)

named-more : (P : Definition → Type 0) (names : List (List ℕ × Definition)) (name : Option (List ℕ)) (d : Definition) → AllByRecursion (λ e. P e.1) names → P d → AllByRecursion (λ e. P e.1) (with_new_name names name d)
named-more P names None d h last = h
named-more P names (Some name) d h last = all-append (λ e. P e.1) names ((name, d) ∷ []) h (last, tt)

known-next : (k : Context) (ts : List CheckedStmt) (s : Stmt) (t : CheckedStmt) → KnowsSorts k ts → IsSoundNext ts s t → KnowsSorts (context_with k s t.made) (ts ++ t ∷ [])
known-next k ts s t known sound = record {
  counted = omega (arith, known.counted, longer ts t);
  defined = named-more (IsKnownAs (ts ++ t ∷ [])) k.names (named_parts s).new_name (record { number = k.count + 1; made = t.made })
      (all-weaker (λ e. IsKnownAs ts e.1) (λ e. IsKnownAs (ts ++ t ∷ []) e.1) k.names (λ e h. known-more ts t e.1 h) known.defined)
      (last-defined ts s t (record { number = k.count + 1; made = t.made }) sound (omega (arith, known.counted)) refl, sound.few);
}

-- ---- a script

record AreSoundStmts (ts : List CheckedStmt) : Type 0 where
  sorts : HasNamedSorts ts
  run : AreRun ts
  cuts : HaveWrittenCuts ts
  makes : MakeTheirSorts ts
  columns : HaveFewColumns ts

sound-none : AreSoundStmts []
sound-none = record { sorts = λ i t e. cc; run = λ i t e. cc; cuts = λ i t e. cc; makes = λ i t e. cc; columns = λ i t e. absurd (cc) }

sound-push : (ts : List CheckedStmt) (s : Stmt) (t : CheckedStmt) → AreSoundStmts ts → IsSoundNext ts s t → is_built s ≡ true → AreSoundStmts (ts ++ t ∷ [])
sound-push ts s t h next built = record {
  sorts = each-push (λ i u. AllByRecursion (IsMadeWithin ts i) (named_sorts u.stmt)) (λ i u. AllByRecursion (IsMadeWithin (ts ++ t ∷ []) i) (named_sorts u.stmt)) ts t h.sorts
      (λ i u. more i (named_sorts u.stmt)) (more (length ts) (named_sorts t.stmt) next.sorts);
  run = each-push (λ i u. is_run u.stmt ≡ true) (λ i u. is_run u.stmt ≡ true) ts t h.run (λ i u e. e) (next.run ∙ built);
  cuts = each-push (λ i u. HasWrittenCut u.stmt) (λ i u. HasWrittenCut u.stmt) ts t h.cuts (λ i u e. e) next.cut;
  makes = each-push (λ i u. sort_made u.stmt ≡ sort_of_types u.made.vertices u.made.edges) (λ i u. sort_made u.stmt ≡ sort_of_types u.made.vertices u.made.edges) ts t h.makes (λ i u e. e) next.makes;
  columns = each-push (λ i u. HasFewColumns u.made) (λ i u. HasFewColumns u.made) ts t h.columns (λ i u e. e) next.few;
}
  where
    more : (i : ℕ) (es : List (Sort × ℕ)) → AllByRecursion (IsMadeWithin ts i) es → AllByRecursion (IsMadeWithin (ts ++ t ∷ []) i) es
    more i es each = all-weaker (IsMadeWithin ts i) (IsMadeWithin (ts ++ t ∷ []) i) es (λ e one. within-more ts (t ∷ []) i i e (omega arith) one) each

sound-rest : (stmts : List Stmt) (n : ℕ) (k : Context) (front : List CheckedStmt) → built_statements n stmts ≡ Ok tt → KnowsSorts k front → AreSoundStmts front
    → IfOk (typed_statements k stmts) (λ rest. AreSoundStmts (front ++ rest))
sound-rest [] n k front built known h = subst AreSoundStmts (sym (append-nil front)) h
sound-rest (s ∷ stmts) n k front built known h =
    let here : (is_built s ≡ true) × (built_statements (n + 1) stmts ≡ Ok tt) = built-split (is_built s) (built_statements (n + 1) stmts) _ built in
    after-fact (numbered_stmt k s) (IsSoundNext front s) (λ rest. AreSoundStmts (front ++ rest)) _ (numbered-fact (IsSoundNext front s) (k.count + 1) (typed_stmt k s) (stmt-sound k front s known)) (λ t next.
    after-fact (typed_statements (context_with k s t.made) stmts) (λ rest. AreSoundStmts ((front ++ t ∷ []) ++ rest)) (λ rest. AreSoundStmts (front ++ rest)) _
    (sound-rest stmts (n + 1) (context_with k s t.made) (front ++ t ∷ []) here.1 (known-next k front s t known next) (sound-push front s t h next here.0))
    (λ rest sound. subst AreSoundStmts (append_assoc front (t ∷ []) rest) sound))

script-sound : (stmts : List Stmt) (ts : List CheckedStmt) → typed_statements_of stmts ≡ Ok ts → built_statements 1 stmts ≡ Ok tt → UseEarlier ts → All NamesAreUsed ts → HasSoundStmts ts
script-sound stmts ts typed built earlier named =
    let sound : AreSoundStmts ts = subst (λ r. IfOk r AreSoundStmts) typed (sound-rest stmts 1 no_context [] built (record { counted = refl; defined = tt }) sound-none) in
    record { earlier = earlier; named = named; sorts = sound.sorts; run = sound.run; cuts = sound.cuts; makes = sound.makes; columns = sound.columns }

-- all statements are checked, and then tested
pub walked-sound : (xs : List Stmt) (i : ℕ) (k : Context) (ts : List CheckedStmt) → length xs ≤ i → AreTypedStmts xs i k ts → built_statements 1 xs ≡ Ok tt → HasSoundStmts ts
walked-sound xs i k ts past h built = script-sound xs ts (typed-all xs i k ts past h) built h.earlier h.named
