-- Statements that are checked one after the other.
use Rattle.std.proofs.Common.{◌≡◌, ℕ, ◌+◌, ◌<◌, ◌≤◌, All, Result, Ok, Err, List, [], ◌∷◌, ◌++◌, length, drop, get_or, refl, sym, ap, subst, ◌∙◌, arith}
use Rattle.std.proofs.lemmas.List.{append-nil, drop_all, length-append}
use Rattle.std.proofs.lemmas.List.Elements.{All-nil, All-push}
use Rattle.gx_rows.specs.Results.{◌>>=◌, try_append, try_append-try_cons}
use Rattle.gx_syntax_tree.specs.declared.stmt.Stmt.{Stmt}
use Rattle.gx_types.specs.Needs.{NamesAreUsed, UseEarlier}
use Rattle.gx_types.specs.ScriptTyping.{numbered_stmt, typed_statements, typed_statements_of}
use Rattle.gx_types.specs.declared.type_stop.TypeStop.{TypeStop}
use Rattle.gx_types_stmts.specs.KnownNames.{Context, IsEarlier, no_context}
use Rattle.gx_types_stmts.specs.StmtTyping.{context_with}
use Rattle.gx_types_stmts.specs.declared.checked_stmt.CheckedStmt.{CheckedStmt}
use Rattle.gx_types.proofs.BuiltLemmas.{rest-is}
use Rattle.gx_types.proofs.UseLemmas.{earlier-push}

-- the first i statements are checked
pub record AreTypedStmts (xs : List Stmt) (i : ℕ) (k : Context) (ts : List CheckedStmt) : Type 0 where
  pub so_far : try_append ts (typed_statements k (drop i xs)) ≡ typed_statements_of xs
  pub counted : k.count ≡ i
  pub as_many : length ts ≡ i
  pub earlier : UseEarlier ts
  pub named : All NamesAreUsed ts

try-none : (rest : Result (List CheckedStmt) TypeStop) → try_append [] rest ≡ rest
try-none (Ok xs) = refl
try-none (Err e) = refl

pub typed-none : (xs : List Stmt) (k : Context) (ts : List CheckedStmt) → k ≡ no_context → ts ≡ [] → AreTypedStmts xs 0 k ts
typed-none xs k ts is none =
    subst (λ (c : Context). AreTypedStmts xs 0 c ts) (sym is) (subst (AreTypedStmts xs 0 no_context) (sym none) (record {
      so_far = try-none (typed_statements_of xs);
      counted = refl;
      as_many = refl;
      earlier = λ i t e. cc;
      named = All-nil NamesAreUsed;
    }))

-- the next statement
next-split : (xs : List Stmt) (i : ℕ) (x : Stmt) (k : Context) → i < length xs → x ≡ get_or xs i x
    → typed_statements k (drop i xs) ≡ (numbered_stmt k x >>= λ t. typed_statements (context_with k x t.made) (drop (i + 1) xs) >>= λ ts. Ok (t ∷ ts))
next-split xs i x k below is = ap (typed_statements k) (rest-is xs i x below is)

moved : (ts : List CheckedStmt) (t : CheckedStmt) (x : Result CheckedStmt TypeStop) (rest : CheckedStmt → Result (List CheckedStmt) TypeStop) → x ≡ Ok t
    → try_append ts (x >>= λ y. rest y >>= λ ys. Ok (y ∷ ys)) ≡ try_append (ts ++ t ∷ []) (rest t)
moved ts t x rest is = rw is (try_append-try_cons ts t (Ok t) (rest t) refl)

pub typed-next : (xs : List Stmt) (i : ℕ) (k m : Context) (ts us : List CheckedStmt) (x : Stmt) (t : CheckedStmt) → i < length xs → x ≡ get_or xs i x → AreTypedStmts xs i k ts
    → numbered_stmt k x ≡ Ok t → m ≡ context_with k x t.made → All (IsEarlier k.count) t.uses → NamesAreUsed t → us ≡ ts ++ t ∷ [] → AreTypedStmts xs (i + 1) m us
typed-next xs i k m ts us x t below is h typed after earlier named more =
    let step : try_append ts (typed_statements k (drop i xs)) ≡ try_append (ts ++ t ∷ []) (typed_statements (context_with k x t.made) (drop (i + 1) xs)) =
    ap (try_append ts) (next-split xs i x k below is) ∙ moved ts t (numbered_stmt k x) (λ y. typed_statements (context_with k x y.made) (drop (i + 1) xs)) typed in
    let longer : length (ts ++ t ∷ []) ≡ i + 1 = rw length-append (omega (arith, h.as_many)) in
    subst (λ (c : Context). AreTypedStmts xs (i + 1) c us) (sym after) (subst (AreTypedStmts xs (i + 1) (context_with k x t.made)) (sym more) (record {
      so_far = sym step ∙ h.so_far;
      counted = omega (arith, h.counted);
      as_many = longer;
      earlier = earlier-push ts t h.earlier (subst (λ n. All (IsEarlier n) t.uses) (h.counted ∙ sym h.as_many) earlier);
      named = All-push NamesAreUsed ts t h.named named;
    }))

pub typed-stop : (xs : List Stmt) (i : ℕ) (k : Context) (ts : List CheckedStmt) (x : Stmt) (e : TypeStop) → i < length xs → x ≡ get_or xs i x → AreTypedStmts xs i k ts
    → numbered_stmt k x ≡ Err e → typed_statements_of xs ≡ Err e
typed-stop xs i k ts x e below is h typed =
    sym h.so_far ∙ ap (try_append ts) (next-split xs i x k below is) ∙ rw typed refl

pub typed-all : (xs : List Stmt) (i : ℕ) (k : Context) (ts : List CheckedStmt) → length xs ≤ i → AreTypedStmts xs i k ts → typed_statements_of xs ≡ Ok ts
typed-all xs i k ts past h =
    sym h.so_far ∙ ap (λ ys. try_append ts (typed_statements k ys)) (drop_all i xs past) ∙ rw append-nil refl
