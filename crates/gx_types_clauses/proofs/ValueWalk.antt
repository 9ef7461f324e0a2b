-- Expressions that are checked one after the other.
use Rattle.std.proofs.Common.{◌≡◌, ℕ, ◌+◌, ◌<◌, ◌≤◌, ◌^◌, All, Result, Ok, Err, List, [], ◌∷◌, ◌++◌, length, map, drop, get_or, refl, sym, ap, subst, ◌∙◌, arith, append_assoc}
use Rattle.std.specs.Prelude.{sum}
use Rattle.std.proofs.lemmas.List.{append-nil, drop_all, drop_more, get_or-map, length-map}
use Rattle.std.proofs.lemmas.List.Sums.{sum_by-cons}
use Rattle.gx_rows.specs.Results.{◌>>=◌}
use Rattle.gx_rows.specs.declared.value.ValueKind.{ValueKind}
use Rattle.gx_expr.specs.declared.expr.Expr.{Expr}
use Rattle.gx_syntax_tree.specs.Bounds.{node_count}
use Rattle.gx_syntax_tree.specs.declared.expr.Expr.{Expr as Written}
use Rattle.gx_syntax_tree.specs.declared.parts.ColumnExpr.{ColumnExpr}
use Rattle.gx_types_exprs.specs.ExprScopes.{ScopeNames}
use Rattle.gx_types_exprs.specs.ExprTyping.{TypedArgs, typed_args, typed_expr}
use Rattle.gx_types_exprs.specs.declared.expr_stop.ExprStop.{ExprStop}
use Rattle.gx_types_exprs.specs.declared.typed_expr.TypedExpr.{TypedExpr}
use Rattle.gx_types_clauses.specs.ClauseBounds.{HasShortTexts}
use Rattle.gx_types_clauses.specs.StmtStops.{of_expr, stop_of_expr}
use Rattle.gx_types_clauses.specs.ValueTyping.{column_values, expr_typing, typed_values, values_record}
use Rattle.gx_types_clauses.specs.declared.values.TypedValues.{TypedValues}

-- expressions that are checked already, before those of the rest
abbrev pub prefixed_values : List Expr → List ValueKind → Result TypedArgs ExprStop → Result TypedArgs ExprStop
prefixed_values es ks rest = rest >>= λ xs. Ok (record { exprs = es ++ xs.exprs; kinds = ks ++ xs.kinds; next = xs.next })

abbrev pub values_from : ScopeNames → List Written → ℕ → Result TypedArgs ExprStop
values_from s xs n = typed_args (map (expr_typing s) xs) n

-- the first i expressions are checked
pub record AreTyped (s : ScopeNames) (xs : List Written) (first i : ℕ) (c : TypedValues) : Type 0 where
  pub so_far : prefixed_values c.exprs c.kinds (values_from s (drop i xs) c.next) ≡ values_from s xs first
  pub counted : c.next + sum (map node_count (drop i xs)) ≡ first + sum (map node_count xs)

prefixed-none : (rest : Result TypedArgs ExprStop) → prefixed_values [] [] rest ≡ rest
prefixed-none (Ok xs) = refl
prefixed-none (Err e) = refl

pub typed-none : (s : ScopeNames) (xs : List Written) (first : ℕ) (c : TypedValues) → c.exprs ≡ [] → c.kinds ≡ [] → c.next ≡ first → AreTyped s xs first 0 c
typed-none s xs first c e k n = record { so_far = rw (e, k, n) (prefixed-none (values_from s xs first)); counted = rw n refl }

-- one expression more
prefixed-more : (es : List Expr) (ks : List ValueKind) (t : TypedExpr) (x : Result TypedExpr ExprStop) (rest : ℕ → Result TypedArgs ExprStop) → x ≡ Ok t
    → prefixed_values es ks (x >>= λ y. rest y.next >>= λ ys. Ok (record { exprs = y.expr ∷ ys.exprs; kinds = y.kind ∷ ys.kinds; next = ys.next })) ≡ prefixed_values (es ++ t.expr ∷ []) (ks ++ t.kind ∷ []) (rest t.next)
prefixed-more es ks t x rest is = rw is (go (rest t.next))
  where
    go : (r : Result TypedArgs ExprStop) → prefixed_values es ks (r >>= λ ys. Ok (record { exprs = t.expr ∷ ys.exprs; kinds = t.kind ∷ ys.kinds; next = ys.next })) ≡ prefixed_values (es ++ t.expr ∷ []) (ks ++ t.kind ∷ []) r
    go (Ok ys) = rw (append_assoc, append_assoc) refl
    go (Err e) = refl

pub rest-is : {A : Type 0} (xs : List A) (i : ℕ) (x : A) → i < length xs → x ≡ get_or xs i x → drop i xs ≡ x ∷ drop (i + 1) xs
rest-is xs i x below is = drop_more xs i x below ∙ ap (λ y. y ∷ drop (i + 1) xs) (sym is)

-- the next expression has numbers
pub next-counted : (s : ScopeNames) (xs : List Written) (first i : ℕ) (c : TypedValues) (x : Written) → i < length xs → x ≡ get_or xs i x → AreTyped s xs first i c
    → c.next + (node_count x + sum (map node_count (drop (i + 1) xs))) ≡ first + sum (map node_count xs)
next-counted s xs first i c x below is h =
    let split : sum (map node_count (drop i xs)) ≡ node_count x + sum (map node_count (drop (i + 1) xs)) =
    ap (λ ys. sum (map node_count ys)) (rest-is xs i x below is) ∙ sum_by-cons (λ n. n) (node_count x) (map node_count (drop (i + 1) xs)) in
    rw (← split) h.counted

pub typed-next : (s : ScopeNames) (xs : List Written) (first i : ℕ) (c d : TypedValues) (x : Written) (t : TypedExpr) → i < length xs → x ≡ get_or xs i x → AreTyped s xs first i c
    → typed_expr s c.next x ≡ Ok t → t.next ≡ c.next + node_count x → d.exprs ≡ c.exprs ++ t.expr ∷ [] → d.kinds ≡ c.kinds ++ t.kind ∷ [] → d.next ≡ t.next → AreTyped s xs first (i + 1) d
typed-next s xs first i c d x t below is h typed counted es ks n =
    let split : values_from s (drop i xs) c.next ≡ values_from s (x ∷ drop (i + 1) xs) c.next = ap (λ ys. values_from s ys c.next) (rest-is xs i x below is) in
    let moved : prefixed_values c.exprs c.kinds (values_from s (x ∷ drop (i + 1) xs) c.next) ≡ prefixed_values (c.exprs ++ t.expr ∷ []) (c.kinds ++ t.kind ∷ []) (values_from s (drop (i + 1) xs) t.next) =
    prefixed-more c.exprs c.kinds t (typed_expr s c.next x) (values_from s (drop (i + 1) xs)) typed in
    record {
      so_far = rw (es, ks, n) (sym moved ∙ sym (ap (prefixed_values c.exprs c.kinds) split) ∙ h.so_far);
      counted = omega (arith, next-counted s xs first i c x below is h);
    }

-- the next expression is refused
pub typed-stop : (s : ScopeNames) (xs : List Written) (first i : ℕ) (c : TypedValues) (x : Written) (e : ExprStop) → i < length xs → x ≡ get_or xs i x → AreTyped s xs first i c
    → typed_expr s c.next x ≡ Err e → typed_values s first xs ≡ Err (stop_of_expr e)
typed-stop s xs first i c x e below is h typed =
    let split : values_from s (drop i xs) c.next ≡ values_from s (x ∷ drop (i + 1) xs) c.next = ap (λ ys. values_from s ys c.next) (rest-is xs i x below is) in
    let refused : values_from s (x ∷ drop (i + 1) xs) c.next ≡ Err e = rw typed refl in
    ap of_expr (sym h.so_far ∙ ap (prefixed_values c.exprs c.kinds) (split ∙ refused))

-- all are checked
pub typed-all : (s : ScopeNames) (xs : List Written) (first i : ℕ) (c : TypedValues) → length xs ≤ i → AreTyped s xs first i c
    → (typed_values s first xs ≡ Ok (values_record c)) × (c.next ≡ first + sum (map node_count xs))
typed-all s xs first i c past h =
    let none : drop i xs ≡ [] = drop_all i xs past in
    let so_far : prefixed_values c.exprs c.kinds (values_from s [] c.next) ≡ values_from s xs first =
    subst (λ ys. prefixed_values c.exprs c.kinds (values_from s ys c.next) ≡ values_from s xs first) none h.so_far in
    let counted : c.next + sum (map node_count []) ≡ first + sum (map node_count xs) =
    subst (λ ys. c.next + sum (map node_count ys) ≡ first + sum (map node_count xs)) none h.counted in
    let all : values_from s xs first ≡ Ok (values_record c) = sym so_far ∙ rw (append-nil, append-nil) refl in
    (ap of_expr all, omega (arith, counted))

-- ---- the same of the expressions of columns

pub column-at : (sets : List ColumnExpr) (i : ℕ) (c : ColumnExpr) → i < length sets → c ≡ get_or sets i c
    → (i < length (column_values sets)) × (c.value ≡ get_or (column_values sets) i c.value)
column-at sets i c below is =
    let longer : length (column_values sets) ≡ length sets = length-map sets (λ (x : ColumnExpr). x.value) in
    let found : get_or (column_values sets) i c.value ≡ (get_or sets i c).value = get_or-map (λ (x : ColumnExpr). x.value) sets i c c.value below in
    (omega arith, sym (found ∙ ap (λ (x : ColumnExpr). x.value) (sym is)))

pub column-counted : (s : ScopeNames) (sets : List ColumnExpr) (i : ℕ) (c : TypedValues) (x : ColumnExpr) → i < length sets → x ≡ get_or sets i x → AreTyped s (column_values sets) 0 i c
    → sum (map node_count (column_values sets)) < 2 ^ 32 → c.next + node_count x.value < 2 ^ 32
column-counted s sets i c x below is h few =
    let at = column-at sets i x below is in
    omega (arith, next-counted s (column_values sets) 0 i c x.value at.0 at.1 h)

pub column-short : (sets : List ColumnExpr) (i : ℕ) (x : ColumnExpr) → i < length sets → x ≡ get_or sets i x → All HasShortTexts (column_values sets) → HasShortTexts x.value
column-short sets i x below is short =
    let at = column-at sets i x below is in
    subst HasShortTexts (sym at.1) (short i x.value at.0)

pub column-stop : (s : ScopeNames) (sets : List ColumnExpr) (i : ℕ) (c : TypedValues) (x : ColumnExpr) (e : ExprStop) → i < length sets → x ≡ get_or sets i x → AreTyped s (column_values sets) 0 i c
    → typed_expr s c.next x.value ≡ Err e → typed_values s 0 (column_values sets) ≡ Err (stop_of_expr e)
column-stop s sets i c x e below is h typed =
    let at = column-at sets i x below is in
    typed-stop s (column_values sets) 0 i c x.value e at.0 at.1 h typed

pub column-next : (s : ScopeNames) (sets : List ColumnExpr) (i : ℕ) (c d : TypedValues) (x : ColumnExpr) (t : TypedExpr) → i < length sets → x ≡ get_or sets i x → AreTyped s (column_values sets) 0 i c
    → typed_expr s c.next x.value ≡ Ok t → t.next ≡ c.next + node_count x.value → d.exprs ≡ c.exprs ++ t.expr ∷ [] → d.kinds ≡ c.kinds ++ t.kind ∷ [] → d.next ≡ t.next → AreTyped s (column_values sets) 0 (i + 1) d
column-next s sets i c d x t below is h typed counted es ks n =
    let at = column-at sets i x below is in
    typed-next s (column_values sets) 0 i c d x.value t at.0 at.1 h typed counted es ks n
