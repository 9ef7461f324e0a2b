-- Arguments of a call, checked one after the other.
use Rattle.std.proofs.Common.{◌≡◌, ℕ, ◌+◌, ◌<◌, ◌≤◌, Result, Ok, Err, List, [], ◌∷◌, ◌++◌, length, map, drop, get_or, refl, sym, ap, subst, ◌∙◌, arith, append_assoc}
use Rattle.std.specs.Prelude.{sum}
use Rattle.std.proofs.lemmas.List.{append-nil, drop_all, drop_more}
use Rattle.std.proofs.lemmas.List.Sums.{sum_by-cons}
use Rattle.gx_rows.specs.Results.{◌>>=◌}
use Rattle.gx_rows.specs.declared.value.ValueKind.{ValueKind}
use Rattle.gx_expr.specs.declared.expr.Expr.{Expr}
use Rattle.gx_syntax_tree.specs.Bounds.{node_count}
use Rattle.gx_syntax_tree.specs.declared.expr.Expr.{Expr as Written}
use Rattle.gx_types_exprs.specs.ExprScopes.{ScopeNames}
use Rattle.gx_types_exprs.specs.ExprTyping.{TypedArgs, typed_args, typed_tree, tree_typing}
use Rattle.gx_types_exprs.specs.Returns.{args_record}
use Rattle.gx_types_exprs.specs.declared.expr_stop.ExprStop.{ExprStop}
use Rattle.gx_types_exprs.specs.declared.checked_args.CheckedArgs.{CheckedArgs}
use Rattle.gx_types_exprs.specs.declared.typed_expr.TypedExpr.{TypedExpr}

-- arguments that are checked already, before those of the rest
abbrev pub prefixed : List Expr → List ValueKind → Result TypedArgs ExprStop → Result TypedArgs ExprStop
prefixed es ks rest = rest >>= λ xs. Ok (record { exprs = es ++ xs.exprs; kinds = ks ++ xs.kinds; next = xs.next })

abbrev pub args_from : ScopeNames → List Written → ℕ → Result TypedArgs ExprStop
args_from s xs n = typed_args (map (tree_typing s) xs) n

-- the first i arguments are checked
pub record AreChecked (s : ScopeNames) (xs : List Written) (first i : ℕ) (c : CheckedArgs) : Type 0 where
  pub so_far : prefixed c.exprs c.kinds (args_from s (drop i xs) c.next) ≡ args_from s xs first
  pub counted : c.next + sum (map node_count (drop i xs)) ≡ first + sum (map node_count xs)

prefixed-none : (rest : Result TypedArgs ExprStop) → prefixed [] [] rest ≡ rest
prefixed-none (Ok xs) = refl
prefixed-none (Err e) = refl

pub checked-none : (s : ScopeNames) (xs : List Written) (first : ℕ) (c : CheckedArgs) → c.exprs ≡ [] → c.kinds ≡ [] → c.next ≡ first → AreChecked s xs first 0 c
checked-none s xs first c e k n = record { so_far = rw (e, k, n) (prefixed-none (args_from s xs first)); counted = rw n refl }

-- one argument more
prefixed-more : (es : List Expr) (ks : List ValueKind) (t : TypedExpr) (x : Result TypedExpr ExprStop) (rest : ℕ → Result TypedArgs ExprStop) → x ≡ Ok t
    → prefixed es ks (x >>= λ y. rest y.next >>= λ ys. Ok (record { exprs = y.expr ∷ ys.exprs; kinds = y.kind ∷ ys.kinds; next = ys.next })) ≡ prefixed (es ++ t.expr ∷ []) (ks ++ t.kind ∷ []) (rest t.next)
prefixed-more es ks t x rest is = rw is (go (rest t.next))
  where
    go : (r : Result TypedArgs ExprStop) → prefixed es ks (r >>= λ ys. Ok (record { exprs = t.expr ∷ ys.exprs; kinds = t.kind ∷ ys.kinds; next = ys.next })) ≡ prefixed (es ++ t.expr ∷ []) (ks ++ t.kind ∷ []) r
    go (Ok ys) = rw (append_assoc, append_assoc) refl
    go (Err e) = refl

rest-is : (xs : List Written) (i : ℕ) (x : Written) → i < length xs → x ≡ get_or xs i x → drop i xs ≡ x ∷ drop (i + 1) xs
rest-is xs i x below is = drop_more xs i x below ∙ ap (λ y. y ∷ drop (i + 1) xs) (sym is)

-- the next argument has numbers
pub next-counted : (s : ScopeNames) (xs : List Written) (first i : ℕ) (c : CheckedArgs) (x : Written) → i < length xs → x ≡ get_or xs i x → AreChecked s xs first i c
    → c.next + (node_count x + sum (map node_count (drop (i + 1) xs))) ≡ first + sum (map node_count xs)
next-counted s xs first i c x below is h =
    let split : sum (map node_count (drop i xs)) ≡ node_count x + sum (map node_count (drop (i + 1) xs)) =
    ap (λ ys. sum (map node_count ys)) (rest-is xs i x below is) ∙ sum_by-cons (λ n. n) (node_count x) (map node_count (drop (i + 1) xs)) in
    rw (← split) h.counted

pub checked-next : (s : ScopeNames) (xs : List Written) (first i : ℕ) (c d : CheckedArgs) (x : Written) (t : TypedExpr) → i < length xs → x ≡ get_or xs i x → AreChecked s xs first i c
    → typed_tree s c.next x ≡ Ok t → t.next ≡ c.next + node_count x → d.exprs ≡ c.exprs ++ t.expr ∷ [] → d.kinds ≡ c.kinds ++ t.kind ∷ [] → d.next ≡ t.next → AreChecked s xs first (i + 1) d
checked-next s xs first i c d x t below is h typed counted es ks n =
    let split : args_from s (drop i xs) c.next ≡ args_from s (x ∷ drop (i + 1) xs) c.next = ap (λ ys. args_from s ys c.next) (rest-is xs i x below is) in
    let moved : prefixed c.exprs c.kinds (args_from s (x ∷ drop (i + 1) xs) c.next) ≡ prefixed (c.exprs ++ t.expr ∷ []) (c.kinds ++ t.kind ∷ []) (args_from s (drop (i + 1) xs) t.next) =
    prefixed-more c.exprs c.kinds t (typed_tree s c.next x) (args_from s (drop (i + 1) xs)) typed in
    record {
      so_far = rw (es, ks, n) (sym moved ∙ sym (ap (prefixed c.exprs c.kinds) split) ∙ h.so_far);
      counted = omega (arith, next-counted s xs first i c x below is h);
    }

-- the next argument is refused
pub checked-stop : (s : ScopeNames) (xs : List Written) (first i : ℕ) (c : CheckedArgs) (x : Written) (e : ExprStop) → i < length xs → x ≡ get_or xs i x → AreChecked s xs first i c
    → typed_tree s c.next x ≡ Err e → args_from s xs first ≡ Err e
checked-stop s xs first i c x e below is h typed =
    let split : args_from s (drop i xs) c.next ≡ args_from s (x ∷ drop (i + 1) xs) c.next = ap (λ ys. args_from s ys c.next) (rest-is xs i x below is) in
    let refused : args_from s (x ∷ drop (i + 1) xs) c.next ≡ Err e = rw typed refl in
    sym h.so_far ∙ ap (prefixed c.exprs c.kinds) (split ∙ refused)

-- all are checked
pub checked-all : (s : ScopeNames) (xs : List Written) (first i : ℕ) (c : CheckedArgs) → length xs ≤ i → AreChecked s xs first i c
    → (args_from s xs first ≡ Ok (args_record c)) × (c.next ≡ first + sum (map node_count xs))
checked-all s xs first i c past h =
    let none : drop i xs ≡ [] = drop_all i xs past in
    let so_far : prefixed c.exprs c.kinds (args_from s [] c.next) ≡ args_from s xs first =
    subst (λ ys. prefixed c.exprs c.kinds (args_from s ys c.next) ≡ args_from s xs first) none h.so_far in
    let counted : c.next + sum (map node_count []) ≡ first + sum (map node_count xs) =
    subst (λ ys. c.next + sum (map node_count ys) ≡ first + sum (map node_count xs)) none h.counted in
    (sym so_far ∙ rw (append-nil, append-nil) refl, omega (arith, counted))
