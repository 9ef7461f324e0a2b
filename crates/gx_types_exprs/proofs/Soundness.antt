-- A tree that is accepted is well typed, its constants are bounded, and it is as deep as what was written.
use Rattle.std.proofs.Common.{◌≡◌, ℕ, zero, suc, zero-add, ◌+◌, max, codes, nat_le, Bool, true, false, ◌&&◌, if◌then◌else◌, Option, None, Some, Result, Ok, Err, List, [], ◌∷◌, ◌++◌, length, map, refl, sym, ap, subst, ◌∙◌, arith}
use Rattle.std.specs.Prelude.{All, IfOk, flat_map, slice_get, sum}
use Rattle.std.specs.Str.{bytes_eq}
use Rattle.std.specs.Option.{option_and_then, option_map}
use Rattle.std.proofs.lemmas.Bool.{leb-true}
use Rattle.std.proofs.lemmas.Option.{slice_get-map}
use Rattle.std.proofs.lemmas.List.Elements.{All-cons, All-head, All-nil, All-tail}
use Rattle.std.proofs.lemmas.List.Sums.{sum_by-cons}
use Rattle.gx_rows.specs.Columns.{Column, names_of, position_of}
use Rattle.gx_rows.specs.Results.{◌>>=◌}
use Rattle.gx_rows.specs.declared.value.Value.TheVariants as value
use Rattle.gx_rows.specs.declared.value.ValueKind.{ValueKind}
use Rattle.gx_rows.specs.declared.value.ValueKind.TheVariants as kind
use Rattle.gx_expr.specs.Typing.{kind_of_binary, kind_of_call, kind_of_unary}
use Rattle.gx_expr.specs.declared.expr.Expr.{Expr}
use Rattle.gx_expr.specs.declared.expr.Expr.TheVariants as expr
use Rattle.gx_expr.specs.declared.operators.BinaryOp.{BinaryOp}
use Rattle.gx_expr.specs.declared.operators.Function.{Function}
use Rattle.gx_expr.specs.declared.operators.UnaryOp.{UnaryOp}
use Rattle.gx_expr.specs.declared.side.Side.{Side}
use Rattle.gx_syntax_tree.specs.Bounds.{IsBoundedText, depth, depth-roll, depth_of_layer, node_count, node_count-roll, node_count_of_layer, texts_in_expr, texts_in_expr-roll, texts_in_layer, greatest}
use Rattle.gx_syntax_tree.specs.declared.expr.Expr.{Expr as Written, map-Expr, roll-Expr}
use Rattle.gx_syntax_tree.specs.declared.expr.Expr.TheFolds.{ind-Expr}
use Rattle.gx_syntax_tree.specs.declared.expr.Expr.TheOpen.{Expr-F as Written-F}
use Rattle.gx_syntax_tree.specs.declared.expr.Expr.TheOpen as written
use Rattle.gx_types_exprs.specs.ExprLaws.{AcceptedIsWellTyped, IsNumbered, IsWellTyped, numbers_from}
use Rattle.gx_types_exprs.specs.ExprScopes.{ScopeNames, has_side, readable_columns, scope_type, side_has_id}
use Rattle.gx_types_exprs.specs.ExprTyping.{TypedArgs, Typing, column_of, function_of, leaf, operation, refusal, typed_args, typed_binary, typed_call, typed_column, typed_expr, typed_field, typed_function, typed_matched, typed_name, typed_tree, typed_unary, tree_typing, tree_typing_of_layer}
use Rattle.gx_types_exprs.specs.ExprWords.{binary_of_written, side_of_word, unary_of_written}
use Rattle.gx_types_exprs.specs.Returns.{Returns}
use Rattle.gx_types_exprs.specs.declared.expr_stop.ExprStop.{ExprStop}
use Rattle.gx_types_exprs.specs.declared.expr_stop.ExprStop.TheVariants as stop
use Rattle.gx_types_exprs.specs.declared.type_kind.TypeKind.TheVariants as type_kind
use Rattle.gx_types_exprs.specs.declared.typed_expr.TypedExpr.{TypedExpr}
use Rattle.gx_types_exprs.proofs.Facts.{HasFacts, HaveFacts, facts-binary, facts-call, facts-column, facts-const, facts-id, facts-matched, facts-more, facts-none, facts-unary}
use Rattle.gx_types_exprs.proofs.Trees.{tree-roll}

-- if two steps in a row give a value, each of them does
pub steps-ok : {A B : Type 0} (step : Result A ExprStop) (next : A → Result B ExprStop) (y : B) → (step >>= next) ≡ Ok y → (x : A) × ((step ≡ Ok x) × (next x ≡ Ok y))
steps-ok (Ok x) next y e = (x, (refl, e))
steps-ok (Err s) next y e = cc

pub operation-ok : (n : ℕ) (e : Expr) (next : ℕ) (k : Option ValueKind) (t : TypedExpr) → operation n e next k ≡ Ok t → (k ≡ Some t.kind) × ((t.expr ≡ e) × (t.next ≡ next))
operation-ok n e next (Some k) t h = (cc, (cc, cc))
operation-ok n e next None t h = cc

module _ {X : Type 0} (P : X → Type 0) where
  all-left : (xs ys : List X) → All P (xs ++ ys) → All P xs
  all-left [] ys h = All-nil P
  all-left (x ∷ xs) ys h = All-cons P x xs (All-head P x (xs ++ ys) h) (all-left xs ys (All-tail P x (xs ++ ys) h))

  all-right : (xs ys : List X) → All P (xs ++ ys) → All P ys
  all-right [] ys h = h
  all-right (x ∷ xs) ys h = all-right xs ys (All-tail P x (xs ++ ys) h)

-- numbers one after the other, in two parts
numbers-append : (n a b : ℕ) → numbers_from n (a + b) ≡ numbers_from n a ++ numbers_from (n + a) b
numbers-append n zero b = let start : n + 0 ≡ n = omega arith in rw (zero-add b, start) refl
numbers-append n (suc a) b =
    let more : suc a + b ≡ suc (a + b) = omega arith in
    let start : n + 1 + a ≡ n + suc a = omega arith in
    ap (numbers_from n) more ∙ ap (λ ns. n ∷ ns) (numbers-append (n + 1) a b ∙ ap (λ m. numbers_from (n + 1) a ++ numbers_from m b) start)

-- what is known of a tree of this depth and of so many nodes that is accepted
record Sound (s : ScopeNames) (d n c : ℕ) (t : TypedExpr) : Type 0 where
  facts : HasFacts (scope_type s) d (numbers_from n c) t.expr t.kind
  next_is : t.next ≡ n + c

sound-as : (s : ScopeNames) (d n c : ℕ) (t : TypedExpr) (ns : List ℕ) (e : Expr) → e ≡ t.expr → ns ≡ numbers_from n c → t.next ≡ n + c → HasFacts (scope_type s) d ns e t.kind → Sound s d n c t
sound-as s d n c t ns e same_expr same_numbers next h = record {
  facts = subst (λ x. HasFacts (scope_type s) d (numbers_from n c) x t.kind) same_expr (subst (λ ms. HasFacts (scope_type s) d ms e t.kind) same_numbers h);
  next_is = next;
}

leaf-sound : (s : ScopeNames) (n : ℕ) (t : TypedExpr) (e : Expr) (k : ValueKind) → leaf n e k ≡ Ok t → HasFacts (scope_type s) 1 (n ∷ []) e k → Sound s 1 n 1 t
leaf-sound s n t e k h facts =
    let same_kind : k ≡ t.kind = cc in
    let next : n + 1 ≡ t.next = cc in
    sound-as s 1 n 1 t (n ∷ []) e (cc) refl (sym next) (subst (HasFacts (scope_type s) 1 (n ∷ []) e) same_kind facts)

-- columns

kind-at : (i : ℕ) (columns : List Column) (o : Option Column) (c : ℕ × ValueKind) → option_map (λ x. (i, x.1)) o ≡ Some c → (i ≡ c.0) × (option_map (λ x. x.1) o ≡ Some c.1)
kind-at i columns (Some x) c h = (cc, cc)
kind-at i columns None c h = cc

column-kind : (name : List ℕ) (columns : List Column) (c : ℕ × ValueKind) → column_of name columns ≡ Some c → slice_get (map (λ x. x.1) columns) c.0 ≡ Some c.1
column-kind name columns c h = go (position_of name (names_of columns)) h
  where
    go : (o : Option ℕ) → option_and_then (λ i. option_map (λ x. (i, x.1)) (slice_get columns i)) o ≡ Some c → slice_get (map (λ x. x.1) columns) c.0 ≡ Some c.1
    go (Some i) e = let at = kind-at i columns (slice_get columns i) c e in subst (λ j. slice_get (map (λ x. x.1) columns) j ≡ Some c.1) at.0 (slice_get-map (λ (x : Column). x.1) columns i ∙ at.1)
    go None e = cc

field-sound : (s : ScopeNames) (n : ℕ) (name : List ℕ) (d : Side) (t : TypedExpr) → typed_field s n name d ≡ Ok t → Sound s 1 n 1 t
field-sound s n name d t h = in_scope (has_side s d) refl h
  where
    column : (o : Option (ℕ × ValueKind)) → column_of name (readable_columns s d) ≡ o → typed_column n d o ≡ Ok t → Sound s 1 n 1 t
    column (Some c) found e = leaf-sound s n t (expr.Column n d c.0) c.1 e (facts-column (scope_type s) n d c.0 c.1 (column-kind name (readable_columns s d) c found))
    column None found e = cc

    named_id : (a b : Bool) → side_has_id d ≡ a → has_side s d ≡ true
        → (if a && b then leaf n (expr.Id n d) kind.Int else typed_column n d (column_of name (readable_columns s d))) ≡ Ok t → Sound s 1 n 1 t
    named_id true true has there e = leaf-sound s n t (expr.Id n d) kind.Int e (facts-id (scope_type s) n d (rw (has, there) refl))
    named_id true false has there e = column (column_of name (readable_columns s d)) refl e
    named_id false b has there e = column (column_of name (readable_columns s d)) refl e

    in_scope : (b : Bool) → has_side s d ≡ b
        → (if b then (if side_has_id d && bytes_eq name (codes "id") then leaf n (expr.Id n d) kind.Int else typed_column n d (column_of name (readable_columns s d))) else refusal n type_kind.SideUnknown) ≡ Ok t → Sound s 1 n 1 t
    in_scope true there e = named_id (side_has_id d) (bytes_eq name (codes "id")) refl there e
    in_scope false there e = cc

name-sound : (s : ScopeNames) (n : ℕ) (name : List ℕ) (o : Option Side) (t : TypedExpr) → typed_name s n name o ≡ Ok t → Sound s 1 n 1 t
name-sound s n name (Some d) t h = field-sound s n name d t h
name-sound s n name None t h = cc

matched-sound : (s : ScopeNames) (n : ℕ) (t : TypedExpr) → typed_matched s n ≡ Ok t → Sound s 1 n 1 t
matched-sound s n t h = go s.has_matched refl h
  where
    go : (b : Bool) → s.has_matched ≡ b → (if b then leaf n (expr.Matched n) kind.Bool else refusal n type_kind.SideUnknown) ≡ Ok t → Sound s 1 n 1 t
    go true is e = leaf-sound s n t (expr.Matched n) kind.Bool e (facts-matched (scope_type s) n is)
    go false is e = cc

-- operations

unary-sound : (s : ScopeNames) (n : ℕ) (o : UnaryOp) (d c : ℕ) (a t : TypedExpr) → Sound s d (n + 1) c a → typed_unary n o a ≡ Ok t → Sound s (suc d) n (suc c) t
unary-sound s n o d c a t h e =
    let made = operation-ok n (expr.Unary n o a.expr) a.next (kind_of_unary o a.kind) t e in
    sound-as s (suc d) n (suc c) t (n ∷ numbers_from (n + 1) c) (expr.Unary n o a.expr) (sym made.1.0) refl (omega (arith, made.1.1, h.next_is))
    (facts-unary (scope_type s) n o a.expr d (numbers_from (n + 1) c) a.kind t.kind h.facts made.0)

binary-sound : (s : ScopeNames) (n : ℕ) (o : BinaryOp) (d e c i : ℕ) (a b t : TypedExpr) → Sound s d (n + 1) c a → Sound s e a.next i b → typed_binary n o a b ≡ Ok t → Sound s (suc (max d e)) n (suc (c + i)) t
binary-sound s n o d e c i a b t h g is =
    let made = operation-ok n (expr.Binary n o a.expr b.expr) b.next (kind_of_binary o a.kind b.kind) t is in
    let numbers : numbers_from (n + 1) c ++ numbers_from a.next i ≡ numbers_from (n + 1) (c + i) =
    ap (λ m. numbers_from (n + 1) c ++ numbers_from m i) h.next_is ∙ sym (numbers-append (n + 1) c i) in
    sound-as s (suc (max d e)) n (suc (c + i)) t (n ∷ numbers_from (n + 1) c ++ numbers_from a.next i) (expr.Binary n o a.expr b.expr) (sym made.1.0)
    (ap (λ ns. n ∷ ns) numbers) (omega (arith, made.1.1, g.next_is, h.next_is))
    (facts-binary (scope_type s) n o a.expr b.expr d e (numbers_from (n + 1) c) (numbers_from a.next i) a.kind b.kind t.kind h.facts g.facts made.0)

-- the same of the arguments of a call
record AreSound (s : ScopeNames) (ds : List ℕ) (n c : ℕ) (xs : TypedArgs) : Type 0 where
  facts : HaveFacts (scope_type s) ds (numbers_from n c) xs.exprs xs.kinds
  next_is : xs.next ≡ n + c

call-sound : (s : ScopeNames) (n : ℕ) (name : List ℕ) (ds : List ℕ) (c : ℕ) (xs : TypedArgs) (t : TypedExpr) → AreSound s ds (n + 1) c xs → typed_call n name xs ≡ Ok t → Sound s (suc (greatest ds)) n (suc c) t
call-sound s n name ds c xs t h is = go (function_of name (length xs.kinds)) is
  where
    go : (o : Option Function) → typed_function n xs o ≡ Ok t → Sound s (suc (greatest ds)) n (suc c) t
    go (Some f) e =
        let made = operation-ok n (expr.Call n f xs.exprs) xs.next (kind_of_call f xs.kinds) t e in
        sound-as s (suc (greatest ds)) n (suc c) t (n ∷ numbers_from (n + 1) c) (expr.Call n f xs.exprs) (sym made.1.0) refl (omega (arith, made.1.1, h.next_is))
        (facts-call (scope_type s) n f ds (numbers_from (n + 1) c) xs.exprs xs.kinds t.kind h.facts made.0)
    go None e = cc

-- trees

abbrev IsSound : Written → Type 0
IsSound x = (s : ScopeNames) (n : ℕ) (t : TypedExpr) → All IsBoundedText (texts_in_expr x) → typed_tree s n x ≡ Ok t → Sound s (depth x) n (node_count x) t

abbrev SoundTree : Type 0
SoundTree = (x : Written) × IsSound x

abbrev trees : List SoundTree → List Written
trees ys = map (λ y. y.0) ys

none-sound : (s : ScopeNames) (n : ℕ) (xs : TypedArgs) → [] ≡ xs.exprs → [] ≡ xs.kinds → n ≡ xs.next → AreSound s [] n 0 xs
none-sound s n xs es ks next = record {
  facts = subst (λ es. HaveFacts (scope_type s) [] [] es xs.kinds) es (subst (HaveFacts (scope_type s) [] [] []) ks (facts-none (scope_type s)));
  next_is = omega (arith, next);
}

more-sound : (s : ScopeNames) (d : ℕ) (ds : List ℕ) (n c i total : ℕ) (t : TypedExpr) (rest xs : TypedArgs) → t.expr ∷ rest.exprs ≡ xs.exprs → t.kind ∷ rest.kinds ≡ xs.kinds → rest.next ≡ xs.next → total ≡ c + i
    → Sound s d n c t → AreSound s ds t.next i rest → AreSound s (d ∷ ds) n total xs
more-sound s d ds n c i total t rest xs es ks next count h g =
    let numbers : numbers_from n c ++ numbers_from t.next i ≡ numbers_from n total =
    ap (λ m. numbers_from n c ++ numbers_from m i) h.next_is ∙ sym (numbers-append n c i) ∙ ap (numbers_from n) (sym count) in
    let all = facts-more (scope_type s) d ds (numbers_from n c) (numbers_from t.next i) t.expr rest.exprs t.kind rest.kinds h.facts g.facts in
    let of_numbers = subst (λ ns. HaveFacts (scope_type s) (d ∷ ds) ns (t.expr ∷ rest.exprs) (t.kind ∷ rest.kinds)) numbers all in
    record {
      facts = subst (λ es. HaveFacts (scope_type s) (d ∷ ds) (numbers_from n total) es xs.kinds) es (subst (HaveFacts (scope_type s) (d ∷ ds) (numbers_from n total) (t.expr ∷ rest.exprs)) ks of_numbers);
      next_is = omega (arith, next, count, h.next_is, g.next_is);
    }

args-sound : (ys : List SoundTree) (s : ScopeNames) (n : ℕ) (xs : TypedArgs) → All IsBoundedText (flat_map (λ x. x) (map texts_in_expr (trees ys)))
    → typed_args (map (tree_typing s) (trees ys)) n ≡ Ok xs → AreSound s (map depth (trees ys)) n (sum (map node_count (trees ys))) xs
args-sound [] s n xs short h = none-sound s n xs (cc) (cc) (cc)
args-sound (y ∷ ys) s n xs short h =
    let texts = flat_map (λ x. x) (map texts_in_expr (trees ys)) in
    let first = steps-ok (typed_tree s n y.0) _ xs h in
    let t = first.0 in
    let others = steps-ok (typed_args (map (tree_typing s) (trees ys)) t.next) _ xs first.1.1 in
    let rest = others.0 in
    let one = y.1 s n t (all-left IsBoundedText (texts_in_expr y.0) texts short) first.1.0 in
    let more = args-sound ys s t.next rest (all-right IsBoundedText (texts_in_expr y.0) texts short) others.1.0 in
    more-sound s (depth y.0) (map depth (trees ys)) n (node_count y.0) (sum (map node_count (trees ys))) (sum (map node_count (trees (y ∷ ys)))) t rest xs (cc) (cc) (cc)
    (sum_by-cons (λ m. m) (node_count y.0) (map node_count (trees ys))) one more

abbrev trees_in : Written-F SoundTree → Written-F Written
trees_in y = map-Expr SoundTree Written (λ y. y.0) y

sound-layer : (y : Written-F SoundTree) (s : ScopeNames) (n : ℕ) (t : TypedExpr) → All IsBoundedText (texts_in_layer (map-Expr Written (List (List ℕ)) texts_in_expr (trees_in y)))
    → tree_typing_of_layer s (map-Expr Written Typing (tree_typing s) (trees_in y)) n ≡ Ok t
    → Sound s (depth_of_layer (map-Expr Written ℕ depth (trees_in y))) n (node_count_of_layer (map-Expr Written ℕ node_count (trees_in y))) t
sound-layer (written.Number z) s n t short h = leaf-sound s n t (expr.Const n (value.Int z)) kind.Int h (facts-const (scope_type s) n (value.Int z) tt)
sound-layer (written.Quoted w) s n t short h = leaf-sound s n t (expr.Const n (value.Text w)) kind.Text h (facts-const (scope_type s) n (value.Text w) (All-head IsBoundedText w [] short))
sound-layer (written.Truth b) s n t short h = leaf-sound s n t (expr.Const n (value.Bool b)) kind.Bool h (facts-const (scope_type s) n (value.Bool b) tt)
sound-layer written.Matched s n t short h = matched-sound s n t h
sound-layer (written.Column word name) s n t short h = name-sound s n name (side_of_word word) t h
sound-layer (written.Call name ys) s n t short h =
    let args = steps-ok (typed_args (map (tree_typing s) (trees ys)) (n + 1)) (typed_call n name) t h in
    call-sound s n name (map depth (trees ys)) (sum (map node_count (trees ys))) args.0 t (args-sound ys s (n + 1) args.0 short args.1.0) args.1.1
sound-layer (written.Unary o a) s n t short h =
    let operand = steps-ok (typed_tree s (n + 1) a.0) (typed_unary n (unary_of_written o)) t h in
    unary-sound s n (unary_of_written o) (depth a.0) (node_count a.0) operand.0 t (a.1 s (n + 1) operand.0 short operand.1.0) operand.1.1
sound-layer (written.Binary o a b) s n t short h =
    let left = steps-ok (typed_tree s (n + 1) a.0) _ t h in
    let right = steps-ok (typed_tree s left.0.next b.0) (typed_binary n (binary_of_written o) left.0) t left.1.1 in
    binary-sound s n (binary_of_written o) (depth a.0) (depth b.0) (node_count a.0) (node_count b.0) left.0 right.0 t
    (a.1 s (n + 1) left.0 (all-left IsBoundedText (texts_in_expr a.0) (texts_in_expr b.0) short) left.1.0)
    (b.1 s left.0.next right.0 (all-right IsBoundedText (texts_in_expr a.0) (texts_in_expr b.0) short) right.1.0) right.1.1

sound : (x : Written) → IsSound x
sound = ind-Expr IsSound (λ x y is. subst (λ z. IsSound (roll-Expr z)) is (λ s n t short h.
    subst (λ d. Sound s d n (node_count (roll-Expr (trees_in y))) t) (sym (depth-roll (trees_in y)))
    (subst (λ c. Sound s (depth_of_layer (map-Expr Written ℕ depth (trees_in y))) n c t) (sym (node_count-roll (trees_in y)))
    (sound-layer y s n t (subst (All IsBoundedText) (texts_in_expr-roll (trees_in y)) short) (sym (tree-roll s n (trees_in y)) ∙ h)))))

pub accepted_is_well_typed : AcceptedIsWellTyped
accepted_is_well_typed s n e t short h = go (nat_le (depth e) 64) refl h
  where
    go : (b : Bool) → nat_le (depth e) 64 ≡ b → (if b then typed_tree s n e else Err stop.Depth) ≡ Ok t → IsWellTyped s t × IsNumbered n (node_count e) t
    go true within is =
        let known = sound e s n t short is in (
          record {
            kind_is = known.facts.kind_is;
            constants_bounded = known.facts.constants_bounded;
            depth_bounded = omega (arith, leb-true (depth e) 64 within, known.facts.depth_is);
          },
          record { numbers_are = known.facts.numbers_are; next_is = known.next_is },
        )
    go false within is = cc

-- the same of a result
pub accepted_result : (s : ScopeNames) (n : ℕ) (e : Written) (r : Result TypedExpr ExprStop) → AcceptedIsWellTyped → All IsBoundedText (texts_in_expr e) → Returns r (typed_expr s n e)
    → IfOk r (IsWellTyped s) × IfOk r (IsNumbered n (node_count e))
accepted_result s n e (Ok t) law short is = law s n e t short is
accepted_result s n e (Err stop) law short is = (tt, tt)
