-- Each name, text and node of a tree has a token of its own among those that are shown for the tree.
-- So what holds of the tokens, that each is valid and that a statement has at most 2,048, bounds the tree.
use Rattle.std.proofs.Common.{◌≡◌, ℕ, suc, ◌+◌, ◌≤◌, nat_le, Bool, true, false, if◌then◌else◌, Option, None, Some, pos, negsuc, List, [], ◌∷◌, ◌++◌, length, map, refl, ap, subst, arith, length-append}
use Rattle.std.specs.Prelude.{All, flat_map, sum, sum_by, slice_index_or, codes}
use Rattle.std.proofs.lemmas.List.Elements.{All-nil, All-cons, All-head, All-tail, All-append, All-map, All-weaker}
use Rattle.std.proofs.lemmas.List.Sums.{sum_by-cons, sum_by-append, get_or-le-sum_by}
use Rattle.gx_syntax_tokens.specs.SpacedText.{Piece, token, sign, function, terminal, AreValid}
use Rattle.gx_syntax_tokens.specs.Terminals.{word, number, quoted, symbol}
use Rattle.gx_syntax_tokens.specs.Validity.{IsValid}
use Rattle.gx_syntax_tokens.specs.declared.symbol.Symbol.TheVariants as symbols
use Rattle.gx_syntax_exprs.specs.Operators.{infix_token}
use Rattle.gx_syntax_tree.specs.Bounds.{greatest, names_in_layer, names_in_expr, names_in_expr-roll, texts_in_layer, texts_in_expr, texts_in_expr-roll, node_count_of_layer, node_count, node_count-roll, depth_of_layer, depth, depth-roll, exprs_if, exprs_in_part, names_in_part, texts_in_const, texts_in_part, over_parts, over_stmt, exprs_in_stmt, IsBoundedName, IsBoundedText, IsBoundedStmt}
use Rattle.gx_syntax_tree.specs.Forms.{Part, a_name, a_text, a_number, a_cut, a_neighbour, columns, sets, consts, named, merges, sends, condition, subgraph_filter, oriented, active, print_target, counted, Value, Punctuation, equals, comma, Form, fin, mark, say, part, Values, form_of, view_of}
use Rattle.gx_syntax_tree.specs.Precedence.{binary_precedence, unary_precedence}
use Rattle.gx_syntax_tree.specs.declared.constant.ColumnConst.{ColumnConst}
use Rattle.gx_syntax_tree.specs.declared.constant.Const.{Const}
use Rattle.gx_syntax_tree.specs.declared.constant.Const.TheVariants as constants
use Rattle.gx_syntax_tree.specs.declared.expr.BinaryOp.{BinaryOp}
use Rattle.gx_syntax_tree.specs.declared.expr.BinaryOp.TheVariants as binary
use Rattle.gx_syntax_tree.specs.declared.expr.Expr.{Expr, roll-Expr, map-Expr}
use Rattle.gx_syntax_tree.specs.declared.expr.Expr.TheFolds.{fold-Expr, fold-roll-Expr, ind-Expr}
use Rattle.gx_syntax_tree.specs.declared.expr.Expr.TheOpen.{Expr-F}
use Rattle.gx_syntax_tree.specs.declared.expr.Expr.TheOpen as layer
use Rattle.gx_syntax_tree.specs.declared.expr.UnaryOp.{UnaryOp}
use Rattle.gx_syntax_tree.specs.declared.expr.UnaryOp.TheVariants as unary
use Rattle.gx_syntax_tree.specs.declared.parts.ColumnDecl.{ColumnDecl}
use Rattle.gx_syntax_tree.specs.declared.parts.ColumnExpr.{ColumnExpr}
use Rattle.gx_syntax_tree.specs.declared.parts.ColumnMerge.{ColumnMerge}
use Rattle.gx_syntax_tree.specs.declared.parts.SendClause.{SendClause}
use Rattle.gx_syntax_tree.specs.declared.stmt.Stmt.{Stmt}
use Rattle.gx_syntax_tree.specs.declared.words.ActiveWord.{ActiveWord}
use Rattle.gx_syntax_tree.specs.declared.words.ActiveWord.TheVariants as actives
use Rattle.gx_syntax_stmts.specs.Forms.{symbol_of}
use Rattle.gx_syntax_show.specs.ExprPieces.{operand_pieces, prefix_piece, expr_layer_pieces, expr_pieces}
use Rattle.gx_syntax_show.specs.ItemPieces.{column_decl_pieces, column_expr_pieces, column_merge_pieces, const_pieces, column_const_pieces, keyword_expr_pieces, send_clause_pieces, send_clauses_pieces, oriented_pieces, active_pieces}
use Rattle.gx_syntax_show.specs.ListPieces.{next_item_pieces, items_pieces, paren_list_pieces, optional_pieces}
use Rattle.gx_syntax_show.specs.StmtPieces.{part_pieces, form_pieces, stmt_pieces}
use Rattle.gx_syntax_show.specs.Words.{kind_word, merge_word, side_word, stmt_word}
use Rattle.gx_syntax.specs.Meanings.{is_semicolon}

-- no token is a `;`
abbrev pub HasNoSemicolon : List Piece → Type 0
HasNoSemicolon [] = Unit {0}
HasNoSemicolon (p ∷ ps) = (is_semicolon (terminal p) ≡ false) × HasNoSemicolon ps

-- no token is a `;`, there are at least n, and if they are valid, then P holds
pub record Covers (ps : List Piece) (n : ℕ) (P : Type 0) : Type 0 where
  pub no_semicolon : HasNoSemicolon ps
  pub nodes : n ≤ length ps
  pub bounds : AreValid ps → P

nothing : Covers [] 0 (Unit {0})
nothing = record { no_semicolon = tt; nodes = omega arith; bounds = λ v. tt }

-- one more token, and what its validity gives
next : {ps : List Piece} {n : ℕ} {P : Type 0} (Q : Type 0) (p : Piece) → is_semicolon (terminal p) ≡ false → (IsValid (terminal p) → Q) → Covers ps n P → Covers (p ∷ ps) (suc n) (Q × P)
next Q p other f c = record { no_semicolon = (other, c.no_semicolon); nodes = omega (arith, c.nodes); bounds = λ v. (f v.0, c.bounds v.1) }

-- one more token, of which nothing is used
plain : {ps : List Piece} {n : ℕ} {P : Type 0} (p : Piece) → is_semicolon (terminal p) ≡ false → Covers ps n P → Covers (p ∷ ps) (suc n) P
plain p other c = record { no_semicolon = (other, c.no_semicolon); nodes = omega (arith, c.nodes); bounds = λ v. c.bounds v.1 }

no_semicolon-append : (ps qs : List Piece) → HasNoSemicolon ps → HasNoSemicolon qs → HasNoSemicolon (ps ++ qs)
no_semicolon-append [] qs h k = k
no_semicolon-append (p ∷ ps) qs h k = (h.0, no_semicolon-append ps qs h.1 k)

pub valid-left : (ps qs : List Piece) → AreValid (ps ++ qs) → AreValid ps
valid-left [] qs v = tt
valid-left (p ∷ ps) qs v = (v.0, valid-left ps qs v.1)

valid-right : (ps qs : List Piece) → AreValid (ps ++ qs) → AreValid qs
valid-right [] qs v = v
valid-right (p ∷ ps) qs v = valid-right ps qs v.1

append : {ps qs : List Piece} {n m : ℕ} {P Q : Type 0} → Covers ps n P → Covers qs m Q → Covers (ps ++ qs) (n + m) (P × Q)
append {ps} {qs} c d = record {
  no_semicolon = no_semicolon-append ps qs c.no_semicolon d.no_semicolon;
  nodes = omega (arith, length-append ps qs, c.nodes, d.nodes);
  bounds = λ v. (c.bounds (valid-left ps qs v), d.bounds (valid-right ps qs v));
}

weaken : {ps : List Piece} {n : ℕ} {P : Type 0} (m : ℕ) (Q : Type 0) → m ≤ n → (P → Q) → Covers ps n P → Covers ps m Q
weaken m Q few f c = record { no_semicolon = c.no_semicolon; nodes = omega (arith, few, c.nodes); bounds = λ v. f (c.bounds v) }

-- tokens between parentheses
enclose : {ps : List Piece} {n : ℕ} {P : Type 0} → Covers ps n P → Covers (token (symbol symbols.OpenParen) ∷ ps ++ token (symbol symbols.CloseParen) ∷ []) n P
enclose {ps} {n} {P} c = weaken n P (omega arith) (λ h. h.0) (plain (token (symbol symbols.OpenParen)) refl (append c (plain (token (symbol symbols.CloseParen)) refl nothing)))

group : (l m : ℕ) {ps : List Piece} {n : ℕ} {P : Type 0} → Covers ps n P → Covers (operand_pieces l m ps) n P
group l m {ps} {n} {P} c = go (nat_le l m)
  where
    go : (b : Bool) → Covers (if b then ps else token (symbol symbols.OpenParen) ∷ ps ++ token (symbol symbols.CloseParen) ∷ []) n P
    go true = c
    go false = enclose c

-- the items of a list
module _ {A : Type 0} (show : A → List Piece) (n : A → ℕ) (P : A → Type 0) (each : (x : A) → Covers (show x) (n x) (P x)) where
  covers-next_items : (xs : List A) → Covers (flat_map (next_item_pieces show) xs) (sum_by n xs) (All P xs)
  covers-next_items [] = weaken 0 (All P []) (omega arith) (λ _. All-nil P) nothing
  covers-next_items (x ∷ xs) =
      weaken (sum_by n (x ∷ xs)) (All P (x ∷ xs)) (omega (arith, sum_by-cons n x xs)) (λ h. All-cons P x xs h.0 h.1)
      (plain (token (symbol symbols.Comma)) refl (append (each x) (covers-next_items xs)))

  covers-items : (xs : List A) → Covers (items_pieces show xs) (sum_by n xs) (All P xs)
  covers-items [] = weaken 0 (All P []) (omega arith) (λ _. All-nil P) nothing
  covers-items (x ∷ xs) =
      weaken (sum_by n (x ∷ xs)) (All P (x ∷ xs)) (omega (arith, sum_by-cons n x xs)) (λ h. All-cons P x xs h.0 h.1)
      (append (each x) (covers-next_items xs))

  covers-paren_list : (xs : List A) → Covers (paren_list_pieces show xs) (sum_by n xs) (All P xs)
  covers-paren_list xs = enclose (covers-items xs)

-- expressions

-- bounded names and texts
pub record HasBoundedLeaves (names texts : List (List ℕ)) : Type 0 where
  pub names_bounded : All IsBoundedName names
  pub texts_bounded : All IsBoundedText texts

no_leaves : HasBoundedLeaves [] []
no_leaves = record { names_bounded = All-nil IsBoundedName; texts_bounded = All-nil IsBoundedText }

join_leaves : {ws ts us vs : List (List ℕ)} → HasBoundedLeaves ws ts → HasBoundedLeaves us vs → HasBoundedLeaves (ws ++ us) (ts ++ vs)
join_leaves {ws} {ts} {us} {vs} h k = record {
  names_bounded = All-append IsBoundedName ws us h.names_bounded k.names_bounded;
  texts_bounded = All-append IsBoundedText ts vs h.texts_bounded k.texts_bounded;
}

with_name : {ws ts : List (List ℕ)} (w : List ℕ) → IsBoundedName w → HasBoundedLeaves ws ts → HasBoundedLeaves (w ∷ ws) ts
with_name {ws} w h k = record { names_bounded = All-cons IsBoundedName w ws h k.names_bounded; texts_bounded = k.texts_bounded }

with_text : {ws ts : List (List ℕ)} (t : List ℕ) → IsBoundedText t → HasBoundedLeaves ws ts → HasBoundedLeaves ws (t ∷ ts)
with_text {ts = ts} t h k = record { names_bounded = k.names_bounded; texts_bounded = All-cons IsBoundedText t ts h k.texts_bounded }

abbrev LeavesOf : Expr → Type 0
LeavesOf x = HasBoundedLeaves (names_in_expr x) (texts_in_expr x)

abbrev IsCovered : Expr → Type 0
IsCovered x = (l : ℕ) → Covers (expr_pieces l x) (node_count x) (LeavesOf x)

abbrev pieces_of : Expr → ℕ → List Piece
pieces_of = fold-Expr (ℕ → List Piece) expr_layer_pieces

abbrev IsCoveredLayer : Expr-F Expr → Type 0
IsCoveredLayer x = (l : ℕ) → Covers (expr_layer_pieces (map-Expr Expr (ℕ → List Piece) pieces_of x) l) (node_count_of_layer (map-Expr Expr ℕ node_count x))
    (HasBoundedLeaves (names_in_layer (map-Expr Expr (List (List ℕ)) names_in_expr x)) (texts_in_layer (map-Expr Expr (List (List ℕ)) texts_in_expr x)))

covered-roll : (x : Expr-F Expr) → IsCoveredLayer x → IsCovered (roll-Expr x)
covered-roll x h l =
    let shown : expr_pieces l (roll-Expr x) ≡ expr_layer_pieces (map-Expr Expr (ℕ → List Piece) pieces_of x) l = ap (λ (g : ℕ → List Piece). g l) (fold-roll-Expr (ℕ → List Piece) expr_layer_pieces x) in
    rw (shown, node_count-roll x, names_in_expr-roll x, texts_in_expr-roll x) (h l)

abbrev Covered : Type 0
Covered = (x : Expr) × IsCovered x

abbrev call_leaves : List Covered → Type 0
call_leaves ys = HasBoundedLeaves (flat_map (λ x. x) (map names_in_expr (map (λ y. y.0) ys))) (flat_map (λ x. x) (map texts_in_expr (map (λ y. y.0) ys)))

abbrev alone : (ℕ → List Piece) → List Piece
alone x = x 1

covers-next_operands : (ys : List Covered) → Covers (flat_map (next_item_pieces alone) (map pieces_of (map (λ y. y.0) ys))) (sum (map node_count (map (λ y. y.0) ys))) (call_leaves ys)
covers-next_operands [] = weaken 0 (call_leaves []) (omega arith) (λ _. no_leaves) nothing
covers-next_operands (y ∷ ys) =
    weaken (sum (map node_count (map (λ y. y.0) (y ∷ ys)))) (call_leaves (y ∷ ys)) (omega (arith, sum_by-cons (λ n. n) (node_count y.0) (map node_count (map (λ y. y.0) ys)))) (λ h. join_leaves h.0 h.1)
    (plain (token (symbol symbols.Comma)) refl (append (y.1 1) (covers-next_operands ys)))

covers-operands : (ys : List Covered) → Covers (items_pieces alone (map pieces_of (map (λ y. y.0) ys))) (sum (map node_count (map (λ y. y.0) ys))) (call_leaves ys)
covers-operands [] = weaken 0 (call_leaves []) (omega arith) (λ _. no_leaves) nothing
covers-operands (y ∷ ys) =
    weaken (sum (map node_count (map (λ y. y.0) (y ∷ ys)))) (call_leaves (y ∷ ys)) (omega (arith, sum_by-cons (λ n. n) (node_count y.0) (map node_count (map (λ y. y.0) ys)))) (λ h. join_leaves h.0 h.1)
    (append (y.1 1) (covers-next_operands ys))

prefix_inner : (o : UnaryOp) → is_semicolon (terminal (prefix_piece o)) ≡ false
prefix_inner unary.Not = refl
prefix_inner unary.Neg = refl

infix_inner : (o : BinaryOp) → is_semicolon (infix_token o) ≡ false
infix_inner binary.Or = refl
infix_inner _ = refl

covered-layer : (y : Expr-F Covered) → IsCoveredLayer (map-Expr Covered Expr (λ y. y.0) y)
covered-layer (layer.Number z) l = weaken 1 (HasBoundedLeaves [] []) (omega arith) (λ _. no_leaves) (plain (token (number _)) refl nothing)
covered-layer (layer.Quoted s) l = weaken 1 (HasBoundedLeaves [] (s ∷ [])) (omega arith) (λ h. with_text s h.0 no_leaves) (next (IsBoundedText s) (token (quoted s)) refl (λ v. v) nothing)
covered-layer (layer.Truth b) l = weaken 1 (HasBoundedLeaves [] []) (omega arith) (λ _. no_leaves) (plain (token (word _)) refl nothing)
covered-layer layer.Matched l = weaken 1 (HasBoundedLeaves [] []) (omega arith) (λ _. no_leaves) (plain (token (word _)) refl nothing)
covered-layer (layer.Column side name) l =
    weaken 1 (HasBoundedLeaves (side ∷ name ∷ []) []) (omega arith) (λ h. with_name side h.0 (with_name name h.1.0 no_leaves))
    (next (IsBoundedName side) (token (word side)) refl (λ v. v.within_limit) (plain (token (symbol symbols.Dot)) refl (next (IsBoundedName name) (token (word name)) refl (λ v. v.within_limit) nothing)))
covered-layer (layer.Call name ys) l =
    weaken _ _ (omega arith) (λ h. with_name name h.0 h.1) (next (IsBoundedName name) (function name) refl (λ v. v.within_limit) (enclose (covers-operands ys)))
covered-layer (layer.Unary o a) l =
    group l (unary_precedence o) (weaken _ _ (omega arith) (λ h. h) (plain (prefix_piece o) (prefix_inner o) (a.1 _)))
covered-layer (layer.Binary o a b) l =
    group l (binary_precedence o) (weaken _ _ (omega arith) (λ h. join_leaves h.0 h.1) (append (a.1 _) (plain (token (infix_token o)) (infix_inner o) (b.1 _))))

pub covered : (x : Expr) → IsCovered x
covered = ind-Expr IsCovered (λ x y is. subst (λ z. IsCovered (roll-Expr z)) is (covered-roll (map-Expr Covered Expr (λ y. y.0) y) (covered-layer y)))

-- an expression is no deeper than it has nodes

abbrev IsNoDeeper : Expr → Type 0
IsNoDeeper x = depth x ≤ node_count x

greatest-le-sum : (ys : List ((x : Expr) × IsNoDeeper x)) → greatest (map depth (map (λ y. y.0) ys)) ≤ sum (map node_count (map (λ y. y.0) ys))
greatest-le-sum [] = omega arith
greatest-le-sum (y ∷ ys) = omega (arith, y.1, greatest-le-sum ys, sum_by-cons (λ n. n) (node_count y.0) (map node_count (map (λ y. y.0) ys)))

no_deeper-layer : (y : Expr-F ((x : Expr) × IsNoDeeper x)) → depth_of_layer (map-Expr Expr ℕ depth (map-Expr ((x : Expr) × IsNoDeeper x) Expr (λ y. y.0) y)) ≤ node_count_of_layer (map-Expr Expr ℕ node_count (map-Expr ((x : Expr) × IsNoDeeper x) Expr (λ y. y.0) y))
no_deeper-layer (layer.Call name ys) = omega (arith, greatest-le-sum ys)
no_deeper-layer (layer.Unary o a) = omega (arith, a.1)
no_deeper-layer (layer.Binary o a b) = omega (arith, a.1, b.1)
no_deeper-layer (layer.Number z) = omega arith
no_deeper-layer (layer.Quoted s) = omega arith
no_deeper-layer (layer.Truth b) = omega arith
no_deeper-layer layer.Matched = omega arith
no_deeper-layer (layer.Column side name) = omega arith

pub depth-le-node_count : (x : Expr) → depth x ≤ node_count x
depth-le-node_count = ind-Expr IsNoDeeper (λ x y is.
    let z = map-Expr ((x : Expr) × IsNoDeeper x) Expr (λ y. y.0) y in
    let rolled : IsNoDeeper (roll-Expr z) = rw (depth-roll z, node_count-roll z) (no_deeper-layer y) in
    subst (λ z. IsNoDeeper (roll-Expr z)) is rolled)

-- parts of statements

pub record HasBoundedParts (names texts : List (List ℕ)) (exprs : List Expr) : Type 0 where
  pub names_bounded : All IsBoundedName names
  pub texts_bounded : All IsBoundedText texts
  pub leaves_bounded : All LeavesOf exprs

no_parts : HasBoundedParts [] [] []
no_parts = record { names_bounded = All-nil IsBoundedName; texts_bounded = All-nil IsBoundedText; leaves_bounded = All-nil LeavesOf }

join_parts : {ws ts us vs : List (List ℕ)} {xs ys : List Expr} → HasBoundedParts ws ts xs → HasBoundedParts us vs ys → HasBoundedParts (ws ++ us) (ts ++ vs) (xs ++ ys)
join_parts {ws} {ts} {us} {vs} {xs} {ys} h k = record {
  names_bounded = All-append IsBoundedName ws us h.names_bounded k.names_bounded;
  texts_bounded = All-append IsBoundedText ts vs h.texts_bounded k.texts_bounded;
  leaves_bounded = All-append LeavesOf xs ys h.leaves_bounded k.leaves_bounded;
}

only_names : (ws : List (List ℕ)) → All IsBoundedName ws → HasBoundedParts ws [] []
only_names ws h = record { names_bounded = h; texts_bounded = All-nil IsBoundedText; leaves_bounded = All-nil LeavesOf }

only_texts : (ts : List (List ℕ)) → All IsBoundedText ts → HasBoundedParts [] ts []
only_texts ts h = record { names_bounded = All-nil IsBoundedName; texts_bounded = h; leaves_bounded = All-nil LeavesOf }

only_exprs : (xs : List Expr) → All LeavesOf xs → HasBoundedParts [] [] xs
only_exprs xs h = record { names_bounded = All-nil IsBoundedName; texts_bounded = All-nil IsBoundedText; leaves_bounded = h }

all-flat_map : {A B : Type 0} (P : B → Type 0) (f : A → List B) (xs : List A) → All (λ x. All P (f x)) xs → All P (flat_map f xs)
all-flat_map P f [] h = All-nil P
all-flat_map {A} P f (x ∷ xs) h =
    let Q : A → Type 0 = λ x. All P (f x) in
    All-append P (f x) (flat_map f xs) (All-head Q x xs h) (all-flat_map P f xs (All-tail Q x xs h))

sum_by-map : {A B : Type 0} (n : B → ℕ) (f : A → B) (xs : List A) → sum_by n (map f xs) ≡ sum_by (λ x. n (f x)) xs
sum_by-map n f [] = refl
sum_by-map n f (x ∷ xs) = omega (arith, sum_by-cons n (f x) (map f xs), sum_by-cons (λ x. n (f x)) x xs, sum_by-map n f xs)

sum_by-flat_map : {A B : Type 0} (n : B → ℕ) (f : A → List B) (xs : List A) → sum_by n (flat_map f xs) ≡ sum_by (λ x. sum_by n (f x)) xs
sum_by-flat_map n f [] = refl
sum_by-flat_map n f (x ∷ xs) = omega (arith, sum_by-append n (f x) (flat_map f xs), sum_by-cons (λ x. sum_by n (f x)) x xs, sum_by-flat_map n f xs)

-- `NAME : ` before an item
covers-named : (name : List ℕ) {ps : List Piece} {n : ℕ} {P : Type 0} → Covers ps n P → Covers (token (word name) ∷ token (symbol symbols.Colon) ∷ ps) n (IsBoundedName name × P)
covers-named name {n = n} {P} c = weaken n (IsBoundedName name × P) (omega arith) (λ h. h) (next (IsBoundedName name) (token (word name)) refl (λ v. v.within_limit) (plain (token (symbol symbols.Colon)) refl c))

one_word : (w : List ℕ) → Covers (token (word w) ∷ []) 0 (Unit {0})
one_word w = weaken 0 (Unit {0}) (omega arith) (λ _. tt) (plain (token (word w)) refl nothing)

covers-const : (c : Const) → Covers (const_pieces c) 0 (All IsBoundedText (texts_in_const c))
covers-const (constants.Number (pos n)) = weaken 0 _ (omega arith) (λ _. All-nil IsBoundedText) (plain (token (number n)) refl nothing)
covers-const (constants.Number (negsuc n)) = weaken 0 _ (omega arith) (λ _. All-nil IsBoundedText) (plain sign refl (plain (token (number (suc n))) refl nothing))
covers-const (constants.Quoted s) = weaken 0 _ (omega arith) (λ h. All-cons IsBoundedText s [] h.0 (All-nil IsBoundedText)) (next (IsBoundedText s) (token (quoted s)) refl (λ v. v) nothing)
covers-const (constants.Truth b) = weaken 0 _ (omega arith) (λ _. All-nil IsBoundedText) (one_word _)
covers-const constants.NoIds = weaken 0 _ (omega arith) (λ _. All-nil IsBoundedText) (plain (function (codes "ids")) refl (plain (token (symbol symbols.OpenParen)) refl (plain (token (symbol symbols.CloseParen)) refl nothing)))

one_expr : (x : Expr) → LeavesOf x → All LeavesOf (x ∷ [])
one_expr x h = All-cons LeavesOf x [] h (All-nil LeavesOf)

covers-keyword_expr : (w : List ℕ) (o : Option Expr) → Covers (optional_pieces (keyword_expr_pieces w) o) (sum_by node_count (exprs_if o)) (All LeavesOf (exprs_if o))
covers-keyword_expr w None = weaken 0 _ (omega arith) (λ _. All-nil LeavesOf) nothing
covers-keyword_expr w (Some x) = weaken _ _ (omega (arith, sum_by-cons node_count x [])) (λ h. one_expr x h) (plain (token (word w)) refl (covered x 1))

abbrev exprs_in_send : SendClause → List Expr
exprs_in_send s = s.values ++ exprs_if s.when

covers-send : (s : SendClause) → Covers (send_clause_pieces s) (sum_by node_count (exprs_in_send s)) (All LeavesOf (exprs_in_send s))
covers-send s =
    weaken _ _ (omega (arith, sum_by-append node_count s.values (exprs_if s.when))) (λ h. All-append LeavesOf s.values (exprs_if s.when) h.0 h.1)
    (plain (token (word (codes "to"))) refl (plain (token (word (side_word s.to))) refl (append (covers-paren_list (expr_pieces 1) node_count LeavesOf (λ x. covered x 1) s.values) (covers-keyword_expr (codes "when") s.when))))

covers-sends : (ss : List SendClause) → Covers (send_clauses_pieces ss) (sum_by (λ s. sum_by node_count (exprs_in_send s)) ss) (All (λ s. All LeavesOf (exprs_in_send s)) ss)
covers-sends [] = weaken 0 _ (omega arith) (λ _. All-nil (λ s. All LeavesOf (exprs_in_send s))) nothing
covers-sends (s ∷ ss) =
    weaken _ _ (omega (arith, sum_by-cons (λ s. sum_by node_count (exprs_in_send s)) s ss)) (λ h. All-cons (λ s. All LeavesOf (exprs_in_send s)) s ss h.0 h.1)
    (append (covers-send s) (covers-sends ss))

covers-oriented : (b : Bool) → Covers (oriented_pieces b) 0 (Unit {0})
covers-oriented true = one_word _
covers-oriented false = nothing

covers-active : (a : ActiveWord) → Covers (active_pieces a) 0 (Unit {0})
covers-active actives.Either = nothing
covers-active actives.Out = weaken 0 _ (omega arith) (λ h. h) (plain (token (word (codes "active"))) refl (one_word _))
covers-active actives.In = weaken 0 _ (omega arith) (λ h. h) (plain (token (word (codes "active"))) refl (one_word _))
covers-active actives.Both = weaken 0 _ (omega arith) (λ h. h) (plain (token (word (codes "active"))) refl (one_word _))

abbrev BoundedPart : (p : Part) → Value p → Type 0
BoundedPart p v = HasBoundedParts (names_in_part p v) (texts_in_part p v) (exprs_in_part p v)

-- a part of which nothing is used
empty_part : {ps : List Piece} → Covers ps 0 (Unit {0}) → Covers ps 0 (HasBoundedParts [] [] [])
empty_part c = weaken 0 (HasBoundedParts [] [] []) (omega arith) (λ _. no_parts) c

covers-part : (p : Part) (v : Value p) → Covers (part_pieces p v) (sum_by node_count (exprs_in_part p v)) (BoundedPart p v)
covers-part a_name w = weaken 0 _ (omega arith) (λ h. only_names (w ∷ []) (All-cons IsBoundedName w [] h.0 (All-nil IsBoundedName))) (next (IsBoundedName w) (token (word w)) refl (λ v. v.within_limit) nothing)
covers-part a_text s = weaken 0 _ (omega arith) (λ h. only_texts (s ∷ []) (All-cons IsBoundedText s [] h.0 (All-nil IsBoundedText))) (next (IsBoundedText s) (token (quoted s)) refl (λ v. v) nothing)
covers-part a_number z = empty_part (weaken 0 (Unit {0}) (omega arith) (λ h. h) (plain (token (number _)) refl nothing))
covers-part a_cut c = empty_part (one_word _)
covers-part a_neighbour n = empty_part (one_word _)
covers-part columns cs =
    let P : ColumnDecl → Type 0 = λ c. IsBoundedName c.name in
    let each : (c : ColumnDecl) → Covers (column_decl_pieces c) 0 (P c) = λ c. weaken 0 (P c) (omega arith) (λ h. h.0) (covers-named c.name (one_word (kind_word c.kind))) in
    weaken 0 _ (omega arith) (λ h. only_names (map (λ c. c.name) cs) (All-map IsBoundedName (λ c. c.name) cs h)) (covers-paren_list column_decl_pieces (λ c. 0) P each cs)
covers-part sets ss =
    let P : ColumnExpr → Type 0 = λ s. IsBoundedName s.name × LeavesOf s.value in
    let each : (s : ColumnExpr) → Covers (column_expr_pieces s) (node_count s.value) (P s) = λ s. covers-named s.name (covered s.value 1) in
    weaken _ _ (omega (arith, sum_by-map node_count (λ (s : ColumnExpr). s.value) ss)) (λ h. record {
      names_bounded = All-map IsBoundedName (λ s. s.name) ss (All-weaker P (λ s. IsBoundedName s.name) (λ s k. k.0) ss h);
      texts_bounded = All-nil IsBoundedText;
      leaves_bounded = All-map LeavesOf (λ s. s.value) ss (All-weaker P (λ s. LeavesOf s.value) (λ s k. k.1) ss h);
    }) (covers-paren_list column_expr_pieces (λ s. node_count s.value) P each ss)
covers-part consts cs =
    let P : Const → Type 0 = λ c. All IsBoundedText (texts_in_const c) in
    weaken 0 _ (omega arith) (λ h. only_texts (flat_map texts_in_const cs) (all-flat_map IsBoundedText texts_in_const cs h)) (covers-paren_list const_pieces (λ c. 0) P covers-const cs)
covers-part named cs =
    let P : ColumnConst → Type 0 = λ c. IsBoundedName c.name × All IsBoundedText (texts_in_const c.value) in
    let each : (c : ColumnConst) → Covers (column_const_pieces c) 0 (P c) = λ c. covers-named c.name (covers-const c.value) in
    weaken 0 _ (omega arith) (λ h. record {
      names_bounded = All-map IsBoundedName (λ c. c.name) cs (All-weaker P (λ c. IsBoundedName c.name) (λ c k. k.0) cs h);
      texts_bounded = all-flat_map IsBoundedText (λ c. texts_in_const c.value) cs (All-weaker P (λ c. All IsBoundedText (texts_in_const c.value)) (λ c k. k.1) cs h);
      leaves_bounded = All-nil LeavesOf;
    }) (covers-paren_list column_const_pieces (λ c. 0) P each cs)
covers-part merges ms =
    let P : ColumnMerge → Type 0 = λ m. IsBoundedName m.name in
    let each : (m : ColumnMerge) → Covers (column_merge_pieces m) 0 (P m) = λ m. weaken 0 (P m) (omega arith) (λ h. h.0) (covers-named m.name (one_word (merge_word m.by))) in
    weaken 0 _ (omega arith) (λ h. only_names (map (λ m. m.name) ms) (All-map IsBoundedName (λ m. m.name) ms h)) (covers-paren_list column_merge_pieces (λ m. 0) P each ms)
covers-part sends ss =
    weaken _ _ (omega (arith, sum_by-flat_map node_count exprs_in_send ss)) (λ h. only_exprs (flat_map exprs_in_send ss) (all-flat_map LeavesOf exprs_in_send ss h)) (covers-sends ss)
covers-part condition x = weaken _ _ (omega (arith, sum_by-cons node_count x [])) (λ h. only_exprs (x ∷ []) (one_expr x h)) (covered x 1)
covers-part subgraph_filter t =
    weaken _ _ (omega (arith, sum_by-append node_count (exprs_if t.vertices) (exprs_if t.edges))) (λ h. only_exprs (exprs_if t.vertices ++ exprs_if t.edges) (All-append LeavesOf (exprs_if t.vertices) (exprs_if t.edges) h.0 h.1))
    (append (covers-keyword_expr _ t.vertices) (covers-keyword_expr _ t.edges))
covers-part oriented b = empty_part (covers-oriented b)
covers-part active a = empty_part (covers-active a)
covers-part print_target p = empty_part (one_word _)
covers-part counted c = empty_part (one_word _)

punctuation_inner : (p : Punctuation) → is_semicolon (symbol (symbol_of p)) ≡ false
punctuation_inner equals = refl
punctuation_inner comma = refl

covers-form : (f : Form) (v : Values f) → Covers (form_pieces f v) (sum_by node_count (over_parts exprs_in_part f v)) (HasBoundedParts (over_parts names_in_part f v) (over_parts texts_in_part f v) (over_parts exprs_in_part f v))
covers-form fin v = empty_part nothing
covers-form (mark p f) v = weaken _ _ (omega arith) (λ h. h) (plain (token (symbol (symbol_of p))) (punctuation_inner p) (covers-form f v))
covers-form (say w f) v = weaken _ _ (omega arith) (λ h. h) (plain (token (word w)) refl (covers-form f v))
covers-form (part p f) v =
    weaken _ _ (omega (arith, sum_by-append node_count (exprs_in_part p v.0) (over_parts exprs_in_part f v.1))) (λ h. join_parts h.0 h.1) (append (covers-part p v.0) (covers-form f v.1))

abbrev BoundedParts : Stmt → Type 0
BoundedParts s = HasBoundedParts (over_stmt names_in_part s) (over_stmt texts_in_part s) (exprs_in_stmt s)

pub covers-stmt : (s : Stmt) → Covers (stmt_pieces s) (sum_by node_count (exprs_in_stmt s)) (BoundedParts s)
covers-stmt s =
    let view = view_of s in
    weaken _ _ (omega arith) (λ h. h) (plain (token (word (stmt_word view.keyword))) refl (covers-form (form_of view.keyword) view.values))

-- no expression of a list is deeper than all have nodes
depths_bounded : (xs : List Expr) (n : ℕ) → sum_by node_count xs ≤ n → All (λ x. depth x ≤ n) xs
depths_bounded xs n few k d below = omega (arith, depth-le-node_count (slice_index_or xs k d), get_or-le-sum_by node_count xs k d below)

-- a statement is bounded if its tokens are valid and at most 2,048
pub bounded_stmt : (s : Stmt) → AreValid (stmt_pieces s) → length (stmt_pieces s) ≤ 2048 → IsBoundedStmt s
bounded_stmt s v few =
    let c = covers-stmt s in
    let b = c.bounds v in
    let nodes : sum_by node_count (exprs_in_stmt s) ≤ 2048 = omega (arith, c.nodes) in
    record {
      names = b.names_bounded;
      texts = b.texts_bounded;
      exprs = λ k d below. record {
        names = (b.leaves_bounded k d below).names_bounded;
        texts = (b.leaves_bounded k d below).texts_bounded;
        depth_bounded = depths_bounded (exprs_in_stmt s) 2048 nodes k d below;
      };
      nodes = nodes;
    }
