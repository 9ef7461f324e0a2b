-- Expressions that are written part by part.
use Rattle.std.proofs.Common.{◌≡◌, ℕ, nat_le, Bool, true, false, if◌then◌else◌, List, [], ◌∷◌, ◌++◌, map, refl, sym, ap, ◌∙◌}
use Rattle.std.proofs.lemmas.List.Folds.{flat_map-map}
use Rattle.gx_syntax_tokens.specs.SpacedText.{Piece, token, function}
use Rattle.gx_syntax_tokens.specs.Terminals.{symbol}
use Rattle.gx_syntax_tokens.specs.Writing.{WriterState, with_piece, with_pieces}
use Rattle.gx_syntax_tokens.specs.declared.symbol.Symbol.TheVariants as symbols
use Rattle.gx_syntax_exprs.specs.Operators.{infix_token}
use Rattle.gx_syntax_tree.specs.Precedence.{binary_precedence, left_precedence, right_precedence, unary_precedence, operand_precedence}
use Rattle.gx_syntax_tree.specs.declared.expr.BinaryOp.{BinaryOp}
use Rattle.gx_syntax_tree.specs.declared.expr.UnaryOp.{UnaryOp}
use Rattle.gx_syntax_tree.specs.declared.expr.Expr.{Expr, roll-Expr, map-Expr}
use Rattle.gx_syntax_tree.specs.declared.expr.Expr.TheOpen.{Expr-F}
use Rattle.gx_syntax_tree.specs.declared.expr.Expr.TheOpen as layer
use Rattle.gx_syntax_tree.specs.declared.expr.Expr.TheVariants as exprs
use Rattle.gx_syntax_tree.specs.declared.expr.Expr.TheVariants.{rolls-Call, rolls-Unary, rolls-Binary}
use Rattle.gx_syntax_tree.specs.declared.expr.Expr.TheFolds.{fold-Expr, fold-roll-Expr}
use Rattle.gx_syntax_show.specs.ExprPieces.{operand_pieces, prefix_piece, expr_layer_pieces, expr_pieces}
use Rattle.gx_syntax_show.specs.ListPieces.{next_item_pieces, items_pieces, paren_list_pieces}
use Rattle.gx_syntax_show.specs.Writes.{with_operand_open, with_operand_close}
use Rattle.gx_syntax_show.proofs.PiecesLemmas.{pieces_append}

-- the pieces of an expression by those of its parts
pub expr_pieces-roll : (k : ℕ) (x : Expr-F Expr) → expr_pieces k (roll-Expr x) ≡ expr_layer_pieces (map-Expr Expr (ℕ → List Piece) (fold-Expr (ℕ → List Piece) expr_layer_pieces) x) k
expr_pieces-roll k x = ap (λ (g : ℕ → List Piece). g k) (fold-roll-Expr (ℕ → List Piece) expr_layer_pieces x)

-- items that are made of others
items_pieces-map : {A B : Type 0} (item : B → List Piece) (f : A → B) (xs : List A) → items_pieces item (map f xs) ≡ items_pieces (λ x. item (f x)) xs
items_pieces-map item f [] = refl
items_pieces-map item f (x ∷ xs) = ap (λ ps. item (f x) ++ ps) (flat_map-map (next_item_pieces item) f xs)

pub expr_pieces-call : (k : ℕ) (name : List ℕ) (xs : List Expr) → expr_pieces k (roll-Expr (layer.Call name xs)) ≡ function name ∷ paren_list_pieces (expr_pieces 1) xs
expr_pieces-call k name xs =
    expr_pieces-roll k (layer.Call name xs)
    ∙ ap (λ ps. function name ∷ token (symbol symbols.OpenParen) ∷ ps ++ token (symbol symbols.CloseParen) ∷ []) (items_pieces-map (λ (x : ℕ → List Piece). x 1) (fold-Expr (ℕ → List Piece) expr_layer_pieces) xs)

with_operand : (w : WriterState) (k m : ℕ) (ps : List Piece) → with_pieces w (operand_pieces k m ps) ≡ with_operand_close k m (with_pieces (with_operand_open k m w) ps)
with_operand w k m ps = go (nat_le k m)
  where
    go : (b : Bool) → with_pieces w (if b then ps else token (symbol symbols.OpenParen) ∷ ps ++ token (symbol symbols.CloseParen) ∷ [])
        ≡ (let v : WriterState = with_pieces (if b then w else with_piece w (token (symbol symbols.OpenParen))) ps in if b then v else with_piece v (token (symbol symbols.CloseParen)))
    go true = refl
    go false = pieces_append (with_piece w (token (symbol symbols.OpenParen))) ps (token (symbol symbols.CloseParen) ∷ [])

pub with_call : (w : WriterState) (k : ℕ) (name : List ℕ) (xs : List Expr)
    → with_pieces w (expr_pieces k (exprs.Call name xs)) ≡ with_pieces (with_piece w (function name)) (paren_list_pieces (expr_pieces 1) xs)
with_call w k name xs = ap (λ x. with_pieces w (expr_pieces k x)) (sym (rolls-Call name xs)) ∙ ap (with_pieces w) (expr_pieces-call k name xs)

pub with_prefix : (w : WriterState) (k : ℕ) (o : UnaryOp) (a : Expr)
    → with_pieces w (expr_pieces k (exprs.Unary o a)) ≡ with_operand_close k (unary_precedence o) (with_pieces (with_piece (with_operand_open k (unary_precedence o) w) (prefix_piece o)) (expr_pieces (operand_precedence o) a))
with_prefix w k o a =
    ap (λ x. with_pieces w (expr_pieces k x)) (sym (rolls-Unary o a))
    ∙ ap (with_pieces w) (expr_pieces-roll k (layer.Unary o a))
    ∙ with_operand w k (unary_precedence o) (prefix_piece o ∷ expr_pieces (operand_precedence o) a)

pub with_infix : (w : WriterState) (k : ℕ) (o : BinaryOp) (a b : Expr)
    → with_pieces w (expr_pieces k (exprs.Binary o a b))
    ≡ with_operand_close k (binary_precedence o) (with_pieces (with_piece (with_pieces (with_operand_open k (binary_precedence o) w) (expr_pieces (left_precedence o) a)) (token (infix_token o))) (expr_pieces (right_precedence o) b))
with_infix w k o a b =
    ap (λ x. with_pieces w (expr_pieces k x)) (sym (rolls-Binary o a b))
    ∙ ap (with_pieces w) (expr_pieces-roll k (layer.Binary o a b))
    ∙ with_operand w k (binary_precedence o) (expr_pieces (left_precedence o) a ++ token (infix_token o) ∷ expr_pieces (right_precedence o) b)
    ∙ ap (with_operand_close k (binary_precedence o)) (pieces_append (with_operand_open k (binary_precedence o) w) (expr_pieces (left_precedence o) a) (token (infix_token o) ∷ expr_pieces (right_precedence o) b))
