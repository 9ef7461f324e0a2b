-- How large a script may be: what the type checker relies on.
--
-- Everything is defined over the parts of a statement, so a new statement needs no new line here. A
-- new kind of expression that has a name, a text or operands needs its line in the steps of folds.
use Rattle.std.specs.Prelude.{◌≡◌, ℕ, suc, ◌+◌, ◌≤◌, max, Option, None, Some, List, [], ◌∷◌, ◌++◌, length, map, flat_map, sum, sum_by, All, codes, refl}
use Rattle.std.proofs.Common.{ap, ◌∙◌}
use Rattle.gx_syntax_tree.specs.declared.constant.Const.{Const}
use Rattle.gx_syntax_tree.specs.declared.constant.Const.TheVariants as constants
use Rattle.gx_syntax_tree.specs.declared.expr.Expr.{Expr, roll-Expr, map-Expr}
use Rattle.gx_syntax_tree.specs.declared.expr.Expr.TheOpen.{Expr-F}
use Rattle.gx_syntax_tree.specs.declared.expr.Expr.TheOpen as layer
use Rattle.gx_syntax_tree.specs.declared.expr.Expr.TheFolds.{fold-Expr, fold-roll-Expr}
use Rattle.gx_syntax_tree.specs.declared.expr.UnaryOp.TheVariants as unary
use Rattle.gx_syntax_tree.specs.declared.stmt.Stmt.{Stmt}
use Rattle.gx_syntax_tree.specs.declared.stmt.Stmt.TheVariants as stmts
use Rattle.gx_syntax_tree.specs.Forms.{Part, a_name, a_text, columns, sets, consts, named, merges, sends, condition, subgraph_filter, Value, Form, fin, mark, say, part, Values, form_of, view_of}

-- the greatest number of a list
abbrev pub greatest : List ℕ → ℕ
greatest [] = 0
greatest (n ∷ ns) = max n (greatest ns)

-- the names in an expression: sides, columns and functions, from those of its operands
abbrev pub names_in_layer : Expr-F (List (List ℕ)) → List (List ℕ)
names_in_layer (layer.Column side name) = side ∷ name ∷ []
names_in_layer (layer.Call name xs) = name ∷ flat_map (λ x. x) xs
names_in_layer (layer.Unary o a) = a
names_in_layer (layer.Binary o a b) = a ++ b
names_in_layer _ = []

abbrev pub names_in_expr : Expr → List (List ℕ)
names_in_expr x = fold-Expr (List (List ℕ)) names_in_layer x

-- the texts in an expression, from those of its operands
abbrev pub texts_in_layer : Expr-F (List (List ℕ)) → List (List ℕ)
texts_in_layer (layer.Quoted s) = s ∷ []
texts_in_layer (layer.Call name xs) = flat_map (λ x. x) xs
texts_in_layer (layer.Unary o a) = a
texts_in_layer (layer.Binary o a b) = a ++ b
texts_in_layer _ = []

abbrev pub texts_in_expr : Expr → List (List ℕ)
texts_in_expr x = fold-Expr (List (List ℕ)) texts_in_layer x

-- the number of nodes of an expression
abbrev pub node_count_of_layer : Expr-F ℕ → ℕ
node_count_of_layer (layer.Call name xs) = suc (sum xs)
node_count_of_layer (layer.Unary o a) = suc a
node_count_of_layer (layer.Binary o a b) = suc (a + b)
node_count_of_layer _ = 1

abbrev pub node_count : Expr → ℕ
node_count x = fold-Expr ℕ node_count_of_layer x

-- the number of nodes on the longest way down into an expression
abbrev pub depth_of_layer : Expr-F ℕ → ℕ
depth_of_layer (layer.Call name xs) = suc (greatest xs)
depth_of_layer (layer.Unary o a) = suc a
depth_of_layer (layer.Binary o a b) = suc (max a b)
depth_of_layer _ = 1

abbrev pub depth : Expr → ℕ
depth x = fold-Expr ℕ depth_of_layer x

abbrev pub exprs_if : Option Expr → List Expr
exprs_if None = []
exprs_if (Some x) = x ∷ []

-- the expressions of a part, in text order
abbrev pub exprs_in_part : (p : Part) → Value p → List Expr
exprs_in_part sets ss = map (λ s. s.value) ss
exprs_in_part sends ss = flat_map (λ s. s.values ++ exprs_if s.when) ss
exprs_in_part condition x = x ∷ []
exprs_in_part subgraph_filter t = exprs_if t.vertices ++ exprs_if t.edges
exprs_in_part _ v = []

-- the names of a part outside of its expressions
abbrev pub names_in_part : (p : Part) → Value p → List (List ℕ)
names_in_part a_name w = w ∷ []
names_in_part columns cs = map (λ c. c.name) cs
names_in_part sets ss = map (λ s. s.name) ss
names_in_part named cs = map (λ c. c.name) cs
names_in_part merges ms = map (λ m. m.name) ms
names_in_part _ v = []

abbrev pub texts_in_const : Const → List (List ℕ)
texts_in_const (constants.Quoted s) = s ∷ []
texts_in_const _ = []

-- the texts of a part outside of its expressions
abbrev pub texts_in_part : (p : Part) → Value p → List (List ℕ)
texts_in_part a_text s = s ∷ []
texts_in_part consts cs = flat_map texts_in_const cs
texts_in_part named cs = flat_map (λ c. texts_in_const c.value) cs
texts_in_part _ v = []

-- what the parts of a form have, in text order
abbrev pub over_parts : {A : Type 0} → ((p : Part) → Value p → List A) → (f : Form) → Values f
    → List A
over_parts f_of fin v = []
over_parts f_of (mark s f) v = over_parts f_of f v
over_parts f_of (say w f) v = over_parts f_of f v
over_parts f_of (part p f) v = f_of p v.0 ++ over_parts f_of f v.1

abbrev pub over_stmt : {A : Type 0} → ((p : Part) → Value p → List A) → Stmt → List A
over_stmt f_of s = over_parts f_of (form_of (view_of s).keyword) (view_of s).values

abbrev pub exprs_in_stmt : Stmt → List Expr
exprs_in_stmt s = over_stmt exprs_in_part s

-- a name has at most 64 bytes
abbrev pub IsBoundedName : List ℕ → Type 0
IsBoundedName w = length w ≤ 64

-- a text has at most 1,024 bytes
abbrev pub IsBoundedText : List ℕ → Type 0
IsBoundedText s = length s ≤ 1024

-- an expression has bounded names and texts, and a depth of at most 2,048
pub record IsBoundedExpr (x : Expr) : Type 0 where
  pub names : All IsBoundedName (names_in_expr x)
  pub texts : All IsBoundedText (texts_in_expr x)
  pub depth_bounded : depth x ≤ 2048

-- a statement has bounded names, texts and expressions, and its expressions have at most 2,048
-- nodes together
pub record IsBoundedStmt (s : Stmt) : Type 0 where
  pub names : All IsBoundedName (over_stmt names_in_part s)
  pub texts : All IsBoundedText (over_stmt texts_in_part s)
  pub exprs : All IsBoundedExpr (exprs_in_stmt s)
  pub nodes : sum_by node_count (exprs_in_stmt s) ≤ 2048

-- each statement of a script is bounded
abbrev pub AreBounded : List Stmt → Type 0
AreBounded s = All IsBoundedStmt s

-- each of these for an expression, by those of its operands

pub names_in_expr-roll : (x : Expr-F Expr)
    → names_in_expr (roll-Expr x) ≡ names_in_layer (map-Expr Expr (List (List ℕ)) names_in_expr x)
names_in_expr-roll x = fold-roll-Expr (List (List ℕ)) names_in_layer x

pub texts_in_expr-roll : (x : Expr-F Expr)
    → texts_in_expr (roll-Expr x) ≡ texts_in_layer (map-Expr Expr (List (List ℕ)) texts_in_expr x)
texts_in_expr-roll x = fold-roll-Expr (List (List ℕ)) texts_in_layer x

pub node_count-roll : (x : Expr-F Expr)
    → node_count (roll-Expr x) ≡ node_count_of_layer (map-Expr Expr ℕ node_count x)
node_count-roll x = fold-roll-Expr ℕ node_count_of_layer x

pub depth-roll : (x : Expr-F Expr) → depth (roll-Expr x) ≡ depth_of_layer (map-Expr Expr ℕ depth x)
depth-roll x = fold-roll-Expr ℕ depth_of_layer x

-- `-v.a` has two nodes and two names
negated : Expr
negated = roll-Expr (layer.Unary unary.Neg (roll-Expr (layer.Column (codes "v") (codes "a"))))

negated-bounds : (node_count negated ≡ 2) × (names_in_expr negated ≡ codes "v" ∷ codes "a" ∷ [])
unfolding negated
negated-bounds =
    let column = layer.Column (codes "v") (codes "a") in (
      node_count-roll (layer.Unary unary.Neg (roll-Expr column)) ∙ ap suc (node_count-roll column),
      names_in_expr-roll (layer.Unary unary.Neg (roll-Expr column)) ∙ names_in_expr-roll column,
    )

-- a statement has the names and the expressions of its parts
filter-parts : (over_stmt names_in_part (stmts.Filter (codes "t") (codes "s") negated) ≡ codes "t" ∷ codes "s" ∷ [])
    × (exprs_in_stmt (stmts.Filter (codes "t") (codes "s") negated) ≡ negated ∷ [])
filter-parts = (refl, refl)
