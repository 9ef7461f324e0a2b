-- How large the clauses of a statement may be: what their checks are given.
use Rattle.std.specs.Prelude.{ℕ, ◌<◌, ◌≤◌, ◌^◌, List, All, length, map, sum}
use Rattle.gx_syntax_tree.specs.Bounds.{IsBoundedText, texts_in_expr, node_count}
use Rattle.gx_syntax_tree.specs.declared.expr.Expr.{Expr}
use Rattle.gx_syntax_tree.specs.declared.parts.ColumnExpr.{ColumnExpr}
use Rattle.std.specs.List.{IsDistinct}
use Rattle.std.specs.Str.{bytes_eq}
use Rattle.gx_types_clauses.specs.ColumnLists.{rounds_of}
use Rattle.gx_types_clauses.specs.NamedParts.{NamedParts}
use Rattle.gx_types_clauses.specs.ValueTyping.{column_values}

-- each text in an expression has at most 1,024 bytes
abbrev pub HasShortTexts : Expr → Type 0
HasShortTexts e = All IsBoundedText (texts_in_expr e)

-- expressions of a statement: they have fewer than 2^31 nodes together, and short texts
pub record AreTypable (es : List Expr) : Type 0 where
  pub few_nodes : sum (map node_count es) < 2 ^ 31
  pub short_texts : All HasShortTexts es

-- the names of a list of columns that passed its check: at most 16, and none twice
pub record IsColumnList (names : List (List ℕ)) : Type 0 where
  pub few : length names ≤ 16
  pub distinct : IsDistinct bytes_eq names

-- columns that are computed, by expressions of a statement and under names that passed their check
pub record AreTypableSets (sets : List ColumnExpr) : Type 0 where
  pub values : AreTypable (column_values sets)
  pub names : IsColumnList (map (λ s. s.name) sets)

-- the third check passed: lists of columns, and rounds
pub record HasCheckedLists (p : NamedParts) : Type 0 where
  pub columns : IsColumnList p.columns
  pub program : IsColumnList p.program
  pub few_rounds : rounds_of p.rounds ≤ 1000
