-- The parts of a statement that may be checked may be checked.
use Rattle.std.proofs.Common.{◌≡◌, List, [], ◌++◌, map, ap, subst, ◌∙◌}
use Rattle.std.proofs.lemmas.List.{append-nil}
use Rattle.gx_syntax_tree.specs.Bounds.{exprs_in_stmt}
use Rattle.gx_syntax_tree.specs.declared.expr.Expr.{Expr}
use Rattle.gx_syntax_tree.specs.declared.parts.ColumnExpr.{ColumnExpr}
use Rattle.gx_syntax_tree.specs.declared.stmt.Stmt.{Stmt}
use Rattle.gx_types_clauses.specs.NamedParts.{named_parts}
use Rattle.gx_types_clauses.specs.ClauseBounds.{AreTypable, AreTypableSets, HasCheckedLists, IsColumnList}
use Rattle.gx_types_stmts.specs.StmtBounds.{IsTypable}
use Rattle.gx_types_clauses.specs.ValueTyping.{column_values}
use Rattle.gx_types_clauses.specs.BoundLaws.{whole_typable}

-- the only expressions of a statement
pub exprs-typable : (s m : Stmt) (es : List Expr) → s ≡ m → exprs_in_stmt m ≡ es ++ [] → IsTypable s → AreTypable es
exprs-typable s m es is parts h =
    whole_typable es (subst AreTypable (ap exprs_in_stmt is ∙ parts) h.exprs)

-- the expressions of a program and of the sends after it
pub program-typable : (s m : Stmt) (es fs : List Expr) → s ≡ m → exprs_in_stmt m ≡ es ++ (fs ++ []) → IsTypable s → AreTypable (es ++ fs)
program-typable s m es fs is parts h =
    subst AreTypable (ap exprs_in_stmt is ∙ parts ∙ ap (λ gs. es ++ gs) (append-nil fs)) h.exprs

-- the only computed columns of a statement
pub sets-typable : (s m : Stmt) (sets : List ColumnExpr) → s ≡ m → exprs_in_stmt m ≡ column_values sets ++ [] → (named_parts m).columns ≡ map (λ c. c.name) sets
    → IsTypable s → HasCheckedLists (named_parts s) → AreTypableSets sets
sets-typable s m sets is parts names h lists = record {
  values = exprs-typable s m (column_values sets) is parts h;
  names = subst (λ ns. IsColumnList ns) (ap (λ x. (named_parts x).columns) is ∙ names) lists.columns;
}
