-- Bounded statements may be checked.
use Rattle.std.proofs.Common.{get_or, arith}
use Rattle.std.proofs.lemmas.List.Sums.{sum-map}
use Rattle.gx_syntax_tree.specs.Bounds.{IsBoundedStmt, exprs_in_stmt, node_count}
use Rattle.gx_syntax_tree.specs.declared.stmt.Stmt.{Stmt}
use Rattle.gx_types.specs.ScriptTyping.{BoundedAreTypable}
use Rattle.gx_types_stmts.specs.StmtBounds.{IsTypable}

bounded-typable : (s : Stmt) → IsBoundedStmt s → IsTypable s
bounded-typable s h = record {
  exprs = record {
    few_nodes = omega (arith, h.nodes, sum-map node_count (exprs_in_stmt s));
    short_texts = λ k d below. (h.exprs k d below).texts;
  };
  short_texts = h.texts;
}

pub bounded-are-typable : BoundedAreTypable
bounded-are-typable stmts h k d below = bounded-typable (get_or stmts k d) (h k d below)
