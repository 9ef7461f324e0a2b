-- How large a statement may be: what the checker of types is given.
use Rattle.std.specs.Prelude.{All}
use Rattle.gx_syntax_tree.specs.Bounds.{IsBoundedText, texts_in_part, exprs_in_stmt, over_stmt}
use Rattle.gx_syntax_tree.specs.declared.stmt.Stmt.{Stmt}
use Rattle.gx_types_clauses.specs.ClauseBounds.{AreTypable}

-- a statement has fewer than 2^31 nodes, and each of its texts has at most 1,024 bytes
pub record IsTypable (s : Stmt) : Type 0 where
  pub exprs : AreTypable (exprs_in_stmt s)
  pub short_texts : All IsBoundedText (over_stmt texts_in_part s)
