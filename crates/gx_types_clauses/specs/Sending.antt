-- Check 4: the messages that edges send.
use Rattle.std.specs.Prelude.{ℕ, Result, Ok, List, [], ◌∷◌, ◌++◌, flat_map}
use Rattle.gx_rows.specs.Results.{◌>>=◌}
use Rattle.gx_syntax_tree.specs.Bounds.{exprs_if}
use Rattle.gx_syntax_tree.specs.declared.expr.Expr.{Expr as Written}
use Rattle.gx_syntax_tree.specs.declared.parts.SendClause.{SendClause}
use Rattle.gx_types_exprs.specs.ExprScopes.{ScopeNames}
use Rattle.gx_types_clauses.specs.StmtWords.{end_of_written}
use Rattle.gx_types_clauses.specs.ValueTyping.{typed_test, typed_values}
use Rattle.gx_types_clauses.specs.declared.sending.TypedClause.{TypedClause}
use Rattle.gx_types_clauses.specs.declared.sending.TypedSends.{TypedSends}
use Rattle.gx_types_clauses.specs.declared.stmt_stop.StmtStop.{StmtStop}

-- the expressions of a send in text order: its values, and its test if there is one
abbrev pub clause_exprs : SendClause → List Written
clause_exprs c = c.values ++ exprs_if c.when

abbrev pub sent_exprs : List SendClause → List Written
sent_exprs cs = flat_map clause_exprs cs

-- a send, numbered from a given number on
abbrev pub typed_clause : ScopeNames → ℕ → SendClause → Result TypedClause StmtStop
typed_clause s n c = typed_values s n c.values >>= λ xs. typed_test s xs.next c.when >>= λ w.
    Ok (record {
      send = record { to = end_of_written c.to; values = xs.exprs; when = w.test };
      kinds = xs.kinds;
      next = w.next;
    })

-- a send before those after it
abbrev pub clause_before : TypedClause → TypedSends → TypedSends
clause_before x xs =
    record { sends = x.send ∷ xs.sends; kinds = x.kinds ∷ xs.kinds; next = xs.next }

-- sends one after the other
abbrev pub typed_sends : ScopeNames → ℕ → List SendClause → Result TypedSends StmtStop
typed_sends s n [] = Ok (record { sends = []; kinds = []; next = n })
typed_sends s n (c ∷ cs) = typed_clause s n c >>= λ x.
    typed_sends s x.next cs >>= λ xs. Ok (clause_before x xs)

-- a send after those before it
abbrev pub with_clause : TypedSends → TypedClause → TypedSends
with_clause xs x =
    record { sends = xs.sends ++ x.send ∷ []; kinds = xs.kinds ++ x.kinds ∷ []; next = x.next }
