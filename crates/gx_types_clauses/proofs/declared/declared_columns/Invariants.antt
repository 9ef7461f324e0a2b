use Rattle.std.proofs.Common.{◌≡◌, take}
use Rattle.gx_types_clauses.specs.DeclaredColumns as decls
use Rattle.gx_types_clauses.proofs.declared.declared_columns.Given as goal

-- the columns passed
abbrev pub invariant-columns : goal.invariant-columns
invariant-columns l = l.columns.items ≡ decls.declared_columns (take l.column-index l.column-items)
