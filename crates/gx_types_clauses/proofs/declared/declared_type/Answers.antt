use Rattle.gx_syntax_tree.specs.declared.parts.ColumnDecl.{ColumnDecl}
use Rattle.gx_types_clauses.proofs.ColumnLemmas.{made-distinct}
use Rattle.gx_types_clauses.proofs.declared.declared_type.Goals as goal

pub of-requires-clause-distinct : goal.of-requires-clause-distinct
of-requires-clause-distinct c =
    made-distinct (λ (x : ColumnDecl). x.name) (λ (x : ColumnDecl). x.kind) c.args.columns.now c.in_ok-declared_columns.field-0.items c.in_ok-declared_columns.ensures c.requires.distinct
