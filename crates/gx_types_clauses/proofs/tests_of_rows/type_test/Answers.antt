use Rattle.std.proofs.Common.{All, subst}
use Rattle.gx_syntax_tree.specs.Bounds.{exprs_if}
use Rattle.gx_types_clauses.specs.ClauseBounds.{HasShortTexts}
use Rattle.gx_types_clauses.specs.BoundLaws.{lone_short}
use Rattle.gx_types_clauses.proofs.tests_of_rows.type_test.Goals as goal

pub type_condition-requires-clause-short_texts :
    goal.type_condition-requires-clause-short_texts
type_condition-requires-clause-short_texts c =
    lone_short _ (subst (λ t. All HasShortTexts (exprs_if t)) c.in-Some.is c.requires.short_texts)
