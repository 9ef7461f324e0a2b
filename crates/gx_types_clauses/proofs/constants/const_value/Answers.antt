use Rattle.std.proofs.Common.{◌∙◌, ap, sym}
use Rattle.gx_rows.specs.declared.value.Value.TheVariants as value
use Rattle.gx_types_clauses.specs.Constants as constants
use Rattle.gx_types_clauses.proofs.ColumnLemmas.{empty-sorted}
use Rattle.gx_types_clauses.proofs.constants.const_value.Goals as goal

pub returns-in_ok-of-in-NoIds : goal.returns-in_ok-of-in-NoIds
returns-in_ok-of-in-NoIds c = ap value.Ids (empty-sorted c.in_ok-of-in-NoIds.field-0 c.in_ok-of-in-NoIds.ensures.same) ∙ sym (ap constants.const_value c.in-NoIds.is)
