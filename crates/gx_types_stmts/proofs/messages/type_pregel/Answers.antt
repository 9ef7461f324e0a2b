use Rattle.gx_types_clauses.specs.Sending.{sent_exprs}
use Rattle.gx_types_clauses.specs.ValueTyping.{column_values}
use Rattle.gx_types_clauses.specs.BoundLaws.{left_typable, right_short}
use Rattle.gx_types_stmts.proofs.messages.type_pregel.Goals as goal

pub type_sends-requires-clause-short_texts : goal.type_sends-requires-clause-short_texts
type_sends-requires-clause-short_texts c =
    right_short (column_values c.args.parts.now.program.now) (sent_exprs c.args.parts.now.sends.now) c.requires.exprs.short_texts

pub type_sets-requires : goal.type_sets-requires
type_sets-requires c = record {
  values = left_typable (column_values c.args.parts.now.program.now) (sent_exprs c.args.parts.now.sends.now) c.requires.exprs;
  names = c.requires.program;
}
