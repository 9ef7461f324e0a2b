use Rattle.gx_expr.proofs.FormLemmas.{form-term}
use Rattle.gx_expr.proofs.shape.form_of.Goals as goal

pub returns-in-Some : goal.returns-in-Some
returns-in-Some c = form-term c.in-Some.term c.args.e.now c.in-Some.ensures
