use Rattle.std.proofs.Common.{◌≡◌, Ok, Err, ap, rules, subst}
use Rattle.gx_rows.specs.Results.{◌>>=◌}
use Rattle.gx_expr.specs.Evaluation.{truth_of_value}
use Rattle.gx_expr.specs.Shapes.{IsFormOf}
use Rattle.gx_expr.proofs.FormLemmas.{comparison-finds, comparison-stops, truth-stops}
use Rattle.gx_expr.proofs.shape.Shape.truth.Goals as goal

pub returns-in_err-truth : goal.returns-in_err-truth
returns-in_err-truth g c =
    let seen : c.self.inside.expr.now ≡ c.args.self.now = search rules in
    let is : IsFormOf c.self.inside.form c.args.self.now = subst (IsFormOf c.self.inside.form) seen c.self.invariant in
    let same : c.from_residual.result ≡ Err c.in_err-truth.field-0.0 = search rules in
    rw same
    (truth-stops _ c.in_err-truth.field-0.0
    (comparison-stops (g.S.Scope.values c.args.scope.now) c.self.inside.form c.args.self.now c.in-Comparison.operator c.in-Comparison.a c.in-Comparison.b c.in_err-truth.field-0.0 is c.in-Comparison.is c.in_err-truth.ensures))

pub returns-in-Some : goal.returns-in-Some
returns-in-Some g c =
    let seen : c.self.inside.expr.now ≡ c.args.self.now = search rules in
    let is : IsFormOf c.self.inside.form c.args.self.now = subst (IsFormOf c.self.inside.form) seen c.self.invariant in
    ap (λ r. r >>= λ v. Ok (truth_of_value v))
    (comparison-finds (g.S.Scope.values c.args.scope.now) c.self.inside.form c.args.self.now c.in-Comparison.operator c.in-Comparison.a c.in-Comparison.b c.in_ok-truth.field-0 c.in-Some.truth is c.in-Comparison.is c.in_ok-truth.ensures c.in-Some.is)
