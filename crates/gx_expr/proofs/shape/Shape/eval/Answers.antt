use Rattle.std.proofs.Common.{◌≡◌, Ok, Err, FitsSigned, rules, subst, to_z-of_z, w64}
use Rattle.gx_rows.specs.declared.value.Value.TheVariants as value
use Rattle.gx_expr.specs.ResultKinds.{evaluates-kind}
use Rattle.gx_expr.specs.Shapes.{IsFormOf}
use Rattle.gx_expr.proofs.FormLemmas.{comparison-finds, comparison-stops, term-finds, term-stops}
use Rattle.gx_expr.proofs.shape.Shape.eval.Goals as goal

pub returns-in_err-number-in-Term-clause-defined : goal.returns-in_err-number-in-Term-clause-defined
returns-in_err-number-in-Term-clause-defined g c =
    let seen : c.self.inside.expr.now ≡ c.args.self.now = search rules in
    let is : IsFormOf c.self.inside.form c.args.self.now = subst (IsFormOf c.self.inside.form) seen c.self.invariant in
    let same : c.from_residual.result ≡ Err c.in_err-number-in-Term.field-0.0 = search rules in
    rw same
    (term-stops (g.S.Scope.values c.args.scope.now) c.self.inside.form c.args.self.now c.in-Term.term c.in_err-number-in-Term.field-0.0 is c.in-Term.is c.in_err-number-in-Term.ensures)

pub returns-in-Some-clause-defined : goal.returns-in-Some-clause-defined
returns-in-Some-clause-defined g c =
    let fits : FitsSigned w64 c.in-Some.number = search rules in
    let seen : c.self.inside.expr.now ≡ c.args.self.now = search rules in
    let is : IsFormOf c.self.inside.form c.args.self.now = subst (IsFormOf c.self.inside.form) seen c.self.invariant in
    rw (to_z-of_z fits)
    (term-finds (g.S.Scope.values c.args.scope.now) c.self.inside.form c.args.self.now c.in-Term.term c.in_ok-number-in-Term.field-0 c.in-Some.number is c.in-Term.is c.in_ok-number-in-Term.ensures c.in-Some.is)

pub returns-in-Some-clause-kind : goal.returns-in-Some-clause-kind
returns-in-Some-clause-kind g c =
    evaluates-kind (g.S.Scope.values c.args.scope.now) c.args.self.now (Ok (value.Int _)) (returns-in-Some-clause-defined g c)

pub returns-in_err-truth-in-Comparison-clause-defined : goal.returns-in_err-truth-in-Comparison-clause-defined
returns-in_err-truth-in-Comparison-clause-defined g c =
    let seen : c.self.inside.expr.now ≡ c.args.self.now = search rules in
    let is : IsFormOf c.self.inside.form c.args.self.now = subst (IsFormOf c.self.inside.form) seen c.self.invariant in
    let same : c.from_residual-in_err-truth-in-Comparison.result ≡ Err c.in_err-truth-in-Comparison.field-0.0 = search rules in
    rw same
    (comparison-stops (g.S.Scope.values c.args.scope.now) c.self.inside.form c.args.self.now c.in-Comparison.operator c.in-Comparison.a c.in-Comparison.b c.in_err-truth-in-Comparison.field-0.0 is c.in-Comparison.is c.in_err-truth-in-Comparison.ensures)

pub returns-in-Some-2-clause-defined : goal.returns-in-Some-2-clause-defined
returns-in-Some-2-clause-defined g c =
    let seen : c.self.inside.expr.now ≡ c.args.self.now = search rules in
    let is : IsFormOf c.self.inside.form c.args.self.now = subst (IsFormOf c.self.inside.form) seen c.self.invariant in
    comparison-finds (g.S.Scope.values c.args.scope.now) c.self.inside.form c.args.self.now c.in-Comparison.operator c.in-Comparison.a c.in-Comparison.b c.in_ok-truth-in-Comparison.field-0 c.in-Some-2.truth is c.in-Comparison.is c.in_ok-truth-in-Comparison.ensures c.in-Some-2.is

pub returns-in-Some-2-clause-kind : goal.returns-in-Some-2-clause-kind
returns-in-Some-2-clause-kind g c =
    evaluates-kind (g.S.Scope.values c.args.scope.now) c.args.self.now (Ok (value.Bool _)) (returns-in-Some-2-clause-defined g c)
