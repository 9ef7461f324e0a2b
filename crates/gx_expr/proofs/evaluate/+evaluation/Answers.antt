use Rattle.std.proofs.Common.{◌≡◌, ◌≤◌, true, length, rules, w64, FitsSigned, to_z-of_z}
use Rattle.gx_expr.specs.Evaluation.{is_arithmetic}
use Rattle.gx_expr.proofs.Calls.{eval_many, evaluates_arithmetic}
use Rattle.gx_expr.proofs.evaluate.+evaluation.Goals as goal

pub operand-returns : goal.operand-returns
operand-returns g t c =
    let many : 4 ≤ length c.in-Call.arguments = rw c.as_slice.ensures at c.in_default-as_slice.len_at_least in
    rw c.in-Call.is (eval_many (g.S.Scope.values c.args.scope.now) c.in-Call.n c.in-Call.function c.in-Call.arguments many)

pub number-returns-in_ok-b-in-Binary : goal.number-returns-in_ok-b-in-Binary
number-returns-in_ok-b-in-Binary g t c =
    let left : FitsSigned w64 c.in_ok-a-in-Binary.a = search rules in
    let right : FitsSigned w64 c.in_ok-b-in-Binary.b = search rules in
    let result = simp to_z-of_z at c.arithmetic.ensures in
    let arithmetic : is_arithmetic c.in-Binary.operator ≡ true = search rules in
    let first = rw c.get.ensures at c.in_ok-a-in-Binary.ensures in
    let second = rw c.get-in-Binary.ensures at c.in_ok-b-in-Binary.ensures in
    rw c.in-Binary.is (evaluates_arithmetic (g.S.Scope.values c.args.scope.now) c.in-Binary.n c.in-Binary.operator c.in-Binary.a c.in-Binary.b c.in_ok-a-in-Binary.a c.in_ok-b-in-Binary.b c.arithmetic.result arithmetic first second result)
