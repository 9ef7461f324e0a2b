use Rattle.std.proofs.Common.{rules, subst}
use Rattle.gx_types.specs.Marks.{IsMarked}
use Rattle.gx_types.specs.Needs.{UseEarlier}
use Rattle.gx_types.proofs.NeedLemmas.{followed-first, followed-next, needs-returned, none-marked}
use Rattle.gx_types.proofs.typed.Typed.needs.Goals as goal

pub statements-init : goal.statements-init
statements-init c =
    followed-first c.args.self.now c.args.s c.in_ok-marks.marks.items c.mark_uses.new.marks.items c.requires.from_one
    (λ u h. none-marked c.args.s u (subst (λ ms. IsMarked ms u) (c.in_ok-marks.ensures.items_if_clones_equal (λ y e. e)) h))
    (search rules) c.mark_uses.ensures.marked

pub statements-preserved : goal.statements-preserved
statements-preserved c =
    followed-next c.args.self.now c.args.s c.statements.i c.statements.marks.items c.follow.new.marks.items (subst UseEarlier c.self.view_is c.self.invariant.earlier) c.statements-test.true (search rules) c.statements.invariant c.follow.ensures.followed

pub returns : goal.returns
returns c =
    needs-returned c.args.self.now c.args.s c.statements.i c.statements.marks.items c.as_slice.result.now c.marked.result (subst UseEarlier c.self.view_is c.self.invariant.earlier) c.statements-test.false c.statements.invariant c.as_slice.ensures.value c.marked.ensures
