use Rattle.std.proofs.Common.{rules, ◌≡◌, length, arith, subst}
use Rattle.gx_exec_loads.specs.Filing.{IsFiled, part_of_row}
use Rattle.gx_exec_loads.proofs.FiledRows.{filed-load, loads-filed}
use Rattle.gx_exec_loads.proofs.loaded_parts.file_loads.Goals as goal

pub loop-i-preserved : goal.loop-i-preserved
loop-i-preserved c =
    filed-load _ c.loop-i.i c.entry-statement.result.0 c.entry-statement.result.1.now c.loop-i.all.items c.append.new.items.items c.in_ok-positions.positions
    c.loop-i.invariant c.entry-statement.ensures
    (subst (λ k. IsFiled (part_of_row k c.args.cut c.args.parts) c.args.parts c.entry-statement.result.1.now c.in_ok-positions.positions) c.kind_of.ensures c.in_ok-positions.ensures)
    (search rules)

pub returns : goal.returns
returns c = loads-filed _ c.loop-i.i c.loop-i.all.items c.loop-i.invariant (let all : length c.args.loads.now ≡ c.loop-i.i = omega (arith, c.len-i-end.ensures.count, c.loop-i-test.false, c.loop-i.auto.i-end) in all)
