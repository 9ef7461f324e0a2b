use Rattle.std.proofs.Common.{sym, ap, ◌∙◌}
use Rattle.std.specs.List.{slice_get}
use Rattle.gx_exec_contents.specs.Worlds.{World}
use Rattle.gx_exec_loads.proofs.FiledRows.{filed-here}
use Rattle.gx_exec_loads.proofs.RowsOfLoads.{loaded_here, loaded_later}
use Rattle.gx_exec_loads.proofs.loaded_parts.LoadedParts.rows_of_part.Goals as goal

pub returns-then-statement-s-clause-rows : goal.returns-then-statement-s-clause-rows
returns-then-statement-s-clause-rows c =
    let at = ap (λ (w : World). slice_get w.loads c.loop-i.i) (sym c.self.view_is) ∙ c.entry-statement.ensures in
    sym (loaded_here c.args.self.now.loads c.loop-i.i c.args.s _ _ at c.if-statement-s.true) ∙ c.loop-i.invariant

pub returns-then-statement-s-clause-positions : goal.returns-then-statement-s-clause-positions
returns-then-statement-s-clause-positions c =
    filed-here _ c.args.self.now c.self.view_is c.self.inside.filed.items c.self.invariant c.loop-i.i c.entry-statement.result.0 c.args.s c.args.part c.entry-statement.result.1.now c.index.result.now c.of_part.result.now
    c.entry-statement.ensures c.if-statement-s.true c.index.ensures c.requires c.of_part.ensures (returns-then-statement-s-clause-rows c)

pub loop-i-preserved : goal.loop-i-preserved
loop-i-preserved c =
    let at = ap (λ (w : World). slice_get w.loads c.loop-i.i) (sym c.self.view_is) ∙ c.entry-statement.ensures in
    sym (loaded_later c.args.self.now.loads c.loop-i.i c.args.s _ _ at c.if-statement-s.false) ∙ c.loop-i.invariant
