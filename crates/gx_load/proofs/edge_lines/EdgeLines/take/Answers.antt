use Rattle.std.proofs.Common.{◌+◌, arith, sym, ◌∙◌}
use Rattle.gx_load.proofs.PieceLemmas.{after_feed-shorter, line_skipped, line_taken, no_edge_line}
use Rattle.gx_load.proofs.edge_lines.EdgeLines.take.Goals as goal

pub returns-then-has_edge : goal.returns-then-has_edge
returns-then-has_edge c =
    sym c.loop-self.invariant.remaining
    ∙ line_taken (c.loop-self.self-inside.passed + 1) c.loop-self.self-inside.rest.now c.line_len-len.result c.min.result
    c.line_len-len.ensures.count c.min.ensures (sym c.if-has_edge.ensures)

pub loop-self-preserved : goal.loop-self-preserved
loop-self-preserved c = record {
  remaining =
      sym (line_skipped (c.loop-self.self-inside.passed + 1) c.loop-self.self-inside.rest.now c.line_len-len.result c.min.result
      c.line_len-len.ensures.count c.min.ensures (sym c.if-has_edge.ensures))
      ∙ c.loop-self.invariant.remaining;
  few = omega (arith, after_feed-shorter c.line_len-len.result c.min.result c.loop-self.self-inside.rest.now c.min.ensures (sym c.loop-self-test.ensures));
}

pub returns : goal.returns
returns c =
    let none = no_edge_line (c.loop-self.self-inside.passed + 1) c.loop-self.self-inside.rest.now (sym c.loop-self-test.ensures) in
    (sym c.loop-self.invariant.remaining ∙ none, none)
