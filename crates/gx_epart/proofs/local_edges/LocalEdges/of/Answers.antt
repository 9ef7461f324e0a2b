use Rattle.std.proofs.Common.{◌∙◌, ap, length, refl}
use Rattle.std.proofs.lemmas.List.{length-map}
use Rattle.gx_epart.proofs.Columns.{locals-of, positions-of}
use Rattle.gx_epart.proofs.local_edges.LocalEdges.of.Goals as goal

pub returns-then-are_positions : goal.returns-then-are_positions
returns-then-are_positions c =
    locals-of c.in_ok-srcs.srcs.items c.in_ok-dsts.dsts.items _ c.args.edges.now c.in_ok-srcs.ensures c.in_ok-dsts.ensures
    (positions-of (length c.in_ok-srcs.srcs.items) c.args.edges.now (ap length c.in_ok-srcs.ensures ∙ length-map c.args.edges.now (λ e. e.src)) (c.if-are_positions.ensures refl))

pub returns : goal.returns
returns c = locals-of c.in_ok-srcs.srcs.items c.in_ok-dsts.dsts.items c.in_ok-rows_of.field-0.items c.args.edges.now c.in_ok-srcs.ensures c.in_ok-dsts.ensures c.in_ok-rows_of.ensures
