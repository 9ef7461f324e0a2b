use Rattle.std.proofs.Common.{◌≡◌, [], ◌∷◌, ◌++◌, ap, sym, ◌∙◌}
use Rattle.std.proofs.lemmas.List.{map_push}
use Rattle.gx_rows.specs.Order.{Edge}
use Rattle.gx_epart.specs.Edges.{edges_lent}
use Rattle.gx_gops.specs.Moving.{is_placed_in}
use Rattle.gx_gops.proofs.Edges.{filter-next}
use Rattle.gx_gops.proofs.moved_edges.edges_placed_in.Goals as goal

pub edges-preserved-in-Continue-1 : goal.edges-preserved-in-Continue-1
edges-preserved-in-Continue-1 c =
    let e : Edge = (c.in-Some.src, c.in-Some.dst, c.in-Some.row.now) in
    let pushed : edges_lent c.append.new.items.items ≡ edges_lent c.edges.placed.items ++ e ∷ [] =
    ap edges_lent c.in_ok-append.ensures ∙ map_push {Y = Edge} (λ e. (e.0, e.1, e.2.now)) c.edges.placed.items (c.in-Some.src, c.in-Some.dst, c.in-Some.row) in
    record {
      can = tt;
      ends = tt;
      so_far = filter-next (λ e. is_placed_in c.args.cut c.args.part c.args.parts e.0 e.1) _ _ _ _ _ _ c.in-Some.ensures.steps (sym c.is_placed_in.ensures ∙ c.if-is_placed_in.true) pushed c.edges.invariant.so_far;
    }
