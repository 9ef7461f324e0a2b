use Rattle.std.proofs.Common.{◌≡◌, ◌<◌, ◌∙◌, All, length, ap, sym, subst, rules}
use Rattle.gx_index.proofs.EndsBySlot.{AreSidesBySlot-marked, length-with_sources}
use Rattle.gx_index.proofs.marks.sides_of_slots.Goals as goal

pub mark_destinations-requires : goal.mark_destinations-requires
mark_destinations-requires c =
    let count : length c.in_ok-sides.sides.items ≡ c.args.len = search rules in
    let total : length c.mark_sources.new.sides.items ≡ c.args.len = ap length c.mark_sources.ensures ∙ length-with_sources c.in_ok-sides.sides.items c.args.srcs.now ∙ count in
    subst (λ m. All (λ n. n < m) c.args.dsts.now) (sym total) c.requires.destinations

pub returns : goal.returns
returns c =
    let count : length c.in_ok-sides.sides.items ≡ c.args.len = search rules in
    rw (c.mark_destinations.ensures, c.mark_sources.ensures)
    (AreSidesBySlot-marked c.args.len c.args.srcs.now c.args.dsts.now c.in_ok-sides.sides.items count (c.in_ok-sides.ensures.items_if_clones_equal (λ y e. e)))
