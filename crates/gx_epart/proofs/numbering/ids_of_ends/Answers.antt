use Rattle.std.proofs.Common.{◌≡◌, ◌++◌, ◌∙◌, ap}
use Rattle.std.proofs.lemmas.List.Filters.{dedup_is}
use Rattle.gx_epart.specs.Edges.{edges_lent}
use Rattle.gx_epart.proofs.EndIds.{HasEndsOf-runs}
use Rattle.gx_epart.proofs.numbering.ids_of_ends.Goals as goal

pub returns : goal.returns
returns c =
    rw (c.in_ok-extend_from_slice.ensures.items, c.as_slice.ensures.value, dedup_is _ _ _ c.dedup.ensures.filtered, dedup_is _ _ _ c.dedup-2.ensures.filtered, c.in_ok-ids.ensures, c.in_ok-others.ensures)
    (HasEndsOf-runs (edges_lent c.args.edges.now) c.args.destinations.now c.requires)
