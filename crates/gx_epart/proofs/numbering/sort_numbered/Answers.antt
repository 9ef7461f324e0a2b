use Rattle.std.proofs.Common.{map, subst, sym}
use Rattle.std.proofs.lemmas.Result.{IfOk-weaker}
use Rattle.gx_epart.specs.Edges.{IsEdgeOrderOf}
use Rattle.gx_epart.specs.Numbers.{edge_of_numbers}
use Rattle.gx_epart.proofs.Numbered.{HasIds-ordered, IsEdgeOrderOf-ordered, exact-ordered}
use Rattle.gx_epart.proofs.numbering.sort_numbered.Goals as goal

pub pack-requires-clause-in_range : goal.pack-requires-clause-in_range
pack-requires-clause-in_range c =
    HasIds-ordered c.args.ends.value c.args.numbered.items c.sort_unstable.new.self.items c.requires.ascending c.requires.in_range
    c.sort_unstable.ensures.permutation c.sort_unstable.ensures.sorted

pub pack-requires-clause-sorted : goal.pack-requires-clause-sorted
pack-requires-clause-sorted c =
    (IsEdgeOrderOf-ordered c.args.ends.value c.args.numbered.items c.sort_unstable.new.self.items c.requires.ascending c.requires.in_range
    c.sort_unstable.ensures.permutation c.sort_unstable.ensures.sorted).sorted

pub pack-requires-clause-exact : goal.pack-requires-clause-exact
pack-requires-clause-exact c =
    exact-ordered c.args.ends.value c.args.numbered.items c.sort_unstable.new.self.items c.requires.ascending c.requires.in_range
    c.sort_unstable.ensures.permutation c.sort_unstable.ensures.sorted c.requires.exact

pub returns : goal.returns
returns c =
    let ordered = IsEdgeOrderOf-ordered c.args.ends.value c.args.numbered.items c.sort_unstable.new.self.items c.requires.ascending c.requires.in_range
    c.sort_unstable.ensures.permutation c.sort_unstable.ensures.sorted in
    IfOk-weaker c.pack.result _ (IsEdgeOrderOf (map (edge_of_numbers c.args.ends.value) c.args.numbered.items))
    (λ part same. subst (IsEdgeOrderOf (map (edge_of_numbers c.args.ends.value) c.args.numbered.items)) (sym same) ordered) c.pack.ensures
