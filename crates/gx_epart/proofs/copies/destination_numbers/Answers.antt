use Rattle.std.proofs.Common.{◌≡◌, ◌<◌, ℕ, IsPermutation, List, length, rules, arith}
use Rattle.std.specs.Vec.Iter.{into_iter_items}
use Rattle.std.proofs.lemmas.Grind.{common_steps}
use Rattle.std.proofs.lemmas.List.{length-map, length-set}
use Rattle.std.proofs.lemmas.List.Elements.{All-head, All-tail}
use Rattle.std.proofs.lemmas.Option.{slice_get_within}
use Rattle.gx_rows.specs.Order.{Edge}
use Rattle.gx_rows.specs.declared.vid.Vid.{Vid}
use Rattle.gx_epart.specs.Edges.{edges_lent}
use Rattle.gx_epart.specs.Numbers.{destinations_from}
use Rattle.gx_epart.proofs.Destinations.{AreNumbered-more, AreNumbered-start, HasDestinations-numbered, IsDestination, IsDestination-ordered, known-destination}
use Rattle.gx_epart.proofs.copies.destination_numbers.Goals as goal

pub loop-id-init : goal.loop-id-init
loop-id-init c =
    let edges : List Edge = edges_lent c.args.edges.now in
    let ds = c.args.destinations.items in
    let same : IsPermutation (destinations_from 0 edges) ds = c.requires.all in
    let count : length c.in_ok-numbers.numbers.items ≡ length edges = grind (arith, common_steps, length-map {B = Edge} c.args.edges.now (λ e. (e.0, e.1, e.2.now)), c.in_ok-numbers.ensures.len) in
    rw c.into_iter-id-iterator.ensures.into_iter_gives.0
    (count, IsDestination-ordered c.args.ends.now edges ds same, AreNumbered-start c.args.ends.now edges ds same c.in_ok-numbers.numbers.items)

pub number_from-number-requires : goal.number_from-number-requires
number_from-number-requires c =
    let edges : List Edge = edges_lent c.args.edges.now in
    let all = rw c.in-Some.ensures.steps.0 at c.loop-id.invariant.1 in
    known-destination c.args.ends.now edges (c.in-Some.id, c.in-Some.position) c.requires.known
    (All-head (IsDestination edges) (c.in-Some.id, c.in-Some.position) (into_iter_items c.next.new.self) all)

pub index_mut-requires : goal.index_mut-requires
index_mut-requires c =
    let edges : List Edge = edges_lent c.args.edges.now in
    let all = rw c.in-Some.ensures.steps.0 at c.loop-id.invariant.1 in
    let known = All-head (IsDestination edges) (c.in-Some.id, c.in-Some.position) (into_iter_items c.next.new.self) all in
    let within : c.in-Some.position < length edges = slice_get_within edges c.in-Some.position known.0 known.1 in
    search (rules, within, c.loop-id.invariant.0)

pub loop-id-preserved : goal.loop-id-preserved
loop-id-preserved c =
    let ids = c.args.ends.now in
    let edges : List Edge = edges_lent c.args.edges.now in
    let d : Vid × ℕ = (c.in-Some.id, c.in-Some.position) in
    let after = into_iter_items c.next.new.self in
    let so_far = rw c.in-Some.ensures.steps.0 at c.loop-id.invariant in
    let known = All-head (IsDestination edges) d after so_far.1 in (
      rw length-set so_far.0,
      All-tail (IsDestination edges) d after so_far.1,
      AreNumbered-more ids edges d after c.loop-id.numbers.items c.number_from-number.result so_far.0 known c.number_from-number.ensures so_far.2,
    )

pub returns : goal.returns
returns c =
    let none : length (into_iter_items c.loop-id.id-iterator) ≡ 0 = search rules in
    HasDestinations-numbered c.args.ends.now (edges_lent c.args.edges.now) (into_iter_items c.loop-id.id-iterator) none c.loop-id.numbers.items c.loop-id.invariant.0 c.loop-id.invariant.2
