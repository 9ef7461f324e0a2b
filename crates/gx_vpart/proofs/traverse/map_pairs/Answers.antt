use Rattle.std.proofs.Common.{◌≡◌, ◌∙◌, [], Some, None, refl, rules, true, false}
use Rattle.std.specs.List.{filter_map}
use Rattle.std.specs.Option.{option_copied}
use Rattle.gx_vpart.specs.JoinCalls.{MayCallAtPair}
use Rattle.gx_vpart.specs.Operators.{has_partner, join_key, with_partner}
use Rattle.gx_vpart.proofs.Pairs.{All-next, PairsSoFar-blank, PairsSoFar-done, PairsSoFar-more, bools-more, next-pair, no-pair}
use Rattle.gx_traverse.specs.Steps.{SoFar-stop}
use Rattle.std.proofs.lemmas.List.{append-nil}
use Rattle.gx_vpart.proofs.traverse.map_pairs.Given as given
use Rattle.gx_vpart.proofs.traverse.map_pairs.Goals as goal

pub f-requires : goal.f-requires
f-requires g c =
    let some : option_copied c.in-Some.other ≡ Some c.in-Some-other.other.now = rw c.in-Some-other.is refl in
    let first = next-pair c.in-Some.v c.in-Some.row.now c.in-Some-other.other.now (option_copied c.in-Some.other) c.rows.v-iterator c.next.new.self c.in-Some.ensures.steps some in
    let all = rw (← c.into_iter-v-iterator.ensures.into_iter_gives) at c.requires in
    All-next (MayCallAtPair (given.F-pre g c.args.f)) _ _ c.rows.invariant.made.so_far first all c.in-Some.row c.in-Some-other.other refl refl

pub rows-preserved : goal.rows-preserved
rows-preserved g c =
    let some : option_copied c.in-Some.other ≡ Some c.in-Some-other.other.now = rw c.in-Some-other.is refl in
    let first = next-pair c.in-Some.v c.in-Some.row.now c.in-Some-other.other.now (option_copied c.in-Some.other) c.rows.v-iterator c.next.new.self c.in-Some.ensures.steps some in
    let there : c.is_some.result ≡ true = search rules in
    record {
      can = tt;
      ends = tt;
      bools = rw c.in_ok-push.ensures (bools-more has_partner _ _ _ _ _ c.is_some.result c.in-Some.ensures.steps (rw (some, there) refl) c.rows.invariant.bools);
      made = rw (c.in_ok-push.ensures, there) (PairsSoFar-more _ _ c.in-Ok.value c.in_ok-slot-in-Ok.slot _ c.rows.invariant.made first (c.in-Some.row, c.in-Some-other.other, refl, refl, c.in-Ok.ensures) c.in_ok-slot-in-Ok.ensures);
    }

pub rows-preserved-in_default : goal.rows-preserved-in_default
rows-preserved-in_default g c =
    let none : option_copied c.in-Some.other ≡ None = rw c.in_default.is refl in
    let there : c.is_some.result ≡ false = search rules in
    record {
      can = tt;
      ends = tt;
      bools = rw c.in_ok-push.ensures (bools-more has_partner _ _ _ _ _ c.is_some.result c.in-Some.ensures.steps (rw (none, there) refl) c.rows.invariant.bools);
      made = rw (c.in_ok-push.ensures, there) (PairsSoFar-blank _ _ c.in_ok-slot.slot _ c.rows.invariant.made (no-pair c.in-Some.v c.in-Some.row.now _ _ _ c.in-Some.ensures.steps none) c.in_ok-slot.ensures);
    }

pub returns-in-Err : goal.returns-in-Err
returns-in-Err g c =
    let some : option_copied c.in-Some.other ≡ Some c.in-Some-other.other.now = rw c.in-Some-other.is refl in
    let first = next-pair c.in-Some.v c.in-Some.row.now c.in-Some-other.other.now (option_copied c.in-Some.other) c.rows.v-iterator c.next.new.self c.in-Some.ensures.steps some in
    rw (← c.into_iter-v-iterator.ensures.into_iter_gives, c.stop_at_vertex.ensures)
    (SoFar-stop join_key _ _ _ c.in-Err.stop c.rows.invariant.made.so_far first (c.in-Some.row, c.in-Some-other.other, refl, refl, c.in-Err.ensures))

pub returns : goal.returns
returns g c =
    let none : filter_map with_partner c.rows.v-iterator ≡ [] = rw c.in-None.ensures.steps.0 refl in
    let done = PairsSoFar-done c.in_ok-finish.field-0 c.rows.invariant.made none (λ rows start. c.in_ok-finish.ensures ∙ c.in_ok-push_rest.ensures rows start) in
    rw (← c.into_iter-v-iterator.ensures.into_iter_gives)
    (record { says = (done.0, done.1, (rw (c.in-None.ensures.steps.0, append-nil) at c.rows.invariant.bools, done.2)) })
