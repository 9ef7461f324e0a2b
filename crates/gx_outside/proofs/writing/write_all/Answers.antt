use Rattle.std.proofs.Common.{◌-◌, ◌+◌, ℕ, List, Option, take, drop, length, arith, rules}
use Rattle.std.proofs.lemmas.List.{take_rest}
use Rattle.std.proofs.Math.Seq.{take-add}
use Rattle.std.specs.Io.KnownBytes.{Appends}
use Rattle.std.proofs.KnownBytes.{Appends-trans}
use Rattle.gx_outside.proofs.writing.write_all.Goals as goal

-- a sink that took the start of the rest of a text took that much more of the text
more : (old now new : Option (List ℕ)) (text : List ℕ) (done count : ℕ)
    → Appends old now (take done text) → Appends now new (take count (take (length text - done) (drop done text)))
    → Appends old new (take (done + count) text)
more old now new text done count p q =
    rw take-add (Appends-trans old now new (take done text) _ p (rw take_rest at q))

pub loop-done-preserved : goal.loop-done-preserved
loop-done-preserved g c =
    let was = c.loop-done.invariant in
    let wrote = c.in_ok-done.ensures in
    record {
      within = search rules;
      known = search rules;
      faults = omega arith;
      so_far = more (g.S.Sink.written c.args.sink.now) (g.S.Sink.written c.loop-done.sink) (g.S.Sink.written c.write.new.self)
          c.args.text.now c.loop-done.done c.in_ok-done.field-0 was.so_far wrote.piece_appended;
    }
