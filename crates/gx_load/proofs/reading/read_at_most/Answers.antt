use Rattle.std.proofs.Common.{◌≤◌, ◌+◌, ◌++◌, ℕ, List, Option, Result, Ok, Err, OnErr, length, take, arith, length-append, length-take, rules}
use Rattle.std.specs.Io.KnownBytes.{Consumes}
use Rattle.std.proofs.KnownBytes.{Consumes-trans}
use Rattle.gx_load.specs.FileBytes.{ConsumesAtMost}
use Rattle.gx_load.proofs.reading.read_at_most.Goals as goal

-- the bytes of a further read are consumed too
further : (a b c : Option (List ℕ)) (bytes buf : List ℕ) (count most : ℕ)
    → Consumes a b bytes → Consumes b c (take count buf) → length bytes + count ≤ most → ConsumesAtMost most a c
further a b c bytes buf count most p q few =
    (bytes ++ take count buf, simp (length-append, length-take) (omega arith), Consumes-trans a b c bytes (take count buf) p q)

on_err : {A E P : Type 0} (r : Result A E) → P → OnErr r P
on_err (Ok x) p = tt
on_err (Err e) p = p

pub returns-in_err-map_err-clause-few_consumed_if_err : goal.returns-in_err-map_err-clause-few_consumed_if_err
returns-in_err-map_err-clause-few_consumed_if_err g c =
    let few : length c.loop-piece.bytes.items + c.in_ok-count.count ≤ c.args.most = search rules in
    on_err c.from_residual-in_err-map_err.result
    (further (g.F.Files.rest c.args.files.now) (g.F.Files.rest c.loop-piece.files) (g.F.Files.rest c.read.new.self)
    c.loop-piece.bytes.items c.read.new.buf c.in_ok-count.count c.args.most
    c.loop-piece.invariant.so_far c.in_ok-count.ensures.rest_consumed.0 few)
