use Rattle.std.proofs.Common.{sym, rules, FitsSigned, w64}
use Rattle.std.proofs.lemmas.Int.{to_z-of_z}
use Rattle.gx_load.proofs.CellValueLemmas.{numbers_in-done, numbers_in-more, numbers_in-stop}
use Rattle.gx_load.proofs.cell_value.read_numbers.Goals as goal

pub returns-in_default-number_of : goal.returns-in_default-number_of
returns-in_default-number_of c =
    numbers_in-stop c.words.numbers.items c.in-Some.word.now c.words.words c.take.new.self _ c.in-Some.ensures (sym c.in_default-number_of.ensures) c.words.invariant.so_far

pub words-preserved : goal.words-preserved
words-preserved c =
    let fits : FitsSigned w64 c.in-Some-number_of.number = search rules in
    record {
      so_far = rw (rw (← c.in_ok-map_err.ensures.variant) at c.push.ensures.items, to_z-of_z w64 c.in-Some-number_of.number fits)
          (numbers_in-more c.words.numbers.items c.in-Some.word.now c.words.words c.take.new.self _ _ c.in-Some.ensures (sym c.in-Some-number_of.ensures) c.words.invariant.so_far);
    }

pub returns : goal.returns
returns c = numbers_in-done c.words.numbers.items c.words.words _ c.in_default.ensures.0 c.words.invariant.so_far
