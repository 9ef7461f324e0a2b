-- An iterator that is seen as the list of what is left comes nearer to its end.
use Rattle.std.proofs.Common.{◌≡◌, List, ◌∷◌, Some, length, ap, arith}
use Rattle.std.specs.Bool.{⊤}
use Rattle.std.specs.Iterator.{MakesProgress, item_count}

pub MakesProgress-first : {A B : Type 0} (old new : List B) (x : A) (b : B) → old ≡ b ∷ new → MakesProgress (λ _. ⊤) (item_count (λ rest. rest)) old (Some x) new
MakesProgress-first old new x b first = record {
  on = λ finite. (tt, tt, omega (arith, ap length first));
  keeps = tt;
  rests = λ finite. tt;
}
