-- Lists of shared values.
use Rattle.std.specs.Prelude.{List, map}
use Rattle.std.specs.Global.{Global}
use Rattle.std.specs.declared.rc.Rc.{Rc}

-- the values that are shared, in order
abbrev pub shared_values : {T : Type 0} → List (Rc T Global) → List T
shared_values rs = map (λ r. r.value) rs
