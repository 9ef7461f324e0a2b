-- Values that counted pointers lead to.
use Rattle.std.specs.Prelude.{List, map}
use Rattle.std.specs.Global.{Global}
use Rattle.std.specs.declared.rc.Rc.{Rc}

-- the values that pointers lead to
abbrev pub pointed_values : {A : Type 0} → List (Rc A Global) → List A
pointed_values rs = map (λ r. r.value) rs
