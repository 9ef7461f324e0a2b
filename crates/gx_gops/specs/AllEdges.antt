-- The edges of several partitions.
use Rattle.std.specs.Prelude.{ℕ, List, [], ◌∷◌, ◌++◌, drop, flat_map}
use Rattle.std.specs.Global.{Global}
use Rattle.std.specs.declared.rc.Rc.{Rc}
use Rattle.gx_rows.specs.Order.{Edge}

-- the edges of these partitions, one partition after another
abbrev pub edges_of_parts : List (Rc (List Edge) Global) → List Edge
edges_of_parts parts = flat_map (λ p. p.value) parts

-- the same without the first i edges of the first partition
abbrev pub edges_after : ℕ → List (Rc (List Edge) Global) → List Edge
edges_after i [] = []
edges_after i (p ∷ parts) = drop i p.value ++ edges_of_parts parts
