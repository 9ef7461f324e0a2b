-- Calls of a closure at a vertex or at an edge. The closure is given the identifiers by value and
-- the row by reference, and the list has the row itself.
use Rattle.std.specs.Prelude.{◌≡◌, Result}
use Rattle.gx_rows.specs.declared.eval_stop.EvalStop.{EvalStop}
use Rattle.gx_rows.specs.declared.vid.Vid.{Vid}
use denote.Ref.{Bor}

-- the closure may be called at a vertex and its row
abbrev pub MayCallAtVertex : {T : Type 0} → (Vid → Bor T → Type 0) → Vid × T → Type 0
MayCallAtVertex {T} pre at = (row : Bor T) → row.now ≡ at.1 → pre at.0 row

-- the closure may return this at a vertex and its row
abbrev pub ReturnsAtVertex : {T B : Type 0} → (Vid → Bor T → Result B EvalStop → Type 0) → Vid × T → Result B EvalStop → Type 0
ReturnsAtVertex {T} post at returned = (row : Bor T) × (row.now ≡ at.1) × post at.0 row returned

-- the closure may be called at the two ends of an edge and its row
abbrev pub MayCallAtEdge : {T : Type 0} → (Vid → Vid → Bor T → Type 0) → Vid × Vid × T → Type 0
MayCallAtEdge {T} pre at = (row : Bor T) → row.now ≡ at.2 → pre at.0 at.1 row

-- the closure may return this at the two ends of an edge and its row
abbrev pub ReturnsAtEdge : {T B : Type 0} → (Vid → Vid → Bor T → Result B EvalStop → Type 0) → Vid × Vid × T → Result B EvalStop → Type 0
ReturnsAtEdge {T} post at returned = (row : Bor T) × (row.now ≡ at.2) × post at.0 at.1 row returned
