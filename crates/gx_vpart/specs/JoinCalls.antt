-- Calls of a closure at a row and the one beside it.
use Rattle.std.specs.Prelude.{◌≡◌, Option, Result}
use Rattle.std.specs.Option.{option_copied}
use Rattle.gx_rows.specs.declared.eval_stop.EvalStop.{EvalStop}
use Rattle.gx_rows.specs.declared.vid.Vid.{Vid}
use denote.Ref.{Bor}

-- the closure may be called at a row and the one beside it
abbrev pub MayCallAtPair : {R S : Type 0} → (Vid → Bor R → Bor S → Type 0) → Vid × R × S → Type 0
MayCallAtPair {R} {S} pre at = (row : Bor R) (other : Bor S) → row.now ≡ at.1 → other.now ≡ at.2 → pre at.0 row other

-- the closure may return this at a row and the one beside it
abbrev pub ReturnsAtPair : {R S B : Type 0} → (Vid → Bor R → Bor S → Result B EvalStop → Type 0) → Vid × R × S → Result B EvalStop → Type 0
ReturnsAtPair {R} {S} post at returned = (row : Bor R) × (other : Bor S) × (row.now ≡ at.1) × (other.now ≡ at.2) × post at.0 row other returned

-- the closure may be called at a row and the one beside it, if there is one
abbrev pub MayCallBeside : {R S : Type 0} → (Vid → Bor R → Option (Bor S) → Type 0) → Vid × R × Option S → Type 0
MayCallBeside {R} {S} pre at = (row : Bor R) (other : Option (Bor S)) → row.now ≡ at.1 → option_copied other ≡ at.2 → pre at.0 row other

-- the closure may return this at a row and the one beside it, if there is one
abbrev pub ReturnsBeside : {R S B : Type 0} → (Vid → Bor R → Option (Bor S) → Result B EvalStop → Type 0) → Vid × R × Option S → Result B EvalStop → Type 0
ReturnsBeside {R} {S} post at returned = (row : Bor R) × (other : Option (Bor S)) × (row.now ≡ at.1) × (option_copied other ≡ at.2) × post at.0 row other returned
