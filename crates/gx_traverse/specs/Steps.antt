-- The loop of a traversal: what holds of the values so far, one more value, and how it ends.
use Rattle.std.specs.Prelude.{◌≡◌, List, [], ◌∷◌, ◌++◌, Result, Ok, Err, Vec, length, refl}
use Rattle.std.specs.Global.{Global}
use Rattle.std.specs.List.{AllZip}
use Rattle.std.proofs.Common.{append_assoc}
use Rattle.std.proofs.lemmas.List.{append-nil}
use Rattle.std.proofs.lemmas.Slice.Zip.{AllZip-long, all_zipped_more}
use Rattle.gx_rows.specs.declared.eval_stop.EvalStop.{EvalStop}
use Rattle.gx_rows.specs.declared.eval_stop.EvalStop.TheVariants as eval_stop
use Rattle.gx_rows.specs.declared.part_stop.PartStop.{PartStop}
use Rattle.gx_rows.specs.declared.part_stop.PartStop.TheVariants as part_stop
use Rattle.gx_rows.specs.declared.row_key.RowKey.{RowKey}
use Rattle.gx_traverse.specs.Traversal.{IsTraversal}

-- the refusal of a kernel whose closure stopped at the item of this key
abbrev pub stopped_at : RowKey → EvalStop → PartStop
stopped_at key (eval_stop.Fault cause node) = part_stop.Fault key node cause
stopped_at key eval_stop.NoMemory = part_stop.NoMemory

-- each item before the rest has its value
pub record SoFar {A B : Type 0} (returns : A → Result B EvalStop → Type 0) (xs rest : List A) (ys : List B) : Type 0 where
  pub front : List A
  pub split : xs ≡ front ++ rest
  pub fine : AllZip (λ x y. returns x (Ok y)) front ys

-- before the first item
pub SoFar-start : {A B : Type 0} (returns : A → Result B EvalStop → Type 0) (xs : List A) → SoFar {B = B} returns xs xs []
SoFar-start returns xs = record { front = []; split = refl; fine = tt }

-- after one more value
pub SoFar-more : {A B : Type 0} {returns : A → Result B EvalStop → Type 0} {xs left : List A} {ys : List B} (x : A) (rest : List A) (y : B)
    → SoFar returns xs left ys → left ≡ x ∷ rest → returns x (Ok y) → SoFar returns xs rest (ys ++ y ∷ [])
SoFar-more {returns = returns} {ys = ys} x rest y so_far first value =
    let split = so_far.split in
    record {
      front = so_far.front ++ x ∷ [];
      split = rw append_assoc (rw first at split);
      fine = all_zipped_more (λ x y. returns x (Ok y)) so_far.front ys x y so_far.fine value;
    }

-- if no item is left, each has its value
pub SoFar-done : {A B : Type 0} {returns : A → Result B EvalStop → Type 0} {xs left : List A} {ys : List B}
    → SoFar returns xs left ys → left ≡ [] → AllZip (λ x y. returns x (Ok y)) xs ys
SoFar-done {xs = xs} so_far none =
    let split = rw (none, append-nil) at so_far.split in
    rw split so_far.fine

-- a closure that stops at the next item stops the traversal, with the key of that item
pub SoFar-stop : {A B V : Type 0} {returns : A → Result B EvalStop → Type 0} {xs left : List A} {ys : List B} (key : A → RowKey) (makes : List B → V → Type 0) (x : A) (rest : List A) (s : EvalStop)
    → SoFar returns xs left ys → left ≡ x ∷ rest → returns x (Err s) → IsTraversal returns key xs makes (Err (stopped_at (key x) s))
SoFar-stop {ys = ys} key makes x rest (eval_stop.Fault cause node) so_far first stops = record {
  says = record {
    before = so_far.front;
    item = x;
    after = rest;
    values = ys;
    split = rw first at so_far.split;
    fine = so_far.fine;
    fault = stops;
    keyed = refl;
  };
}
SoFar-stop key makes x rest eval_stop.NoMemory so_far first stops = record { says = tt }

-- ---- from a traversal to what is made of its values

-- a refusal is that of the whole
pub IsTraversal-refused : {A B V W : Type 0} {returns : A → Result B EvalStop → Type 0} {key : A → RowKey} {xs : List A} {makes : List B → V → Type 0} {stop : PartStop} (also : List B → W → Type 0)
    → IsTraversal returns key xs makes (Err stop) → IsTraversal returns key xs also (Err stop)
IsTraversal-refused {stop = part_stop.NoMemory} also traversal = record { says = tt }
IsTraversal-refused {stop = part_stop.Fault k node cause} also traversal = record { says = traversal.says }

-- what is made of the values that were returned
pub IsTraversal-then : {A B V W : Type 0} {returns : A → Result B EvalStop → Type 0} {key : A → RowKey} {xs : List A} {makes : List B → V → Type 0} {v : V} (also : List B → W → Type 0) (w : W)
    → IsTraversal returns key xs makes (Ok v) → ((ys : List B) → makes ys v → also ys w) → IsTraversal returns key xs also (Ok w)
IsTraversal-then also w traversal makes = let said = traversal.says in record { says = (said.0, said.1, makes said.0 said.2) }

-- as many values as items
pub IsTraversal-length : {A B : Type 0} {returns : A → Result B EvalStop → Type 0} {key : A → RowKey} {xs : List A} {v : Vec B Global}
    → IsTraversal returns key xs (λ ys values. values.items ≡ ys) (Ok v) → length v.items ≡ length xs
IsTraversal-length {returns = returns} {xs = xs} traversal = let said = traversal.says in rw said.2 (AllZip-long (λ x y. returns x (Ok y)) xs said.0 said.1)
