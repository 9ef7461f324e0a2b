-- A traversal: a closure is applied to each item of a list in order, up to the first fault.
--
-- `returns item answer` says that the closure may return this at the item. Its contract may allow
-- several answers; a closure that computes a function allows one, and `exact` then gives the result.
use Rattle.std.specs.Prelude.{◌≡◌, ℕ, pos, List, [], ◌∷◌, ◌++◌, Result, Ok, Err, ⊤, refl}
use Rattle.std.specs.List.{AllZip}
use Rattle.gx_rows.specs.Results.{try_cons}
use Rattle.gx_rows.specs.declared.cause.Cause.{Cause}
use Rattle.gx_rows.specs.declared.cause.Cause.TheVariants.{Overflow}
use Rattle.gx_rows.specs.declared.eval_stop.EvalStop.{EvalStop}
use Rattle.gx_rows.specs.declared.eval_stop.EvalStop.TheVariants as eval_stop
use Rattle.gx_rows.specs.declared.part_stop.PartStop.{PartStop}
use Rattle.gx_rows.specs.declared.part_stop.PartStop.TheVariants as part_stop
use Rattle.gx_rows.specs.declared.row_key.RowKey.{RowKey}
use Rattle.gx_rows.specs.declared.row_key.RowKey.TheVariants.{Vertex}

-- the closure returned a fault at an item, with this key, node and cause, and a value at each item
-- before it
pub record StopsAtFault {A B : Type 0} (returns : A → Result B EvalStop → Type 0) (key : A → RowKey) (xs : List A) (k : RowKey) (node : ℕ) (cause : Cause) : Type 0 where
  pub before : List A
  pub item : A
  pub after : List A
  pub values : List B
  pub split : xs ≡ before ++ item ∷ after
  pub fine : AllZip (λ x y. returns x (Ok y)) before values
  pub fault : returns item (Err (eval_stop.Fault cause node))
  pub keyed : k ≡ key item

-- the result of a traversal: what `makes` allows for the values that the closure returned, one for
-- each item; or the first fault; or out of memory, of which nothing is said
abbrev pub TraversalResult : {A B V : Type 0} → (A → Result B EvalStop → Type 0) → (A → RowKey) → List A → (List B → V → Type 0) → Result V PartStop → Type 0
TraversalResult {B = B} returns key xs makes (Ok v) = (ys : List B) × AllZip (λ x y. returns x (Ok y)) xs ys × makes ys v
TraversalResult returns key xs makes (Err part_stop.NoMemory) = ⊤
TraversalResult returns key xs makes (Err (part_stop.Fault k node cause)) = StopsAtFault returns key xs k node cause

-- the same as a record, so that lemmas find the closure, the key and the list
pub record IsTraversal {A B V : Type 0} (returns : A → Result B EvalStop → Type 0) (key : A → RowKey) (xs : List A) (makes : List B → V → Type 0) (result : Result V PartStop) : Type 0 where
  pub says : TraversalResult returns key xs makes result

-- ---- a closure that computes a function

-- a value, or a cause with the node that has none, with the key of its item
abbrev pub with_key : {B : Type 0} → RowKey → Result B (Cause × ℕ) → Result B (RowKey × ℕ × Cause)
with_key k (Ok value) = Ok value
with_key k (Err fault) = Err (k, fault.1, fault.0)

-- what the function gives at each item, in order; or its first fault, with the key of the item
unfoldable pub traversal_of : {A B : Type 0} → (A → RowKey) → (A → Result B (Cause × ℕ)) → List A → Result (List B) (RowKey × ℕ × Cause)
traversal_of key g [] = Ok []
traversal_of key g (x ∷ xs) = try_cons (with_key (key x) (g x)) (traversal_of key g xs)

-- what the closure returned is what the function gives, or out of memory
abbrev pub AgreesWith : {B : Type 0} → Result B EvalStop → Result B (Cause × ℕ) → Type 0
AgreesWith (Ok value) meant = meant ≡ Ok value
AgreesWith (Err eval_stop.NoMemory) meant = ⊤
AgreesWith (Err (eval_stop.Fault cause node)) meant = meant ≡ Err (cause, node)

-- the result is what `makes` allows for the values, or that fault, or out of memory
abbrev pub IsResultOf : {B V : Type 0} → (List B → V → Type 0) → Result V PartStop → Result (List B) (RowKey × ℕ × Cause) → Type 0
IsResultOf {B} makes (Ok v) meant = (ys : List B) × (meant ≡ Ok ys) × makes ys v
IsResultOf makes (Err part_stop.NoMemory) meant = ⊤
IsResultOf makes (Err (part_stop.Fault k node cause)) meant = meant ≡ Err (k, node, cause)

module _ {A B : Type 0} {returns : A → Result B EvalStop → Type 0} (key : A → RowKey) (g : A → Result B (Cause × ℕ)) (agrees : (x : A) (s : Result B EvalStop) → returns x s → AgreesWith s (g x)) where
  traversal_of-values : (xs : List A) (ys : List B) → AllZip (λ x y. returns x (Ok y)) xs ys → traversal_of key g xs ≡ Ok ys
  unfolding traversal_of
  traversal_of-values [] [] all = refl
  traversal_of-values [] (y ∷ ys) all = absurd all
  traversal_of-values (x ∷ xs) [] all = absurd all
  traversal_of-values (x ∷ xs) (y ∷ ys) all = rw (agrees x (Ok y) all.0, traversal_of-values xs ys all.1) refl

  traversal_of-fault : (before : List A) (item : A) (after : List A) (ys : List B) (node : ℕ) (cause : Cause)
      → AllZip (λ x y. returns x (Ok y)) before ys → returns item (Err (eval_stop.Fault cause node))
      → traversal_of key g (before ++ item ∷ after) ≡ Err (key item, node, cause)
  unfolding traversal_of
  traversal_of-fault [] item after ys node cause all fault = rw (agrees item (Err (eval_stop.Fault cause node)) fault) refl
  traversal_of-fault (x ∷ before) item after [] node cause all fault = absurd all
  traversal_of-fault (x ∷ before) item after (y ∷ ys) node cause all fault =
      rw (agrees x (Ok y) all.0, traversal_of-fault before item after ys node cause all.1 fault) refl

-- if the closure computes a function, the result is the function's list, or the function's first
-- fault exactly if it has one
pub exact : {A B V : Type 0} {returns : A → Result B EvalStop → Type 0} {key : A → RowKey} {xs : List A} {makes : List B → V → Type 0} {result : Result V PartStop} (g : A → Result B (Cause × ℕ))
    → IsTraversal returns key xs makes result → ((x : A) (s : Result B EvalStop) → returns x s → AgreesWith s (g x)) → IsResultOf makes result (traversal_of key g xs)
exact {key = key} {xs = xs} {result = Ok v} g traversal agrees =
    let said = traversal.says in
    (said.0, traversal_of-values key g agrees xs said.0 said.1, said.2)
exact {result = Err part_stop.NoMemory} g traversal agrees = tt
exact {key = key} {xs = xs} {result = Err (part_stop.Fault k node cause)} g traversal agrees =
    let said = traversal.says in
    rw (said.split, said.keyed) (traversal_of-fault key g agrees said.before said.item said.after said.values node cause said.fine said.fault)

-- the second of two identifiers has no value
traversal_of-example : traversal_of {B = ℕ} (λ i. Vertex (record { 0 = i })) (λ i. Err (Overflow, 7)) (pos 1 ∷ []) ≡ Err (Vertex (record { 0 = pos 1 }), 7, Overflow)
unfolding traversal_of
traversal_of-example = refl
