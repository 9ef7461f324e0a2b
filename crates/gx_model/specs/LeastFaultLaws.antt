-- The least fault of faults whose keys ascend is the first.
use Rattle.std.proofs.Common.{
  ◌≡◌,
  cond,
  List,
  [],
  ◌∷◌,
  Option,
  None,
  Some,
  Result,
  Ok,
  Err,
  refl,
  ap,
  Bool,
  true,
  false,
  ℕ,
}
use Rattle.std.specs.declared.cmp.Ordering.TheVariants.{Less}
use Rattle.std.specs.List.{AllByRecursion, cons_option}
use Rattle.std.specs.List.Sorted.{IsStrictlySortedBy}
use Rattle.std.specs.Map.{keys_of}
use Rattle.std.specs.Ordering.{is_gt}
use Rattle.std.specs.Option.{IfSome}
use Rattle.gx_rows.specs.declared.cause.Cause.{Cause}
use Rattle.gx_rows.specs.declared.vid.Vid.{Vid}
use Rattle.gx_index.specs.Ids.{IsAscending, id_cmp}
use Rattle.gx_model.specs.Graphs.{Vertex}
use Rattle.gx_model.specs.StmtFaults.{
  KeyFault,
  faults_on_vertices,
  key_fault_if,
  least_fault,
  lesser_fault,
}

-- a key is less than that of a fault
abbrev IsBefore : Vid → KeyFault Vid → Type 0
IsBefore v f = id_cmp v f.0 ≡ Less

least_or : (f : KeyFault Vid) (g : Option (KeyFault Vid)) (v : Vid) → IsBefore v f
    → IfSome g (IsBefore v) → IsBefore v (lesser_fault id_cmp f g)
least_or f None v at more = at
least_or f (Some g) v at more = by (is_gt (id_cmp f.0 g.0))
  where
    by : (b : Bool) → IsBefore v (cond b g f)
    by true = more
    by false = at

-- what is less than all keys is less than the least
before_least : (v : Vid) (faults : List (KeyFault Vid)) → AllByRecursion (IsBefore v) faults
    → IfSome (least_fault id_cmp faults) (IsBefore v)
before_least v [] all = tt
before_least v (f ∷ faults) all =
    least_or f (least_fault id_cmp faults) v all.0 (before_least v faults all.1)

first_is_lesser : (f : KeyFault Vid) (g : Option (KeyFault Vid)) → IfSome g (IsBefore f.0)
    → lesser_fault id_cmp f g ≡ f
first_is_lesser f None before = refl
first_is_lesser f (Some g) before = rw before refl

before_if : {A : Type 0} (v : Vid) (r : Result A (Cause × ℕ)) (w : Vid)
    (faults : List (KeyFault Vid)) → id_cmp v w ≡ Less
    → AllByRecursion (IsBefore v) faults
    → AllByRecursion (IsBefore v) (cons_option (key_fault_if w r) faults)
before_if v (Ok a) w faults at more = more
before_if v (Err f) w faults at more = (at, more)

before_faults : {A : Type 0} (result : Vertex → Result A (Cause × ℕ)) (v : Vid)
    (vertices : List Vertex) → AllByRecursion (λ w. id_cmp v w ≡ Less) (keys_of vertices)
    → AllByRecursion (IsBefore v) (faults_on_vertices result vertices)
before_faults result v [] all = tt
before_faults result v (w ∷ vertices) all =
    before_if v (result w) w.0 (faults_on_vertices result vertices) all.0
    (before_faults result v vertices all.1)

-- the first of ascending vertices has a fault: it is the least
pub least_fault-first : {A : Type 0} (result : Vertex → Result A (Cause × ℕ)) (v : Vertex)
    (vertices : List Vertex) (f : Cause × ℕ) → IsAscending (keys_of (v ∷ vertices))
    → result v ≡ Err f → least_fault id_cmp (faults_on_vertices result (v ∷ vertices))
    ≡ Some (v.0, f)
unfolding IsStrictlySortedBy
least_fault-first result v vertices f ascending e =
    rw e (ap Some (first_is_lesser (v.0, f)
    (least_fault id_cmp (faults_on_vertices result vertices))
    (before_least v.0 (faults_on_vertices result vertices)
    (before_faults result v.0 vertices ascending.0))))
