-- Which blocks are held and run after a change.
use Rattle.std.proofs.Common.{
  ◌≡◌,
  ◌∙◌,
  ℕ,
  suc,
  zero,
  Bool,
  true,
  false,
  ◌||◌,
  cond,
  List,
  [],
  ◌∷◌,
  Option,
  Some,
  None,
  set,
  refl,
  ap,
  sym,
}
use Rattle.std.specs.Prelude.{is_some, slice_get}
use Rattle.std.specs.List.{list_any}
use Rattle.std.specs.Map.{lookup}
use Rattle.gx_rows.specs.declared.vid.Vid.{Vid}
use Rattle.gx_lineage.specs.declared.block_id.BlockId.{BlockId}
use Rattle.gx_cluster_state.specs.Blocks.{same_block}
use Rattle.gx_cluster_state.specs.Shapes.{Shape, is_held, is_running, finished, runs_block, started}
use Rattle.gx_cluster_state.specs.PositionLaws.{list_any-at}
use Rattle.gx_cluster_state.specs.BlockLaws.{lookup-insert_entry}

or_swap : (a b c : Bool) → (a || (b || c)) ≡ (b || (a || c))
or_swap true true c = refl
or_swap true false c = refl
or_swap false b c = refl

-- one place of a list is overwritten
pub list_any-set : {X : Type 0} (p : X → Bool) (xs : List X) (i : ℕ) (x y : X)
    → slice_get xs i ≡ Some x → p x ≡ false
    → list_any p (set xs i y) ≡ (p y || list_any p xs)
list_any-set p [] i x y h f = cc
list_any-set p (z ∷ zs) zero x y h f =
    let same : z ≡ x = cc in
    let fails : p z ≡ false = ap p same ∙ f in
    ap (λ (t : Bool). p y || (t || list_any p zs)) (sym fails)
list_any-set p (z ∷ zs) (suc i) x y h f =
    ap (λ (t : Bool). p z || t) (list_any-set p zs i x y h f) ∙ or_swap (p z) (p y) (list_any p zs)

is_some-cond : {A : Type 0} (t : Bool) (v : A) (o : Option A)
    → is_some (cond t (Some v) o) ≡ (t || is_some o)
is_some-cond true v o = refl
is_some-cond false v o = refl

pub is_held-started : (s : Shape) (w : ℕ) (b q : BlockId) → is_held (started s w b) q ≡ is_held s q
unfolding is_held started
is_held-started s w b q = refl

pub is_held-finished : (s : Shape) (w : ℕ) (b : BlockId) (cargo : List (ℕ × Vid)) (q : BlockId)
    → is_held (finished s w b cargo) q ≡ (same_block b q || is_held s q)
unfolding is_held finished
is_held-finished s w b cargo q =
    ap is_some (lookup-insert_entry s.held b q w)
    ∙ is_some-cond (same_block b q) w (lookup (same_block q) s.held)

-- an idle worker starts a block
pub is_running-started : (s : Shape) (w : ℕ) (b q : BlockId) → slice_get s.running w ≡ Some None
    → is_running (started s w b) q ≡ (same_block q b || is_running s q)
unfolding is_running started
is_running-started s w b q h = list_any-set (runs_block q) s.running w None (Some b) h refl

-- a worker finishes another block than q
pub is_running-finished : (s : Shape) (w : ℕ) (b : BlockId) (cargo : List (ℕ × Vid)) (q : BlockId)
    → slice_get s.running w ≡ Some (Some b)
    → same_block q b ≡ false → is_running (finished s w b cargo) q ≡ is_running s q
unfolding is_running finished
is_running-finished s w b cargo q h f = list_any-set (runs_block q) s.running w (Some b) None h f

-- a worker runs a block
pub is_running-busy : (s : Shape) (w : ℕ) (b q : BlockId) → slice_get s.running w ≡ Some (Some b)
    → same_block q b ≡ true → is_running s q ≡ true
unfolding is_running
is_running-busy s w b q h t = list_any-at (runs_block q) s.running w (Some b) h t
