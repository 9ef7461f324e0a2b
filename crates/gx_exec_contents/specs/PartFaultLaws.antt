-- The least fault of the parts of a statement's vertices is the least of all.
use Rattle.std.proofs.Common.{◌≡◌, ℕ, zero, suc, ◌+◌, ◌<◌, ◌≤◌, ◌==◌, ◌%◌, Bool, true, false, cond, List, [], ◌∷◌, Option, Some, None, Result, Ok, Err, is_some, option_map, refl, sym, ap, ◌∙◌, subst, arith}
use Rattle.std.proofs.Math.Nat.{mod-lt}
use Rattle.std.proofs.lemmas.Bool.Decides.{nat_tests}
use Rattle.std.specs.List.{AllByRecursion, cons_option, range_with_len}
use Rattle.std.specs.List.Sorted.{IsStrictlySortedBy}
use Rattle.std.specs.Map.{keys_of}
use Rattle.std.specs.Option.{IfSome, option_or}
use Rattle.std.specs.Ordering.{is_gt, ordering_reverse}
use Rattle.std.specs.declared.cmp.Ordering.TheVariants.{Less, Greater}
use Rattle.gx_cuts.specs.Mixing.{mix_of}
use Rattle.gx_expr.specs.declared.expr.Expr.{Expr}
use Rattle.gx_gops.specs.Tables.{is_in_part}
use Rattle.gx_index.specs.Ids.{IsAscending, id_cmp, id_cmp-total}
use Rattle.gx_model.specs.Graphs.{Vertex, first_row_of}
use Rattle.gx_model.specs.StmtFaults.{KeyFault, fault_of_stmt, fault_on_vertex, faults_on_vertices, key_fault_if, least_fault}
use Rattle.gx_model.specs.Values.{join_row_result, vertex_row_result, vertex_test_result, vertices_in_both}
use Rattle.gx_model.specs.LeastFaultLaws.{least_fault-first}
use Rattle.gx_plan.specs.Recipes.{recipe_of}
use Rattle.gx_plan.specs.StmtNodes.{statement_of}
use Rattle.gx_plan.specs.declared.kind.Kind.{Kind}
use Rattle.gx_plan.specs.declared.kind.Kind.TheVariants as kind
use Rattle.gx_plan.specs.declared.recipe.Recipe.{Recipe}
use Rattle.gx_rows.specs.Order.{edge_cmp-total}
use Rattle.gx_rows.specs.declared.cause.Cause.{Cause}
use Rattle.gx_rows.specs.declared.row_key.RowKey.{RowKey}
use Rattle.gx_rows.specs.declared.row_key.RowKey.TheVariants as row_key
use Rattle.gx_rows.specs.declared.vid.Vid.{Vid}
use Rattle.gx_types_stmts.specs.declared.typed_stmt.TypedStmt.{TypedStmt}
use Rattle.gx_types_stmts.specs.declared.typed_stmt.TypedStmt.TheVariants as stmts
use Rattle.gx_exec_contents.specs.PartContents.{BlockStop, fault_kind, part_of_value, part_of_vertices, stop_on_vertex, stop_over_vertices}
use Rattle.gx_exec_contents.specs.PhaseFaults.{LeastAreFaults, OwnFaultsAreOfModel, fault_of_stop, key_cmp, least_over, lesser_of}
use Rattle.gx_exec_contents.specs.Worlds.{World, placed_values, value_in}
use Rattle.gx_exec_contents.specs.MadeTableLaws.{both-in_part, join_faults-in_part}
use Rattle.gx_exec_contents.specs.StatementValueLaws.{value-placed}
use Rattle.gx_exec_contents.specs.TablePartLaws.{IsAscending-part, IsAscending-passing, below-passing}

-- ---- the least of stops over parts

key_cmp-turned : (a b : RowKey) → key_cmp a b ≡ ordering_reverse (key_cmp b a)
key_cmp-turned (row_key.Vertex a) (row_key.Vertex b) = id_cmp-total.antisymm a b
key_cmp-turned (row_key.Vertex a) (row_key.Edge src dst row) = refl
key_cmp-turned (row_key.Edge src dst row) (row_key.Vertex b) = refl
key_cmp-turned (row_key.Edge a b r) (row_key.Edge c d s) = edge_cmp-total.antisymm (a, b, r) (c, d, s)

-- the stop s comes before this one
abbrev IsBeforeStop : BlockStop → BlockStop → Type 0
IsBeforeStop s t = key_cmp s.key t.key ≡ Less

before_lesser : (s : BlockStop) (u v : Option BlockStop) → IfSome u (IsBeforeStop s) → IfSome v (IsBeforeStop s) → IfSome (lesser_of u v) (IsBeforeStop s)
before_lesser s None v first second = second
before_lesser s (Some t) None first second = first
before_lesser s (Some t) (Some o) first second = by (is_gt (key_cmp t.key o.key))
  where
    by : (b : Bool) → IsBeforeStop s (cond b o t)
    by true = second
    by false = first

first-lesser : (s : BlockStop) (v : Option BlockStop) → IfSome v (IsBeforeStop s) → lesser_of (Some s) v ≡ Some s
first-lesser s None before = refl
first-lesser s (Some t) before = rw before refl

second-lesser : (s : BlockStop) (u : Option BlockStop) → IfSome u (IsBeforeStop s) → lesser_of u (Some s) ≡ Some s
second-lesser s None before = refl
second-lesser s (Some t) before =
    let greater : key_cmp t.key s.key ≡ Greater = key_cmp-turned t.key s.key ∙ ap ordering_reverse before in
    rw greater refl

module _ (f : ℕ → Option BlockStop) (s : BlockStop) (k : ℕ) (at : (j : ℕ) → (k == j) ≡ true → f j ≡ Some s) (other : (j : ℕ) → (k == j) ≡ false → IfSome (f j) (IsBeforeStop s)) where
  least-after : (a n : ℕ) → k < a → IfSome (least_over f (range_with_len a n)) (IsBeforeStop s)
  least-after a zero after = tt
  least-after a (suc n) after =
      let apart : (k == a) ≡ false = grind (arith, nat_tests) in
      before_lesser s (f a) (least_over f (range_with_len (a + 1) n)) (other a apart) (least-after (a + 1) n (omega arith))

  -- one part has s, and the others later ones
  least-found : (a n : ℕ) → a ≤ k → k < a + n → least_over f (range_with_len a n) ≡ Some s
  least-found a zero from below = absurd (omega arith)
  least-found a (suc n) from below =
      by (k == a) refl
      (λ here. least-after (a + 1) n (let same : k ≡ a = grind (arith, nat_tests) in omega arith))
      (λ apart. least-found (a + 1) n (let more : a + 1 ≤ k = grind (arith, nat_tests) in more) (omega arith))
    where
      by : (b : Bool) → (k == a) ≡ b
          → ((k == a) ≡ true → IfSome (least_over f (range_with_len (a + 1) n)) (IsBeforeStop s))
          → ((k == a) ≡ false → least_over f (range_with_len (a + 1) n) ≡ Some s)
          → lesser_of (f a) (least_over f (range_with_len (a + 1) n)) ≡ Some s
      by true e later more = ap (λ u. lesser_of u (least_over f (range_with_len (a + 1) n))) (at a e) ∙ first-lesser s (least_over f (range_with_len (a + 1) n)) (later e)
      by false e later more = ap (λ v. lesser_of (f a) v) (more e) ∙ second-lesser s (f a) (other a e)

least-none : (js : List ℕ) → least_over (λ j. None) js ≡ None
least-none [] = refl
least-none (j ∷ js) = least-none js

-- ---- faults on vertices

rest_of_ascending : (v : Vertex) (vertices : List Vertex) → IsAscending (keys_of (v ∷ vertices)) → IsAscending (keys_of vertices) × AllByRecursion (λ y. id_cmp v.0 y ≡ Less) (keys_of vertices)
unfolding IsStrictlySortedBy
rest_of_ascending v vertices ascending = (ascending.1, ascending.0)

module _ {A : Type 0} (result : Vertex → Result A (Cause × ℕ)) where
  -- the stop of these vertices
  abbrev stop_on : List Vertex → Option BlockStop
  stop_on vertices = stop_over_vertices result vertices

  stop_on-first : (v : Vertex) (vertices : List Vertex) (e : Cause × ℕ) → IsAscending (keys_of (v ∷ vertices)) → result v ≡ Err e → stop_on (v ∷ vertices) ≡ Some (stop_on_vertex (v.0, e))
  stop_on-first v vertices e ascending is = ap (option_map stop_on_vertex) (least_fault-first result v vertices e ascending is)

  stop_on-passed : (v : Vertex) (vertices : List Vertex) (x : A) → result v ≡ Ok x → stop_on (v ∷ vertices) ≡ stop_on vertices
  stop_on-passed v vertices x is = ap (λ r. option_map stop_on_vertex (least_fault id_cmp (cons_option (key_fault_if v.0 r) (faults_on_vertices result vertices)))) is

  -- what is below all vertices is below the one of the stop
  stop_on-above : (z : Vid) (e : Cause × ℕ) (vertices : List Vertex) → IsAscending (keys_of vertices) → AllByRecursion (λ y. id_cmp z y ≡ Less) (keys_of vertices)
      → IfSome (stop_on vertices) (IsBeforeStop (stop_on_vertex (z, e)))
  stop_on-above z e [] ascending below = tt
  stop_on-above z e (v ∷ vertices) ascending below =
      by (result v) refl (stop_on-above z e vertices (rest_of_ascending v vertices ascending).0 below.1)
    where
      by : (r : Result A (Cause × ℕ)) → result v ≡ r → IfSome (stop_on vertices) (IsBeforeStop (stop_on_vertex (z, e))) → IfSome (stop_on (v ∷ vertices)) (IsBeforeStop (stop_on_vertex (z, e)))
      by (Ok x) is more = subst (λ u. IfSome u (IsBeforeStop (stop_on_vertex (z, e)))) (sym (stop_on-passed v vertices x is)) more
      by (Err f) is more = subst (λ u. IfSome u (IsBeforeStop (stop_on_vertex (z, e)))) (sym (stop_on-first v vertices f ascending is)) below.0

  passed-in_part : (parts : ℕ) (v : Vertex) (vertices : List Vertex) (x : A) → result v ≡ Ok x → (j : ℕ) → stop_on (part_of_vertices parts j (v ∷ vertices)) ≡ stop_on (part_of_vertices parts j vertices)
  passed-in_part parts v vertices x is j = by (is_in_part j parts v.0)
    where
      by : (b : Bool) → stop_on (cond b (v ∷ part_of_vertices parts j vertices) (part_of_vertices parts j vertices)) ≡ stop_on (part_of_vertices parts j vertices)
      by true = stop_on-passed v (part_of_vertices parts j vertices) x is
      by false = refl

  pub least-of_parts : (parts : ℕ) → 0 < parts → (vertices : List Vertex) → IsAscending (keys_of vertices)
      → least_over (λ j. stop_on (part_of_vertices parts j vertices)) (range_with_len 0 parts) ≡ stop_on vertices
  least-of_parts parts some [] ascending = least-none (range_with_len 0 parts)
  least-of_parts parts some (v ∷ vertices) ascending =
      by (result v) refl (least-of_parts parts some vertices (rest_of_ascending v vertices ascending).0)
    where
      by : (r : Result A (Cause × ℕ)) → result v ≡ r → least_over (λ j. stop_on (part_of_vertices parts j vertices)) (range_with_len 0 parts) ≡ stop_on vertices
          → least_over (λ j. stop_on (part_of_vertices parts j (v ∷ vertices))) (range_with_len 0 parts) ≡ stop_on (v ∷ vertices)
      by (Ok x) is more =
          ap (λ f. least_over f (range_with_len 0 parts)) (λ i j. passed-in_part parts v vertices x is j i) ∙ more ∙ sym (stop_on-passed v vertices x is)
      by (Err e) is more =
          let rest = rest_of_ascending v vertices ascending in
          let within : mix_of v.0.0 % parts < parts = mod-lt (mix_of v.0.0) some in
          least-found (λ j. stop_on (part_of_vertices parts j (v ∷ vertices))) (stop_on_vertex (v.0, e)) (mix_of v.0.0 % parts)
          (λ j here. ap (λ b. stop_on (cond b (v ∷ part_of_vertices parts j vertices) (part_of_vertices parts j vertices))) here
          ∙ stop_on-first v (part_of_vertices parts j vertices) e
          (subst (λ b. IsAscending (keys_of (cond b (v ∷ part_of_vertices parts j vertices) (part_of_vertices parts j vertices)))) here (IsAscending-part parts j (v ∷ vertices) ascending)) is)
          (λ j apart. subst (λ b. IfSome (stop_on (cond b (v ∷ part_of_vertices parts j vertices) (part_of_vertices parts j vertices))) (IsBeforeStop (stop_on_vertex (v.0, e)))) (sym apart)
          (stop_on-above v.0 e (part_of_vertices parts j vertices) (IsAscending-part parts j vertices rest.0) (below-passing (λ y. is_in_part j parts y.0) v.0 vertices rest.1)))
          0 parts (omega arith) (omega (arith, within))
          ∙ sym (stop_on-first v vertices e ascending is)

-- ---- each statement

least-kind : (w : World) → 0 < w.parts → (r : Recipe) (k : Kind) (st : TypedStmt)
    → least_over (λ j. fault_kind w k r (part_of_value k w.parts j) st) (range_with_len 0 w.parts) ≡ fault_kind w k r (λ g. g) st
least-kind w some r kind.Vertices (stmts.MapVertices g sets) =
    least-of_parts (vertex_row_result sets) w.parts some (value_in w g).vertices (value-placed w some g).ascending
least-kind w some r kind.Vertices (stmts.Filter t condition) =
    least-of_parts (vertex_test_result condition) w.parts some (value_in w t).vertices (value-placed w some t).ascending
least-kind w some r kind.Vertices (stmts.MapValues t sets) =
    least-of_parts (vertex_row_result sets) w.parts some (value_in w t).vertices (value-placed w some t).ascending
least-kind w some r kind.Vertices (stmts.InnerJoin t u sets) =
    let xs : List Vertex = (value_in w t).vertices in
    let ys : List Vertex = (value_in w u).vertices in
    ap (λ f. least_over f (range_with_len 0 w.parts)) (λ i j. in_part w.parts sets xs ys j i)
    ∙ least-of_parts (join_row_result sets ys []) w.parts some (vertices_in_both xs ys) (IsAscending-passing (λ v. is_some (first_row_of ys v.0)) xs (value-placed w some t).ascending)
  where
    in_part : (parts : ℕ) (sets : List Expr) (xs ys : List Vertex) (j : ℕ)
        → stop_over_vertices (join_row_result sets (part_of_vertices parts j ys) []) (vertices_in_both (part_of_vertices parts j xs) (part_of_vertices parts j ys))
        ≡ stop_over_vertices (join_row_result sets ys []) (part_of_vertices parts j (vertices_in_both xs ys))
    in_part parts sets xs ys j =
        ap (stop_over_vertices (join_row_result sets (part_of_vertices parts j ys) [])) (both-in_part parts j ys xs)
        ∙ join_faults-in_part parts j ys sets [] (vertices_in_both xs ys)
least-kind w some r kind.Vertices (stmts.LeftJoin t u default sets) =
    let xs : List Vertex = (value_in w t).vertices in
    let ys : List Vertex = (value_in w u).vertices in
    ap (λ f. least_over f (range_with_len 0 w.parts)) (λ i j. join_faults-in_part w.parts j ys sets default xs i)
    ∙ least-of_parts (join_row_result sets ys default) w.parts some xs (value-placed w some t).ascending
least-kind w some r kind.Vertices _ = least-none (range_with_len 0 w.parts)
least-kind w some r kind.Edges _ = least-none (range_with_len 0 w.parts)

-- the least fault of the parts of a node is the fault of its statement
pub least-are_faults : LeastAreFaults
least-are_faults w world r = least-kind w world.some_parts r r.kind (statement_of w.script r.statement)

fault-again : (s : ℕ) (f : Option (KeyFault Vid)) → option_map (fault_on_vertex s) f ≡ option_map (fault_of_stop s) (option_map stop_on_vertex f)
fault-again s None = refl
fault-again s (Some f) = refl

-- the fault of a node of vertices is that of the model
faults-are_of_model : (w : World) (s : ℕ) (st : TypedStmt)
    → fault_of_stmt (placed_values w) s st ≡ option_map (fault_of_stop s) (fault_kind w kind.Vertices (recipe_of kind.Vertices s) (λ g. g) st)
faults-are_of_model w s (stmts.MapVertices g sets) = fault-again s (least_fault id_cmp (faults_on_vertices (vertex_row_result sets) (value_in w g).vertices))
faults-are_of_model w s (stmts.Filter t condition) = fault-again s (least_fault id_cmp (faults_on_vertices (vertex_test_result condition) (value_in w t).vertices))
faults-are_of_model w s (stmts.MapValues t sets) = fault-again s (least_fault id_cmp (faults_on_vertices (vertex_row_result sets) (value_in w t).vertices))
faults-are_of_model w s (stmts.InnerJoin t u sets) =
    fault-again s (least_fault id_cmp (faults_on_vertices (join_row_result sets (value_in w u).vertices []) (vertices_in_both (value_in w t).vertices (value_in w u).vertices)))
faults-are_of_model w s (stmts.LeftJoin t u default sets) =
    fault-again s (least_fault id_cmp (faults_on_vertices (join_row_result sets (value_in w u).vertices default) (value_in w t).vertices))
faults-are_of_model w s _ = refl

given-alone : {X : Type 0} (x : Option X) → option_or x None ≡ x
given-alone None = refl
given-alone (Some x) = refl

-- the first fault of a statement's own nodes is that of the model
pub own-faults_are_of_model : OwnFaultsAreOfModel
own-faults_are_of_model w s (stmts.MapVertices g sets) =
    given-alone (option_map (fault_of_stop s) (fault_kind w kind.Vertices (recipe_of kind.Vertices s) (λ g. g) (stmts.MapVertices g sets))) ∙ sym (faults-are_of_model w s (stmts.MapVertices g sets))
own-faults_are_of_model w s (stmts.Filter t condition) =
    given-alone (option_map (fault_of_stop s) (fault_kind w kind.Vertices (recipe_of kind.Vertices s) (λ g. g) (stmts.Filter t condition))) ∙ sym (faults-are_of_model w s (stmts.Filter t condition))
own-faults_are_of_model w s (stmts.MapValues t sets) =
    given-alone (option_map (fault_of_stop s) (fault_kind w kind.Vertices (recipe_of kind.Vertices s) (λ g. g) (stmts.MapValues t sets))) ∙ sym (faults-are_of_model w s (stmts.MapValues t sets))
own-faults_are_of_model w s (stmts.InnerJoin t u sets) =
    given-alone (option_map (fault_of_stop s) (fault_kind w kind.Vertices (recipe_of kind.Vertices s) (λ g. g) (stmts.InnerJoin t u sets))) ∙ sym (faults-are_of_model w s (stmts.InnerJoin t u sets))
own-faults_are_of_model w s (stmts.LeftJoin t u default sets) =
    given-alone (option_map (fault_of_stop s) (fault_kind w kind.Vertices (recipe_of kind.Vertices s) (λ g. g) (stmts.LeftJoin t u default sets))) ∙ sym (faults-are_of_model w s (stmts.LeftJoin t u default sets))
own-faults_are_of_model w s _ = refl
