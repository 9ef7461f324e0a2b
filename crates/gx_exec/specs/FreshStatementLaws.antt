-- A plan with one more statement: what was added.
use Rattle.std.proofs.Common.{◌≡◌, ◌≢◌, ℕ, ◌≤◌, ◌-◌, true, false, List, Option, Some, None, ◌⊎◌, inl, inr, get_or, is_some, length, sym, ap, ◌∙◌, refl, arith}
use Rattle.std.proofs.lemmas.Bool.Decides.{eqb_tells}
use Rattle.std.proofs.lemmas.List.{get_or-set_other, get_or-set_same, length-set}
use Rattle.gx_plan.specs.PlanInvariant.{IsPlan}
use Rattle.gx_plan.specs.Plans.{IsAdded, Planned, own_recipes, result_of, with_number, with_recipes}
use Rattle.gx_plan.specs.StmtNodes.{ScriptWithCut, statement_of}
use Rattle.gx_plan.specs.declared.result_nodes.ResultNodes.{ResultNodes}
use Rattle.gx_plan.specs.OneStatementLaws.{results-kept}
use Rattle.gx_types_stmts.specs.declared.checked_stmt.CheckedStmt.{CheckedStmt}
use Rattle.gx_exec.specs.Courses.{was_added}

none-if_not_some : (o : Option ResultNodes) → is_some o ≡ false → o ≡ None
none-if_not_some None e = refl
none-if_not_some (Some l) e = cc

pub fresh-result : (p : Planned) (s : ℕ) → was_added p s ≡ false → get_or p.results (s - 1) None ≡ None
fresh-result p s fresh = none-if_not_some (get_or p.results (s - 1) None) fresh

pub not_added-fresh : (p : Planned) (s : ℕ) → get_or p.results (s - 1) None ≡ None → was_added p s ≡ false
not_added-fresh p s fresh = ap is_some fresh

pub added-was : (p : Planned) (s : ℕ) → IsAdded p s → was_added p s ≡ true
added-was p s added = added.result

module _ (source : ScriptWithCut) (p : Planned) (s : ℕ) (from_one : 1 ≤ s) where
  abbrev l : ResultNodes
  l = result_of p (statement_of source.script s)

  -- the result of statement s, and of another one
  pub result-here : IsPlan source p → s ≤ length source.script → get_or (with_number source p s).results (s - 1) None ≡ Some (result_of p (statement_of source.script s))
  result-here plan within =
      let old = (with_recipes source p (own_recipes p s (statement_of source.script s))).results in
      get_or-set_same old (s - 1) (Some l) None (omega (arith, from_one, within, plan.results, ap length (results-kept source p (own_recipes p s (statement_of source.script s)))))

  result-other : (n : ℕ) → n - 1 ≢ s - 1 → get_or (with_number source p s).results (n - 1) None ≡ get_or p.results (n - 1) None
  result-other n apart =
      get_or-set_other (with_recipes source p (own_recipes p s (statement_of source.script s))).results (s - 1) (n - 1) (Some l) None apart
      ∙ ap (λ xs. get_or xs (n - 1) None) (results-kept source p (own_recipes p s (statement_of source.script s)))

  pub others-kept : (n : ℕ) → n ≢ s → 1 ≤ n → was_added (with_number source p s) n ≡ was_added p n
  others-kept n apart low = ap is_some (result-other n (λ e. apart (let same : n ≡ s = omega (arith, e, low, from_one) in same)))

  pub added-here : IsPlan source p → s ≤ length source.script → IsAdded (with_number source p s) s
  added-here plan within = record {
    from_one = from_one;
    within = omega (arith, within, plan.results, results-long);
    result = ap is_some (result-here plan within);
  }
    where
      results-long : length (with_number source p s).results ≡ length p.results
      results-long =
          let old = (with_recipes source p (own_recipes p s (statement_of source.script s))).results in
          length-set old (s - 1) (Some (result_of p (statement_of source.script s))) ∙ ap length (results-kept source p (own_recipes p s (statement_of source.script s)))

  pub added-cases : (n : ℕ) → IsAdded (with_number source p s) n → IsAdded p n ⊎ (n ≡ s)
  added-cases n added =
      elim (eqb_tells n s) [
        | inl same ↦ inr same.1
        | inr apart ↦ inl (record {
          from_one = added.from_one;
          within = omega (arith, added.within, length-set (with_recipes source p (own_recipes p s (statement_of source.script s))).results (s - 1) (Some (result_of p (statement_of source.script s))), ap length (results-kept source p (own_recipes p s (statement_of source.script s))));
          result = sym (others-kept n apart.1 added.from_one) ∙ added.result;
        })
      ]
