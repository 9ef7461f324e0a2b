-- The parser of scripts parses each script, and refuses other tokens at the first token with which no script goes on.
use Rattle.std.proofs.Common.{◌≡◌, ◌≤◌, ◌-◌, suc, true, Result, Ok, Err, List, [], ◌++◌, length, refl, sym, ◌∙◌, ap, subst, arith}
use Rattle.std.proofs.lemmas.List.{append-nil}
use Rattle.gx_syntax_tokens.specs.Terminals.{Terminal}
use Rattle.gx_syntax_exprs.specs.Combinators.{IsExact, many_while}
use Rattle.gx_syntax_exprs.specs.ExactParsers.{ok_same, refused, parsed, length-rest, take-consumed, drop-consumed}
use Rattle.gx_syntax_exprs.specs.ExactRepetition.{many_whole}
use Rattle.gx_syntax_exprs.specs.Expressions.{expression, goes_on, ExpressionsOpen}
use Rattle.gx_syntax_exprs.specs.Grammar.{Spells}
use Rattle.gx_syntax_tree.specs.declared.stmt.Stmt.{Stmt}
use Rattle.gx_syntax_stmts.specs.Forms.{SpellsScript, SpellsStatement, script, statement}
use Rattle.gx_syntax_stmts.specs.Refusals.{IsRefusedAt, IsScriptOutcome}
use Rattle.gx_syntax_stmts.proofs.ExactForms.{script_go, script_exact}

pub not_both : (ts : List Terminal) (s : List Stmt) (a b : List Terminal) → script ts ≡ Ok (s, a) → script ts ≡ Err b → ⊥
not_both ts s a b e h = absurd (let lie : ◌≡◌ {A = Result (List Stmt × List Terminal) (List Terminal)} (Ok (s, a)) (Err b) = sym e ∙ h in cc)

nothing_remains : (ts : List Terminal) (s : List Stmt) (rest : List Terminal) → script ts ≡ Ok (s, rest) → rest ≡ []
unfolding script many_while
nothing_remains ts s rest e = many_whole SpellsStatement (λ t. true) statement (λ t. refl) (suc (length ts)) ts s rest e

module _ (exact : IsExact (Spells 1) goes_on expression) (open_ : ExpressionsOpen) where
  pub parses_each : (ts : List Terminal) (s : List Stmt) → SpellsScript ts s → script ts ≡ Ok (s, [])
  parses_each ts s d = ap script (sym (append-nil ts)) ∙ (script_exact exact open_).complete ts [] s d tt

  pub same_script : (ts : List Terminal) (s u : List Stmt) (rest : List Terminal) → script ts ≡ Ok (s, rest) → SpellsScript ts u → s ≡ u
  same_script ts s u rest e d = ap (λ (p : List Stmt × List Terminal). p.0) (ok_same (sym e ∙ parses_each ts u d))

  pub spells_all : (ts : List Terminal) (s : List Stmt) (rest : List Terminal) → script ts ≡ Ok (s, rest) → SpellsScript ts s
  spells_all ts s rest e =
      let word = parsed SpellsScript script_go script (script_exact exact open_) ts s rest e in
      let whole : word.consumed ≡ ts = sym (append-nil word.consumed) ∙ ap (λ l. word.consumed ++ l) (sym (nothing_remains ts s rest e)) ∙ sym word.whole in
      subst (λ l. SpellsScript l s) whole word.spells

  pub is_refused : (ts rest : List Terminal) → script ts ≡ Err rest → IsRefusedAt ts (length ts - length rest)
  is_refused ts rest e =
      let word = refused SpellsScript script_go script (script_exact exact open_) ts rest e in
      record {
        within = omega arith;
        begins = rw (take-consumed ts word.consumed rest word.whole) word.viable;
        none = rw (take-consumed ts word.consumed rest word.whole, drop-consumed ts word.consumed rest word.whole) word.none;
      }

  pub fewer_remain : (ts rest : List Terminal) → script ts ≡ Err rest → length rest ≤ length ts
  fewer_remain ts rest e = let word = refused SpellsScript script_go script (script_exact exact open_) ts rest e in length-rest ts word.consumed rest word.whole

  pub outcome : (ts : List Terminal) (r : Result (List Stmt × List Terminal) (List Terminal)) → script ts ≡ r → IsScriptOutcome ts r
  outcome ts (Ok word) e = spells_all ts word.0 word.1 e
  outcome ts (Err rest) e = refused SpellsScript script_go script (script_exact exact open_) ts rest e
