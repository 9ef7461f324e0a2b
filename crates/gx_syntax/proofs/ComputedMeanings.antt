-- The meaning that is computed for a text is one that the text has.
use Rattle.std.proofs.Common.{◌≡◌, ℕ, ◌+◌, ◌-◌, ◌<◌, ◌≤◌, Result, Ok, Err, List, [], ◌∷◌, length, take, drop, refl, sym, ◌∙◌, ap, subst, arith, length-append, length-take, length-drop}
use Rattle.std.proofs.Math.Seq.{take-append_seam, drop-append_seam}
use Rattle.std.proofs.lemmas.List.{append-nil, length-map}
use Rattle.gx_syntax_tokens.specs.SpacedText.{terminals}
use Rattle.gx_syntax_tokens.specs.Terminals.{Terminal, Ending, eof, lex_error, TokenStream}
use Rattle.gx_syntax_tokens.specs.declared.syntax_kind.SyntaxKind.TheVariants.{Unexpected}
use Rattle.gx_syntax_exprs.specs.Combinators.{IsRefused, IsViablePrefix}
use Rattle.gx_syntax_tree.specs.declared.stmt.Stmt.{Stmt}
use Rattle.gx_syntax_stmts.specs.Forms as forms
use Rattle.gx_syntax_stmts.specs.Forms.{SpellsScript}
use Rattle.gx_syntax_stmts.specs.Limits.{IsWithinLimit}
use Rattle.gx_syntax_stmts.specs.Refusals.{IsRefusedAt, IsScriptOutcome, ScriptsAreParsed, ScriptsAreUnique}
use Rattle.gx_syntax.specs.Meanings.{allowed_len, meaning_at, first_offset, meaning_by, meaning_of_tokens, HasOneMeaning}
use Rattle.gx_syntax.specs.Texts.{IsMeaning, IsRefusedText, Meaning, script, refused}
use Rattle.gx_syntax.specs.declared.syntax_stop.SyntaxStop.TheVariants.{At, Long}
use Rattle.gx_syntax.proofs.MeaningLemmas.{one_meaning}
use Rattle.gx_syntax.proofs.OpenStatements.{allowed}
use Rattle.gx_syntax.proofs.TextLemmas.{viable_all, refused_after, refused_end, refused_token, spells_all}

-- the tokens are refused after as many as are consumed
module _ (ts rest : List Terminal) (r : IsRefused SpellsScript ts rest) where
  taken : take (length r.consumed) ts ≡ r.consumed
  taken = ap (take (length r.consumed)) r.whole ∙ take-append_seam r.consumed rest

  dropped : drop (length r.consumed) ts ≡ rest
  dropped = ap (drop (length r.consumed)) r.whole ∙ drop-append_seam r.consumed rest

  pub split_len : length r.consumed + length rest ≡ length ts
  split_len = omega (arith, length-append r.consumed rest, ap length r.whole)

  pub refused_at_len : IsRefusedAt ts (length r.consumed)
  refused_at_len = record {
    within = omega (arith, split_len);
    begins = rw taken r.viable;
    none = rw (taken, dropped) r.none;
  }

length-terminals : (l : TokenStream) → length (terminals l) ≡ length l.tokens
length-terminals l = length-map l.tokens (λ (p : ℕ × Terminal). p.1)

module _ (l : TokenStream) (n : ℕ) (k : IsWithinLimit (terminals l) n) where
  -- what follows the allowed tokens, if these begin a script
  means_at : IsViablePrefix SpellsScript (take n (terminals l)) → (at_end : ℕ → Meaning)
      → ((offset : ℕ) → drop n l.tokens ≡ [] → l.ending ≡ eof offset → IsMeaning l (at_end offset))
      → (rest : List (ℕ × Terminal)) → drop n l.tokens ≡ rest → (e : Ending) → l.ending ≡ e → IsMeaning l (meaning_at rest e at_end)
  means_at viable at_end ends [] d (eof offset) e = ends offset d e
  means_at viable at_end ends [] d (lex_error offset kind) e = refused_after l n k viable (At offset kind) (d, e)
  means_at viable at_end ends (p ∷ rest) d ending e = refused_after l n k viable (Long p.0) (p.1, rest, d)

  first_refused : (at : ℕ) → IsRefusedAt (take n (terminals l)) at → at < n → (rest : List (ℕ × Terminal)) → drop at l.tokens ≡ rest → IsRefusedText l (first_offset rest) Unexpected
  first_refused at a below [] e = absurd (omega (arith, length-drop at l.tokens, ap length e, k.within, length-terminals l))
  first_refused at a below (p ∷ rest) e = refused_token l n at p.0 p.1 rest k a below e

  taken_len : length (take n (terminals l)) ≡ n
  taken_len = simp length-take (omega (arith, k.within))

  means_by : (r : Result (List Stmt × List Terminal) (List Terminal)) → IsScriptOutcome (take n (terminals l)) r → IsMeaning l (meaning_by l n r)
  means_by (Ok parsed) spells =
      means_at (record { rest = []; value = parsed.0; spells = rw append-nil spells }) (λ offset. script parsed.0) (λ offset d e. spells_all l n offset parsed.0 k spells (d, e)) (drop n l.tokens) refl l.ending refl
  means_by (Err []) r =
      let at = length r.consumed in
      let past : n ≤ at = omega (arith, split_len (take n (terminals l)) [] r, taken_len) in
      let a = refused_at_len (take n (terminals l)) [] r in
      means_at (viable_all (terminals l) n at a past) (λ offset. refused offset Unexpected) (λ offset d e. refused_end l n at offset k a past (d, e)) (drop n l.tokens) refl l.ending refl
  means_by (Err (t ∷ rest)) r =
      let at = length r.consumed in
      let split = split_len (take n (terminals l)) (t ∷ rest) r in
      let same : at ≡ n - length (t ∷ rest) = omega (arith, split, taken_len) in
      subst (λ i. IsRefusedText l (first_offset (drop i l.tokens)) Unexpected) same
      (first_refused at (refused_at_len (take n (terminals l)) (t ∷ rest) r) (omega (arith, split, taken_len)) (drop at l.tokens) refl)

has_meaning : ScriptsAreParsed → (l : TokenStream) → IsMeaning l (meaning_of_tokens l)
unfolding meaning_of_tokens
has_meaning parsed l =
    let n = allowed_len 0 (terminals l) in
    means_by l n (allowed (terminals l)) (forms.script (take n (terminals l))) (parsed (take n (terminals l)))

pub has_one_meaning : ScriptsAreParsed → ScriptsAreUnique → HasOneMeaning
has_one_meaning parsed unique l m = (λ h. one_meaning unique l m (meaning_of_tokens l) h (has_meaning parsed l), λ e. subst (IsMeaning l) (sym e) (has_meaning parsed l))
