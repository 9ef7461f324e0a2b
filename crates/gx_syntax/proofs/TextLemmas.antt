-- What a text means, by its first n tokens that are within the limit, what these are to the grammar, and what follows them.
use Rattle.std.proofs.Common.{◌≡◌, ℕ, suc, ◌+◌, ◌-◌, ◌<◌, ◌≤◌, IfSome, Ok, Err, List, [], ◌∷◌, ◌++◌, length, take, drop, sym, ◌∙◌, ap, subst, append_assoc, arith, length-take}
use Rattle.std.proofs.Math.Seq.{take-add}
use Rattle.std.proofs.lemmas.List.{append-nil, take-map, drop-map, take-append-drop, take-take, drop-take, take_all, drop_all}
use Rattle.gx_syntax_tokens.specs.SpacedText.{terminals}
use Rattle.gx_syntax_tokens.specs.Terminals.{Terminal, TokenStream}
use Rattle.gx_syntax_tokens.specs.declared.syntax_kind.SyntaxKind.TheVariants.{Unexpected}
use Rattle.gx_syntax_exprs.specs.Combinators.{IsViablePrefix, NoWordContinues}
use Rattle.gx_syntax_tree.specs.declared.stmt.Stmt.{Stmt}
use Rattle.gx_syntax_stmts.specs.Forms.{SpellsScript}
use Rattle.gx_syntax_stmts.specs.Limits.{IsWithinLimit, IsOneTooMany, IsShort, Overflows}
use Rattle.gx_syntax_stmts.specs.Refusals.{IsRefusedAt}
use Rattle.gx_syntax.specs.EndAfter.{EndsAfter}
use Rattle.gx_syntax.specs.Meanings.{meaning_of_result}
use Rattle.gx_syntax.specs.Texts.{without_offsets, SpellsWholly, HasAccepted, IsRefusedText, token, end, no_token, IsMeaning}
use Rattle.gx_syntax.specs.declared.syntax_stop.SyntaxStop.{SyntaxStop}
use Rattle.gx_syntax.specs.declared.syntax_stop.SyntaxStop.TheVariants.{At, Long, NoMemory}

without_offsets-take : (n : ℕ) (ps : List (ℕ × Terminal)) → take n (without_offsets ps) ≡ without_offsets (take n ps)
without_offsets-take n ps = take-map (λ (p : ℕ × Terminal). p.1) n ps

without_offsets-drop : (n : ℕ) (ps : List (ℕ × Terminal)) → drop n (without_offsets ps) ≡ without_offsets (drop n ps)
without_offsets-drop n ps = drop-map (λ (p : ℕ × Terminal). p.1) n ps

short_before : (ts rest : List Terminal) → IsShort (ts ++ rest) → IsShort ts
short_before ts rest short front t more e = short front t (more ++ rest) (rw e (append_assoc front (t ∷ more) rest))

-- the first n tokens of a text
module _ (l : TokenStream) (n : ℕ) where
  accepts_first : IsShort (take n (terminals l)) → IsViablePrefix SpellsScript (take n (terminals l)) → HasAccepted l (take n l.tokens) (drop n l.tokens)
  accepts_first short viable = record {
    whole = sym (take-append-drop n l.tokens);
    short = subst IsShort (without_offsets-take n l.tokens) short;
    viable = subst (IsViablePrefix SpellsScript) (without_offsets-take n l.tokens) viable;
  }

  all_first : drop n l.tokens ≡ [] → take n l.tokens ≡ l.tokens
  all_first e = sym (append-nil (take n l.tokens)) ∙ ap (λ rest. take n l.tokens ++ rest) (sym e) ∙ take-append-drop n l.tokens

  all_terminals : drop n l.tokens ≡ [] → take n (terminals l) ≡ terminals l
  all_terminals e = without_offsets-take n l.tokens ∙ ap without_offsets (all_first e)

  accepts_all : IsShort (take n (terminals l)) → IsViablePrefix SpellsScript (take n (terminals l)) → drop n l.tokens ≡ [] → HasAccepted l l.tokens []
  accepts_all short viable e = record {
    whole = sym (append-nil l.tokens);
    short = subst IsShort (all_terminals e) short;
    viable = subst (IsViablePrefix SpellsScript) (all_terminals e) viable;
  }

  next_terminal : (p : ℕ × Terminal) (rest : List (ℕ × Terminal)) → drop n l.tokens ≡ p ∷ rest → drop n (terminals l) ≡ p.1 ∷ without_offsets rest
  next_terminal p rest e = without_offsets-drop n l.tokens ∙ ap without_offsets e

  -- after tokens that begin a script, the text goes on, or no token follows
  pub refused_after : IsWithinLimit (terminals l) n → IsViablePrefix SpellsScript (take n (terminals l)) → (stop : SyntaxStop) → EndsAfter l n (Err stop) → IfSome (meaning_of_result (Err stop)) (IsMeaning l)
  refused_after k viable (At offset kind) e = no_token (accepts_all k.short viable e.0) e.1
  refused_after k viable (Long offset) e = record {
    accepted = take n l.tokens;
    rest = e.1;
    token = e.0;
    accepts = subst (λ rest. HasAccepted l (take n l.tokens) rest) e.2 (accepts_first k.short viable);
    excess = subst (λ front. IsOneTooMany front e.0) (without_offsets-take n l.tokens) (subst (Overflows (take n (terminals l))) (next_terminal (offset, e.0) e.1 e.2) k.overflows);
  }
  refused_after k viable NoMemory e = tt

  -- it ends after tokens that spell a script
  pub spells_all : (offset : ℕ) (s : List Stmt) → IsWithinLimit (terminals l) n → SpellsScript (take n (terminals l)) s → EndsAfter l n (Ok offset) → SpellsWholly l s
  spells_all offset s k d e = record {
    offset = offset;
    ends = e.1;
    short = subst IsShort (all_terminals e.0) k.short;
    spells = subst (λ ts. SpellsScript ts s) (all_terminals e.0) d;
  }

-- tokens that are refused at their end
module _ (ts : List Terminal) (n at : ℕ) (a : IsRefusedAt (take n ts) at) (past : n ≤ at) where
  few : length (take n ts) ≤ at
  few = simp length-take (omega arith)

  pub viable_all : IsViablePrefix SpellsScript (take n ts)
  viable_all = subst (IsViablePrefix SpellsScript) (take_all at (take n ts) few) a.begins

  none_all : (s : List Stmt) → ¬ SpellsScript (take n ts) s
  none_all = subst (λ front. NoWordContinues SpellsScript front []) (take_all at (take n ts) few) (subst (NoWordContinues SpellsScript (take at (take n ts))) (drop_all at (take n ts) few) a.none)

-- the text ends after tokens that begin a script and spell none
pub refused_end : (l : TokenStream) (n at offset : ℕ) → IsWithinLimit (terminals l) n → IsRefusedAt (take n (terminals l)) at → n ≤ at → EndsAfter l n (Ok offset) → IsRefusedText l offset Unexpected
refused_end l n at offset k a past e =
    end (accepts_all l n k.short (viable_all (terminals l) n at a past) e.0) e.1 (λ s d. none_all (terminals l) n at a past s (subst (λ ts. SpellsScript ts s) (sym (all_terminals l n e.0)) d))

-- tokens that are refused at the token t, after fewer of them
module _ (ts rest : List Terminal) (n at k : ℕ) (t : Terminal) (fewer : n ≡ at + suc k) (next : drop at ts ≡ t ∷ rest) where
  first_split : take n ts ≡ take at ts ++ t ∷ take k rest
  first_split = ap (λ m. take m ts) fewer ∙ take-add at (suc k) ts ∙ ap (λ rest. take at ts ++ take (suc k) rest) next

  rest_split : drop at (take n ts) ≡ t ∷ take k rest
  rest_split = ap (λ m. drop at (take m ts)) fewer ∙ drop-take at (suc k) ts ∙ ap (take (suc k)) next

  short_until : IsShort (take n ts) → IsShort (take at ts)
  short_until short = short_before (take at ts) (t ∷ take k rest) (subst IsShort first_split short)

  fits_next : IsShort (take n ts) → ¬ IsOneTooMany (take at ts) t
  fits_next short = short (take at ts) t (take k rest) first_split

  viable_until : IsRefusedAt (take n ts) at → IsViablePrefix SpellsScript (take at ts)
  viable_until a = subst (IsViablePrefix SpellsScript) (take-take at n ts (omega arith)) a.begins

  none_next : IsRefusedAt (take n ts) at → ¬ IsViablePrefix SpellsScript (take at ts ++ t ∷ [])
  none_next a = subst (λ front. NoWordContinues SpellsScript front (t ∷ take k rest)) (take-take at n ts (omega arith)) (subst (NoWordContinues SpellsScript (take at (take n ts))) rest_split a.none)

-- a token follows with which no script goes on
pub refused_token : (l : TokenStream) (n at offset : ℕ) (t : Terminal) (rest : List (ℕ × Terminal)) → IsWithinLimit (terminals l) n → IsRefusedAt (take n (terminals l)) at → at < n → drop at l.tokens ≡ (offset, t) ∷ rest → IsRefusedText l offset Unexpected
refused_token l n at offset t rest k a h e =
    let ts = terminals l in
    let m : ℕ = n - at - 1 in
    let fewer : n ≡ at + suc m = omega arith in
    let next : drop at ts ≡ t ∷ without_offsets rest = next_terminal l at (offset, t) rest e in
    let accepts_before : HasAccepted l (take at l.tokens) (drop at l.tokens) = accepts_first l at (short_until ts (without_offsets rest) n at m t fewer next k.short) (viable_until ts (without_offsets rest) n at m t fewer next a) in
    token
    (subst (λ rest. HasAccepted l (take at l.tokens) rest) e accepts_before)
    (subst (λ front. ¬ IsOneTooMany front t) (without_offsets-take at l.tokens) (fits_next ts (without_offsets rest) n at m t fewer next k.short))
    (subst (λ front. ¬ IsViablePrefix SpellsScript (front ++ t ∷ [])) (without_offsets-take at l.tokens) (none_next ts (without_offsets rest) n at m t fewer next a))
