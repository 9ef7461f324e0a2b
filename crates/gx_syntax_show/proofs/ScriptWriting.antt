-- Lines that are written one by one are the text of a script.
use Rattle.std.proofs.Common.{◌≡◌, ℕ, ◌+◌, ◌<◌, List, [], ◌∷◌, ◌++◌, length, take, get_or, refl, sym, ap, ◌∙◌, append_assoc}
use Rattle.std.proofs.lemmas.List.{take_more}
use Rattle.gx_syntax_tokens.specs.SpacedText.{spaced_text}
use Rattle.gx_syntax_tokens.specs.Writing.{WriterState, with_pieces, with_line_end, WritesSpacedText}
use Rattle.gx_syntax_tokens.specs.declared.writer.Spacing.TheVariants.{LineStart}
use Rattle.gx_syntax_tree.specs.declared.stmt.Stmt.{Stmt}
use Rattle.gx_syntax_show.specs.ScriptLines.{line_of_stmt, text_of_script}

-- the writer after a script
abbrev pub after_script : List Stmt → WriterState
after_script ss = record { text = text_of_script ss; last = LineStart }

text-last : (ss : List Stmt) (s : Stmt) → text_of_script (ss ++ s ∷ []) ≡ text_of_script ss ++ (spaced_text (line_of_stmt s) ++ 10 ∷ [])
text-last [] s = refl
text-last (x ∷ ss) s = ap (λ t. spaced_text (line_of_stmt x) ++ 10 ∷ t) (text-last ss s) ∙ simp append_assoc

module _ (spaced : WritesSpacedText) where
  line-last : (ss : List Stmt) (s : Stmt) → with_line_end (with_pieces (after_script ss) (line_of_stmt s)) ≡ after_script (ss ++ s ∷ [])
  line-last ss s =
      ap (λ t. record { text = t ++ 10 ∷ []; last = LineStart }) (spaced (text_of_script ss) (line_of_stmt s))
      ∙ ap (λ t. record { text = t; last = LineStart }) (append_assoc (text_of_script ss) (spaced_text (line_of_stmt s)) (10 ∷ []) ∙ sym (text-last ss s))

  -- one more line
  pub put_next_line : (ss : List Stmt) (i : ℕ) (s : Stmt) (a b : WriterState) → i < length ss → s ≡ get_or ss i s
      → a ≡ after_script (take i ss) → b ≡ with_line_end (with_pieces a (line_of_stmt s)) → b ≡ after_script (take (i + 1) ss)
  put_next_line ss i s a b below is ea eb =
      let next : take (i + 1) ss ≡ take i ss ++ s ∷ [] = take_more ss i s below ∙ ap (λ x. take i ss ++ x ∷ []) (sym is) in
      eb ∙ ap (λ w. with_line_end (with_pieces w (line_of_stmt s))) ea ∙ line-last (take i ss) s ∙ ap after_script (sym next)
