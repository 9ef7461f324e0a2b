-- The first word of a text, and its first line.
use Rattle.std.proofs.Common.{◌≡◌, ◌+◌, ◌<◌, ◌∙◌, ℕ, Bool, true, false, not, cond, min, List, [], ◌∷◌, length, take, drop, ◌-◌, length-drop, filter, refl, sym, ap, arith, suc}
use Rattle.std.specs.Bool.{◌==◌}
use Rattle.std.proofs.lemmas.Bool.Decides.{nat_tests}
use Rattle.std.proofs.lemmas.List.{take_all}
use Rattle.std.specs.List.{onto_first, prefix_len, slice_split}
use Rattle.std.proofs.lemmas.List.Folds.{length-prefix_len}
use Rattle.gx_load.specs.Cells.{is_nonempty, words_of}
use Rattle.gx_load.specs.EdgeLists.{edge_lines_from, has_edge, is_line_feed, is_line_space, numbered_from}

one-add : (n : ℕ) → 1 + n ≡ suc n
one-add n = omega arith

-- the bytes from an offset on, as a slice of the code gives them
abbrev pub tail : ℕ → List ℕ → List ℕ
tail n text = take (length text - n) (drop n text)

pub tail_is : (n : ℕ) (text : List ℕ) → tail n text ≡ drop n text
tail_is n text = take_all (length text - n) (drop n text) (omega (arith, length-drop n text))

module _ (p : ℕ → Bool) where
  -- how many bytes come before the first separator
  abbrev pub piece_len : List ℕ → ℕ
  piece_len text = prefix_len (λ byte. not (p byte)) text

  -- the pieces of a text are what comes before the first separator, and then those after it
  pub first_piece : (text : List ℕ)
      → (pieces : List (List ℕ)) × (slice_split p text ≡ take (piece_len text) text ∷ pieces) × (slice_split p (drop (piece_len text) text) ≡ [] ∷ pieces)
  first_piece [] = ([], refl, refl)
  first_piece (x ∷ xs) = go (p x) refl (first_piece xs)
    where
      go : (b : Bool) → p x ≡ b
          → (pieces : List (List ℕ)) × (slice_split p xs ≡ take (piece_len xs) xs ∷ pieces) × (slice_split p (drop (piece_len xs) xs) ≡ [] ∷ pieces)
          → (pieces : List (List ℕ)) × (slice_split p (x ∷ xs) ≡ take (piece_len (x ∷ xs)) (x ∷ xs) ∷ pieces) × (slice_split p (drop (piece_len (x ∷ xs)) (x ∷ xs)) ≡ [] ∷ pieces)
      go true e more = (slice_split p xs, rw e refl, rw (e, e) refl)
      go false e more = (more.0, rw (e, one-add, more.1) refl, rw (e, one-add) more.2)

  -- separators at the start of a text make no word
  skipped_gap : (text : List ℕ) → words_of p (drop (prefix_len p text) text) ≡ words_of p text
  unfolding words_of
  skipped_gap [] = refl
  skipped_gap (x ∷ xs) = go (p x) refl (skipped_gap xs)
    where
      go : (b : Bool) → p x ≡ b → words_of p (drop (prefix_len p xs) xs) ≡ words_of p xs
          → words_of p (drop (prefix_len p (x ∷ xs)) (x ∷ xs)) ≡ words_of p (x ∷ xs)
      go true e more = rw (e, one-add) more
      go false e more = rw (e, e) refl

  -- after the separators a text without a word is at its end
  at_end : (text : List ℕ) → piece_len (drop (prefix_len p text) text) ≡ 0 → drop (prefix_len p text) text ≡ []
  at_end [] h = refl
  at_end (x ∷ xs) h = go (p x) refl (at_end xs) h
    where
      go : (b : Bool) → p x ≡ b → (piece_len (drop (prefix_len p xs) xs) ≡ 0 → drop (prefix_len p xs) xs ≡ [])
          → piece_len (drop (prefix_len p (x ∷ xs)) (x ∷ xs)) ≡ 0 → drop (prefix_len p (x ∷ xs)) (x ∷ xs) ≡ []
      go true e more none = rw (e, one-add) (more (rw (e, one-add) at none))
      go false e more none = absurd (first e (rw e at none))
        where
          first : p x ≡ false → piece_len (x ∷ xs) ≡ 0 → ⊥
          first e none = let h = rw e at none in omega arith

  nonempty : (text : List ℕ) → 0 < length text → is_nonempty text ≡ true
  nonempty [] h = absurd (omega arith)
  nonempty (x ∷ xs) h = refl

  -- a text that begins with a word has that word, and then those after it
  first_word : (text : List ℕ) → 0 < piece_len text → words_of p text ≡ take (piece_len text) text ∷ words_of p (drop (piece_len text) text)
  unfolding words_of
  first_word text some =
      let f = first_piece text in
      let word : is_nonempty (take (piece_len text) text) ≡ true =
      nonempty _ (omega (arith, length-prefix_len (λ byte. not (p byte)) text)) in
      rw (f.1, f.2, word) refl

  -- the word after the separators, if there is one, and the words after it
  pub word_taken : (text : List ℕ) (start len : ℕ) → start ≡ prefix_len p text → len ≡ piece_len (tail start text) → ¬ (len ≡ 0)
      → words_of p text ≡ take len (tail start text) ∷ words_of p (tail len (tail start text))
  word_taken text start len gap word some =
      rw (tail_is len (tail start text), tail_is start text, gap)
      (sym (skipped_gap text)
      ∙ rw (← gap, ← tail_is start text, word) (first_word (tail start text) (omega arith)))

  pub no_word_left : (text : List ℕ) (start len : ℕ) → start ≡ prefix_len p text → len ≡ piece_len (tail start text) → len ≡ 0
      → (words_of p text ≡ []) × (words_of p (tail len (tail start text)) ≡ [])
  unfolding words_of
  no_word_left text start len gap word none =
      let end : drop start text ≡ [] = rw gap (at_end text (sym (rw (tail_is start text, gap) at word) ∙ none)) in
      (sym (skipped_gap text) ∙ rw (← gap, end) refl, rw (none, tail_is start text, end) refl)

-- ---- lines

-- the lines after a line are those after its line feed
lines_after : (line : ℕ) (rest : List ℕ) (pieces : List (List ℕ)) → slice_split is_line_feed rest ≡ [] ∷ pieces
    → filter (λ l. has_edge (words_of is_line_space l.1)) (numbered_from line pieces) ≡ edge_lines_from line (drop 1 rest)
unfolding edge_lines_from words_of
lines_after line [] [] e = refl
lines_after line [] (piece ∷ pieces) e = cc e
lines_after line (byte ∷ rest) pieces e = go (is_line_feed byte) refl e
  where
    go : (b : Bool) → is_line_feed byte ≡ b → cond b ([] ∷ slice_split is_line_feed rest) (onto_first byte (slice_split is_line_feed rest)) ≡ [] ∷ pieces
        → filter (λ l. has_edge (words_of is_line_space l.1)) (numbered_from line pieces) ≡ edge_lines_from line (drop 1 (byte ∷ rest))
    go true e h = let same : pieces ≡ slice_split is_line_feed rest = cc in rw same refl
    go false e h = absurd (not_empty (slice_split is_line_feed rest) h)
      where
        not_empty : (ps : List (List ℕ)) → onto_first byte ps ≡ [] ∷ pieces → ⊥
        not_empty [] h = cc h
        not_empty (q ∷ qs) h = cc h

-- the bytes after a line feed, if there is one
drop_first : (text : List ℕ) → tail (min (length text) 1) text ≡ drop 1 text
drop_first [] = refl
drop_first (byte ∷ rest) =
    let one : min (length (byte ∷ rest)) 1 ≡ 1 = omega arith in
    rw one (tail_is 1 (byte ∷ rest))

-- the first line, and what the lines after it are
line_passed : (line : ℕ) (text : List ℕ)
    → let len = piece_len is_line_feed text in
    let later = edge_lines_from (line + 1) (drop 1 (drop len text)) in
    edge_lines_from line text ≡ cond (has_edge (words_of is_line_space (take len text))) ((line, take len text) ∷ later) later
unfolding edge_lines_from
line_passed line text =
    let f = first_piece is_line_feed text in
    rw f.1 (ap (λ (ls : List (ℕ × List ℕ)). cond (has_edge (words_of is_line_space (take (piece_len is_line_feed text) text))) ((line, take (piece_len is_line_feed text) text) ∷ ls) ls)
    (lines_after (line + 1) (drop (piece_len is_line_feed text) text) f.0 f.2))

-- how many bytes are skipped after a line of so many bytes: its line feed, if it has one
abbrev pub feed_len : ℕ → List ℕ → ℕ
feed_len len text = min (length (tail len text)) 1

after_feed : (len feed : ℕ) (text : List ℕ) → feed ≡ feed_len len text → tail feed (tail len text) ≡ drop 1 (drop len text)
after_feed len feed text is = rw is (drop_first (tail len text) ∙ ap (drop 1) (tail_is len text))

-- a line that has an edge is the first of those that have one
pub line_taken : (line : ℕ) (text : List ℕ) (len feed : ℕ) → len ≡ piece_len is_line_feed text → feed ≡ feed_len len text
    → has_edge (words_of is_line_space (take len text)) ≡ true
    → edge_lines_from line text ≡ (line, take len text) ∷ edge_lines_from (line + 1) (tail feed (tail len text))
line_taken line text len feed is after edge = rw (after_feed len feed text after, is) (rw (line_passed line text, ← is, edge) refl)

-- another line is skipped
pub line_skipped : (line : ℕ) (text : List ℕ) (len feed : ℕ) → len ≡ piece_len is_line_feed text → feed ≡ feed_len len text
    → has_edge (words_of is_line_space (take len text)) ≡ false
    → edge_lines_from line text ≡ edge_lines_from (line + 1) (tail feed (tail len text))
line_skipped line text len feed is after other = rw (after_feed len feed text after, is) (rw (line_passed line text, ← is, other) refl)

-- the bytes after a line are fewer
pub after_feed-shorter : (len feed : ℕ) (text : List ℕ) → feed ≡ feed_len len text → ((length text == 0) ≡ false)
    → length (tail feed (tail len text)) < length text
after_feed-shorter len feed text is some =
    let more : 0 < length text = grind (arith, nat_tests) in
    rw (after_feed len feed text is) (omega (arith, length-drop 1 (drop len text), length-drop len text))

-- no text, no line
pub no_edge_line : (line : ℕ) (text : List ℕ) → (length text == 0) ≡ true → edge_lines_from line text ≡ []
unfolding edge_lines_from words_of
no_edge_line line [] none = refl
no_edge_line line (byte ∷ rest) none = let h : length (byte ∷ rest) ≡ 0 = grind (arith, nat_tests) in absurd (omega arith)
