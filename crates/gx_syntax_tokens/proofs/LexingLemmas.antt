-- The tokens of a text, from one offset to the next.
use Rattle.std.specs.List.{prefix_len}
use Rattle.std.specs.Prelude.{◌==◌, ◌&&◌, if◌then◌else◌}
use Rattle.std.proofs.Common.{◌≡◌, ◌+◌, ◌-◌, ◌<◌, ◌≤◌, ℕ, zero, suc, Bool, true, false, List, [], ◌∷◌, length, drop, None, Some, Ok, Err, refl, sym, ap, ◌⊎◌, ◌≢◌, ◌∙◌, arith, inl, inr, length-drop}
use Rattle.std.proofs.lemmas.Bool.Decides.{eqb_tells}
use Rattle.std.proofs.lemmas.List.{drop-drop}
use Rattle.std.proofs.lemmas.List.Sums.{prefix_len-le-length}
use Rattle.gx_syntax_tokens.specs.Terminals.{Terminal, eof, lex_error}
use Rattle.gx_syntax_tokens.specs.Lexing.{with_first, trivia_len, is_comment_byte, is_space, tokens_at, tokens_of, tokens_from, bom_len, empty_stream, token_at}
use Rattle.gx_syntax_tokens.specs.declared.syntax_kind.SyntaxKind.{SyntaxKind}

-- the consumed bytes are skipped
pub tokens_from-drop : (at n : ℕ) (text : List ℕ) → n ≤ length text → tokens_from at n text ≡ tokens_from (at + n) 0 (drop n text)
unfolding tokens_from
tokens_from-drop at zero text h =
    let e : at ≡ at + 0 = omega arith in
    ap (λ a. tokens_from a 0 text) e
tokens_from-drop at (suc n) [] h = absurd (omega arith)
tokens_from-drop at (suc n) (c ∷ cs) h =
    let e : suc at + n ≡ at + suc n = omega arith in
    tokens_from-drop (suc at) n cs (omega arith) ∙ ap (λ a. tokens_from a 0 (drop n cs)) e

skipped : (at n c : ℕ) (cs : List ℕ) → 0 < n → n ≤ length (c ∷ cs) → tokens_from (suc at) (n - 1) cs ≡ tokens_from (at + n) 0 (drop n (c ∷ cs))
skipped at zero c cs nonempty within = absurd (omega arith)
skipped at (suc m) c cs nonempty within =
    let less : suc m - 1 ≡ m = omega arith in
    let e : suc at + m ≡ at + suc m = omega arith in
    rw less (tokens_from-drop (suc at) m cs (omega arith) ∙ ap (λ a. tokens_from a 0 (drop m cs)) e)

-- trivia has a byte or more, and is in the text
pub trivia_len-bounds : (text : List ℕ) (n : ℕ) → trivia_len text ≡ Some n → (0 < n) × (n ≤ length text)
unfolding trivia_len
trivia_len-bounds [] n is = cc is
trivia_len-bounds (c ∷ cs) n is =
    go (is_space c) (eqb_tells c 35) is
  where
    comment : c ≡ 35 → prefix_len is_comment_byte (c ∷ cs) ≡ 1 + prefix_len is_comment_byte cs
    comment e = rw e refl

    go : (space : Bool) → (((c == 35) ≡ true) × (c ≡ 35)) ⊎ (((c == 35) ≡ false) × (c ≢ 35)) → (if space then Some 1 else if c == 35 then Some (prefix_len is_comment_byte (c ∷ cs)) else None) ≡ Some n → (0 < n) × (n ≤ length (c ∷ cs))
    go true tells e = let satisfy : 1 ≡ n = cc e in (omega arith, omega arith)
    go false (inl sharp) e =
        let satisfy : prefix_len is_comment_byte (c ∷ cs) ≡ n = cc (rw sharp.0 at e) in
        let first = comment sharp.1 in
        (omega arith, omega (arith, prefix_len-le-length is_comment_byte (c ∷ cs)))
    go false (inr other) e = cc (rw other.0 at e)

trivia-skipped : (at n : ℕ) (text : List ℕ) → trivia_len text ≡ Some n → tokens_from at 0 text ≡ tokens_from (at + n) 0 (drop n text)
unfolding tokens_from
trivia-skipped at n [] is = absurd (omega (arith, (trivia_len-bounds [] n is).0, (trivia_len-bounds [] n is).1))
trivia-skipped at n (c ∷ cs) is = rw is (skipped at n c cs (trivia_len-bounds (c ∷ cs) n is).0 (trivia_len-bounds (c ∷ cs) n is).1)

token-first : (at n : ℕ) (t : Terminal) (text : List ℕ) → trivia_len text ≡ None → token_at text ≡ Ok (n, t) → 0 < n → n ≤ length text
    → tokens_from at 0 text ≡ with_first (at, t) (tokens_from (at + n) 0 (drop n text))
unfolding tokens_from
token-first at n t [] none is nonempty within = absurd (omega arith)
token-first at n t (c ∷ cs) none is nonempty within = rw (none, is) (ap (with_first (at, t)) (skipped at n c cs nonempty within))

no_token : (at : ℕ) (kind : SyntaxKind) (text : List ℕ) → 0 < length text → trivia_len text ≡ None → token_at text ≡ Err kind
    → tokens_from at 0 text ≡ empty_stream (lex_error at kind)
unfolding tokens_from
no_token at kind [] nonempty none is = absurd (omega arith)
no_token at kind (c ∷ cs) nonempty none is = rw (none, is) refl

text-end : (at : ℕ) (text : List ℕ) → length text ≡ 0 → tokens_from at 0 text ≡ empty_stream (eof at)
unfolding tokens_from
text-end at [] none = refl
text-end at (c ∷ cs) none = absurd (omega arith)

-- trivia at an offset is skipped
pub tokens_at-trivia : (text : List ℕ) (at n : ℕ) → trivia_len (drop at text) ≡ Some n → tokens_at text (at + n) ≡ tokens_at text at
unfolding tokens_at
tokens_at-trivia text at n is = sym (trivia-skipped at n (drop at text) is ∙ ap (tokens_from (at + n) 0) (drop-drop n at text))

-- a token at an offset is the first of the rest
pub tokens_at-token : (text : List ℕ) (at n : ℕ) (t : Terminal) → trivia_len (drop at text) ≡ None → token_at (drop at text) ≡ Ok (n, t) → 0 < n → n ≤ length (drop at text)
    → tokens_at text at ≡ with_first (at, t) (tokens_at text (at + n))
unfolding tokens_at
tokens_at-token text at n t none is nonempty within =
    token-first at n t (drop at text) none is nonempty within ∙ ap (λ rest. with_first (at, t) (tokens_from (at + n) 0 rest)) (drop-drop n at text)

-- if no token begins at an offset, the rest is empty
pub tokens_at-lex_error : (text : List ℕ) (at : ℕ) (kind : SyntaxKind) → at < length text → trivia_len (drop at text) ≡ None → token_at (drop at text) ≡ Err kind
    → tokens_at text at ≡ empty_stream (lex_error at kind)
unfolding tokens_at
tokens_at-lex_error text at kind within none is = no_token at kind (drop at text) (omega (arith, length-drop at text)) none is

-- at the end of the text the rest is empty
pub tokens_at-end : (text : List ℕ) (at : ℕ) → at ≡ length text → tokens_at text at ≡ empty_stream (eof at)
unfolding tokens_at
tokens_at-end text at end = text-end at (drop at text) (omega (arith, length-drop at text))

-- a byte order mark is in its text
pub bom_len-within : (text : List ℕ) → bom_len text ≤ length text
unfolding bom_len
bom_len-within [] = omega arith
bom_len-within (a ∷ []) = omega arith
bom_len-within (a ∷ b ∷ []) = omega arith
bom_len-within (a ∷ b ∷ c ∷ rest) =
    go (a == 239 && b == 187 && c == 191)
  where
    go : (is : Bool) → (if is then 3 else 0) ≤ length (a ∷ b ∷ c ∷ rest)
    go true = omega arith
    go false = omega arith

-- the tokens of a text are those after its byte order mark
pub tokens_of-after_bom : (text : List ℕ) → tokens_at text (bom_len text) ≡ tokens_of text
unfolding tokens_at tokens_of
tokens_of-after_bom text =
    let n = bom_len text in
    let place : 0 + n ≡ n = omega arith in
    sym (tokens_from-drop 0 n text (bom_len-within text) ∙ ap (λ a. tokens_from a 0 (drop n text)) place)
