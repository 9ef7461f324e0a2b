-- Quoted texts: where they close, and their values.
use Rattle.std.specs.Prelude.{◌≡◌, ℕ, suc, Bool, true, false, not, ◌==◌, ◌||◌, ◌&&◌, if◌then◌else◌, List, [], ◌∷◌, ◌++◌, Option, None, Some, option_map, codes, refl}

-- the bytes that may follow the backslash of an escape: `"` `\` `n` `t` `r`
abbrev pub is_escape : ℕ → Bool
is_escape c = c == 34 || c == 92 || c == 110 || c == 116 || c == 114

-- the byte that an escape means, by the byte after its backslash
abbrev pub escape_value : ℕ → ℕ
escape_value c = if c == 110 then 10 else if c == 116 then 9 else if c == 114 then 13 else c

-- the offset of the closing quotation mark, from a byte and that offset in the bytes after it.
-- The flag says whether the byte before was the backslash of an escape.
abbrev pub closing_at : Bool → ℕ → Option ℕ → Option ℕ
closing_at true c next = if is_escape c then option_map suc next else None
closing_at false c next =
    if c == 34 then Some 0
    else if c == 10 || c == 13 then None
    else option_map suc next

-- the offset of the quotation mark that closes a quoted text, in the bytes after the opening one.
-- None if the line or the text ends before it, or if a backslash begins no escape.
abbrev pub closing_quote : Bool → List ℕ → Option ℕ
closing_quote escape [] = None
closing_quote escape (c ∷ cs) = closing_at escape c (closing_quote (not escape && c == 92) cs)

-- what a byte between the quotation marks adds to the value
abbrev pub value_of_byte : Bool → ℕ → List ℕ
value_of_byte true c = escape_value c ∷ []
value_of_byte false c = if c == 92 then [] else c ∷ []

-- the value of the bytes between the quotation marks; the flag is that of `closing_at`
abbrev pub unescaped_from : Bool → List ℕ → List ℕ
unescaped_from escape [] = []
unescaped_from escape (c ∷ cs) = value_of_byte escape c ++ unescaped_from (not escape && c == 92) cs

-- the value of the bytes between the quotation marks: each escape is the byte that it means
unfoldable pub unescaped_text : List ℕ → List ℕ
unescaped_text raw = unescaped_from false raw

-- each escape, and the first quotation mark that is not one
closing_quote-escapes : closing_quote false (codes "a\\\"\\\\\\n\\t\\r\" \"") ≡ Some 11
closing_quote-escapes = refl

unescaped_text-escapes : unescaped_text (codes "a\\\"\\\\\\n\\t\\r") ≡ 97 ∷ 34 ∷ 92 ∷ 10 ∷ 9 ∷ 13 ∷ []
unfolding unescaped_text
unescaped_text-escapes = refl

-- a text that does not close on its line, and one with a wrong escape
closing_quote-open : (closing_quote false (codes "a\nb\"") ≡ None) × (closing_quote false (codes "\\x\"") ≡ None)
closing_quote-open = (refl, refl)
