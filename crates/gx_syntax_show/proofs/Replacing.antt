-- Pieces that may take the place of tokens that were read.
use Rattle.std.proofs.Common.{◌≡◌, ◌≤◌, false, List, [], ◌∷◌, ◌++◌, length, map, refl, sym, subst, length-append, arith}
use Rattle.std.proofs.lemmas.List.{map-append}
use Rattle.gx_syntax_tokens.specs.Terminals.{Terminal, symbol, is_symbol}
use Rattle.gx_syntax_tokens.specs.SpacedText.{Piece, token, terminal, AreValid, AreValidTerminals}
use Rattle.gx_syntax_tokens.specs.declared.symbol.Symbol.TheVariants as symbols

-- no token is a `;`
abbrev pub HasNoSemicolon : List Terminal → Type 0
HasNoSemicolon [] = Unit {0}
HasNoSemicolon (t ∷ ts) = (is_symbol symbols.Semicolon t ≡ false) × HasNoSemicolon ts

no_semicolon-append : (ts us : List Terminal) → HasNoSemicolon ts → HasNoSemicolon us → HasNoSemicolon (ts ++ us)
no_semicolon-append [] us a b = b
no_semicolon-append (t ∷ ts) us a b = (a.0, no_semicolon-append ts us a.1 b)

pub valid-append : (ps qs : List Piece) → AreValid ps → AreValid qs → AreValid (ps ++ qs)
valid-append [] qs a b = b
valid-append (p ∷ ps) qs a b = (a.0, valid-append ps qs a.1 b)

pub valid-left : (ts us : List Terminal) → AreValidTerminals (ts ++ us) → AreValidTerminals ts
valid-left [] us a = tt
valid-left (t ∷ ts) us a = (a.0, valid-left ts us a.1)

pub valid-right : (ts us : List Terminal) → AreValidTerminals (ts ++ us) → AreValidTerminals us
valid-right [] us a = a
valid-right (t ∷ ts) us a = valid-right ts us a.1

-- the pieces are no more than the tokens, and may be in a text if those may; neither has a `;`
pub record CanReplace (ts : List Terminal) (ps : List Piece) : Type 0 where
  pub no_more : length ps ≤ length ts
  pub valid : AreValidTerminals ts → AreValid ps
  pub read : HasNoSemicolon ts
  pub written : HasNoSemicolon (map terminal ps)

pub replaces-none : CanReplace [] []
replaces-none = record { no_more = omega arith; valid = λ v. tt; read = tt; written = tt }

-- a token that stays as it is, before others
pub replaces-token : (p : Piece) {ts : List Terminal} {ps : List Piece} → is_symbol symbols.Semicolon (terminal p) ≡ false → CanReplace ts ps → CanReplace (terminal p ∷ ts) (p ∷ ps)
replaces-token p e r = record { no_more = omega (arith, r.no_more); valid = λ v. (v.0, r.valid v.1); read = (e, r.read); written = (e, r.written) }

pub replaces-same : (ps : List Piece) → HasNoSemicolon (map terminal ps) → CanReplace (map terminal ps) ps
replaces-same [] e = replaces-none
replaces-same (p ∷ ps) e = replaces-token p e.0 (replaces-same ps e.1)

pub replaces-append : (ts us : List Terminal) (ps qs : List Piece) → CanReplace ts ps → CanReplace us qs → CanReplace (ts ++ us) (ps ++ qs)
replaces-append ts us ps qs a b = record {
  no_more = omega (arith, length-append ts us, length-append ps qs, a.no_more, b.no_more);
  valid = λ v. valid-append ps qs (a.valid (valid-left ts us v)) (b.valid (valid-right ts us v));
  read = no_semicolon-append ts us a.read b.read;
  written = subst HasNoSemicolon (sym (map-append terminal ps qs)) (no_semicolon-append (map terminal ps) (map terminal qs) a.written b.written);
}

close_paren : CanReplace (symbol symbols.CloseParen ∷ []) (token (symbol symbols.CloseParen) ∷ [])
close_paren = replaces-same (token (symbol symbols.CloseParen) ∷ []) (refl, tt)

-- in parentheses, as those tokens
pub replaces-in_parens : (ts : List Terminal) (ps : List Piece) → CanReplace ts ps → CanReplace (symbol symbols.OpenParen ∷ ts ++ symbol symbols.CloseParen ∷ []) (token (symbol symbols.OpenParen) ∷ ps ++ token (symbol symbols.CloseParen) ∷ [])
replaces-in_parens ts ps r = replaces-token (token (symbol symbols.OpenParen)) refl (replaces-append ts (symbol symbols.CloseParen ∷ []) ps (token (symbol symbols.CloseParen) ∷ []) r close_paren)

-- without the parentheses
pub replaces-without_parens : (ts : List Terminal) (ps : List Piece) → CanReplace ts ps → CanReplace (symbol symbols.OpenParen ∷ ts ++ symbol symbols.CloseParen ∷ []) ps
replaces-without_parens ts ps r = record {
  no_more = omega (arith, length-append ts (symbol symbols.CloseParen ∷ []), r.no_more);
  valid = λ v. r.valid (valid-left ts (symbol symbols.CloseParen ∷ []) v.1);
  read = (refl, no_semicolon-append ts (symbol symbols.CloseParen ∷ []) r.read (refl, tt));
  written = r.written;
}
