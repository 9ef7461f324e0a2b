-- What a parser returns, and the tokens that remain.
use Rattle.std.specs.Prelude.{◌≡◌, Result, Ok, Err, List, length, map}
use Rattle.std.proofs.lemmas.List.{length-map}
use Rattle.gx_syntax_tokens.specs.Terminals.{Terminal}
use Rattle.gx_syntax_tokens.specs.TokenTexts.{terminal_of}
use Rattle.gx_syntax_tokens.specs.declared.token_value.PlacedToken.{PlacedToken}
use Rattle.gx_syntax_exprs.specs.Combinators.{IsParsed, IsRefused}
use Rattle.gx_syntax_exprs.specs.declared.parse_stop.ParseStop.{ParseStop}
use Rattle.gx_syntax_exprs.specs.declared.parse_stop.ParseStop.TheVariants.{Refused, NoMemory}

-- tokens without their offsets
abbrev pub terminals_of : List PlacedToken → List Terminal
terminals_of tokens = map (λ p. terminal_of p.value) tokens

pub length-terminals_of : (tokens : List PlacedToken) → length (terminals_of tokens) ≡ length tokens
length-terminals_of tokens = length-map tokens (λ p. terminal_of p.value)

-- the result is the parsed value, or a refusal, and these tokens remain; if memory ran out, nothing
-- is said
abbrev pub Parses : {A : Type 0} → Result A ParseStop → List Terminal → Result (A × List Terminal) (List Terminal) → Type 0
Parses (Ok x) rest parsed = parsed ≡ Ok (x, rest)
Parses (Err Refused) rest parsed = parsed ≡ Err rest
Parses (Err NoMemory) rest parsed = Unit {0}

-- the result in the words of a language: the consumed tokens spell the value; or they begin a word,
-- with which the next token, or the end, does not go on; if memory ran out, nothing is said
abbrev pub FollowsGrammar : {A : Type 0} → (List Terminal → A → Type 0) → Result A ParseStop → List Terminal → List Terminal → Type 0
FollowsGrammar L (Ok x) rest ts = IsParsed L ts x rest
FollowsGrammar L (Err Refused) rest ts = IsRefused L ts rest
FollowsGrammar L (Err NoMemory) rest ts = Unit {0}
