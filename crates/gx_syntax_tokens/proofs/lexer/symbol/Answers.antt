use Rattle.std.proofs.Common.{◌≡◌, drop, length, subst, Some}
use Rattle.gx_syntax_tokens.specs.Scanning.{HasAsciiEnds, IsPrefixOf}
use Rattle.gx_syntax_tokens.specs.Symbols.{spelling, symbol_at}
use Rattle.gx_syntax_tokens.proofs.ScanLemmas.{symbol-ends, symbol-found}
use Rattle.gx_syntax_tokens.proofs.lexer.symbol.Goals as goal

pub slice-requires : goal.slice-requires
slice-requires c =
    let is : symbol_at (drop c.args.at c.args.text.now) ≡ Some c.in-Some.symbol = cc (c.in-Some.ensures) in
    let len : length (spelling c.in-Some.symbol) ≡ c.len.result = cc in
    subst (HasAsciiEnds c.args.text.now c.args.at) len (symbol-ends c.args.text.now c.args.at c.in-Some.symbol c.requires is)

pub returns : goal.returns
returns c =
    let is : symbol_at (drop c.args.at c.args.text.now) ≡ Some c.in-Some.symbol = cc (c.in-Some.ensures) in
    symbol-found (drop c.args.at c.args.text.now) c.slice.result c.in-Some.symbol is (subst (IsPrefixOf (drop c.args.at c.args.text.now) c.slice.result.now) c.len.ensures c.slice.ensures)
