use Rattle.std.proofs.Common.{refl}
use Rattle.std.specs.Str.{bytes_eq}
use Rattle.std.proofs.lemmas.Map.Entries.{All-lookup}
use Rattle.gx_types_stmts.specs.KnownNames.{IsEarlier, named_definitions}
use Rattle.gx_types_stmts.proofs.KnownLemmas.{lookup-named_definitions}
use Rattle.gx_types_stmts.proofs.known.Known.operand_named.Goals as goal

pub returns-in_default-clause-named : goal.returns-in_default-clause-named
returns-in_default-clause-named c =
    rw (
      c.refused.ensures,
      ← c.self.view_is,
      lookup-named_definitions c.args.used.now.name.now c.self.inside.names.entries,
      ← c.in_default.ensures.value,
    ) refl

pub returns-then-not-is_of-clause-named : goal.returns-then-not-is_of-clause-named
returns-then-not-is_of-clause-named c =
    rw (
      c.refused-then-not-is_of.ensures,
      ← c.self.view_is,
      lookup-named_definitions c.args.used.now.name.now c.self.inside.names.entries,
      ← c.in-Some.ensures.value,
      ← c.is_of.ensures,
      c.if-not-is_of.true,
    ) refl

pub returns-clause-named : goal.returns-clause-named
returns-clause-named c =
    rw (
      ← c.self.view_is,
      lookup-named_definitions c.args.used.now.name.now c.self.inside.names.entries,
      ← c.in-Some.ensures.value,
      ← c.is_of.ensures,
      c.if-not-is_of.false,
      c.columns_if_some.ensures,
      c.columns_if_some-2.ensures,
    ) refl

pub returns-clause-earlier : goal.returns-clause-earlier
returns-clause-earlier c =
    let name = c.args.used.now.name.now in
    let es = c.self.inside.names.entries in
    let found = rw (lookup-named_definitions name es, ← c.in-Some.ensures.value) at
    (All-lookup (λ d. IsEarlier c.self.inside.len d.number) (bytes_eq name) (named_definitions es) c.self.invariant.1) in
    rw (← c.self.view_is) found
