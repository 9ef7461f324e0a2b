use Rattle.std.proofs.Common.{◌+◌, add-zero, refl, sym}
use Rattle.std.specs.Map.{lookup}
use Rattle.std.specs.Str.{bytes_eq}
use Rattle.gx_types_stmts.specs.KnownNames.{named_definitions}
use Rattle.gx_types_stmts.proofs.KnownLemmas.{AreEarlier-next, named_definitions-insert, none-if_free}
use Rattle.gx_types_stmts.proofs.known.Known.define.Goals as goal

pub invariant_of-self-2 : goal.invariant_of-self-2
invariant_of-self-2 c =
    let name = c.in-Some.name.now in
    let known = c.self.inside.names in
    let free = none-if_free (lookup (bytes_eq name) (named_definitions known.entries)) (rw (← c.self.view_is, c.in-Some.is) at c.requires.free) in
    let same = named_definitions-insert known c.in_ok-name.name name (record { number = c.self.inside.len + 1; made = c.in_ok-made.made })
    (sym c.in_ok-name.ensures.ok) free in
    (c.self.invariant.0, rw (c.in_ok-insert.ensures.entries, same) (AreEarlier-next _ _ name _ c.self.invariant.1 refl))

pub returns-clause-added : goal.returns-clause-added
returns-clause-added c =
    let name = c.in-Some.name.now in
    let known = c.self.inside.names in
    let free = none-if_free (lookup (bytes_eq name) (named_definitions known.entries)) (rw (← c.self.view_is, c.in-Some.is) at c.requires.free) in
    let same = named_definitions-insert known c.in_ok-name.name name (record { number = c.self.inside.len + 1; made = c.in_ok-made.made })
    (sym c.in_ok-name.ensures.ok) free in
    rw (← c.self.view_is, c.in-Some.is, c.in_ok-insert.ensures.entries, same, c.in_ok-made.ensures, add-zero) refl
