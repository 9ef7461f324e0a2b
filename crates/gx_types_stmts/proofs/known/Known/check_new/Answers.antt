use Rattle.std.proofs.Common.{refl}
use Rattle.gx_types_stmts.proofs.KnownLemmas.{lookup-named_definitions}
use Rattle.gx_types_stmts.proofs.known.Known.check_new.Goals as goal

pub returns-in-Some-get : goal.returns-in-Some-get
returns-in-Some-get c =
    rw (
      c.refused.ensures,
      ← c.self.view_is,
      c.in-Some.is,
      lookup-named_definitions c.in-Some.name.now c.self.inside.names.entries,
      ← c.in-Some-get.ensures.value,
    ) refl

pub returns-in-None : goal.returns-in-None
returns-in-None c =
    rw (
      ← c.self.view_is,
      c.in-Some.is,
      lookup-named_definitions c.in-Some.name.now c.self.inside.names.entries,
      ← c.in-None.ensures.value,
    ) refl
