use Rattle.std.proofs.Common.{◌≡◌, sym, ◌∙◌, true, false}
use Rattle.std.specs.Str.{bytes_eq}
use Rattle.csv.specs.Records.{fields_of}
use Rattle.gx_load.specs.Cells.{trim}
use Rattle.gx_load.proofs.HeaderLemmas.{position_after-none, position_after-other, position_after-same}
use Rattle.gx_load.proofs.header.position_of.Goals as goal

pub returns-then-eq : goal.returns-then-eq
returns-then-eq c =
    let same : bytes_eq (trim c.in-Some.field.now) c.args.name.now ≡ true = rw (← c.trim.ensures, ← c.as_bytes.ensures.value) (sym c.if-eq.ensures) in
    sym (position_after-same c.args.name.now (fields_of c.args.header.now) c.fields.position c.in-Some.field.now (sym c.in-Some.ensures.value) same) ∙ c.fields.invariant

pub fields-preserved : goal.fields-preserved
fields-preserved c =
    let other : bytes_eq (trim c.in-Some.field.now) c.args.name.now ≡ false = rw (← c.trim.ensures, ← c.as_bytes.ensures.value) (sym c.if-eq.ensures) in
    sym (position_after-other c.args.name.now (fields_of c.args.header.now) c.fields.position c.in-Some.field.now (sym c.in-Some.ensures.value) other) ∙ c.fields.invariant

pub returns : goal.returns
returns c =
    sym (position_after-none c.args.name.now (fields_of c.args.header.now) c.fields.position (sym c.in_default.ensures.value)) ∙ c.fields.invariant
