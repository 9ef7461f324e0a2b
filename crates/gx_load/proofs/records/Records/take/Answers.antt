use Rattle.gx_load.proofs.NextRecord.{took}
use Rattle.gx_load.proofs.records.Records.take.Goals as goal

pub invariant_of-self-2 : goal.invariant_of-self-2
invariant_of-self-2 c = (took _ _ _ _ (c.self.invariant c.if-not-self.false) c.in-Ok.ensures.ready c.in-Ok.ensures.reads).1

pub returns : goal.returns
returns c =
    let read = took _ _ _ _ (c.self.invariant c.if-not-self.false) c.in-Ok.ensures.ready c.in-Ok.ensures.reads in
    rw (← c.self.view_is, c.if-not-self.false) read.0
