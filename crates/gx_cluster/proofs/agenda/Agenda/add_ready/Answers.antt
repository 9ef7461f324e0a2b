use Rattle.gx_cluster.proofs.agenda.Agenda.add_ready.Goals as goal

pub returns-clause-ready : goal.returns-clause-ready
returns-clause-ready c q = rw (← c.self.view_is) (c.in_ok-insert.ensures.updates.0 q)
