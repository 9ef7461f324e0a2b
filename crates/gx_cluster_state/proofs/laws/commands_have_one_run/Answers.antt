use Rattle.gx_cluster_state.specs.Nets.{net_of}
use Rattle.gx_cluster_state.proofs.OneRun.{one_end, one_run, passes_extend}
use Rattle.gx_cluster_state.proofs.laws.commands_have_one_run.Goals as goal

pub returns-clause-demand : goal.returns-clause-demand
returns-clause-demand c l f targets a b s left rest es x h y k = one_end x y h k

pub returns-clause-run : goal.returns-clause-run
returns-clause-run c l f cs p a b x y = one_run (net_of l f) cs p a b x y

pub returns-clause-prefix : goal.returns-clause-prefix
returns-clause-prefix c l f cs p q r x y = passes_extend (net_of l f) cs p q r x y
