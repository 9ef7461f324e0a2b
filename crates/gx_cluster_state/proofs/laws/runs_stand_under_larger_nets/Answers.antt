use Rattle.gx_cluster_state.specs.Nets.{net_of}
use Rattle.gx_cluster_state.specs.LargerNetLaws.{passes_up, run_up, turns_up}
use Rattle.gx_cluster_state.proofs.laws.runs_stand_under_larger_nets.Goals as goal

pub returns-clause-turns : goal.returns-clause-turns
returns-clause-turns c l m f g targets last s left es grows inside runs h = turns_up grows inside runs h

pub returns-clause-run : goal.returns-clause-run
returns-clause-run c l m f g cs p q grows runs h = run_up (net_of l f) (net_of m g) cs p q grows runs h

pub returns-clause-passes : goal.returns-clause-passes
returns-clause-passes c l m f g cs p q grows runs h = passes_up (net_of l f) (net_of m g) cs p q grows runs h
