use Rattle.gx_cluster_state.specs.Measures.{lineage_blocks}
use Rattle.gx_cluster_state.specs.Nets.{net_of}
use Rattle.gx_cluster_state.proofs.PossibleRuns.{lists_wanted, run_possible, turn_possible}
use Rattle.gx_cluster_state.proofs.laws.commands_have_a_run.Goals as goal

pub returns-clause-turn : goal.returns-clause-turn
returns-clause-turn c l f targets s e sound inside workers unheld =
    turn_possible (net_of l f) targets (lineage_blocks l) s e sound.earlier (lists_wanted l f targets sound inside) workers unheld

pub returns-clause-run : goal.returns-clause-run
returns-clause-run c l f cs p sound inside workers = run_possible l f cs p sound inside workers
