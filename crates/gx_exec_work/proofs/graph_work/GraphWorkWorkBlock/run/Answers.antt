use Rattle.gx_cluster_state.specs.Values.{pointed_values}
use Rattle.gx_exec_work.proofs.Contents.{made-is_content}
use Rattle.gx_exec_work.proofs.graph_work.GraphWorkWorkBlock.run.Goals as goal

pub returns-clause-contents : goal.returns-clause-contents
returns-clause-contents c = λ here are. made-is_content c.args.self.now c.is_set.ensures c.args.b (pointed_values c.args.inputs.now) c.make.result c.make.ensures.made here are
