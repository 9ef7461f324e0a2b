-- The rows of a block, if it is held.
use Rattle.std.specs.Prelude.{Option, None, Some, List, []}
use Rattle.gx_exec_contents.specs.MadeBlocks.{edges_held, vertices_held}
use Rattle.gx_exec_work.specs.Works.{shown}
use Rattle.gx_exec_work.specs.declared.block.Block.{Block}
use Rattle.gx_model.specs.Graphs.{Vertex}
use Rattle.gx_rows.specs.Order.{Edge}

-- the vertices of a block, if there is one and it has some
abbrev pub vertices_of_block : Option Block → List Vertex
vertices_of_block None = []
vertices_of_block (Some block) = vertices_held (shown block)

-- the edges of a block, if there is one and it has some
abbrev pub edges_of_block : Option Block → List Edge
edges_of_block None = []
edges_of_block (Some block) = edges_held (shown block)
