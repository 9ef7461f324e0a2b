-- From what a kernel returns to a block.
use Rattle.std.proofs.Common.{◌≡◌, ℕ, List, Option, None, Some, option_map, refl, sym, ap, ◌∙◌}
use Rattle.gx_exec_contents.specs.PartContents.{BlockStop, Content, Stopped, Table, stop_on_vertex, stop_or}
use Rattle.gx_model.specs.Graphs.{Vertex}
use Rattle.gx_rows.specs.declared.cause.Cause.{Cause}
use Rattle.gx_rows.specs.declared.part_stop.PartStop.{PartStop}
use Rattle.gx_rows.specs.declared.part_stop.PartStop.TheVariants as part_stop
use Rattle.gx_rows.specs.declared.row_key.RowKey.{RowKey}
use Rattle.gx_vtable.specs.Kernels.{VertexFault, stop_of_fault}

-- the vertices, if no vertex has a fault
pub table-is_block : (rows table : List Vertex) (fault : Option VertexFault) → table ≡ rows → fault ≡ None → Table table ≡ stop_or (option_map stop_on_vertex fault) (Table rows)
table-is_block rows table fault same none = ap Table same ∙ sym (ap (λ f. stop_or (option_map stop_on_vertex f) (Table rows)) none)

abbrev stop_from : Option PartStop → Option BlockStop
stop_from (Some (part_stop.Fault key node cause)) = Some (record { key = key; expr = node; cause = cause })
stop_from _ = None

fault-given : (fault : Option VertexFault) → stop_from (option_map stop_of_fault fault) ≡ option_map stop_on_vertex fault
fault-given None = refl
fault-given (Some f) = refl

-- or else the fault
pub fault-is_block : (rows : List Vertex) (fault : Option VertexFault) (key : RowKey) (node : ℕ) (cause : Cause) → option_map stop_of_fault fault ≡ Some (part_stop.Fault key node cause)
    → Stopped (record { key = key; expr = node; cause = cause }) ≡ stop_or (option_map stop_on_vertex fault) (Table rows)
fault-is_block rows fault key node cause e = sym (ap (λ s. stop_or s (Table rows)) (sym (fault-given fault) ∙ ap stop_from e))

-- ---- stopped inputs

-- the first stop is what is made
pub stop-is_made : (stop : Option BlockStop) (c made : Content) → Some c ≡ option_map Stopped stop → c ≡ stop_or stop made
stop-is_made None c made e = cc
stop-is_made (Some s) c made e = ap (λ o. content_or o c) e
  where
    content_or : Option Content → Content → Content
    content_or (Some d) c = d
    content_or None c = c

-- with none, it is what is made of the contents
pub none-is_made : (stop : Option BlockStop) (made : Content) → None ≡ option_map Stopped stop → made ≡ stop_or stop made
none-is_made None made e = refl
none-is_made (Some s) made e = cc
