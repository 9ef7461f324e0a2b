-- Answers as the model's records, and the rows in them.
use Rattle.std.specs.Prelude.{List, ◌∷◌, map}
use Rattle.gx_rows.specs.Order.{Edge}
use Rattle.gx_rows.specs.declared.value.Value.{Value}
use Rattle.gx_rows.specs.declared.value.Value.TheVariants.{Int}
use Rattle.gx_model.specs.ActionAnswers as model
use Rattle.gx_model.specs.Graphs.{Vertex}
use Rattle.gx_exec_answers.specs.declared.answer.Answer.{Answer}

abbrev pub answer_record : Answer → model.Answer
answer_record a = record { header = a.header.items; rows = map (λ row. row.items) a.rows.items }

-- the identifier and the values of each vertex
abbrev pub rows_of_vertices : List Vertex → List (List Value)
rows_of_vertices vertices = map (λ v. Int v.0.0 ∷ v.1) vertices

-- the source, the destination and the values of each edge
abbrev pub rows_of_edges : List Edge → List (List Value)
rows_of_edges edges = map (λ e. Int e.0.0 ∷ Int e.1.0 ∷ e.2) edges
