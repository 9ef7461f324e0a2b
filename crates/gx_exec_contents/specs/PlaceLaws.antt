-- The values of a world without places are those of the plain model.
use Rattle.std.proofs.Common.{◌≡◌, map, sym, ap, ◌∙◌}
use Rattle.gx_model.specs.ActionAnswers.{answer_of_stmt}
use Rattle.gx_model.specs.Graphs.{Graph, plain_edges, without_places}
use Rattle.gx_model.specs.ScriptMeaning.{plain_values}
use Rattle.gx_model.specs.StmtFaults.{fault_of_stmt}
use Rattle.gx_model.specs.Values.{value_named}
use Rattle.gx_model.specs.PlaceLaws.{answer-without_places, fault-without_places, named-without_places, plain-placed_anew, script-without_places}
use Rattle.gx_exec_contents.specs.PlainValues.{AnswersArePlain, FaultsArePlain, ListsArePlain, ValuesArePlain}
use Rattle.gx_exec_contents.specs.Worlds.{World, loaded_in, placed_values, places_in, stmts_of, value_in}

all-plain : (w : World) → map without_places (placed_values w) ≡ plain_values (loaded_in w)
unfolding placed_values
all-plain w = script-without_places (places_in w) w.loads (stmts_of w)

pub values-are_plain : ValuesArePlain
values-are_plain w s = sym (named-without_places (placed_values w) s) ∙ ap (λ vs. value_named vs s) (all-plain w)

-- so a value has the vertices and the edges of the plain one
pub lists-are_plain : ListsArePlain
lists-are_plain w s = (
  ap (λ (g : Graph (Unit {0})). g.vertices) (values-are_plain w s),
  sym (plain-placed_anew (λ e. tt) (value_in w s).edges) ∙ ap (λ (g : Graph (Unit {0})). plain_edges g.edges) (values-are_plain w s),
)

pub faults-are_plain : FaultsArePlain
faults-are_plain w s st = sym (fault-without_places (placed_values w) s st) ∙ ap (λ vs. fault_of_stmt vs s st) (all-plain w)

pub answers-are_plain : AnswersArePlain
answers-are_plain w checked st = sym (answer-without_places (placed_values w) checked st) ∙ ap (λ vs. answer_of_stmt checked vs st) (all-plain w)
