-- Names: what is known before a statement, and the first two checks.
use Rattle.std.specs.Prelude.{◌≡◌, ℕ, ◌+◌, ◌≤◌, All, if◌then◌else◌, Option, None, Some, Result, Ok}
use Rattle.std.specs.Prelude.{List, [], ◌∷◌, ◌++◌, map, unwrap_or, string_bytes, String, codes}
use Rattle.std.specs.Prelude.{refl}
use Rattle.std.specs.Map.{lookup}
use Rattle.std.specs.Str.{bytes_eq}
use Rattle.gx_rows.specs.Columns.{Column}
use Rattle.gx_types_exprs.specs.declared.type_kind.TypeKind.TheVariants as type_kind
use Rattle.gx_types_stmts.specs.Makes.{OperandTypes, no_operand, operand_of, is_of_sort, table_made}
use Rattle.gx_types_stmts.specs.Makes.{example_table}
use Rattle.gx_types_clauses.specs.NamedParts.{UsedName, used_table, used_graph}
use Rattle.gx_types_clauses.specs.StmtStops.{stmt_refusal}
use Rattle.gx_types_stmts.specs.declared.known.Definition.{Definition}
use Rattle.gx_types_stmts.specs.declared.made.Made.{Made}
use Rattle.gx_types_clauses.specs.declared.stmt_stop.StmtStop.{StmtStop}

-- what the statements so far made
pub record Context : Type 0 where
  -- each name with what it stands for, in the order of the definitions
  pub names : List (List ℕ × Definition)
  -- the number of statements
  pub count : ℕ
  -- the rounds of all `pregel` statements together
  pub rounds : ℕ

abbrev pub no_context : Context
no_context = record { names = []; count = 0; rounds = 0 }

abbrev pub definition_of : Context → List ℕ → Option Definition
definition_of k name = lookup (bytes_eq name) k.names

-- the number of a statement among the first so many
abbrev pub IsEarlier : ℕ → ℕ → Type 0
IsEarlier count n = (1 ≤ n) × (n ≤ count)

-- each name is defined by one of the first so many statements
abbrev pub AreEarlier : ℕ → List (List ℕ × Definition) → Type 0
AreEarlier count names = All (λ e. IsEarlier count e.1.number) names

-- ---- check 1: the new name is free

abbrev pub free_if : Option Definition → Result (Unit {0}) StmtStop
free_if None = Ok tt
free_if (Some d) = stmt_refusal type_kind.NameTaken

abbrev pub free_name : Context → Option (List ℕ) → Result (Unit {0}) StmtStop
free_name k None = Ok tt
free_name k (Some name) = free_if (definition_of k name)

-- ---- check 2: a used name was defined, and is of the right sort

abbrev pub operand_if : UsedName → Option Definition → Result OperandTypes StmtStop
operand_if u (Some d) =
    if is_of_sort u.sort d.made then Ok (operand_of d.number d.made)
    else stmt_refusal type_kind.WrongSort
operand_if u None = stmt_refusal type_kind.NameUnknown

abbrev pub named_operand : Context → UsedName → Result OperandTypes StmtStop
named_operand k u = operand_if u (definition_of k u.name)

-- if no name is used, there is nothing to read
abbrev pub used_operand : Context → Option UsedName → Result OperandTypes StmtStop
used_operand k None = Ok no_operand
used_operand k (Some u) = named_operand k u

-- ---- after a statement

abbrev pub with_new_name : List (List ℕ × Definition) → Option (List ℕ) → Definition
    → List (List ℕ × Definition)
with_new_name names None d = names
with_new_name names (Some name) d = names ++ (name, d) ∷ []

-- a statement that defines a name or none, has so many rounds, and makes this
abbrev pub context_after : Context → Option (List ℕ) → ℕ → Made → Context
context_after k name rounds made = record {
  names = with_new_name k.names name (record { number = k.count + 1; made = made });
  count = k.count + 1;
  rounds = k.rounds + rounds;
}

-- ---- the same, as the code keeps them

abbrev pub named_definitions : {A : Type 0} → List (String A × Definition)
    → List (List ℕ × Definition)
named_definitions es = map (λ e. (string_bytes e.0, e.1)) es

abbrev pub columns_or_none : Option (List Column) → List Column
columns_or_none t = unwrap_or t []

-- after `vertices s ..`, the name `s` is taken and stands for a table
unfoldable pub example_context : Context
example_context = context_after no_context (Some (codes "s")) 0 (table_made example_table)

names-checked :
    (free_name example_context (Some (codes "s")) ≡ stmt_refusal type_kind.NameTaken)
    × (free_name example_context (Some (codes "t")) ≡ Ok tt)
    × (named_operand example_context (used_table (codes "s"))
    ≡ Ok (record { number = 1; vertices = example_table; edges = [] }))
    × (named_operand example_context (used_graph (codes "s")) ≡ stmt_refusal type_kind.WrongSort)
    × (named_operand example_context (used_table (codes "t")) ≡ stmt_refusal type_kind.NameUnknown)
unfolding example_context
names-checked = (refl, refl, refl, refl, refl)
