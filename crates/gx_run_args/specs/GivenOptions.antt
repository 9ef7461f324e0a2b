-- Internal: words of private functions, which no public contract names.
use Rattle.std.specs.Prelude.{ℕ, ◌≤◌, ◌∷◌, [], ◌++◌, List, Option, None, Some, IfSome}
use Rattle.std.specs.List.{filter_map}
use Rattle.std.specs.Option.{option_and_then, option_map}
use Rattle.gx_run_args.specs.RunCommands.{Argument, script_name, part_count, edge_cut, worker_count, RunCommand, count_value, cut_named, single_command, arguments_of, given_script, given_parts, given_cut, given_workers}
use Rattle.gx_run_args.specs.declared.options.OptionName.{OptionName}
use Rattle.gx_run_args.specs.declared.options.OptionName.TheVariants as names
use Rattle.gx_run_args.specs.declared.options.Options.{Options}

-- how the value of an option is read
abbrev pub value_reading : OptionName → List ℕ → Option Argument
value_reading names.Parts value = option_map part_count (count_value value)
value_reading names.Cut value = option_map edge_cut (cut_named value)
value_reading names.Workers value = option_map worker_count (count_value value)

abbrev pub no_options : Options
no_options = record { parts = None; cut = None; workers = None }

-- the counts that were given are from 1 to 64
pub record HasCounts (options : Options) : Type 0 where
  pub parts_in_range : IfSome options.parts (λ parts. (1 ≤ parts) × (parts ≤ 64))
  pub workers_in_range : IfSome options.workers (λ workers. (1 ≤ workers) × (workers ≤ 64))

-- the value of an option that has none so far
abbrev pub new_value : {A B : Type 0} → Option A → B → Option B
new_value None with_value = Some with_value
new_value (Some value) with_value = None

-- one more option
abbrev pub options_with : Options → Option Argument → Option Options
options_with options None = None
options_with options (Some (script_name name)) = None
options_with options (Some (part_count n)) = new_value options.parts (record options { parts = Some n })
options_with options (Some (edge_cut cut)) = new_value options.cut (record options { cut = Some cut })
options_with options (Some (worker_count n)) = new_value options.workers (record options { workers = Some n })

-- a list of the value, if there is one
abbrev pub list_of_option : {A : Type 0} → Option A → List A
list_of_option None = []
list_of_option (Some value) = value ∷ []

-- the command of what was given, and of these arguments after it
abbrev pub joint_command : Option (List ℕ) → Options → List Argument → Option RunCommand
joint_command script options arguments =
    single_command
    (list_of_option script ++ filter_map given_script arguments)
    (list_of_option options.parts ++ filter_map given_parts arguments)
    (list_of_option options.cut ++ filter_map given_cut arguments)
    (list_of_option options.workers ++ filter_map given_workers arguments)

-- the command of what was given, and of these words after it
unfoldable pub pending_command : Option (List ℕ) → Options → List (List ℕ) → Option RunCommand
pending_command script options words = option_and_then (joint_command script options) (arguments_of words)
