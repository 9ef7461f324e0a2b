-- The command that the words of a command line are.
use Rattle.std.specs.Prelude.{◌≡◌, ℕ, ◌∷◌, [], Bool, ◌&&◌, nat_le, if◌then◌else◌, List, length, map, String, codes, string_bytes, bytes_eq, slice_index, ◌==◌, Option, None, Some, refl}
use Rattle.std.specs.List.{filter_map, list_all, slice_split}
use Rattle.std.specs.Option.{option_and_then, option_map}
use Rattle.std.specs.Char.{is_ascii_digit}
use Rattle.std.specs.Str.Parse.{digits_value}
use Rattle.std.specs.declared.alloc.Global.{Global}
use Rattle.gx_rows.specs.declared.cut.Cut.{Cut}
use Rattle.gx_rows.specs.declared.cut.Cut.TheVariants.{OneD, TwoD, Random, Canonical, Rows}
use Rattle.gx_run_args.specs.declared.command.RunArgs.{RunArgs}

-- the words as their bytes
abbrev pub arg_bytes : List (String Global) → List (List ℕ)
arg_bytes args = map string_bytes args

-- the script to run, in how many partitions, placed by which cut, by how many workers
pub record RunCommand : Type 0 where
  pub script : List ℕ
  pub parts : ℕ
  pub cut : Cut
  pub workers : ℕ

-- the result of the call as a command
abbrev pub command_view : RunArgs → RunCommand
command_view run = record { script = run.script.now; parts = run.parts; cut = run.cut; workers = run.workers }

-- what a word says, or an option with its value
pub data Argument : Type 0 where
  script_name : List ℕ → Argument
  part_count : ℕ → Argument
  edge_cut : Cut → Argument
  worker_count : ℕ → Argument

-- ---- values

-- a number from the least to the most
abbrev pub is_between : ℕ → ℕ → ℕ → Bool
is_between least most n = nat_le least n && nat_le n most

-- a count is spelled by 1 to 20 digits, and is from 1 to 64
abbrev pub is_count : List ℕ → Bool
is_count text = is_between 1 20 (length text) && (list_all is_ascii_digit text && is_between 1 64 (digits_value 10 text))

-- the count that a text spells
abbrev pub count_value : List ℕ → Option ℕ
count_value text = if is_count text then Some (digits_value 10 text) else None

-- the cut that a word names
abbrev pub cut_named : List ℕ → Option Cut
cut_named word =
    if bytes_eq word (codes "1d") then Some OneD
    else if bytes_eq word (codes "2d") then Some TwoD
    else if bytes_eq word (codes "random") then Some Random
    else if bytes_eq word (codes "canonical") then Some Canonical
    else if bytes_eq word (codes "rows") then Some Rows
    else None

-- ---- words

-- how the value of an option is read, if the word is an option
abbrev pub option_reading : List ℕ → Option (List ℕ → Option Argument)
option_reading word =
    if bytes_eq word (codes "--parts") then Some (λ value. option_map part_count (count_value value))
    else if bytes_eq word (codes "--cut") then Some (λ value. option_map edge_cut (cut_named value))
    else if bytes_eq word (codes "--workers") then Some (λ value. option_map worker_count (count_value value))
    else None

-- the script's name, which does not begin with `-`
abbrev pub script_reading : List ℕ → Option Argument
script_reading word = if slice_index word 0 == 45 then None else Some (script_name word)

-- an argument before others
abbrev pub with_argument : Option Argument → Option (List Argument) → Option (List Argument)
with_argument argument others = option_and_then (λ first. option_map (λ rest. first ∷ rest) others) argument

-- what the words say: an option with the word after it, or a word that is the script's name
unfoldable pub arguments_of : List (List ℕ) → Option (List Argument)
arguments_of [] = Some []
arguments_of (word ∷ []) =
    elim (option_reading word) [
      | None ↦ with_argument (script_reading word) (Some [])
      | Some reading ↦ None
    ]
arguments_of (word ∷ value ∷ rest) =
    elim (option_reading word) [
      | None ↦ with_argument (script_reading word) (arguments_of (value ∷ rest))
      | Some reading ↦ with_argument (reading value) (arguments_of rest)
    ]

-- ---- the command

-- the value of an argument, if it is one of this kind
abbrev pub given_script : Argument → Option (List ℕ)
given_script (script_name name) = Some name
given_script _ = None

abbrev pub given_parts : Argument → Option ℕ
given_parts (part_count n) = Some n
given_parts _ = None

abbrev pub given_cut : Argument → Option Cut
given_cut (edge_cut cut) = Some cut
given_cut _ = None

abbrev pub given_workers : Argument → Option ℕ
given_workers (worker_count n) = Some n
given_workers _ = None

-- the value if there is exactly one
abbrev pub single_value : {A : Type 0} → List A → Option A
single_value [] = None
single_value (value ∷ []) = Some value
single_value (value ∷ second ∷ more) = None

-- the value if there is one, and the default if there is none; there may not be two
abbrev pub single_value_or : {A : Type 0} → A → List A → Option A
single_value_or default [] = Some default
single_value_or default (value ∷ more) = single_value (value ∷ more)

-- the command of the script's name and the values of each option
abbrev pub single_command : List (List ℕ) → List ℕ → List Cut → List ℕ → Option RunCommand
single_command scripts parts cuts workers =
    option_and_then
    (λ script. option_and_then
    (λ parts. option_and_then
    (λ cut. option_map
    (λ workers. record { script = script; parts = parts; cut = cut; workers = workers })
    (single_value_or 4 workers))
    (single_value_or TwoD cuts))
    (single_value_or 4 parts))
    (single_value scripts)

-- the command of these arguments: one script, and each option at most once
abbrev pub command_of : List Argument → Option RunCommand
command_of arguments =
    single_command (filter_map given_script arguments) (filter_map given_parts arguments) (filter_map given_cut arguments) (filter_map given_workers arguments)

-- the command that these words are: `run`, and then one script and the options in any order
unfoldable pub run_command : List (List ℕ) → Option RunCommand
run_command [] = None
run_command (command ∷ words) =
    if bytes_eq command (codes "run") then option_and_then command_of (arguments_of words) else None

-- ---- examples

run_command-no_words : run_command [] ≡ None
unfolding run_command
run_command-no_words = refl

-- the command of the words of a line, with a space between two
abbrev line_command : List ℕ → Option RunCommand
line_command line = run_command (slice_split (λ byte. byte == 32) line)

line_command-no_script : line_command (codes "run") ≡ None
unfolding run_command arguments_of
line_command-no_script = refl

line_command-script_alone : line_command (codes "run s") ≡ Some (record { script = codes "s"; parts = 4; cut = TwoD; workers = 4 })
unfolding run_command arguments_of
line_command-script_alone = refl

line_command-parts_twice : line_command (codes "run s --parts 1 --parts 2") ≡ None
unfolding run_command arguments_of
line_command-parts_twice = refl

line_command-other_cut : line_command (codes "run s --cut 3d") ≡ None
unfolding run_command arguments_of
line_command-other_cut = refl

line_command-most_parts : line_command (codes "run s --parts 64") ≡ Some (record { script = codes "s"; parts = 64; cut = TwoD; workers = 4 })
unfolding run_command arguments_of
line_command-most_parts = refl

line_command-more_parts : line_command (codes "run s --parts 65") ≡ None
unfolding run_command arguments_of
line_command-more_parts = refl

line_command-zero_parts : line_command (codes "run s --parts 0") ≡ None
unfolding run_command arguments_of
line_command-zero_parts = refl

line_command-options_around : line_command (codes "run --workers 2 s --cut rows") ≡ Some (record { script = codes "s"; parts = 4; cut = Rows; workers = 2 })
unfolding run_command arguments_of
line_command-options_around = refl

line_command-two_scripts : line_command (codes "run s t") ≡ None
unfolding run_command arguments_of
line_command-two_scripts = refl

line_command-no_value : line_command (codes "run s --parts") ≡ None
unfolding run_command arguments_of
line_command-no_value = refl

line_command-other_option : line_command (codes "run -s") ≡ None
unfolding run_command arguments_of
line_command-other_option = refl

line_command-zeros : line_command (codes "run s --parts 007") ≡ Some (record { script = codes "s"; parts = 7; cut = TwoD; workers = 4 })
unfolding run_command arguments_of
line_command-zeros = refl

line_command-sign : line_command (codes "run s --parts +1") ≡ None
unfolding run_command arguments_of
line_command-sign = refl

line_command-other_command : line_command (codes "show s") ≡ None
unfolding run_command arguments_of
line_command-other_command = refl

line_command-most_digits : line_command (codes "run s --parts 00000000000000000064") ≡ Some (record { script = codes "s"; parts = 64; cut = TwoD; workers = 4 })
unfolding run_command arguments_of
line_command-most_digits = refl

line_command-more_digits : line_command (codes "run s --parts 000000000000000000064") ≡ None
unfolding run_command arguments_of
line_command-more_digits = refl
