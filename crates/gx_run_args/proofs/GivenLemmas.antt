-- The command of what was given and of the words after it, word by word.
use Rattle.std.proofs.Common.{◌≡◌, ◌≤◌, ◌<◌, ◌-◌, ℕ, Bool, true, false, List, [], ◌∷◌, ◌++◌, Option, None, Some, refl, sym, ◌∙◌, ap, arith, length, take, drop, get_or}
use Rattle.std.specs.Prelude.{◌==◌, if◌then◌else◌, String, bytes_eq, codes, string_bytes, slice_index}
use Rattle.std.specs.List.{filter_map}
use Rattle.std.specs.Option.{is_some, option_and_then, option_map, unwrap_or}
use Rattle.std.specs.declared.alloc.Global.{Global}
use Rattle.std.proofs.Math.Seq.{take-length}
use Rattle.gx_rows.specs.declared.cut.Cut.{Cut}
use Rattle.gx_rows.specs.declared.cut.Cut.TheVariants.{TwoD}
use Rattle.gx_run_args.specs.RunCommands.{Argument, script_name, part_count, edge_cut, worker_count, RunCommand, arg_bytes, arguments_of, command_of, count_value, cut_named, option_reading, script_reading, given_script, given_parts, given_cut, single_value, single_value_or, run_command, with_argument}
use Rattle.gx_run_args.specs.GivenOptions.{pending_command, joint_command, list_of_option, no_options, options_with, value_reading}
use Rattle.gx_run_args.specs.declared.options.OptionName.{OptionName}
use Rattle.gx_run_args.specs.declared.options.OptionName.TheVariants as names
use Rattle.gx_run_args.specs.declared.options.Options.{Options}

-- ---- a value that there may not be

one_none : {A B : Type 0} (a : Option A) → option_and_then {U = B} (λ x. None) a ≡ None
one_none None = refl
one_none (Some x) = refl

two_none : {A B C : Type 0} (a : Option A) (b : Option B) → option_and_then {U = C} (λ x. option_and_then (λ y. None) b) a ≡ None
two_none None b = refl
two_none (Some x) b = one_none b

three_none : {A B C D : Type 0} (a : Option A) (b : Option B) (c : Option C)
    → option_and_then {U = D} (λ x. option_and_then (λ y. option_and_then (λ z. None) c) b) a ≡ None
three_none None b c = refl
three_none (Some x) b c = two_none b c

-- ---- the first words of those that remain

-- a word that is no option
arguments_of-word : (word : List ℕ) (after : List (List ℕ)) → option_reading word ≡ None
    → arguments_of (word ∷ after) ≡ with_argument (script_reading word) (arguments_of after)
unfolding arguments_of
arguments_of-word word [] reading = rw (reading, arguments_of) refl
arguments_of-word word (value ∷ rest) reading = rw (reading, arguments_of) refl

-- an option, with the word after it if there is one
arguments_of-option : (word value : List ℕ) (rest : List (List ℕ)) (read : List ℕ → Option Argument) → option_reading word ≡ Some read
    → arguments_of (word ∷ value ∷ rest) ≡ with_argument (read value) (arguments_of rest)
unfolding arguments_of
arguments_of-option word value rest read reading = rw (reading, arguments_of) refl

arguments_of-last_option : (word : List ℕ) (read : List ℕ → Option Argument) → option_reading word ≡ Some read → arguments_of (word ∷ []) ≡ None
unfolding arguments_of
arguments_of-last_option word read reading = rw (reading, arguments_of) refl

-- a name before others is the script's
script-given : (options : Options) (word : List ℕ) (after : List (List ℕ)) → option_reading word ≡ None → (slice_index word 0 == 45) ≡ false
    → pending_command None options (word ∷ after) ≡ pending_command (Some word) options after
unfolding pending_command
script-given options word after reading name =
    let read : script_reading word ≡ Some (script_name word) = rw name refl in
    rw (arguments_of-word word after reading, read) (go (arguments_of after))
  where
    go : (others : Option (List Argument)) → option_and_then (joint_command None options) (with_argument (Some (script_name word)) others) ≡ option_and_then (joint_command (Some word) options) others
    go None = refl
    go (Some arguments) = refl

-- a word that begins with `-` and is no option
dash-refused : (script : Option (List ℕ)) (options : Options) (word : List ℕ) (after : List (List ℕ)) → option_reading word ≡ None → (slice_index word 0 == 45) ≡ true
    → pending_command script options (word ∷ after) ≡ None
unfolding pending_command
dash-refused script options word after reading dash =
    let read : script_reading word ≡ None = rw dash refl in
    rw (arguments_of-word word after reading, read) refl

-- a second name
second-refused : (script : List ℕ) (options : Options) (word : List ℕ) (after : List (List ℕ)) → option_reading word ≡ None
    → pending_command (Some script) options (word ∷ after) ≡ None
unfolding pending_command
second-refused script options word after reading = rw (arguments_of-word word after reading) (go (slice_index word 0 == 45) (arguments_of after))
  where
    go : (dash : Bool) (others : Option (List Argument))
        → option_and_then (joint_command (Some script) options) (with_argument (if dash then None else Some (script_name word)) others) ≡ None
    go true others = refl
    go false None = refl
    go false (Some arguments) = refl

-- an option without a value
option-refused : (script : Option (List ℕ)) (options : Options) (word : List ℕ) (name : OptionName) → Some (value_reading name) ≡ option_reading word
    → pending_command script options (word ∷ []) ≡ None
unfolding pending_command
option-refused script options word name reading = rw (arguments_of-last_option word (value_reading name) (sym reading)) refl

-- ---- an option with its value

-- what follows the options that are given, if they can be
abbrev pub pending_if_given : Option (List ℕ) → Option Options → List (List ℕ) → Option RunCommand
pending_if_given script None words = None
pending_if_given script (Some options) words = pending_command script options words

-- each option, if it has no value so far
parts_given : (script : Option (List ℕ)) (parts : Option ℕ) (cut : Option Cut) (workers : Option ℕ) (value : Option ℕ) (rest : List (List ℕ)) (others : Option (List Argument)) → arguments_of rest ≡ others
    → option_and_then (joint_command script (record { parts = parts; cut = cut; workers = workers })) (with_argument (option_map part_count value) others) ≡ pending_if_given script (options_with (record { parts = parts; cut = cut; workers = workers }) (option_map part_count value)) rest
unfolding pending_command
parts_given script parts cut workers None rest others is = refl
parts_given script None cut workers (Some value) rest None is = rw is refl
parts_given script None cut workers (Some value) rest (Some arguments) is = rw is refl
parts_given script (Some first) cut workers (Some value) rest None is = refl
parts_given script (Some first) cut workers (Some value) rest (Some arguments) is = one_none (single_value (list_of_option script ++ filter_map given_script arguments))

cut_given : (script : Option (List ℕ)) (parts : Option ℕ) (cut : Option Cut) (workers : Option ℕ) (value : Option Cut) (rest : List (List ℕ)) (others : Option (List Argument)) → arguments_of rest ≡ others
    → option_and_then (joint_command script (record { parts = parts; cut = cut; workers = workers })) (with_argument (option_map edge_cut value) others) ≡ pending_if_given script (options_with (record { parts = parts; cut = cut; workers = workers }) (option_map edge_cut value)) rest
unfolding pending_command
cut_given script parts cut workers None rest others is = refl
cut_given script parts None workers (Some value) rest None is = rw is refl
cut_given script parts None workers (Some value) rest (Some arguments) is = rw is refl
cut_given script parts (Some first) workers (Some value) rest None is = refl
cut_given script parts (Some first) workers (Some value) rest (Some arguments) is = two_none (single_value (list_of_option script ++ filter_map given_script arguments)) (single_value_or 4 (list_of_option parts ++ filter_map given_parts arguments))

workers_given : (script : Option (List ℕ)) (parts : Option ℕ) (cut : Option Cut) (workers : Option ℕ) (value : Option ℕ) (rest : List (List ℕ)) (others : Option (List Argument)) → arguments_of rest ≡ others
    → option_and_then (joint_command script (record { parts = parts; cut = cut; workers = workers })) (with_argument (option_map worker_count value) others) ≡ pending_if_given script (options_with (record { parts = parts; cut = cut; workers = workers }) (option_map worker_count value)) rest
unfolding pending_command
workers_given script parts cut workers None rest others is = refl
workers_given script parts cut None (Some value) rest None is = rw is refl
workers_given script parts cut None (Some value) rest (Some arguments) is = rw is refl
workers_given script parts cut (Some first) (Some value) rest None is = refl
workers_given script parts cut (Some first) (Some value) rest (Some arguments) is = three_none (single_value (list_of_option script ++ filter_map given_script arguments)) (single_value_or 4 (list_of_option parts ++ filter_map given_parts arguments)) (single_value_or TwoD (list_of_option cut ++ filter_map given_cut arguments))

option-given : (script : Option (List ℕ)) (options : Options) (word value : List ℕ) (rest : List (List ℕ)) (name : OptionName) → Some (value_reading name) ≡ option_reading word
    → pending_command script options (word ∷ value ∷ rest) ≡ pending_if_given script (options_with options (value_reading name value)) rest
unfolding pending_command
option-given script options word value rest name reading = rw (arguments_of-option word value rest (value_reading name) (sym reading)) (go name)
  where
    go : (name : OptionName)
        → option_and_then (joint_command script options) (with_argument (value_reading name value) (arguments_of rest)) ≡ pending_if_given script (options_with options (value_reading name value)) rest
    go names.Parts = parts_given script options.parts options.cut options.workers (count_value value) rest _ refl
    go names.Cut = cut_given script options.parts options.cut options.workers (cut_named value) rest _ refl
    go names.Workers = workers_given script options.parts options.cut options.workers (count_value value) rest _ refl

-- ---- no more words

-- the command of these values
abbrev pub with_defaults : Option ℕ → Option Cut → Option ℕ → List ℕ → RunCommand
with_defaults parts cut workers script = record { script = script; parts = unwrap_or parts 4; cut = unwrap_or cut TwoD; workers = unwrap_or workers 4 }

all_given : (script : Option (List ℕ)) (parts : Option ℕ) (cut : Option Cut) (workers : Option ℕ)
    → joint_command script (record { parts = parts; cut = cut; workers = workers }) [] ≡ option_map (with_defaults parts cut workers) script
all_given None parts cut workers = refl
all_given (Some name) None None None = refl
all_given (Some name) None None (Some w) = refl
all_given (Some name) None (Some c) None = refl
all_given (Some name) None (Some c) (Some w) = refl
all_given (Some name) (Some p) None None = refl
all_given (Some name) (Some p) None (Some w) = refl
all_given (Some name) (Some p) (Some c) None = refl
all_given (Some name) (Some p) (Some c) (Some w) = refl

no-words : (script : Option (List ℕ)) (options : Options)
    → pending_command script options [] ≡ option_map (with_defaults options.parts options.cut options.workers) script
unfolding pending_command arguments_of
no-words script options = all_given script options.parts options.cut options.workers

-- nothing was given before the first word
pub none-given : (words : List (List ℕ)) → pending_command None no_options words ≡ option_and_then command_of (arguments_of words)
unfolding pending_command
none-given words = refl

-- ---- the words of a slice

-- the first word, and the slice after it
first-word : (rest : List (String Global)) (word : String Global) (k : ℕ) → 1 ≤ length rest → word ≡ get_or rest 0 word → k ≡ length rest - 1
    → arg_bytes rest ≡ string_bytes word ∷ arg_bytes (take k (drop 1 rest))
first-word [] word k some is rest_len = absurd (omega arith)
first-word (first ∷ rest) word k some is rest_len =
    let same : k ≡ length rest = omega arith in
    rw (is, same, take-length) refl

no-word : (rest : List (String Global)) → length rest < 1 → arg_bytes rest ≡ []
no-word [] none = refl
no-word (word ∷ rest) none = absurd (omega arith)

-- the first word of the slice, and where the slice after it ends
pub record IsFirst (rest : List (String Global)) (word : List ℕ) (k : ℕ) : Type 0 where
  pub item : String Global
  pub some : 1 ≤ length rest
  pub is : item ≡ get_or rest 0 item
  pub bytes : word ≡ string_bytes item
  pub ends : k ≡ length rest - 1

first-bytes : (rest : List (String Global)) (word : List ℕ) (k : ℕ) → IsFirst rest word k → arg_bytes rest ≡ word ∷ arg_bytes (take k (drop 1 rest))
first-bytes rest word k first = first-word rest first.item k first.some first.is first.ends ∙ ap (λ w. w ∷ arg_bytes (take k (drop 1 rest))) (sym first.bytes)

-- what is left of a command if its words begin so
ended : {r : Option RunCommand} (script : Option (List ℕ)) (options : Options) (rest words : List (String Global)) (bytes : List (List ℕ))
    → pending_command script options (arg_bytes rest) ≡ pending_command None no_options (arg_bytes words) → arg_bytes rest ≡ bytes → pending_command script options bytes ≡ r
    → r ≡ option_and_then command_of (arguments_of (arg_bytes words))
ended script options rest words bytes same begins is = sym is ∙ ap (pending_command script options) (sym begins) ∙ same ∙ none-given (arg_bytes words)

kept : {r : Option RunCommand} (script : Option (List ℕ)) (options : Options) (rest words : List (String Global)) (bytes : List (List ℕ))
    → pending_command script options (arg_bytes rest) ≡ pending_command None no_options (arg_bytes words) → arg_bytes rest ≡ bytes → pending_command script options bytes ≡ r
    → r ≡ pending_command None no_options (arg_bytes words)
kept script options rest words bytes same begins is = sym is ∙ ap (pending_command script options) (sym begins) ∙ same

-- an option is the last word
pub last-option-ends : (script : Option (List ℕ)) (options : Options) (rest words : List (String Global)) (word : List ℕ) (k : ℕ) (name : OptionName)
    → pending_command script options (arg_bytes rest) ≡ pending_command None no_options (arg_bytes words) → IsFirst rest word k
    → Some (value_reading name) ≡ option_reading word → length (take k (drop 1 rest)) < 1 → None ≡ option_and_then command_of (arguments_of (arg_bytes words))
last-option-ends script options rest words word k name same first reading none =
    ended script options rest words (word ∷ []) same (first-bytes rest word k first ∙ ap (λ ws. word ∷ ws) (no-word (take k (drop 1 rest)) none))
    (option-refused script options word name reading)

-- the bytes of the two first words
two-bytes : (rest : List (String Global)) (word value : List ℕ) (k m : ℕ) → IsFirst rest word k → IsFirst (take k (drop 1 rest)) value m
    → arg_bytes rest ≡ word ∷ value ∷ arg_bytes (take m (drop 1 (take k (drop 1 rest))))
two-bytes rest word value k m first second =
    first-bytes rest word k first ∙ ap (λ ws. word ∷ ws) (first-bytes (take k (drop 1 rest)) value m second)

-- an option cannot have this value
pub value-ends : (script : Option (List ℕ)) (options : Options) (rest words : List (String Global)) (word value : List ℕ) (k m : ℕ) (name : OptionName)
    → pending_command script options (arg_bytes rest) ≡ pending_command None no_options (arg_bytes words) → IsFirst rest word k → IsFirst (take k (drop 1 rest)) value m
    → Some (value_reading name) ≡ option_reading word → None ≡ options_with options (value_reading name value) → None ≡ option_and_then command_of (arguments_of (arg_bytes words))
value-ends script options rest words word value k m name same first second reading refused =
    let others = arg_bytes (take m (drop 1 (take k (drop 1 rest)))) in
    ended script options rest words (word ∷ value ∷ others) same (two-bytes rest word value k m first second)
    (option-given script options word value others name reading ∙ ap (λ o. pending_if_given script o others) (sym refused))

-- an option has this value
pub value-kept : (script : Option (List ℕ)) (options new : Options) (rest words : List (String Global)) (word value : List ℕ) (k m : ℕ) (name : OptionName)
    → pending_command script options (arg_bytes rest) ≡ pending_command None no_options (arg_bytes words) → IsFirst rest word k → IsFirst (take k (drop 1 rest)) value m
    → Some (value_reading name) ≡ option_reading word → Some new ≡ options_with options (value_reading name value)
    → pending_command script new (arg_bytes (take m (drop 1 (take k (drop 1 rest))))) ≡ pending_command None no_options (arg_bytes words)
value-kept script options new rest words word value k m name same first second reading given =
    let others = arg_bytes (take m (drop 1 (take k (drop 1 rest)))) in
    kept script options rest words (word ∷ value ∷ others) same (two-bytes rest word value k m first second)
    (option-given script options word value others name reading ∙ ap (λ o. pending_if_given script o others) (sym given))

-- a word is the script's name
pub script-kept : {S : Type 0} (name_of : S → List ℕ) (script : Option S) (options : Options) (rest words : List (String Global)) (word : List ℕ) (k : ℕ)
    → pending_command (option_map name_of script) options (arg_bytes rest) ≡ pending_command None no_options (arg_bytes words) → IsFirst rest word k
    → None ≡ option_reading word → is_some script ≡ false → (slice_index word 0 == 45) ≡ false
    → pending_command (Some word) options (arg_bytes (take k (drop 1 rest))) ≡ pending_command None no_options (arg_bytes words)
script-kept name_of None options rest words word k same first reading none name =
    let after = arg_bytes (take k (drop 1 rest)) in
    kept None options rest words (word ∷ after) same (first-bytes rest word k first) (script-given options word after (sym reading) name)
script-kept name_of (Some script) options rest words word k same first reading none name = cc none

-- a word is a second name
pub second-ends : {S : Type 0} (name_of : S → List ℕ) (script : Option S) (options : Options) (rest words : List (String Global)) (word : List ℕ) (k : ℕ)
    → pending_command (option_map name_of script) options (arg_bytes rest) ≡ pending_command None no_options (arg_bytes words) → IsFirst rest word k
    → None ≡ option_reading word → is_some script ≡ true → None ≡ option_and_then command_of (arguments_of (arg_bytes words))
second-ends name_of None options rest words word k same first reading some = cc some
second-ends name_of (Some script) options rest words word k same first reading some =
    let after = arg_bytes (take k (drop 1 rest)) in
    ended (Some (name_of script)) options rest words (word ∷ after) same (first-bytes rest word k first) (second-refused (name_of script) options word after (sym reading))

-- a word begins with `-` and is no option
pub dash-ends : (script : Option (List ℕ)) (options : Options) (rest words : List (String Global)) (word : List ℕ) (k : ℕ)
    → pending_command script options (arg_bytes rest) ≡ pending_command None no_options (arg_bytes words) → IsFirst rest word k
    → None ≡ option_reading word → (slice_index word 0 == 45) ≡ true → None ≡ option_and_then command_of (arguments_of (arg_bytes words))
dash-ends script options rest words word k same first reading dash =
    let after = arg_bytes (take k (drop 1 rest)) in
    ended script options rest words (word ∷ after) same (first-bytes rest word k first) (dash-refused script options word after (sym reading) dash)

-- the words end
pub all-end : (script : Option (List ℕ)) (options : Options) (rest words : List (String Global))
    → pending_command script options (arg_bytes rest) ≡ pending_command None no_options (arg_bytes words) → length rest < 1
    → option_map (with_defaults options.parts options.cut options.workers) script ≡ option_and_then command_of (arguments_of (arg_bytes words))
all-end script options rest words same none = ended script options rest words [] same (no-word rest none) (no-words script options)

-- ---- the word `run`

pub command-begins : (args : List (String Global)) (word : List ℕ) (k : ℕ) → IsFirst args word k → bytes_eq word (codes "run") ≡ true
    → option_and_then command_of (arguments_of (arg_bytes (take k (drop 1 args)))) ≡ run_command (arg_bytes args)
unfolding run_command
command-begins args word k first is = rw (first-bytes args word k first, is) refl

pub other-command : (args : List (String Global)) (word : List ℕ) (k : ℕ) → IsFirst args word k → bytes_eq word (codes "run") ≡ false → None ≡ run_command (arg_bytes args)
unfolding run_command
other-command args word k first is = rw (first-bytes args word k first, is) refl

pub no-command : (args : List (String Global)) → length args < 1 → None ≡ run_command (arg_bytes args)
unfolding run_command
no-command [] none = refl
no-command (word ∷ rest) none = absurd (omega arith)
