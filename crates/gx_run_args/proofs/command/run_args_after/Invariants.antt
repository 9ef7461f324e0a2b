use Rattle.std.proofs.Common.{◌≡◌, length, None}
use Rattle.std.specs.Option.{option_map}
use Rattle.gx_run_args.specs.RunCommands.{arg_bytes}
use Rattle.gx_run_args.specs.GivenOptions.{HasCounts, pending_command, no_options}
use Rattle.gx_run_args.proofs.command.run_args_after.Given as goal

-- the command of what was given and of the words that remain is that of all words
abbrev pub invariant-loop-rest : goal.invariant-loop-rest
invariant-loop-rest l =
    (pending_command (option_map (λ name. name.now) l.script) l.options (arg_bytes l.rest) ≡ pending_command None no_options (arg_bytes l.words))
    × HasCounts l.options

abbrev pub decreases-loop-rest : goal.decreases-loop-rest
decreases-loop-rest l = length l.rest
