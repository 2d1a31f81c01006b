use Rattle.std.proofs.Common.{◌≡◌, drop}
use Rattle.clap.specs.Words.{app_of}
use Rattle.asked_words.specs.Table.{with_named}
use Rattle.asked_words.proofs.command.with_options.Given as goal

-- with the options that are left the command is as it is to be
abbrev pub invariant-loop-option : goal.invariant-loop-option
invariant-loop-option l = with_named (app_of l.command) (drop l.option-index l.options) ≡ with_named (app_of l.initial.command) l.options
