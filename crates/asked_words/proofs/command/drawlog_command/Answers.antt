use Rattle.std.proofs.Common.{◌∙◌, ap, map}
use Rattle.std.proofs.lemmas.Result.{IfOk-weaker}
use Rattle.clap.specs.Words.{App}
use Rattle.answer_model.specs.Options.{OptionRow, with_options, command_by, drawing_rows}
use Rattle.asked_words.specs.Table.{with_named}
use Rattle.asked_words.proofs.command.drawlog_command.Goals as goal

pub returns : goal.returns
unfolding command_by with_named
returns c =
    IfOk-weaker c.with_options.result _ _ (λ command has. has ∙ ap (λ (a : App). with_options a (map (λ (r : OptionRow). r.letter) drawing_rows)) c.new.ensures.app) c.with_options.ensures
