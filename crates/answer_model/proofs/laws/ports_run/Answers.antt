use Rattle.std.proofs.Common.{refl}
use Rattle.std.specs.Fmt.{digits}
use Rattle.clap.proofs.OnLiterals.{clap_on_literals}
use Rattle.ma_lines.specs.Sections.{sections_of}
use Rattle.rule_syntax.specs.Tokens.{tokens}
use Rattle.rule_syntax.specs.Reading.{written_rule}
use Rattle.rule_syntax.specs.RuleOf.{rule_of_text}
use Rattle.model_text.specs.ModelOf.{model_of}
use Rattle.model_text.specs.LifeModel.{made_text}
use Rattle.event_list.specs.Events.{events_of}
use Rattle.run_model.specs.WholeRun.{run}
use Rattle.run_model.specs.Run.{run_from, next_cycle}
use Rattle.answer_model.specs.Options.{draft_by, command_by}
use Rattle.answer_model.specs.Started.{started_by}
use Rattle.answer_model.specs.Cdpp.{run_on}
use Rattle.answer_model.proofs.laws.ports_run.Goals as goal

pub returns : goal.returns
unfolding digits clap_on_literals sections_of tokens written_rule rule_of_text model_of made_text events_of run run_from next_cycle draft_by command_by started_by run_on
returns c =
    record {
      countdown = refl;
      old_values = refl;
      further_port = refl;
      blinks = refl;
      made = refl;
    }
