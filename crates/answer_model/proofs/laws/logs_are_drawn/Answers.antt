use Rattle.std.proofs.Common.{refl}
use Rattle.std.specs.Fmt.{digits}
use Rattle.clap.proofs.OnLiterals.{clap_on_literals}
use Rattle.ma_lines.specs.Sections.{sections_of}
use Rattle.rule_syntax.specs.Tokens.{tokens}
use Rattle.rule_syntax.specs.Reading.{written_rule}
use Rattle.rule_syntax.specs.RuleOf.{rule_of_text}
use Rattle.model_text.specs.ModelOf.{model_of}
use Rattle.model_text.specs.LifeModel.{made_text}
use Rattle.event_list.specs.Events.{events_of}
use Rattle.run_model.specs.WholeRun.{run}
use Rattle.run_model.specs.Run.{run_from, next_cycle}
use Rattle.answer_model.specs.Options.{draft_by, command_by}
use Rattle.answer_model.specs.Started.{started_by}
use Rattle.answer_model.specs.Cdpp.{run_on}
use Rattle.answer_model.specs.Drawlog.{drawing_answer}
use Rattle.answer_model.proofs.laws.logs_are_drawn.Goals as goal

pub returns : goal.returns
unfolding digits clap_on_literals sections_of tokens written_rule rule_of_text model_of made_text events_of run run_from next_cycle draft_by command_by started_by run_on drawing_answer
returns c =
    record {
      no_line = refl;
      a_byte = refl;
      no_line_feed = refl;
      one_line = refl;
      one_line_and_a_byte = refl;
      two_lines = refl;
      three_lines = refl;
      four_lines = refl;
      five_lines = refl;
      ring = refl;
      torn = refl;
      outside = refl;
      further_port = refl;
      no_log = refl;
    }
