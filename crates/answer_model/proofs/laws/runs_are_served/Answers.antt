use Rattle.std.proofs.Common.{refl}
use Rattle.std.specs.Fmt.{digits}
use Rattle.clap.proofs.OnLiterals.{clap_on_literals}
use Rattle.ma_lines.specs.Sections.{sections_of}
use Rattle.rule_syntax.specs.Tokens.{tokens}
use Rattle.rule_syntax.specs.Reading.{written_rule}
use Rattle.rule_syntax.specs.RuleOf.{rule_of_text}
use Rattle.model_text.specs.ModelOf.{model_of}
use Rattle.model_text.specs.LifeModel.{made_text}
use Rattle.event_list.specs.Events.{events_of}
use Rattle.run_model.specs.WholeRun.{run}
use Rattle.run_model.specs.Run.{run_from, next_cycle}
use Rattle.answer_model.specs.Options.{draft_by, command_by}
use Rattle.answer_model.specs.Started.{started_by}
use Rattle.answer_model.specs.Cdpp.{run_on}
use Rattle.served_tree.specs.Service.{serve}
use Rattle.served_tree.specs.KeptCycle.{service_after}
use Rattle.served_tree.specs.Order.{serve_times, mark_from}
use Rattle.served_tree.specs.OrderFrom.{order_from}
use Rattle.answer_model.proofs.laws.runs_are_served.Goals as goal

pub returns : goal.returns
unfolding digits clap_on_literals sections_of tokens written_rule rule_of_text model_of made_text events_of run run_from next_cycle draft_by command_by started_by run_on serve service_after serve_times order_from mark_from
returns c =
    record {
      mark = refl;
      stop = refl;
      stop_of_other_seed = refl;
      files_of_queue = refl;
      status_of_queue = refl;
      life = refl;
      life_of_other_seed = refl;
      queue_of_other_seed = refl;
    }
