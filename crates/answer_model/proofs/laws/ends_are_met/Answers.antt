use Rattle.answer_model.proofs.Ends.{first_append, second_append, third_append, fourth_append, fifth_append, cut_causes, no_log, nothing_shown, nothing_complained, complete, not_read, no_state, no_state_causes}
use Rattle.answer_model.proofs.FaultRows.{read_answered, read_hidden, complaint_answered, complaint_hidden, append_hidden}
use Rattle.answer_model.proofs.laws.ends_are_met.Goals as goal

pub returns : goal.returns
returns c =
    record {
      first_append = first_append;
      second_append = second_append;
      third_append = third_append;
      fourth_append = fourth_append;
      fifth_append = fifth_append;
      cut_causes = cut_causes;
      no_log = no_log;
      nothing_shown = nothing_shown;
      nothing_complained = nothing_complained;
      complete = complete;
      not_read = not_read;
      no_state = no_state;
      no_state_causes = no_state_causes;
      read_answered = read_answered;
      read_hidden = read_hidden;
      complaint_answered = complaint_answered;
      complaint_hidden = complaint_hidden;
      append_hidden = append_hidden;
    }
