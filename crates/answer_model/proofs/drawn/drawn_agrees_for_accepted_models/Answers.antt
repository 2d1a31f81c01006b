use Rattle.answer_model.proofs.AcceptedRuns.{Laws, runs_are_drawn, files_are_drawn, frames_are_drawn}
use Rattle.answer_model.proofs.drawn.drawn_agrees_for_accepted_models.Goals as goal

pub returns : goal.returns
returns c =
    let laws : Laws = record {
      bounded = c.accepted_models_have_bounded_values.ensures;
      named = c.accepted_names_are_names.ensures;
      shows = c.accepted_names_show_cells.ensures;
      sound = c.accepted_models_are_sound.ensures;
      start_bounded = c.values_are_bounded.ensures.start;
      runs_bounded = c.values_are_bounded.ensures.runs;
      start_fits = c.records_name_what_there_is.ensures.start;
      runs_fit = c.records_name_what_there_is.ensures.runs;
      drawn = c.drawn_agrees.ensures;
    } in
    record { runs = runs_are_drawn laws; files = files_are_drawn laws c.accepted_events_are_bounded.ensures; frames = frames_are_drawn laws c.accepted_drawings_have_groups.ensures }
