use Rattle.std.proofs.Common.{refl}
use Rattle.std.specs.Fmt.{digits}
use Rattle.clap.proofs.OnLiterals.{clap_on_literals}
use Rattle.answer_model.specs.Options.{draft_by, command_by}
use Rattle.answer_model.specs.Started.{started_by}
use Rattle.answer_model.specs.Drawlog.{drawing_answer}
use Rattle.answer_model.proofs.laws.words_end.Goals as goal

pub returns : goal.returns
unfolding command_by digits clap_on_literals draft_by started_by drawing_answer
returns c =
    record {
      options = record {
        last_time = refl;
        past_hours = refl;
        past_minutes = refl;
        past_seconds = refl;
        past_milliseconds = refl;
        three_parts = refl;
        most_cells = refl;
        too_many_cells = refl;
        no_more = refl;
        one_cycle = refl;
        no_cycle = refl;
        most_cycles = refl;
        too_many_cycles = refl;
        seven_digits = refl;
        eight_digits = refl;
        sign = refl;
        all_letters = refl;
        one_letter = refl;
        no_such_letter = refl;
        small_letter = refl;
        letter_again = refl;
        no_letter = refl;
        group = refl;
        no_file = refl;
        no_group_name = refl;
        narrow = refl;
        wide = refl;
        no_width = refl;
        too_wide = refl;
        five_decimals = refl;
        six_decimals = refl;
        last_plane = refl;
        no_plane = refl;
        first_seed = refl;
        last_seed = refl;
        past_seeds = refl;
        ten_digits = refl;
        eleven_digits = refl;
        no_digit = refl;
        seed_below = refl;
        seed_again = refl;
        all_names = refl;
      };
      files = record {
        model_and_events = refl;
        model_and_log = refl;
        model_and_out = refl;
        model_and_frames = refl;
        events_and_log = refl;
        events_and_out = refl;
        events_and_frames = refl;
        log_and_out = refl;
        log_and_frames = refl;
        out_and_frames = refl;
        model_and_save = refl;
        model_and_state = refl;
        events_and_save = refl;
        events_and_state = refl;
        log_and_save = refl;
        log_and_state = refl;
        out_and_save = refl;
        out_and_state = refl;
        frames_and_save = refl;
        frames_and_state = refl;
        save_and_state = refl;
      };
      drawings = record {
        last_plane = refl;
        past_planes = refl;
        most_cells = refl;
        too_many_cells = refl;
        most_planes = refl;
        too_many_planes = refl;
        no_row = refl;
        no_column = refl;
        no_plane = refl;
        one_number = refl;
        four_numbers = refl;
        widest = refl;
        narrowest = refl;
        no_width = refl;
        too_wide = refl;
        six_decimals = refl;
        no_size = refl;
        no_log = refl;
        no_group = refl;
        no_group_name = refl;
      };
      usage = record {
        cdpp = refl;
        drawlog = refl;
      };
    }
