-- Words at their limits: of each option the last value that is taken and the first that is refused,
-- two files of one name, and the lines of usage.
use Rattle.std.specs.Prelude.{◌≡◌, ℕ, Option, Some, None, [], ◌++◌, codes}
use Rattle.cell_grid.specs.declared.grid.Border.TheVariants.{NoWrapped}
use Rattle.quantity.specs.Bytes.{Bytes}
use Rattle.answer_model.specs.Asked.{Asked, made, asked_by_words}
use Rattle.answer_model.specs.AskedDrawing.{AskedDrawing, asked_drawing}
use Rattle.answer_model.specs.AskedRows.{words, plain, usage_text, drawing_usage_text}
use Rattle.answer_model.specs.Drawlog.{drawing_answer}
use Rattle.answer_model.specs.WholeFiles.{folder, to, complains}
use Rattle.answer_model.specs.declared.status.Status.TheVariants.{Usage}

-- ---- cdpp

-- what words with a model and an end ask for
abbrev pub asks : Bytes → Option Asked
asks more = asked_by_words (words (codes "cdpp -m row1.ma -t 0:0:0:100" ++ more))

-- nothing but the model and the end
abbrev pub least : Asked
least = record plain { log = None }

-- the group is drawn, with so wide values, so many decimals and this plane
abbrev pub asked_frames : ℕ → ℕ → ℕ → Asked
asked_frames width decimals plane =
    record least {
      frames = Some (record {
        name = codes "f";
        drawing = record { group = codes "line"; plane = plane };
        width = width;
        decimals = decimals;
      });
    }

-- the option of the end and that of a made model
abbrev pub asks_of : Bytes → Option Asked
asks_of text = asked_by_words (words (codes "cdpp " ++ text))

pub record OptionsEndAsSaid : Type 0 where
  pub last_time : asks_of (codes "-m row1.ma -t 99:59:59:999")
      ≡ Some (record least { end = 359999999 })
  pub past_hours : asks_of (codes "-m row1.ma -t 100:00:00:000") ≡ None
  pub past_minutes : asks_of (codes "-m row1.ma -t 0:60:0:0") ≡ None
  pub past_seconds : asks_of (codes "-m row1.ma -t 0:0:60:0") ≡ None
  pub past_milliseconds : asks_of (codes "-m row1.ma -t 0:0:0:1000") ≡ None
  pub three_parts : asks_of (codes "-m row1.ma -t 0:0:1") ≡ None
  pub most_cells : asks_of (codes "-G 1000 -t 0:0:0:100")
      ≡ Some (record least { source = made 1000 })
  pub too_many_cells : asks_of (codes "-G 1001 -t 0:0:0:100") ≡ None
  pub no_more : asks [] ≡ Some least
  pub one_cycle : asks (codes " -c 1") ≡ Some (record least { limit = 1 })
  pub no_cycle : asks (codes " -c 0") ≡ None
  pub most_cycles : asks (codes " -c 1000000") ≡ Some (record least { limit = 1000000 })
  pub too_many_cycles : asks (codes " -c 1000001") ≡ None
  pub seven_digits : asks (codes " -c 0000005") ≡ Some (record least { limit = 5 })
  pub eight_digits : asks (codes " -c 00000005") ≡ None
  pub sign : asks (codes " -c +5") ≡ None
  pub all_letters : asks (codes " -L SXNY") ≡ Some (record least { letters = codes "YNXS" })
  pub one_letter : asks (codes " -L N") ≡ Some (record least { letters = codes "N" })
  pub no_such_letter : asks (codes " -L YZ") ≡ None
  pub small_letter : asks (codes " -L y") ≡ None
  pub letter_again : asks (codes " -L YXY") ≡ None
  pub no_letter : asks (codes " -L=") ≡ None
  pub group : asks (codes " -d f -g Line") ≡ Some (asked_frames 3 0 0)
  pub no_file : asks (codes " -g line") ≡ None
  pub no_group_name : asks (codes " -d f -g l@n") ≡ None
  pub narrow : asks (codes " -d f -g line -w 1") ≡ Some (asked_frames 1 0 0)
  pub wide : asks (codes " -d f -g line -w 20") ≡ Some (asked_frames 20 0 0)
  pub no_width : asks (codes " -d f -g line -w 0") ≡ None
  pub too_wide : asks (codes " -d f -g line -w 21") ≡ None
  pub five_decimals : asks (codes " -d f -g line -p 5") ≡ Some (asked_frames 3 5 0)
  pub six_decimals : asks (codes " -d f -g line -p 6") ≡ None
  pub last_plane : asks (codes " -d f -g line -f 1048575") ≡ Some (asked_frames 3 0 1048575)
  pub no_plane : asks (codes " -d f -g line -f 1048576") ≡ None
  pub first_seed : asks (codes " -T 0") ≡ Some (record least { seed = Some 0 })
  pub last_seed : asks (codes " -T 2147483647") ≡ Some (record least { seed = Some 2147483647 })
  pub past_seeds : asks (codes " -T 2147483648") ≡ None
  pub ten_digits : asks (codes " -T 0000000007") ≡ Some (record least { seed = Some 7 })
  pub eleven_digits : asks (codes " -T 00000000007") ≡ None
  pub no_digit : asks (codes " -T=") ≡ None
  pub seed_below : asks (codes " -T=-1") ≡ None
  pub seed_again : asks (codes " -T 1 -T 1") ≡ None
  pub all_names : asks (codes " -e e -l l -o o -d f -g line -S s -R r")
      ≡ Some (record (asked_frames 3 0 0) {
        events = Some (codes "e");
        log = Some (codes "l");
        out = Some (codes "o");
        save = Some (codes "s");
        state = Some (codes "r");
      })

-- two files that are one
pub record FilesDiffer : Type 0 where
  pub model_and_events : asks (codes " -e row1.ma") ≡ None
  pub model_and_log : asks (codes " -l row1.ma") ≡ None
  pub model_and_out : asks (codes " -o row1.ma") ≡ None
  pub model_and_frames : asks (codes " -d row1.ma -g line") ≡ None
  pub events_and_log : asks (codes " -e a -l a") ≡ None
  pub events_and_out : asks (codes " -e a -o a") ≡ None
  pub events_and_frames : asks (codes " -e a -d a -g line") ≡ None
  pub log_and_out : asks (codes " -l a -o a") ≡ None
  pub log_and_frames : asks (codes " -l a -d a -g line") ≡ None
  pub out_and_frames : asks (codes " -o a -d a -g line") ≡ None
  pub model_and_save : asks (codes " -S row1.ma") ≡ None
  pub model_and_state : asks (codes " -R row1.ma") ≡ None
  pub events_and_save : asks (codes " -e a -S a") ≡ None
  pub events_and_state : asks (codes " -e a -R a") ≡ None
  pub log_and_save : asks (codes " -l a -S a") ≡ None
  pub log_and_state : asks (codes " -l a -R a") ≡ None
  pub out_and_save : asks (codes " -o a -S a") ≡ None
  pub out_and_state : asks (codes " -o a -R a") ≡ None
  pub frames_and_save : asks (codes " -d a -g line -S a") ≡ None
  pub frames_and_state : asks (codes " -d a -g line -R a") ≡ None
  pub save_and_state : asks (codes " -S a -R a") ≡ None

-- ---- drawlog

-- what words with a log and a group ask for
abbrev pub draws : Bytes → Option AskedDrawing
draws more = asked_drawing (words (codes "drawlog -l l -g g" ++ more))

-- a space of these rows, columns and planes, and how it is drawn
abbrev pub drawing_of_space : ℕ → ℕ → Option ℕ → ℕ → ℕ → ℕ → Option AskedDrawing
drawing_of_space rows columns planes plane width decimals =
    Some (record {
      log = codes "l";
      group = codes "g";
      picture = record {
        space = record { rows = rows; columns = columns; planes = planes; border = NoWrapped };
        plane = plane;
        width = width;
        decimals = decimals;
      };
    })

pub record DrawingsEndAsSaid : Type 0 where
  pub last_plane : draws (codes " -s 2,3,4 -f 3") ≡ drawing_of_space 2 3 (Some 4) 3 3 0
  pub past_planes : draws (codes " -s 2,3,4 -f 4") ≡ None
  pub most_cells : draws (codes " -s 1024,1024") ≡ drawing_of_space 1024 1024 None 0 3 0
  pub too_many_cells : draws (codes " -s 1024,1025") ≡ None
  pub most_planes : draws (codes " -s 1,1,1048576 -f 1048575")
      ≡ drawing_of_space 1 1 (Some 1048576) 1048575 3 0
  pub too_many_planes : draws (codes " -s 1,1,1048577") ≡ None
  pub no_row : draws (codes " -s 0,3") ≡ None
  pub no_column : draws (codes " -s 3,0") ≡ None
  pub no_plane : draws (codes " -s 3,3,0") ≡ None
  pub one_number : draws (codes " -s 3") ≡ None
  pub four_numbers : draws (codes " -s 1,2,3,4") ≡ None
  pub widest : draws (codes " -s 1,3 -w 20 -p 5") ≡ drawing_of_space 1 3 None 0 20 5
  pub narrowest : draws (codes " -s 1,3 -w 1 -p 0") ≡ drawing_of_space 1 3 None 0 1 0
  pub no_width : draws (codes " -s 1,3 -w 0") ≡ None
  pub too_wide : draws (codes " -s 1,3 -w 21") ≡ None
  pub six_decimals : draws (codes " -s 1,3 -p 6") ≡ None
  pub no_size : draws [] ≡ None
  pub no_log : asked_drawing (words (codes "drawlog -g g -s 1,3")) ≡ None
  pub no_group : asked_drawing (words (codes "drawlog -l l -s 1,3")) ≡ None
  pub no_group_name : asked_drawing (words (codes "drawlog -l l -g g@g -s 1,3")) ≡ None

-- ---- what is complained of words

pub record UsageIsShown : Type 0 where
  pub cdpp : to (codes "cdpp") []
      ≡ complains Usage (codes "usage: " ++ usage_text) [] []
  pub drawlog : drawing_answer (words (codes "drawlog")) (folder [])
      ≡ complains Usage (codes "usage: " ++ drawing_usage_text) [] []

pub record WordsEndAsSaid : Type 0 where
  pub options : OptionsEndAsSaid
  pub files : FilesDiffer
  pub drawings : DrawingsEndAsSaid
  pub usage : UsageIsShown
