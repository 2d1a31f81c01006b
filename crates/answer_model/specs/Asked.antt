-- What the words of the simulator ask for.
use Rattle.std.specs.Prelude.{ℕ, ◌+◌, Bool, not, ◌&&◌, ◌||◌, nat_le}
use Rattle.std.specs.Prelude.{if◌then◌else◌, codes}
use Rattle.std.specs.Prelude.{Option, Some, None, List, map}
use Rattle.std.specs.Option.{is_some}
use Rattle.model_tree.specs.Tree.{Word}
use Rattle.quantity.specs.Bytes.{Bytes}
use Rattle.quantity.specs.Names.{is_name}
use Rattle.quantity.specs.Written.{for_some}
use Rattle.model_text.specs.Drawings.{Drawing}
use Rattle.answer_model.specs.Options.{Draft, OptionRow, built_rows, usage_by, draft_by}

-- ---- what is asked for

-- the model's file, or a model of Life of this size that is made
pub data ModelSource : Type 0 where
  file : (name : Word) → ModelSource
  made : (size : ℕ) → ModelSource

-- the file of frames: its name, what is drawn, how wide a value is and how many decimals it has
pub record FramesFile : Type 0 where
  pub name : Word
  pub drawing : Drawing
  pub width : ℕ
  pub decimals : ℕ

-- what the words of cdpp ask for
pub record Asked : Type 0 where
  pub source : ModelSource
  pub end : ℕ
  pub events : Option Word
  pub log : Option Word
  pub out : Option Word
  pub frames : Option FramesFile
  pub letters : List ℕ
  pub limit : ℕ
  pub seed : Option ℕ
  pub save : Option Word
  pub state : Option Word

-- ---- what more than one option says

-- the model is a file or is made, and not both
abbrev pub source_in : Option Word → Option ℕ → Option ModelSource
source_in (Some name) None = Some (file name)
source_in None (Some size) = Some (made size)
source_in m g = None

-- a letter in its small form, and any other byte as it is
abbrev pub lower : ℕ → ℕ
lower c = if nat_le 65 c && nat_le c 90 then c + 32 else c

-- a group's name, with letters of any case
abbrev pub group_in : Word → Option Word
group_in text = if is_name (map lower text) then Some (map lower text) else None

-- frames have a file and a group, or neither
abbrev pub frames_in : Option Word → Option Word → ℕ → ℕ → ℕ → Option (Option FramesFile)
frames_in None None width decimals plane = Some None
frames_in (Some name) (Some group) width decimals plane =
    for_some (group_in group) (λ g.
    let drawing : Drawing = record { group = g; plane = plane } in
    Some (Some (record { name = name; drawing = drawing; width = width; decimals = decimals })))
frames_in d g width decimals plane = None

-- a state is neither saved nor read of a made model or of a run that is served in an order
abbrev pub may_save : Draft → Bool
may_save d = not (is_some d.save || is_some d.state) || not (is_some d.seed || is_some d.size)

-- what a draft asks for beside this model, end and file of frames
abbrev pub asked_with : Draft → ModelSource → ℕ → Option FramesFile → Asked
asked_with d source end frames =
    record {
      source = source;
      end = end;
      events = d.events;
      log = d.log;
      out = d.out;
      frames = frames;
      letters = d.letters;
      limit = d.limit;
      seed = d.seed;
      save = d.save;
      state = d.state;
    }

-- what a draft asks for, where it has a model and an end
abbrev pub asked_in_draft : Draft → Option Asked
asked_in_draft d =
    for_some (source_in d.model d.size) (λ source.
    for_some d.end (λ end.
    for_some (frames_in d.drawn d.group d.width d.decimals d.plane) (λ frames.
    if may_save d then Some (asked_with d source end frames) else None)))

-- ---- what words ask for

-- what words ask for of a command with these options, or none where they are refused; the first
-- is the program's name
abbrev pub asked_by : List OptionRow → List Word → Option Asked
asked_by rows words = for_some (draft_by (codes "cdpp") rows words) asked_in_draft

-- what these words ask for, where they are of the form
abbrev pub asked_by_words : List Word → Option Asked
asked_by_words words = asked_by built_rows words

-- the usage line of a command that has these options
abbrev pub usage_of : List OptionRow → Bytes
usage_of rows = usage_by (codes "cdpp") rows
