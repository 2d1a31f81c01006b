-- What is asked for, without where it lies.
use Rattle.std.specs.Prelude.{◌≡◌, ◌<◌, ◌≤◌, None, List, IfSome, IsTrue, ⊤}
use Rattle.std.specs.Option.{option_map}
use Rattle.quantity.specs.declared.bounds.TheConstants.{MAX_DELAY, MAX_CYCLES}
use Rattle.model_tree.specs.Tree.{Word}
pub use Rattle.asked_words.specs.Drafts.{text_of_name, given_names}
use Rattle.asked_words.specs.Drafts.{draft_of}
use Rattle.cell_grid.specs.Space.{plane_count}
use Rattle.answer_model.specs.Options.{differ_all}
use Rattle.answer_model.specs.Asked as A
use Rattle.answer_model.specs.AskedDrawing as D
use Rattle.asked_words.specs.declared.asked.Source.{Source}
use Rattle.asked_words.specs.declared.asked.Source.TheVariants.{File, Made}
use Rattle.asked_words.specs.declared.asked.FramesFile.{FramesFile}
use Rattle.asked_words.specs.declared.asked.Asked.{Asked}
use Rattle.asked_words.specs.declared.asked.AskedDrawing.{AskedDrawing}

-- the model's source in code as in the definitions
abbrev pub source_of : Source → A.ModelSource
source_of (File name) = A.file name.now
source_of (Made size) = A.made size

-- the file of frames in code as in the definitions
abbrev pub frames_file_of : FramesFile → A.FramesFile
frames_file_of f =
    record {
      name = f.name.now;
      drawing = record { group = f.group; plane = f.plane };
      width = f.width;
      decimals = f.decimals;
    }

-- what is asked, in code as in the definitions
abbrev pub asked_of : Asked → A.Asked
asked_of a =
    A.asked_with (draft_of a.given) (source_of a.source) a.end (option_map frames_file_of a.frames)

-- what is asked to be drawn, in code as in the definitions
abbrev pub asked_drawing_of : AskedDrawing → D.AskedDrawing
asked_drawing_of a =
    record {
      log = a.log.now;
      group = a.group;
      picture = record { space = a.space; plane = a.plane; width = a.width; decimals = a.decimals };
    }

-- ---- bounds of what is asked for

-- a made model has 5 to 1000 rows and columns
abbrev pub IsOfSize : Source → Type 0
IsOfSize (File name) = ⊤
IsOfSize (Made size) = (5 ≤ size) × (size ≤ 1000)

-- 1 to 20 places for a value, and at most 5 decimals
pub record CanBeShown (f : FramesFile) : Type 0 where
  pub some : 1 ≤ f.width
  pub narrow : f.width ≤ 20
  pub short : f.decimals ≤ 5

-- the names of the files that are made
abbrev pub made_names : Asked → List Word
made_names a =
    given_names (text_of_name a.given.log) (text_of_name a.given.out)
    (option_map (λ (f : FramesFile). f.name.now) a.frames) (text_of_name a.given.save)

-- the end is a time, no two made files have one name, and a run that is served in an order neither
-- saves a state nor goes on from one
pub record IsInBounds (a : Asked) : Type 0 where
  pub end_is : a.end ≤ MAX_DELAY
  pub size : IsOfSize a.source
  pub some : 1 ≤ a.given.limit
  pub few : a.given.limit ≤ MAX_CYCLES
  pub frames : IfSome a.frames CanBeShown
  pub names : IsTrue (differ_all (made_names a))
  pub unsaved : IfSome a.given.seed (λ seed.
      (text_of_name a.given.save ≡ None) × (text_of_name a.given.state ≡ None))

-- a plane of the space, 1 to 20 places for a value, and at most 5 decimals
pub record CanBeDrawn (a : AskedDrawing) : Type 0 where
  pub plane_inside : a.plane < plane_count a.space
  pub some : 1 ≤ a.width
  pub narrow : a.width ≤ 20
  pub short : a.decimals ≤ 5
