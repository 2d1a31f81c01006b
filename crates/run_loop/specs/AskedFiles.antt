-- The files that are asked for.
use Rattle.std.specs.Prelude.{Option}
use Rattle.std.specs.Option.{option_map}
use Rattle.model_tree.specs.Tree.{Word}
use Rattle.answer_model.specs.Asked as A
use Rattle.asked_words.specs.declared.asked.Asked.{Asked}
use Rattle.asked_words.specs.Shown.{asked_of}
use Rattle.run_loop.specs.Texts.{FileNames}
pub use Rattle.run_loop.specs.Texts.{name_at}

-- the name of a file of frames
abbrev pub frames_name : Option A.FramesFile → Option Word
frames_name frames = option_map (λ (f : A.FramesFile). f.name) frames

-- the names of the files that are asked for
abbrev pub names_asked : A.Asked → FileNames
names_asked a =
    record { log = a.log; out = a.out; frames = frames_name a.frames; state = a.save }

-- the same of what is asked, in code
abbrev pub names_of : Asked → FileNames
names_of a = names_asked (asked_of a)
