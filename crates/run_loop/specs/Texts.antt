-- The files that a run makes, by their names, and what stands in them.
use Rattle.std.specs.Prelude.{◌≡◌, false, Option, Some, None, List, [], ◌++◌, ⊤, Contains}
use Rattle.std.specs.Str.{bytes_eq}
use Rattle.quantity.specs.Bytes.{Bytes}
use Rattle.model_tree.specs.Tree.{Word}
use Rattle.answer_model.specs.Answer.{MadeFiles}
use Rattle.answer_model.specs.RunFiles.{file_if}
use Rattle.run_loop.specs.declared.outputs.Output.{Output}
use Rattle.run_loop.specs.declared.outputs.Output.TheVariants.{Log, Out, Frames, State}

-- the names of the log, the output, the frames and the state at the end, where there are to be such
pub record FileNames : Type 0 where
  pub log : Option Word
  pub out : Option Word
  pub frames : Option Word
  pub state : Option Word

-- what stands in each
pub record Texts : Type 0 where
  pub log : Bytes
  pub out : Bytes
  pub frames : Bytes
  pub state : Bytes

-- nothing is written
abbrev pub no_texts : Texts
no_texts = record { log = []; out = []; frames = []; state = [] }

-- the texts, and more behind each
abbrev pub both : Texts → Texts → Texts
both t more =
    record {
      log = t.log ++ more.log;
      out = t.out ++ more.out;
      frames = t.frames ++ more.frames;
      state = t.state ++ more.state;
    }

-- bytes for one of the files
abbrev pub only : Output → Bytes → Texts
only Log bytes = record no_texts { log = bytes }
only Out bytes = record no_texts { out = bytes }
only Frames bytes = record no_texts { frames = bytes }
only State bytes = record no_texts { state = bytes }

-- the name of one of the files
abbrev pub name_at : FileNames → Output → Option Word
name_at n Log = n.log
name_at n Out = n.out
name_at n Frames = n.frames
name_at n State = n.state

-- the text of one of the files
abbrev pub text_at : Texts → Output → Bytes
text_at t Log = t.log
text_at t Out = t.out
text_at t Frames = t.frames
text_at t State = t.state

-- the files in the order of their making
abbrev pub files : FileNames → Texts → MadeFiles
files n t =
    file_if n.log t.log ++ file_if n.out t.out ++ file_if n.frames t.frames
    ++ file_if n.state t.state

-- those that are made before this one, all empty
abbrev pub made_before : FileNames → Output → MadeFiles
made_before n Log = []
made_before n Out = file_if n.log []
made_before n Frames = file_if n.log [] ++ file_if n.out []
made_before n State = file_if n.log [] ++ file_if n.out [] ++ file_if n.frames []

-- two names differ, where both are given
abbrev pub Differ : Option Word → Option Word → Type 0
Differ None b = ⊤
Differ (Some a) None = ⊤
Differ (Some a) (Some b) = bytes_eq a b ≡ false

-- no two files have one name
pub record AreApart (n : FileNames) : Type 0 where
  pub log_out : Differ n.log n.out
  pub log_frames : Differ n.log n.frames
  pub out_frames : Differ n.out n.frames
  pub log_state : Differ n.log n.state
  pub out_state : Differ n.out n.state
  pub frames_state : Differ n.frames n.state

-- a name is among these, where it is given
abbrev pub IsAmong : Option Word → List Word → Type 0
IsAmong None names = ⊤
IsAmong (Some name) names = Contains names name

-- all files were made
pub record AreCreated (n : FileNames) (created : List Word) : Type 0 where
  pub log_there : IsAmong n.log created
  pub out_there : IsAmong n.out created
  pub frames_there : IsAmong n.frames created
  pub state_there : IsAmong n.state created
