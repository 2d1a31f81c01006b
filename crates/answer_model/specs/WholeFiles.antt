-- Words and whole files, and what is answered to them.
use Rattle.std.specs.Prelude.{List, [], ◌∷◌, ◌++◌}
use Rattle.std.specs.List.{find}
use Rattle.std.specs.Option.{option_map}
use Rattle.std.specs.Str.{bytes_eq}
use Rattle.std.specs.Prelude.{codes}
use Rattle.quantity.specs.Bytes.{Bytes}
use Rattle.room_edge.specs.Outside.{Files}
use Rattle.atomic_face.specs.declared.class.Class.{Class}
use Rattle.atomic_face.specs.declared.class.Class.TheVariants.{Queue, Generator, Cpu, Counter, Table}
use Rattle.model_tree.specs.Tree.{Word}
use Rattle.text_forms.specs.Rows.{lines}
use Rattle.answer_model.specs.AskedRows.{words}
use Rattle.answer_model.specs.Answer.{MadeFiles, Answer}
use Rattle.answer_model.specs.Cdpp.{answer}
use Rattle.answer_model.specs.declared.status.Status.{Status}
use Rattle.answer_model.specs.declared.status.Status.TheVariants.{Done}

-- files by their names
abbrev pub folder : MadeFiles → Files
folder files =
    λ name. option_map (λ (f : Word × Bytes). f.1)
    (find (λ (f : Word × Bytes). bytes_eq f.0 name) files)

-- two boxes of each class
abbrev pub boxes : List Class
boxes = Queue ∷ Queue ∷ Generator ∷ Generator ∷ Cpu ∷ Cpu ∷ Counter ∷ Counter ∷ Table ∷ Table ∷ []

abbrev pub to : Bytes → MadeFiles → Answer
to text files = answer (words text) (folder files) boxes

-- a file of these lines
abbrev pub file_of_lines : Bytes → List Bytes → Word × Bytes
file_of_lines name ls = (name, lines ls)

abbrev pub model : List Bytes → MadeFiles
model ls = file_of_lines (codes "m.ma") ls ∷ []

abbrev pub model_and : List Bytes → Word × Bytes → MadeFiles
model_and ls file = file_of_lines (codes "m.ma") ls ∷ file ∷ []

abbrev pub just_model : List Word
just_model = codes "m.ma" ∷ []

abbrev pub log : List Bytes → MadeFiles
log ls = file_of_lines (codes "log.txt") ls ∷ []

-- one line is shown
abbrev pub shows : Bytes → MadeFiles → List Word → Answer
shows line made inputs =
    record {
      made = made;
      shown = lines (line ∷ []);
      complained = [];
      status = Done;
      inputs = inputs;
    }

-- one line is complained
abbrev pub complains : Status → Bytes → MadeFiles → List Word → Answer
complains status line made inputs =
    record {
      made = made;
      shown = [];
      complained = lines (line ∷ []);
      status = status;
      inputs = inputs;
    }

-- ---- lines of a cell

abbrev pub y : Bytes → Bytes → Bytes → Bytes
y time leaf value =
    codes "Y / 00:00:00:" ++ time ++ codes " / " ++ leaf ++ codes " / out / " ++ value
    ++ codes ".00000"

abbrev pub x : Bytes → Bytes → Bytes
x time value = codes "X / 00:00:00:" ++ time ++ codes " / g(0,0) / v / " ++ value ++ codes ".00000"

abbrev pub s : Bytes → Bytes → Bytes → Bytes → Bytes
s time leaf value next =
    codes "S / 00:00:00:" ++ time ++ codes " / " ++ leaf ++ codes " / " ++ value
    ++ codes ".00000 / " ++ next
