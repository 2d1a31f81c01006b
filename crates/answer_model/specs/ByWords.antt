-- What words with the options of the program ask for.
use Rattle.std.specs.Prelude.{List, Result}
use Rattle.room_edge.specs.Outside.{Files}
use Rattle.atomic_face.specs.declared.class.Class.{Class}
use Rattle.model_tree.specs.Tree.{Word}
use Rattle.answer_model.specs.Options.{built_rows}
use Rattle.answer_model.specs.Started.{Started, Stopped, started_by}
use Rattle.quantity.specs.Bytes.{Bytes}
use Rattle.answer_model.specs.Asked.{usage_of}

-- with the options of the program
abbrev pub started_by_words : List Word → Files → List Class → Result Started Stopped
started_by_words words files classes = started_by built_rows words files classes

-- the usage line of cdpp
abbrev pub usage : Bytes
usage = usage_of built_rows
