-- What a call of a program changes outside, beside its answer.
use Rattle.std.specs.Prelude.{◌≡◌, ◌≢◌, Option, List, ◌∷◌, ◌++◌, ⊤, []}
use Rattle.room_edge.specs.Outside.{Files, Outside, puts, streams}
use Rattle.quantity.specs.Bytes.{Bytes}
use Rattle.answer_model.specs.Answer.{MadeFiles, names, Answer}
use Rattle.answer_model.specs.declared.status.Status.{Status}

-- the made files, with these in their order: of two with one name the last counts
abbrev pub puts_all : Option Files → MadeFiles → Option Files
puts_all made [] = made
puts_all made (file ∷ files) = puts_all (puts made file.0 file.1) files

-- a beginning of a list
abbrev pub Begins : {A : Type 0} → List A → List A → Type 0
Begins {A} part whole = (rest : List A) × (whole ≡ part ++ rest)

-- a beginning that lacks something
abbrev pub FallsShort : {A : Type 0} → List A → List A → Type 0
FallsShort {A} part whole = Begins part whole × (part ≢ whole)

-- the first files, each with its first bytes
abbrev pub BeginFiles : MadeFiles → MadeFiles → Type 0
BeginFiles [] files = ⊤
BeginFiles (part ∷ parts) [] = ⊥
BeginFiles (part ∷ parts) (file ∷ files) =
    (part.0 ≡ file.0) × Begins part.1 file.1 × BeginFiles parts files

-- the status and the output are just the answer's
pub record Writes (a : Answer) (old new : Outside) (given : Status) : Type 0 where
  pub status : given ≡ a.status
  pub made : new.made ≡ puts_all old.made a.made
  pub created : new.created ≡ old.created ++ names a.made
  pub shown : new.shown ≡ streams old.shown a.shown
  pub complained : new.complained ≡ streams old.complained a.complained

-- what was made and shown is a beginning of the answer's
pub record WritesPart (a : Answer) (old new : Outside) : Type 0 where
  pub files : (parts : MadeFiles) × BeginFiles parts a.made × (new.made ≡ puts_all old.made parts)
      × (new.created ≡ old.created ++ names parts)
  pub shown : (part : Bytes) × Begins part a.shown × (new.shown ≡ streams old.shown part)
