-- What a program shows at last, and what it tries to write.
use Rattle.std.specs.Prelude.{◌≡◌, List, ◌++◌, ◌⊎◌}
use Rattle.room_edge.specs.Outside.{Outside}
use Rattle.model_tree.specs.Tree.{Word}
use Rattle.answer_model.specs.Answer.{Answer}
use Rattle.answer_model.specs.Headline.{Begins, puts_all}

-- nothing is shown before all files are whole
abbrev pub ShowsLast : Answer → Outside → Outside → Type 0
ShowsLast a old new = (new.made ≡ puts_all old.made a.made) ⊎ (new.shown ≡ old.shown)

-- the names looked for are a beginning of the answer's
abbrev pub TriesPart : Answer → Outside → Outside → Type 0
TriesPart a old new = (part : List Word) × Begins part a.inputs × (new.tried ≡ old.tried ++ part)

-- nothing was made or shown
pub record WritesNothing (old new : Outside) : Type 0 where
  pub made : new.made ≡ old.made
  pub created : new.created ≡ old.created
  pub shown : new.shown ≡ old.shown
