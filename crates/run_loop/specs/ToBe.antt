-- Private, for proofs alone: the answer to a run, by the texts of its files and what is said at its
-- end.
use Rattle.std.specs.Prelude.{◌≡◌}
use Rattle.answer_model.specs.Answer.{Answer}
use Rattle.answer_model.specs.RunEnd.{Said}
use Rattle.run_loop.specs.Texts.{FileNames, Texts, files}

-- the answer of a run with these texts
pub record IsAnswerOf (n : FileNames) (texts : Texts) (s : Said) (a : Answer) : Type 0 where
  pub made : a.made ≡ files n texts
  pub shown : a.shown ≡ s.shown
  pub complained : a.complained ≡ s.complained
  pub status : a.status ≡ s.status
