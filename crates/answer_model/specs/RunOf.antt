-- The run of a program that is started.
use Rattle.run_model.specs.Run.{Run}
use Rattle.answer_model.specs.Started.{Started}
use Rattle.answer_model.specs.Cdpp.{run_on}

-- the run that is started
abbrev pub run_of : Started → Run
run_of s = run_on s.tree s.events s.asked.end s.asked.limit s.from
