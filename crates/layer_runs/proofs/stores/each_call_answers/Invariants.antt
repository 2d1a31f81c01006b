use Rattle.layer_runs.proofs.stores.each_call_answers.Given as goal

abbrev pub ghosts-answers : goal.ghosts-answers
ghosts-answers a b = record { name = b.blank.name; parts = b.blank.parts }
