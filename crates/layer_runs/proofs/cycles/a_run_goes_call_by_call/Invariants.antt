use Rattle.layer_runs.proofs.cycles.a_run_goes_call_by_call.Given as goal

abbrev pub ghosts-three_calls : goal.ghosts-three_calls
ghosts-three_calls a b = record { name = b.blank.name; parts = b.blank.parts }
