use Rattle.frame_draw.proofs.TurnLemmas.{draws_all}
use Rattle.frame_draw.proofs.laws.frames_are_drawn_in_turn.Goals as goal

pub returns : goal.returns
returns c = draws_all
