use Rattle.frame_draw.proofs.InstantLemmas.{one_frame}
use Rattle.frame_draw.proofs.laws.an_instant_is_one_frame.Goals as goal

pub returns : goal.returns
returns c = one_frame
