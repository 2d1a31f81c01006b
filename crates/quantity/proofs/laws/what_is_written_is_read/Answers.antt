use Rattle.quantity.proofs.Written.{reads_what_is_written}
use Rattle.quantity.proofs.laws.what_is_written_is_read.Goals as goal

pub returns : goal.returns
returns c = reads_what_is_written
