use Rattle.asked_run.proofs.StateFiles.{goes_on}
use Rattle.asked_run.proofs.state.go_on.Goals as goal

pub load_state-requires-clause-fresh : goal.load_state-requires-clause-fresh
load_state-requires-clause-fresh g c = c.requires.fresh

pub load_state-requires-clause-fits : goal.load_state-requires-clause-fits
load_state-requires-clause-fits g c = c.requires.fits

pub load_state-requires-clause-sound : goal.load_state-requires-clause-sound
load_state-requires-clause-sound g c = c.requires.sound

pub returns-in-Ok : goal.returns-in-Ok
returns-in-Ok g c = goes_on c.args.bytes.now c.args.run c.args.end c.in-Ok.loaded c.in-Ok.field-0-1 c.in-Ok.ensures

pub returns-in-Err : goal.returns-in-Err
returns-in-Err g c = c.in-Err.ensures
