use Rattle.std.proofs.Common.{sym}
use Rattle.drawlog_top.proofs.FrontPieces.{state_before}
use Rattle.drawlog_top.proofs.front.written_state.Goals as goal

pub returns : goal.returns
returns c = state_before c.args.text.now c.in_ok-word.word.now c.in_ok-word.rest.now c.in_ok-state.state c.in_ok-word.ensures (sym c.in_ok-state.ensures)
