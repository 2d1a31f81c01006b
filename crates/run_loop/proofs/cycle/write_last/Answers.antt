use Rattle.std.proofs.Common.{◌∙◌}
use Rattle.std.proofs.lemmas.Result.{on_ok_weaker}
use Rattle.run_loop.specs.Showing.{last_frame}
use Rattle.run_loop.proofs.Cycles.{on_ok_after}
use Rattle.run_loop.proofs.cycle.write_last.Goals as goal

pub returns : goal.returns
returns g c = record {
  texts = c.write_piece.ensures.texts (last_frame c.args.drawn.now) (on_ok_weaker c.draw_last-filled.result (λ text. c.deref.ensures.value ∙ text) c.draw_last-filled.ensures.text);
  drawn = on_ok_after _ c.draw_last-filled.result c.write_piece.result c.write_piece.ensures.filled c.draw_last-filled.ensures.drawn;
}
