use Rattle.std.proofs.Common.{◌∙◌, sym, subst}
use Rattle.std.proofs.lemmas.Result.{on_ok_weaker}
use Rattle.run_loop.specs.declared.outputs.Output.TheVariants.{Frames}
use Rattle.run_loop.specs.AskedFiles.{names_of}
use Rattle.run_loop.specs.Order.{one_piece}
use Rattle.run_loop.specs.Written.{AddsAll, Writes}
use Rattle.run_loop.proofs.Adding.{nothing_added}
use Rattle.run_loop.proofs.Cycles.{frame_over, no_frame, is_over, none_over}
use Rattle.run_loop.proofs.cycle.write_before.Goals as goal

pub returns-then-has_begun_before : goal.returns-then-has_begun_before
returns-then-has_begun_before g c =
    let begun = sym c.has_begun_before.ensures ∙ c.if-has_begun_before.true in
    let old = g.R.Room.outside c.args.room.now in
    let new = g.R.Room.outside c.write_last.new.room in
    record {
      texts = subst (λ text. Writes (names_of c.args.asked.now) (one_piece Frames text) old new c.write_last.result) (frame_over c.args.at c.args.drawn.now begun) c.write_last.ensures.texts;
      drawn = on_ok_weaker c.write_last.result (λ is. is ∙ is_over c.args.at c.args.drawn.now begun) c.write_last.ensures.drawn;
    }

pub returns-else-has_begun_before : goal.returns-else-has_begun_before
returns-else-has_begun_before g c =
    let none = sym c.has_begun_before.ensures ∙ c.if-has_begun_before.false in
    let now = g.R.Room.outside c.args.room.now in
    record {
      texts = subst (λ text. AddsAll (names_of c.args.asked.now) (one_piece Frames text) now now) (no_frame c.args.at c.args.drawn.now none) (nothing_added (names_of c.args.asked.now) Frames now);
      drawn = none_over c.args.at c.args.drawn.now none;
    }
