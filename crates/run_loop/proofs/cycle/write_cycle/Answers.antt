use Rattle.std.proofs.Common.{◌≡◌, ◌∙◌, sym, subst, rules, map}
use Rattle.std.specs.Prelude.{Result, Err}
use Rattle.std.specs.Option.{option_map}
use Rattle.model_leaves.specs.Models.{tree_of}
use Rattle.text_forms.specs.Chosen.{letters_of}
use Rattle.run_loop.specs.declared.outputs.Unwritten.{Unwritten}
use Rattle.run_loop.specs.AskedFiles.{names_of}
use Rattle.run_loop.specs.Texts.{AreCreated}
use Rattle.run_loop.specs.Showing.{took, plain, BeginsAt}
use Rattle.run_loop.specs.Pieces.{cycle_pieces}
use Rattle.run_loop.specs.Written.{Writes}
use Rattle.run_loop.proofs.Cycles.{frame_fell, lines_fell, cycle_written, taken_cycle, may_begin, on_ok_so}
use Rattle.run_loop.proofs.cycle.write_cycle.Goals as goal

pub returns-in_err-write_before-clause-texts : goal.returns-in_err-write_before-clause-texts
returns-in_err-write_before-clause-texts g c = λ cycle h time settings.
    let n = names_of c.args.asked.now in
    let letters = letters_of c.args.asked.now.given.letters in
    let tree = tree_of c.args.model.now settings in
    let old = g.R.Room.outside c.args.room.now in
    let new = g.R.Room.outside c.write_before.new.room in
    let why = c.in_err-write_before.field-0.0 in
    let is : c.from_residual.result ≡ Err why = search rules in
    subst (λ (r : Result (Unit {0}) Unwritten). Writes n (cycle_pieces tree letters c.args.drawn.now cycle) old new r) (sym is)
    (frame_fell n tree letters c.args.drawn.now cycle c.args.at time why old new c.in_err-write_before.ensures.texts)

pub take-requires : goal.take-requires
take-requires g c = subst (BeginsAt c.args.at) (sym c.in_ok-write_before.ensures.drawn) (may_begin c.args.at c.args.drawn.now)

pub write_log-requires-clause-created : goal.write_log-requires-clause-created
write_log-requires-clause-created g c =
    subst (AreCreated (names_of c.args.asked.now)) (sym c.in_ok-write_before.ensures.texts.adds.created) c.requires.created

pub returns-in_err-write_log-clause-texts : goal.returns-in_err-write_log-clause-texts
returns-in_err-write_log-clause-texts g c = λ cycle h time settings.
    let n = names_of c.args.asked.now in
    let letters = letters_of c.args.asked.now.given.letters in
    let tree = tree_of c.args.model.now settings in
    let old = g.R.Room.outside c.args.room.now in
    let first = g.R.Room.outside c.write_before.new.room in
    let new = g.R.Room.outside c.write_log.new.room in
    let why = c.in_err-write_log.field-0.0 in
    let is : c.from_residual-in_err-write_log.result ≡ Err why = search rules in
    subst (λ (r : Result (Unit {0}) Unwritten). Writes n (cycle_pieces tree letters c.args.drawn.now cycle) old new r) (sym is)
    (lines_fell n tree letters c.args.drawn.now cycle c.args.at time why old first new c.in_ok-write_before.ensures.texts (c.in_err-write_log.ensures.texts cycle h settings))

pub returns-clause-texts : goal.returns-clause-texts
returns-clause-texts g c = λ cycle h time settings.
    cycle_written (names_of c.args.asked.now) (tree_of c.args.model.now settings) (letters_of c.args.asked.now.given.letters) c.args.drawn.now cycle c.args.at time c.write_out.result
    (g.R.Room.outside c.args.room.now) (g.R.Room.outside c.write_before.new.room) (g.R.Room.outside c.write_log.new.room) (g.R.Room.outside c.write_out.new.room)
    c.in_ok-write_before.ensures.texts (c.in_ok-write_log.ensures.texts cycle h settings) (c.write_out.ensures.texts cycle h settings)

pub returns-clause-drawn : goal.returns-clause-drawn
returns-clause-drawn g c = on_ok_so c.write_out.result (λ cycle h time.
    c.take.ensures
    ∙ (λ i. option_map (took c.args.at (map plain (c.deref.ensures.value i))) (c.in_ok-write_before.ensures.drawn i))
    ∙ taken_cycle cycle c.args.at c.args.records.now.y.items c.args.drawn.now time h.y)
