use Rattle.std.proofs.Common.{◌≡◌, refl, sym, subst, rules}
use Rattle.std.specs.Prelude.{Result, Err}
use Rattle.model_leaves.specs.Models.{tree_of}
use Rattle.text_forms.specs.Chosen.{letters_of}
use Rattle.run_loop.specs.declared.outputs.Unwritten.{Unwritten}
use Rattle.run_loop.specs.AskedFiles.{names_of}
use Rattle.run_loop.specs.Pieces.{cycle_pieces}
use Rattle.run_loop.specs.Written.{Writes}
use Rattle.run_loop.proofs.Cycles.{all_of_cycle}
use Rattle.run_loop.proofs.going.write_next.Goals as goal

pub returns-in_err-write_cycle-clause-texts : goal.returns-in_err-write_cycle-clause-texts
returns-in_err-write_cycle-clause-texts g c = λ cycle h time settings.
    let n = names_of c.args.asked.now in
    let whole = cycle_pieces (tree_of c.args.model.now settings) (letters_of c.args.asked.now.given.letters) c.args.going.now.drawn cycle in
    let old = g.R.Room.outside c.args.room.now in
    let new = g.R.Room.outside c.write_cycle.new.room in
    let why = c.in_err-write_cycle.field-0.0 in
    let is : c.from_residual.result ≡ Err why = search rules in
    subst (λ (r : Result (Unit {0}) Unwritten). Writes n whole old new r) (sym is) (c.in_err-write_cycle.ensures.texts cycle h time settings)

pub returns-in_default-clause-texts : goal.returns-in_default-clause-texts
returns-in_default-clause-texts g c = λ cycle h time settings.
    all_of_cycle (names_of c.args.asked.now) (tree_of c.args.model.now settings) (letters_of c.args.asked.now.given.letters) c.args.going.now.drawn cycle (g.R.Room.outside c.args.room.now) (g.R.Room.outside c.write_cycle.new.room) (c.in_ok-write_cycle.ensures.texts cycle h time settings)

pub returns-clause-cycles : goal.returns-clause-cycles
returns-clause-cycles g c = refl
