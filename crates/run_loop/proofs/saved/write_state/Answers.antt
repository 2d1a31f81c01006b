use Rattle.std.proofs.Common.{◌≤◌, ◌+◌, ◌++◌, ◌∙◌, ap, arith}
use Rattle.std.proofs.lemmas.Result.{on_ok_weaker}
use Rattle.model_tree.specs.Tree.{leaf_count}
use Rattle.text_forms.specs.StateText.{text_of_state}
use Rattle.run_leaves.specs.Standing.{tree_in}
use Rattle.run_leaves.proofs.Counted.{leaves-counted}
use Rattle.run_loop.specs.declared.outputs.Output.TheVariants.{State}
use Rattle.run_loop.specs.AskedFiles.{names_of}
use Rattle.run_loop.proofs.Adding.{none_added}
use Rattle.run_loop.proofs.Cycles.{no_name}
use Rattle.run_loop.proofs.Saving.{visits_named}
use Rattle.run_loop.proofs.saved.write_state.Goals as goal

pub returns-then-is_none-clause-texts : goal.returns-then-is_none-clause-texts
returns-then-is_none-clause-texts g c =
    let s = g.C.Cycles.standing c.args.run.now in
    none_added (names_of c.args.asked.now) State (text_of_state (tree_in s) c.args.asked.now.end s.state.leaf_states) (g.R.Room.outside c.args.room.now) (no_name c.args.asked.now.given.save c.if-is_none.ensures)

pub returns-clause-texts : goal.returns-clause-texts
returns-clause-texts g c =
    let s = g.C.Cycles.standing c.args.run.now in
    let text = text_of_state (tree_in s) c.args.asked.now.end s.state.leaf_states in
    c.write_piece.ensures.texts text (on_ok_weaker c.save-filled.result (λ ok. c.deref.ensures.value ∙ ok ∙ ap (λ xs. xs ++ text) c.clear.ensures.items) c.save-filled.ensures.text)

pub returns-clause-visits : goal.returns-clause-visits
returns-clause-visits g c =
    let s = g.C.Cycles.standing c.args.run.now in
    let within : c.save-filled.new.steps ≤ c.args.steps.now + leaf_count (tree_in s) =
    omega (arith, c.save-filled.ensures.visits, leaves-counted (tree_in s) s.state.leaf_states c.requires.fits) in
    visits_named c.args.asked.now.given.save (tree_in s) c.args.steps.now c.save-filled.new.steps c.if-is_none.ensures within
