-- The state in which a run is left, as it is written.
use Rattle.std.proofs.Common.{◌≡◌, ℕ, ◌+◌, ◌≤◌, true, Option, Some, None, [], sym, ap, subst}
use Rattle.std.specs.Borrow.{Bor}
use Rattle.std.specs.Option.{is_some}
use Rattle.quantity.specs.Bytes.{Bytes}
use Rattle.model_tree.specs.Tree.{Word, Tree, leaf_count}
use Rattle.run_model.specs.Run.{Run, Verdict}
use Rattle.text_forms.specs.StateText.{text_of_state}
use Rattle.room_edge.specs.Outside.{Outside}
use Rattle.answer_model.specs.RunFiles.{saved_text}
use Rattle.answer_model.specs.Visits.{state_visits}
use Rattle.asked_words.specs.Shown.{text_of_name}
use Rattle.run_leaves.specs.Standing.{Standing}
use Rattle.run_model.specs.declared.stop.Stop.{Stop}
use Rattle.run_model.specs.declared.stop.Stop.TheVariants.{NoTrueRule, Overflow, BadDelay, TooManyCycles, Memory}
use Rattle.run_loop.specs.declared.outputs.Output.TheVariants.{State}
use Rattle.run_loop.specs.Texts.{FileNames}
use Rattle.run_loop.specs.Order.{one_piece}
use Rattle.run_loop.specs.Written.{AddsAll}
use Rattle.run_loop.proofs.Adding.{nothing_added}
use Rattle.run_loop.specs.declared.ending.Ending.TheVariants.{Done, Stopped}
use Rattle.run_loop.specs.Saving.{Saves}

-- a run with this verdict, for the text that is saved of it
abbrev with_verdict : Run → Verdict → Run
with_verdict r v = record { cycles = r.cycles; verdict = v; left = r.left }

-- of a run that is done it is that of the state in which it stands
pub saved_done : (end : ℕ) (tree : Tree) (r : Run) (s : Standing) → Saves Done r s → text_of_state tree end s.state.leaf_states ≡ saved_text end tree r
saved_done end tree r s saves = λ i. saved_text end tree (record { cycles = r.cycles; verdict = sym saves.0 i; left = sym saves.1 i })

-- of a run that stopped it is nothing
saved_stopped : (end : ℕ) (tree : Tree) (r : Run) (s : Standing) (stop : Stop) → Saves (Stopped stop) r s → saved_text end tree r ≡ []
saved_stopped end tree r s (NoTrueRule leaf t) saves = ap (λ v. saved_text end tree (with_verdict r v)) saves.0
saved_stopped end tree r s (Overflow leaf t) saves = ap (λ v. saved_text end tree (with_verdict r v)) saves.0
saved_stopped end tree r s (BadDelay leaf t delay) saves = ap (λ v. saved_text end tree (with_verdict r v)) saves.0
saved_stopped end tree r s (TooManyCycles t) saves = ap (λ v. saved_text end tree (with_verdict r v)) saves.0
saved_stopped end tree r s Memory saves = absurd saves.0

-- so nothing is written
pub nothing_saved : (n : FileNames) (end : ℕ) (tree : Tree) (r : Run) (s : Standing) (stop : Stop) (now : Outside) → Saves (Stopped stop) r s → AddsAll n (one_piece State (saved_text end tree r)) now now
nothing_saved n end tree r s stop now saves =
    subst (λ (text : Bytes). AddsAll n (one_piece State text) now now) (sym (saved_stopped end tree r s stop saves))
    (nothing_added n State now)

-- each leaf once, where a state is to be saved or is read
pub visits_named : (name : Option (Bor Word)) (tree : Tree) (before after : ℕ) → is_some name ≡ true → after ≤ before + leaf_count tree → after ≤ before + state_visits (text_of_name name) tree
visits_named None tree before after given within = absurd (cc)
visits_named (Some name) tree before after given within = within
