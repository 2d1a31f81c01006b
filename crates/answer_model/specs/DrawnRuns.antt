-- The frames drawn from the log of a run are those of the run.
use Rattle.std.specs.Prelude.{◌≡◌, ℕ, true, None, List, Ok}
use Rattle.std.specs.List.{list_all, flat_map}
use Rattle.model_tree.specs.Tree.{Word, Group, Tree, leaves}
use Rattle.run_model.specs.Run.{Event, Run}
use Rattle.text_forms.specs.declared.letter.Letter.TheVariants.{Y}
use Rattle.text_forms.specs.Letters.{has_letter}
use Rattle.text_forms.specs.LogLine.{is_line}
use Rattle.text_forms.specs.Lines.{cycle_lines, log_bytes}
use Rattle.text_forms.specs.Frames.{Picture, frames_of, frames_of_log}
use Rattle.text_forms.specs.DrawnLines.{NamesCells}
use Rattle.answer_model.specs.RunFiles.{emitted_before}
use Rattle.answer_model.specs.Cdpp.{run_on}

-- the group's name is that of no other leaf, and each record has a line of the log's form
pub record IsDrawable (tree : Tree) (name : Word) (g : ℕ × Group) (r : Run) : Type 0 where
  pub names : NamesCells g.1.space name g.0 (leaves tree)
  pub lines : list_all is_line (flat_map (cycle_lines (leaves tree)) r.cycles) ≡ true

abbrev pub DrawnAgrees : Type 0
DrawnAgrees =
    (tree : Tree) (events : List Event) (end limit : ℕ) (letters : List ℕ) (name : Word)
    (g : ℕ × Group) (p : Picture)
    → IsDrawable tree name g (run_on tree events end limit None) → has_letter letters Y ≡ true
    → p.space ≡ g.1.space
    → frames_of_log p name (log_bytes tree letters (run_on tree events end limit None).cycles)
    ≡ Ok (frames_of p g.0 (emitted_before None g) (run_on tree events end limit None).cycles)
