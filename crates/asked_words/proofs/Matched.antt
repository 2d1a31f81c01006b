-- What words give, by whether the command takes them.
use Rattle.std.proofs.Common.{◌≡◌, ℕ, ap, Bool, true, false, List, None}
use Rattle.std.specs.Prelude.{if◌then◌else◌}
use Rattle.clap.specs.Words.{Text, matches_of, rows_of, first_of, first_value}
use Rattle.clap.specs.Walk.{Row}
use Rattle.clap.specs.declared.parser.matches.Found.{Found}
use Rattle.clap.proofs.WalkLemmas.{first_value-rows}
use Rattle.model_tree.specs.Tree.{Word}
use Rattle.answer_model.specs.Options.{OptionRow, is_taken, command_by, draft_of_rows, files_of_options, differ_all, draft_in, draft_by}

pub value_is : (f : Found) (id : Text) → first_value f id ≡ first_of id (rows_of f)
value_is f id = first_value-rows f id

module _ (name : List ℕ) (rows : List OptionRow) (words : List Word) where
  pub draft_off : is_taken (command_by name rows) words ≡ false → draft_by name rows words ≡ None
  unfolding draft_by
  draft_off off = ap (λ (b : Bool). if b then draft_in rows (matches_of (command_by name rows) words) else None) off

  pub draft_on : is_taken (command_by name rows) words ≡ true → draft_by name rows words ≡ draft_in rows (matches_of (command_by name rows) words)
  unfolding draft_by
  draft_on on = ap (λ (b : Bool). if b then draft_in rows (matches_of (command_by name rows) words) else None) on

pub same_names : (rows : List OptionRow) (given : List Row) → differ_all (files_of_options rows given) ≡ false → draft_in rows given ≡ None
same_names rows given off = ap (λ (b : Bool). if b then draft_of_rows rows given else None) off

pub names_differ : (rows : List OptionRow) (given : List Row) → differ_all (files_of_options rows given) ≡ true → draft_in rows given ≡ draft_of_rows rows given
names_differ rows given on = ap (λ (b : Bool). if b then draft_of_rows rows given else None) on
