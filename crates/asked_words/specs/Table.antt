-- Private: the options in code.
use Rattle.std.specs.Prelude.{ℕ, Option, Some, None, List, [], ◌∷◌, if◌then◌else◌}
use Rattle.std.specs.List.{filter_map}
use Rattle.clap.specs.Walk.{Row}
use Rattle.clap.specs.Words.{App, new_rule, with_rule}
use Rattle.model_tree.specs.Tree.{Word}
use Rattle.quantity.specs.Written.{for_some}
use Rattle.answer_model.specs.Options.{Draft, nothing_given, OptionRow, option_value}
use Rattle.asked_words.specs.declared.table.Field as code
use Rattle.asked_words.specs.declared.table.Opt.{Opt}
use Rattle.asked_words.specs.Drafts.{field_of}

-- a row in code as in the definitions
abbrev pub row_of : Opt → OptionRow
row_of o =
    record {
      letter = o.letter;
      shown = o.shown.now;
      is_file = o.is_file;
      field = field_of o.field;
    }

-- ---- one option after another, each by its name

-- the command with these options more
unfoldable pub with_named : App → List Opt → App
with_named app [] = app
with_named app (o ∷ os) =
    with_named (with_rule app (record (new_rule o.id.now) { short = Some o.letter })) os

-- what a value makes of a draft, if it is given
abbrev pub put_given : Option Word → code.Field → Draft → Option Draft
put_given None f d = Some d
put_given (Some text) f d = field_of f text d

-- what all values ask for
unfoldable pub drafted_by : List Opt → List Row → Option Draft
drafted_by [] given = Some nothing_given
drafted_by (o ∷ os) given =
    for_some (drafted_by os given) (put_given (option_value given o.id.now) o.field)

-- the file that an option names, if it names one
abbrev pub file_at : List Row → Opt → Option Word
file_at given o = if o.is_file then option_value given o.id.now else None

-- the files that options name
abbrev pub files_by : List Opt → List Row → List Word
files_by os given = filter_map (file_at given) os
