-- Private: how the files of one group are laid on its values.
use Rattle.std.specs.Prelude.{◌≡◌, ℕ, Bool, Option, List, [], ◌∷◌, ◌++◌, map, length, IfSome}
use Rattle.std.specs.Option.{option_and_then, option_to_list}
use Rattle.std.specs.declared.result.Result.{Result}
use Rattle.std.specs.declared.result.Result.TheVariants.{Ok, Err}
use Rattle.quantity.specs.Bytes.{Bytes}
use Rattle.quantity.specs.declared.value.Value.{Value}
use Rattle.source_text.specs.Lines.{Files}
use Rattle.ma_lines.specs.Laws.{IsPlainSection}
use Rattle.ma_lines.specs.Sections.{Section}
use Rattle.ma_lines.specs.InCode.{section_of}
use Rattle.cell_grid.specs.Space.{cell_count}
use Rattle.cell_grid.specs.declared.initial.InitialRefusal.{InitialRefusal}
use Rattle.model_text.specs.declared.kind.Kind.TheVariants.{BadInitial}
use Rattle.model_text.specs.Keyed.{first_entry, value_of}
use Rattle.model_text.specs.InitialFiles.{InitialFile, file_at}
use Rattle.model_text.specs.Spaces.{space_of}
use Rattle.model_text.specs.Trees.{initial_of}
use Rattle.model_read.specs.declared.group_space.GroupSpace.{GroupSpace}
use Rattle.model_read.specs.declared.refusal.ModelRefusal.{ModelRefusal}
use Rattle.model_read.specs.declared.refusal.ModelRefusal.TheVariants as why

-- the file that a section names under a key, where it names one
abbrev pub named_files : Bytes → (Bytes → Bool) → Section → List InitialFile
named_files key is_right s = map (file_at is_right) (option_to_list (first_entry key s))

-- what is read in the bytes of that file, where it is there
abbrev pub named_read : {A : Type 0} → (Bytes → Option A) → Files → Bytes → Section → Option A
named_read read files key s = option_and_then read (option_and_then files (value_of key s))

-- a group's section is plain, and its space is the one that the section says
pub record IsRight (g : GroupSpace) : Type 0 where
  pub plain : IsPlainSection (section_of g.section.now)
  pub space : g.grid ≡ space_of (section_of g.section.now)

-- what is answered where a file is laid, or is off its form
abbrev pub laid_at : {A : Type 0} → ℕ → Result A InitialRefusal → Result A ModelRefusal
laid_at line (Ok values) = Ok values
laid_at line (Err off) = Err (why.Refused line BadInitial)

-- the values of a group stand behind the others
pub record Adds (folder : Option Files) (s : Section) (old new : List (List Value)) : Type 0 where
  pub values : List Value
  pub added : new ≡ old ++ values ∷ []
  pub cells : length values ≡ cell_count (space_of s)
  pub right : IfSome folder (λ files. values ≡ initial_of files s)
