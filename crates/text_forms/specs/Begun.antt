-- How lines begin. Only private clauses name this.
use Rattle.std.specs.Prelude.{◌≡◌, ◌<◌, ⊤, ℕ, Some, length, ◌∷◌, ◌++◌, map, take, slice_get, codes, decimal}
use Rattle.std.specs.List.{join_with_byte}
use Rattle.quantity.specs.Bytes.{Bytes}
use Rattle.quantity.specs.ByteNames.{comma}
use Rattle.quantity.specs.Times.{time_text}
use Rattle.rule_tree.specs.Meaning.{coordinates}
use Rattle.cell_grid.specs.Space.{Space, dims_of, place_of}
use Rattle.model_leaves.specs.declared.table.Model.{Model}
use Rattle.model_tree.specs.Tree.{Group, Leaf, groups}
use Rattle.model_leaves.specs.PlaneTexts.{leaf_text}
use Rattle.model_leaves.specs.Models.{tree_of}
use Rattle.model_leaves.specs.declared.leaves.CellAt.{CellAt}
use Rattle.model_leaves.specs.Leaves.{Settings, no_settings}
use Rattle.text_forms.specs.declared.letter.Letter.{Letter}
use Rattle.text_forms.specs.Letters.{letter_byte}
use Rattle.text_forms.specs.declared.start.Begins.{Begins}
use Rattle.text_forms.specs.declared.start.Begins.TheVariants.{Nothing, Boxes, Cells}
use Rattle.text_forms.specs.declared.start.Start.{Start}

-- letter and time
unfoldable pub line_front : Letter → ℕ → Bytes
line_front letter time = (letter_byte letter ∷ codes " / ") ++ time_text time ++ codes " / "

-- letter, time and leaf
unfoldable pub head_text : Letter → ℕ → Leaf → Bytes
head_text letter time l =
    (letter_byte letter ∷ codes " / ") ++ time_text time ++ codes " / " ++ leaf_text l
    ++ codes " / "

-- the coordinates of a cell
abbrev pub coordinates_text : Space → ℕ → Bytes
coordinates_text s cell =
    join_with_byte comma (map decimal (take (dims_of s) (coordinates (place_of s cell))))

-- what stands behind a group's name and a parenthesis
unfoldable pub place_text : Space → ℕ → Bytes
place_text s cell = coordinates_text s cell ++ codes ") / "

-- this holds of the group of this number, whatever the settings
abbrev pub OfGroup : Model → ℕ → (Group → Type 0) → Type 0
OfGroup m number P =
    (settings : Settings) → (g : Group)
    → slice_get (groups (tree_of m settings)) number ≡ Some g → P g

-- letter, time and the name of a group
abbrev pub IsOfGroup : Letter → ℕ → Bytes → Group → Type 0
IsOfGroup letter time text g = text ≡ line_front letter time ++ g.name ++ codes "("

-- letter, time and a cell, as the table has it
abbrev pub named_text : Letter → ℕ → CellAt → Bytes
named_text letter time c =
    (line_front letter time ++ c.name.now ++ codes "(") ++ place_text c.space.now c.cell

-- there is such a group, and this is its name
pub record IsNamed (m : Model) (c : CellAt) : Type 0 where
  pub there : c.group < length (groups (tree_of m no_settings))
  pub named : OfGroup m c.group (λ g. c.name.now ≡ g.name)

-- the text is what such lines begin with
abbrev pub IsBeginning : Model → Letter → Begins → Bytes → Type 0
IsBeginning m letter Nothing text = ⊤
IsBeginning m letter (Boxes time) text = text ≡ line_front letter time
IsBeginning m letter (Cells time group) text = OfGroup m group (IsOfGroup letter time text)

-- what is kept of the beginning is right
unfoldable pub IsStart : Model → Start → Type 0
IsStart m s = IsBeginning m s.letter s.of s.text
