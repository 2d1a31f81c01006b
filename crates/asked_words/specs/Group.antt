-- The group that is drawn, where it stands in a model.
use Rattle.std.specs.Prelude.{◌≡◌, Option, Some, None, slice_get}
use Rattle.model_tree.specs.Tree.{Word, Group, Tree, leaves, groups}
use Rattle.model_text.specs.Drawings.{Drawing}
use Rattle.answer_model.specs.RunFiles.{group_at}
use Rattle.asked_words.specs.declared.group.GroupAt.{GroupAt}

-- it is the group of this name, by its number and its first leaf, or there is none
abbrev pub IsGroup : Word → Option GroupAt → Tree → Type 0
IsGroup name None t = group_at name (leaves t) ≡ None
IsGroup name (Some p) t =
    (g : Group) × (group_at name (leaves t) ≡ Some (p.first, g))
    × (slice_get (groups t) p.number ≡ Some g)

-- the group that is drawn, and none where nothing is
abbrev pub IsDrawn : Option Drawing → Option GroupAt → Tree → Type 0
IsDrawn None drawn t = drawn ≡ None
IsDrawn (Some d) drawn t = IsGroup d.group drawn t
