-- The ends at which the links of a section may begin and end, but for those at cells.
use Rattle.std.specs.Prelude.{ℕ, Option, None, Some, List, [], ◌∷◌, ◌++◌, map, fold, if◌then◌else◌, codes}
use Rattle.std.specs.List.{flat_map}
use Rattle.quantity.specs.Bytes.{Bytes, is_among}
use Rattle.rule_tree.specs.Phrases.{out}
use Rattle.atomic_face.specs.declared.class.Class.{Class}
use Rattle.cell_grid.specs.Space.{cell_count}
use Rattle.ma_lines.specs.Sections.{Section}
use Rattle.model_tree.specs.declared.link.End.{End}
use Rattle.model_tree.specs.declared.link.End.TheVariants.{Own, Child}
use Rattle.model_text.specs.Keyed.{Item, texts_of}
use Rattle.model_text.specs.Walk.{is_group, is_atomic, item_name, section_of_item, children_of}
use Rattle.model_text.specs.Spaces.{space_of}
use Rattle.model_text.specs.Stock.{class_of_item}
use Rattle.model_text.specs.Links.{inputs_of_class, ports_in}
use Rattle.model_links.specs.declared.child.Side.{Side}
use Rattle.model_links.specs.declared.child.Side.TheVariants.{From, To}
use Rattle.model_links.specs.Lent.{with_ends}

-- a port of the section itself, or of the child of this name
abbrev pub end_at : Option Bytes → Bytes → End
end_at None port = Own port
end_at (Some child) port = Child port child

-- more of them
abbrev pub ends_at : Option Bytes → List Bytes → List End
ends_at child ports = map (end_at child) ports

-- the key of a section's own ports: links begin at its inputs
abbrev pub own_key : Side → Bytes
own_key From = codes "in"
own_key To = codes "out"

-- the ports of a child, which has a class
abbrev pub ports_of_class : Side → Option Class → List Bytes
ports_of_class From class = out ∷ []
ports_of_class To class = inputs_of_class class

-- the key of a child's ports: links begin at its outputs
abbrev pub child_key : Side → Bytes
child_key From = codes "out"
child_key To = codes "in"

-- the ports of a child
abbrev pub ports_of_item : Side → List Section → Option Item → List Bytes
ports_of_item side ss None = []
ports_of_item side ss (Some i) =
    if is_atomic i then ports_of_class side (class_of_item i)
    else ports_in (child_key side) (section_of_item ss i)

-- the same as ends
abbrev pub child_ends : Side → List Section → Item → List End
child_ends side ss i = ends_at (Some (item_name i)) (ports_of_item side ss (Some i))

-- with an item more behind the others, unless one of its name is there
abbrev pub with_item : List Item → Item → List Item
with_item is i = if is_among (map item_name is) (item_name i) then is else is ++ i ∷ []

-- the first item of each name
abbrev pub first_items : List Item → List Item
first_items is = fold with_item [] is

-- where the links of a section that has these children may begin, or may end
abbrev pub ends_by : Side → List Section → Section → List Item → List End
ends_by side ss s is =
    with_ends (with_ends [] (ends_at None (texts_of (own_key side) s)))
    (flat_map (child_ends side ss) is)

-- the same by all its children, of each name the first
abbrev pub all_ends : Side → List Section → Section → List End
all_ends side ss s = ends_by side ss s (first_items (children_of s))

-- how many cells a section's links may name
abbrev pub cells_of : Section → ℕ
cells_of s = if is_group s then cell_count (space_of s) else 0
