-- The links of sections: their ends, and what is refused of them.
use Rattle.std.specs.Prelude.{ℕ, not, ◌&&◌, Option, Some, None, List, [], ◌∷◌, ◌++◌, map, length, if◌then◌else◌, codes}
use Rattle.std.specs.List.{filter, filter_map, find, flat_map, list_any, sum, before_first, after_first}
use Rattle.std.specs.Option.{option_map, option_and_then}
use Rattle.std.specs.Bool.{then_some}
use Rattle.std.specs.Str.{bytes_eq}
use Rattle.cell_grid.specs.Space.{cell_count}
use Rattle.atomic_face.specs.declared.class.Class.{Class}
use Rattle.model_tree.specs.declared.link.End.{End}
use Rattle.model_tree.specs.declared.link.End.TheVariants.{Own, Child, Cell}
use Rattle.model_tree.specs.declared.link.Link.{Link}
use Rattle.atomic_face.specs.ClassNames.{class_ports}
use Rattle.quantity.specs.Bytes.{Bytes, is_byte, is_empty}
use Rattle.quantity.specs.Names.{is_name}
use Rattle.source_text.specs.Tuples.{NamedTuple, named_tuple, parts_of}
use Rattle.model_text.specs.declared.kind.Kind.{Kind}
use Rattle.model_text.specs.declared.kind.Kind.TheVariants.{UnknownPort}
use Rattle.model_text.specs.Refusals.{Refusal, refusal, kind_of_link}
use Rattle.ma_lines.specs.declared.section.Entry.{Entry}
use Rattle.ma_lines.specs.Sections.{Section}
use Rattle.rule_tree.specs.Phrases.{out}
use Rattle.model_text.specs.Keyed.{entries_of, texts_of, Item, least_refusal}
use Rattle.model_text.specs.Walk.{is_group, children_of, item_name, is_atomic, section_of_item, reached_sections}
use Rattle.model_text.specs.Forms.{ends_of}
use Rattle.cell_grid.specs.Places.{cell_in}
use Rattle.model_text.specs.Spaces.{space_of}
use Rattle.model_text.specs.Stock.{class_of_item}
use Rattle.model_tree.specs.Faces.{Face, link_refused}

-- ---- ends

-- what stands before the `@`
abbrev pub port_part : Bytes → Bytes
port_part text = before_first (is_byte 64) text

-- what stands behind it
abbrev pub rest_part : Bytes → Bytes
rest_part text = after_first (is_byte 64) text

-- a port of the section itself
abbrev pub own_end : Bytes → Option End
own_end text = then_some (is_name text) (Own text)

-- port@child
abbrev pub child_end : Bytes → Option End
child_end text =
    then_some (is_name (port_part text) && is_name (rest_part text))
    (Child (port_part text) (rest_part text))

-- the one tuple behind a group's name
abbrev pub one_tuple : Section → List Bytes → Option NamedTuple
one_tuple s (part ∷ []) =
    option_and_then (λ t. then_some (bytes_eq t.name s.name) t) (named_tuple part)
one_tuple s parts = None

-- port@group and a tuple
abbrev pub cell_end : Section → Bytes → Option End
cell_end s text =
    option_and_then
    (λ t. option_map (Cell (port_part text))
    (option_and_then (cell_in (space_of s)) (then_some (is_name (port_part text)) t.place)))
    (option_and_then (one_tuple s) (parts_of (rest_part text)))

-- port, port@child, or in a group port@group and a tuple
abbrev pub end_in : Section → Bytes → Option End
end_in s text =
    if list_any (is_byte 64) text then (if is_group s then cell_end s text else child_end text)
    else own_end text

-- ---- links

-- a link, where both ends are there
abbrev pub link_of_ends : Option End → Option End → Option Link
link_of_ends (Some a) (Some b) = Some (record { from = a; to = b })
link_of_ends a b = None

-- the link of two ends
abbrev pub link_of_texts : Section → List Bytes → Option Link
link_of_texts s (a ∷ b ∷ []) = link_of_ends (end_in s a) (end_in s b)
link_of_texts s texts = None

-- the link of an entry, or none where an end has no form of an end
abbrev pub link_of : Section → Entry → Option Link
link_of s e = link_of_texts s (ends_of e.value)

-- an empty value adds nothing
abbrev pub link_entries : Section → List Entry
link_entries s = filter (λ (e : Entry). not (is_empty e.value)) (entries_of (codes "link") s)

-- the links of a section
abbrev pub links_of : Section → List Link
links_of s = filter_map (link_of s) (link_entries s)

-- ---- the face of a section

-- the first child of this name
abbrev pub child_named : Section → Bytes → Option Item
child_named s name = find (λ i. bytes_eq (item_name i) name) (children_of s)

-- the ports under a key of a section that is there
abbrev pub ports_in : Bytes → Option Section → List Bytes
ports_in key None = []
ports_in key (Some s) = texts_of key s

-- the inputs of a class that is there
abbrev pub inputs_of_class : Option Class → List Bytes
inputs_of_class None = []
inputs_of_class (Some class) = class_ports class

-- the inputs of a child
abbrev pub inputs_of_item : List Section → Option Item → List Bytes
inputs_of_item ss None = []
inputs_of_item ss (Some i) =
    if is_atomic i then inputs_of_class (class_of_item i)
    else ports_in (codes "in") (section_of_item ss i)

-- the outputs of a child
abbrev pub outputs_of_item : List Section → Option Item → List Bytes
outputs_of_item ss None = []
outputs_of_item ss (Some i) =
    if is_atomic i then out ∷ [] else ports_in (codes "out") (section_of_item ss i)

-- what the links of a section may join
abbrev pub face_of : List Section → Section → Face
face_of ss s =
    record {
      ins = texts_of (codes "in") s;
      outs = texts_of (codes "out") s;
      inputs_of = λ child. inputs_of_item ss (child_named s child);
      outputs_of = λ child. outputs_of_item ss (child_named s child);
      cells = if is_group s then cell_count (space_of s) else 0;
    }

-- ---- refusals

-- the refusal of a link after those before it, or of one that has no form
abbrev pub entry_refused : Face → List Link → Option Link → Option Kind
entry_refused f before None = Some UnknownPort
entry_refused f before (Some l) = option_map kind_of_link (link_refused f before l)

-- on the line of the entry
abbrev pub at_line : Entry → Option Kind → List Refusal
at_line e None = []
at_line e (Some kind) = refusal e.line kind ∷ []

-- the refused links of a section, after these
abbrev pub links_refused_after : Face → Section → List Link → List Entry → List Refusal
links_refused_after f s before [] = []
links_refused_after f s before (e ∷ es) =
    at_line e (entry_refused f before (link_of s e))
    ++ links_refused_after f s (before ++ filter_map (link_of s) (e ∷ [])) es

-- what is refused of the links of a section
abbrev pub of_links : List Section → Section → List Refusal
of_links ss s = links_refused_after (face_of ss s) s [] (link_entries s)

-- the least refusal of all links
abbrev pub links_refused : List Section → Option Refusal
links_refused ss = least_refusal (flat_map (of_links ss) (reached_sections ss))

-- how many links there are
abbrev pub link_count : List Section → ℕ
link_count ss = sum (map (λ s. length (link_entries s)) (reached_sections ss))
