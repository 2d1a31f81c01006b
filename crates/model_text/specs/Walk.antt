-- The walk from top: sections and items in the order in which they are met, and the first that is
-- refused.
use Rattle.std.specs.Prelude.{ℕ, zero, suc, Bool, true, false, not, ◌&&◌, ◌||◌, nat_le, Option, Some, None, List, [], ◌∷◌, ◌++◌, map, length, if◌then◌else◌, codes}
use Rattle.std.specs.List.{filter, filter_map, flat_map, list_any, before_first, after_first}
use Rattle.std.specs.Option.{option_map, option_or, is_some}
use Rattle.std.specs.Str.{bytes_eq}
use Rattle.quantity.specs.Bytes.{Bytes, is_byte, is_empty, is_among}
use Rattle.quantity.specs.Names.{is_name}
use Rattle.quantity.specs.declared.bounds.TheConstants.{MAX_ATOMICS, MAX_LEVELS}
use Rattle.model_text.specs.declared.kind.Kind.{Kind}
use Rattle.model_text.specs.declared.kind.Kind.TheVariants.{NoTop, MissingKey, BadValue, UnknownComponent, DuplicateComponent, ComponentCycle, TooLarge}
use Rattle.model_text.specs.Refusals.{Refusal, refusal}
use Rattle.ma_lines.specs.declared.section.Entry.{Entry}
use Rattle.ma_lines.specs.Sections.{Section}
use Rattle.model_text.specs.Keyed.{section_named, first_entry, value_of, is_this_value, Item, items_of}

-- the section that is the model
abbrev pub top : Bytes
top = codes "top"

-- ---- sections and items

-- a section of cells
abbrev pub is_group : Section → Bool
is_group s = is_this_value (codes "cell") (value_of (codes "type") s)

-- a type that is neither word, or a group as top
abbrev pub is_wrong_type : Section → Entry → Bool
is_wrong_type s e =
    not (bytes_eq e.value (codes "coupled")
    || (bytes_eq e.value (codes "cell") && not (bytes_eq s.name top)))

-- the items that a section names, which a group has none of
abbrev pub children_of : Section → List Item
children_of s = if is_group s then [] else items_of (codes "components") s

-- what stands before the `@`
abbrev pub item_name : Item → Bytes
item_name i = before_first (is_byte 64) i.text

-- an item with a class
abbrev pub is_atomic : Item → Bool
is_atomic i = list_any (is_byte 64) i.text

-- what stands behind the `@`
abbrev pub class_of : Item → Bytes
class_of i = after_first (is_byte 64) i.text

-- a name, or a name and the name of a class
abbrev pub is_item : Item → Bool
is_item i = is_name (item_name i) && (not (is_atomic i) || is_name (class_of i))

-- the section of a bare item
abbrev pub section_of_item : List Section → Item → Option Section
section_of_item ss i = if is_atomic i then None else section_named ss (item_name i)

-- ---- the walk

-- a section is met at the line of its item, an item between the names of the sections around it
pub data Step : Type 0 where
  at_section : (line : ℕ) (is_too_deep : Bool) → Section → Step
  at_item : (around : List Bytes) → Item → Step

-- the section that is walked behind an item, unless it is around it
abbrev pub below : List Section → List Bytes → Item → Option Section
below ss around i = if is_among around (item_name i) then None else section_of_item ss i

-- from a section that may have so many levels of sections, itself included
abbrev pub walk_from : ℕ → List Section → List Bytes → ℕ → Section → List Step
walk_from zero ss around line s = at_section line true s ∷ []
walk_from (suc n) ss around line s =
    at_section line false s
    ∷ flat_map (λ (i : Item).
    at_item (s.name ∷ around) i
    ∷ elim (below ss (s.name ∷ around) i)
    [ None ↦ [] | Some t ↦ walk_from n ss (s.name ∷ around) i.line t ]) (children_of s)

-- from a section that is there
abbrev pub walk_at : List Section → Option Section → List Step
walk_at ss None = []
walk_at ss (Some s) = walk_from MAX_LEVELS ss [] 0 s

-- from section top; no step where there is none
abbrev pub walk : List Section → List Step
walk ss = walk_at ss (section_named ss top)

-- ---- what the walk meets

-- the item of a step
abbrev pub item_in : Step → Option Item
item_in (at_section line deep s) = None
item_in (at_item around i) = Some i

-- the section of a step
abbrev pub section_in : Step → Option Section
section_in (at_section line deep s) = Some s
section_in (at_item around i) = None

-- the items of steps
abbrev pub items_in : List Step → List Item
items_in steps = filter_map item_in steps

-- the sections of coupled components and groups
abbrev pub reached_sections : List Section → List Section
reached_sections ss = filter_map section_in (walk ss)

-- the sections of groups
abbrev pub groups : List Section → List Section
groups ss = filter is_group (reached_sections ss)

-- the items of atomic components
abbrev pub atomics : List Section → List Item
atomics ss = filter is_atomic (items_in (walk ss))

-- ---- refusals

-- an item after these, between the names of the sections around it
abbrev pub item_refused : List Section → List Item → List Bytes → Item → Option Kind
item_refused ss before around i =
    if not (is_item i) then Some BadValue
    else if bytes_eq (item_name i) top || is_among around (item_name i) then Some ComponentCycle
    else if is_among (map item_name before) (item_name i) then Some DuplicateComponent
    else if is_atomic i && nat_le MAX_ATOMICS (length (filter is_atomic before)) then Some TooLarge
    else if not (is_atomic i) && not (is_some (section_of_item ss i)) then Some UnknownComponent
    else None

-- the refusal of a section whose type, if this entry says one, is wrong
abbrev pub type_refused : Section → Option Entry → Option Refusal
type_refused s None = None
type_refused s (Some e) = if is_wrong_type s e then Some (refusal e.line BadValue) else None

-- the refusal of a section that is too deep, of a wrong type, or without children where it is no
-- group; this line is that of the item that names it, 0 for top
abbrev pub section_refused : ℕ → Bool → Section → Option Refusal
section_refused line is_too_deep s =
    if is_too_deep then Some (refusal line TooLarge)
    else option_or (type_refused s (first_entry (codes "type") s))
    (if not (is_group s) && is_empty (children_of s) then Some (refusal s.line MissingKey)
    else None)

-- a step after these items
abbrev pub step_refused : List Section → List Item → Step → Option Refusal
step_refused ss before (at_section line deep s) = section_refused line deep s
step_refused ss before (at_item around i) =
    option_map (refusal i.line) (item_refused ss before around i)

-- the first step that is refused, after these items
abbrev pub first_step_refused : List Section → List Item → List Step → Option Refusal
first_step_refused ss before [] = None
first_step_refused ss before (step ∷ steps) =
    option_or (step_refused ss before step)
    (first_step_refused ss (before ++ items_in (step ∷ [])) steps)

-- the refusal of a file without section top
abbrev pub top_refused : List Section → Option Refusal
top_refused ss = if is_some (section_named ss top) then None else Some (refusal 0 NoTop)

-- the first step of the walk that is refused
abbrev pub tree_refused : List Section → Option Refusal
tree_refused ss = first_step_refused ss [] (walk ss)
