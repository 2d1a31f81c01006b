-- The atomic components of a model: their classes, boxes and parameters.
use Rattle.std.specs.Prelude.{ℕ, ◌==◌, nat_le, Option, Some, None, List, [], ◌∷◌, ◌++◌, map, if◌then◌else◌}
use Rattle.std.specs.List.{filter_map, count_by}
use Rattle.std.specs.Option.{option_map, option_or, option_and_then}
use Rattle.ma_lines.specs.declared.section.Entry.{Entry}
use Rattle.ma_lines.specs.Sections.{Section}
use Rattle.atomic_face.specs.declared.class.Class.{Class}
use Rattle.atomic_face.specs.declared.params.Param.{Param}
use Rattle.atomic_face.specs.ClassNames.{class_named}
use Rattle.atomic_face.specs.Held.{same_class}
use Rattle.atomic_face.specs.Settings.{first_line_off}
use Rattle.model_text.specs.declared.kind.Kind.{Kind}
use Rattle.model_text.specs.declared.kind.Kind.TheVariants.{UnknownClass, OutOfStock, BadParameter}
use Rattle.model_text.specs.Refusals.{Refusal, refusal}
use Rattle.model_text.specs.Keyed.{section_named, Item}
use Rattle.model_text.specs.Walk.{item_name, class_of, atomics}

-- the class of an atomic component, if there is one of its name
abbrev pub class_of_item : Item → Option Class
class_of_item i = class_named (class_of i)

-- an entry as a parameter
abbrev pub param_of : Entry → Param
param_of e = record { line = e.line; key = e.key; value = e.value }

-- the entries of a section that is there
abbrev pub params_in : Option Section → List Param
params_in None = []
params_in (Some s) = map param_of s.entries

-- the parameters of an atomic component: the entries of the section of its name, where there is one
abbrev pub params_of : List Section → Item → List Param
params_of ss i = params_in (section_named ss (item_name i))

-- how many boxes of a class there are
abbrev pub boxes_of : Class → List Class → ℕ
boxes_of class classes = count_by (same_class class) classes

-- a box of the class is left, after boxes of these classes are taken
abbrev pub box_refused : List Class → List Class → Option Class → Option Kind
box_refused classes taken None = Some UnknownClass
box_refused classes taken (Some class) =
    if boxes_of class classes == 0 then Some UnknownClass
    else if nat_le (boxes_of class classes) (boxes_of class taken) then Some OutOfStock
    else None

-- at the least line of a parameter that is off its form
abbrev pub params_refused : List Section → Item → Option Refusal
params_refused ss i =
    option_and_then
    (λ class.
    option_map (λ line. refusal line BadParameter) (first_line_off class (params_of ss i)))
    (class_of_item i)

-- no class, no box, or a parameter off its form
abbrev pub component_refused : List Section → List Class → List Class → Item → Option Refusal
component_refused ss classes taken i =
    option_or (option_map (refusal i.line) (box_refused classes taken (class_of_item i)))
    (params_refused ss i)

-- the first component that is refused, after boxes of these classes are taken
abbrev pub first_component_refused : List Section → List Class → List Class → List Item
    → Option Refusal
first_component_refused ss classes taken [] = None
first_component_refused ss classes taken (i ∷ is) =
    option_or (component_refused ss classes taken i)
    (first_component_refused ss classes (taken ++ filter_map class_of_item (i ∷ [])) is)

-- the first atomic component that is refused
abbrev pub stock_refused : List Class → List Section → Option Refusal
stock_refused classes ss = first_component_refused ss classes [] (atomics ss)
