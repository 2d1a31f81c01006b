-- The keys of sections: how often they may stand, and the form of their values, by the tables of `model_text/src/key.rt`.
use Rattle.std.specs.Prelude.{◌==◌, Bool, true, false, not, ◌&&◌, ◌||◌, Option, Some, None, List, [], ◌∷◌, ◌++◌, map, length, if◌then◌else◌, codes}
use Rattle.std.specs.List.{filter, flat_map, list_all}
use Rattle.std.specs.Option.{is_some, option_to_list}
use Rattle.quantity.specs.Bytes.{Bytes, is_among, words}
use Rattle.quantity.specs.Names.{is_name}
use Rattle.model_text.specs.declared.key.Form.{Form}
use Rattle.model_text.specs.declared.key.Form.TheVariants.{Any, Size, Sizes, DelayKind, DelayTime, Border, Tuples, Value, FileName, Name, PortRule, Variables, VariableValues, Ports, PortValues, Names, Link}
use Rattle.model_text.specs.declared.key.TheConstants.{GROUP_KEYS, COMPONENT_KEYS}
use Rattle.model_text.specs.declared.kind.Kind.TheVariants.{DuplicateKey, MissingKey, BadValue}
use Rattle.model_text.specs.Refusals.{Refusal, refusal}
use Rattle.ma_lines.specs.declared.section.Entry.{Entry}
use Rattle.ma_lines.specs.Sections.{Section}
use Rattle.rule_tree.specs.Phrases.{looked_up}
use Rattle.atomic_face.specs.declared.class.Class.{Class}
use Rattle.atomic_face.specs.ClassNames.{class_named}
use Rattle.atomic_face.specs.Settings.{once_keys}
use Rattle.model_text.specs.Keyed.{section_named, first_entry, value_of, Item, items_of, least_refusal}
use Rattle.model_text.specs.Walk.{is_group, item_name, class_of, reached_sections, atomics}
use Rattle.model_text.specs.Forms.{is_size, is_dim, is_delay_time, is_value_text, is_file_name, are_names, is_one_of, are_words, are_ports, tuples_of, port_rule_text, has_two_ends}

-- ---- keys that stand again

-- a key: its word, whether it may stand once, and the form of its values
abbrev pub Key : Type 0
Key = record { now : Bytes } × Bool × Form

-- the words of the keys that may stand once
abbrev pub once_words : List Key → List Bytes
once_words keys = map (λ (k : Key). k.0.now) (filter (λ (k : Key). k.1) keys)

-- the keys of a group, or of a section of components
abbrev pub keys_of : Bool → List Key
keys_of is_of_group = if is_of_group then GROUP_KEYS else COMPONENT_KEYS

-- the keys that may stand once in a group
abbrev pub group_keys : List Bytes
group_keys = once_words GROUP_KEYS

-- the keys that may stand once in a section
abbrev pub section_keys : Section → List Bytes
section_keys s = once_words (keys_of (is_group s))

-- entries whose key is among these and stands before
abbrev pub again : List Bytes → List Bytes → List Entry → List Refusal
again once before [] = []
again once before (e ∷ es) =
    (if is_among once e.key && is_among before e.key then refusal e.line DuplicateKey ∷ [] else [])
    ++ again once (e.key ∷ before) es

-- ---- keys that are missing

-- some entry has the key
abbrev pub has_key : Bytes → Section → Bool
has_key key s = is_some (first_entry key s)

-- dim, or height and width
abbrev pub has_space : Section → Bool
has_space s = has_key (codes "dim") s || (has_key (codes "height") s && has_key (codes "width") s)

-- a group that lacks its space or its rules
abbrev pub missing_key : Section → List Refusal
missing_key s =
    if has_space s && has_key (codes "localtransition") s then []
    else refusal s.line MissingKey ∷ []

-- ---- values off their form

-- as many values as the words of another key, which is there
abbrev pub values_fit : (Bytes → Bool) → Option Bytes → Bytes → Bool
values_fit is_right None text = false
values_fit is_right (Some names) text =
    list_all is_value_text (words text)
    && (not (is_right names) || (length (words text) == length (words names)))

-- a text has this form, in a section
abbrev pub has_form : Section → Form → Bytes → Bool
has_form s Any = λ text. true
has_form s Size = is_size
has_form s Sizes = is_dim
has_form s DelayKind = is_one_of (codes "transport" ∷ codes "inertial" ∷ [])
has_form s DelayTime = is_delay_time
has_form s Border = is_one_of (codes "wrapped" ∷ codes "nowrapped" ∷ [])
has_form s Tuples = λ text. is_some (tuples_of s.name text)
has_form s Value = is_value_text
has_form s FileName = is_file_name
has_form s Name = is_name
has_form s PortRule = λ text. is_some (port_rule_text s.name text)
has_form s Variables = are_words 8
has_form s VariableValues = values_fit (are_words 8) (value_of (codes "statevariables") s)
has_form s Ports = are_ports
has_form s PortValues = values_fit are_ports (value_of (codes "neighborports") s)
has_form s Names = are_names
has_form s Link = has_two_ends

-- keys, each with the form of its values in a section
abbrev pub forms_of : Section → List Key → List (Bytes × (Bytes → Bool))
forms_of s keys = map (λ (k : Key). (k.0.now, has_form s k.2)) keys

-- the keys of a section of components, each with the form of its values
abbrev pub forms : Section → List (Bytes × (Bytes → Bool))
forms s = forms_of s COMPONENT_KEYS

-- the same of a group
abbrev pub group_forms : Section → List (Bytes × (Bytes → Bool))
group_forms s = forms_of s GROUP_KEYS

-- a value that is off the form of its key
abbrev pub is_off : Option (Bytes → Bool) → Bytes → Bool
is_off None text = false
is_off (Some is_right) text = not (is_right text)

-- the entries whose values are off their form
abbrev pub off_form : List (Bytes × (Bytes → Bool)) → List Entry → List Refusal
off_form table es =
    map (λ (e : Entry). refusal e.line BadValue)
    (filter (λ (e : Entry). is_off (looked_up table e.key) e.value) es)

-- dim beside height or width, at the line of dim
abbrev pub double_space : Section → List Refusal
double_space s =
    if has_key (codes "height") s || has_key (codes "width") s
    then map (λ (e : Entry). refusal e.line BadValue) (option_to_list (first_entry (codes "dim") s))
    else []

-- words that stand before
abbrev pub repeated_words : List Bytes → List Item → List Refusal
repeated_words before [] = []
repeated_words before (i ∷ is) =
    (if is_among before i.text then refusal i.line BadValue ∷ [] else [])
    ++ repeated_words (i.text ∷ before) is

-- ---- the phase

-- what is refused of the keys of a group
abbrev pub of_group : Section → List Refusal
of_group s = missing_key s ++ off_form (group_forms s) s.entries ++ double_space s

-- what is refused of the keys of a section
abbrev pub of_section : Section → List Refusal
of_section s =
    again (section_keys s) [] s.entries ++ repeated_words [] (items_of (codes "in") s)
    ++ repeated_words [] (items_of (codes "out") s)
    ++ (if is_group s then of_group s else off_form (forms s) s.entries)

-- parameters of the class that may stand once
abbrev pub parameters_again : Option Class → Option Section → List Refusal
parameters_again (Some class) (Some s) = again (once_keys class) [] s.entries
parameters_again class s = []

-- what is refused of the keys of an atomic component
abbrev pub of_atomic : List Section → Item → List Refusal
of_atomic ss i = parameters_again (class_named (class_of i)) (section_named ss (item_name i))

-- the least refusal of all keys
abbrev pub keys_refused : List Section → Option Refusal
keys_refused ss =
    least_refusal
    (flat_map of_section (reached_sections ss) ++ flat_map (of_atomic ss) (atomics ss))
