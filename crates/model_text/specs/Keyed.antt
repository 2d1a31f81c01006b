-- Sections by name, and entries by key.
use Rattle.std.specs.Prelude.{ℕ, ◌==◌, Bool, false, ◌&&◌, ◌||◌, nat_lt, Option, Some, None, List, [], ◌∷◌, map, if◌then◌else◌}
use Rattle.std.specs.List.{filter, find, flat_map}
use Rattle.std.specs.Option.{option_map}
use Rattle.std.specs.Str.{bytes_eq}
use Rattle.quantity.specs.Bytes.{Bytes, words}
use Rattle.model_text.specs.declared.kind.Kind.{Kind}
use Rattle.model_text.specs.Refusals.{Refusal, refusal, kind_number}
use Rattle.ma_lines.specs.declared.section.Entry.{Entry}
use Rattle.ma_lines.specs.Sections.{Section}

-- the first section of this name
abbrev pub section_named : List Section → Bytes → Option Section
section_named ss name = find (λ (s : Section). bytes_eq s.name name) ss

-- the entries of a key
abbrev pub entries_of : Bytes → Section → List Entry
entries_of key s = filter (λ (e : Entry). bytes_eq e.key key) s.entries

-- the first entry of a key
abbrev pub first_entry : Bytes → Section → Option Entry
first_entry key s = find (λ (e : Entry). bytes_eq e.key key) s.entries

-- the value of the first entry with this key
abbrev pub value_of : Bytes → Section → Option Bytes
value_of key s = option_map (λ (e : Entry). e.value) (first_entry key s)

-- a value that is there and is this
abbrev pub is_this_value : Bytes → Option Bytes → Bool
is_this_value text None = false
is_this_value text (Some value) = bytes_eq text value

-- a word of an entry's value, with the entry's line
pub record Item : Type 0 where
  pub line : ℕ
  pub text : Bytes

-- the words of all entries of a key
abbrev pub items_of : Bytes → Section → List Item
items_of key s =
    flat_map (λ (e : Entry). map (λ w. record { line = e.line; text = w }) (words e.value))
    (entries_of key s)

-- the same without lines
abbrev pub texts_of : Bytes → Section → List Bytes
texts_of key s = map (λ (i : Item). i.text) (items_of key s)

-- ---- refusals of a phase: the least line, and there the least number

-- on a lesser line, or on the same one with a lesser number
abbrev pub comes_before : Refusal → Refusal → Bool
comes_before a b =
    nat_lt a.line b.line || ((a.line == b.line) && nat_lt (kind_number a.kind) (kind_number b.kind))

-- the first of two that comes before the other
abbrev pub lesser : Refusal → Option Refusal → Refusal
lesser a None = a
lesser a (Some b) = if comes_before b a then b else a

-- the refusal that comes before all others
abbrev pub least_refusal : List Refusal → Option Refusal
least_refusal [] = None
least_refusal (r ∷ rs) = Some (lesser r (least_refusal rs))

-- an entry's refusal of a kind, where a test fails
abbrev pub at_entry : Entry → Kind → Bool → List Refusal
at_entry e kind is_right = if is_right then [] else refusal e.line kind ∷ []

-- the refusals of all entries of a key
abbrev pub each_entry : Bytes → Section → (Entry → List Refusal) → List Refusal
each_entry key s test = flat_map test (entries_of key s)
