-- What values of entries are read to, by the forms of their keys.
use Rattle.std.specs.Prelude.{◌≡◌, ℕ, Bool, false, Option, Some, None, List, [], map, ℤ, IfSome}
use Rattle.std.specs.List.{filter_map, find, list_all, AllByRecursion}
use Rattle.std.specs.Option.{option_map}
use Rattle.std.specs.Str.{bytes_eq}
use Rattle.std.specs.Borrow.{Bor}
use Rattle.quantity.specs.Bytes.{Bytes, words}
use Rattle.quantity.specs.Digits.{whole_number}
use Rattle.quantity.specs.declared.value.Value.{Value}
use Rattle.quantity.specs.Literals as literals
use Rattle.source_text.specs.Shown.{named_of, numbers_of, texts}
use Rattle.source_text.specs.Tuples.{NamedTuple, tuple}
use Rattle.ma_lines.specs.declared.section.Entry.{Entry}
use Rattle.model_text.specs.declared.key.Form.{Form}
use Rattle.model_text.specs.declared.key.Form.TheVariants as forms
use Rattle.model_text.specs.Forms.{is_value_text, PortRuleText, tuples_of, port_rule_text, ends_of}
use Rattle.model_text.specs.declared.key.TheConstants.{GROUP_KEYS}
use Rattle.model_text.specs.Keys.{Key}
use Rattle.model_walk.specs.PortRule.{port_rule_of}
use Rattle.model_walk.specs.declared.read_value.ReadValue.{ReadValue}
use Rattle.model_walk.specs.declared.read_value.ReadValue.TheVariants as read
use Rattle.model_walk.specs.declared.read_section.ReadEntry.{ReadEntry}

-- ---- what was read

abbrev pub number_in : ReadValue → Option ℕ
number_in (read.Number n) = Some n
number_in v = None

abbrev pub numbers_in : ReadValue → Option (List ℤ)
numbers_in (read.Tuple t) = Some (numbers_of t)
numbers_in v = None

abbrev pub tuples_in : ReadValue → Option (List NamedTuple)
tuples_in (read.Tuples ts) = Some (map named_of ts.items)
tuples_in v = None

abbrev pub value_in : ReadValue → Option Value
value_in (read.Value x) = Some x
value_in v = None

abbrev pub port_rule_in : ReadValue → Option PortRuleText
port_rule_in (read.PortRule p) = Some (port_rule_of p)
port_rule_in v = None

abbrev pub words_in : ReadValue → List Bytes
words_in (read.Words ws) = texts ws.items
words_in v = []

-- the words that are values
abbrev pub values_in : ReadValue → List Value
values_in (read.Values vs) = vs.values.items
values_in v = []

-- whether all words are
abbrev pub are_values_in : ReadValue → Bool
are_values_in (read.Values vs) = vs.are_all
are_values_in v = false

abbrev pub ends_in : ReadValue → List Bytes
ends_in (read.Ends text) = words text.items
ends_in v = []

-- ---- what is read

-- the words of a text that are values, and whether all are
pub record AreValuesIn (text : Bytes) (v : ReadValue) : Type 0 where
  pub values : values_in v ≡ filter_map literals.value_in (words text)
  pub all : are_values_in v ≡ list_all is_value_text (words text)

-- a text that was read by a form, in a section of this name
abbrev pub IsReadBy : Bytes → Form → Bytes → ReadValue → Type 0
IsReadBy name forms.Size text v = number_in v ≡ whole_number 7 text
IsReadBy name forms.DelayTime text v = number_in v ≡ whole_number 9 text
IsReadBy name forms.Sizes text v = numbers_in v ≡ tuple text
IsReadBy name forms.Tuples text v = tuples_in v ≡ tuples_of name text
IsReadBy name forms.Value text v = value_in v ≡ literals.value_in text
IsReadBy name forms.PortRule text v = port_rule_in v ≡ port_rule_text name text
IsReadBy name forms.Names text v = words_in v ≡ words text
IsReadBy name forms.Variables text v = words_in v ≡ words text
IsReadBy name forms.Ports text v = words_in v ≡ words text
IsReadBy name forms.VariableValues text v = AreValuesIn text v
IsReadBy name forms.PortValues text v = AreValuesIn text v
IsReadBy name forms.Link text v = ends_in v ≡ ends_of text
IsReadBy name form text v = Unit {0}

-- the keys of a table, as the code has them
abbrev pub rows_of : List (Bor Bytes × Bool × Form) → List Key
rows_of keys = map (λ k. (record { now = k.0.now }, k.1, k.2)) keys

-- the form of a key among these
abbrev pub form_among : List Key → Bytes → Option Form
form_among keys key =
    option_map (λ (k : Key). k.2) (find (λ (k : Key). bytes_eq k.0.now key) keys)

-- the form by which the values of a key are read, in sections of every kind
abbrev pub form_of : Bytes → Option Form
form_of key = form_among GROUP_KEYS key

-- a text that was read by the form of a key, where the key has one
abbrev pub IsReadUnder : Bytes → Bytes → Bytes → ReadValue → Type 0
IsReadUnder name key text v = IfSome (form_of key) (λ form. IsReadBy name form text v)

-- an entry in a section of this name, whose value was read
pub record IsRead (name : Bytes) (read : ReadEntry) : Type 0 where
  pub form : read.form ≡ form_of read.entry.now.key
  pub value : IsReadUnder name read.entry.now.key read.entry.now.value read.value

-- these entries of a section of this name, which were read
pub record AreRead (name : Bytes) (es : List Entry) (list : List ReadEntry) : Type 0 where
  pub entries : map (λ (r : ReadEntry). r.entry.now) list ≡ es
  pub values : AllByRecursion (IsRead name) list

-- a text is read to its words under this key
abbrev pub AreWordsUnder : Bytes → Type 0
AreWordsUnder key =
    (name text : Bytes) (v : ReadValue) → IsReadUnder name key text v → words_in v ≡ words text
