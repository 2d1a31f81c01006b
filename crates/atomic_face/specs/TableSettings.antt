-- The settings of a state table: its states, what each state holds, and what it takes.
use Rattle.std.specs.Prelude.{ℕ, ◌==◌, ◌+◌, ◌^◌, Bool, false, not, ◌&&◌, if◌then◌else◌, codes}
use Rattle.std.specs.Prelude.{Option, Some, None, ℤ, pos, negsuc}
use Rattle.std.specs.Prelude.{List, [], ◌∷◌, ◌++◌, map, length, take, drop}
use Rattle.std.specs.List.{filter, filter_map, find, flat_map, list_all, list_any}
use Rattle.std.specs.List.{position, range_with_len}
use Rattle.std.specs.Option.{option_map, option_and_then, unwrap_or, is_some}
use Rattle.std.specs.Bool.{then_some}
use Rattle.std.specs.Str.{bytes_eq}
use Rattle.quantity.specs.Bytes.{Bytes, words, has_repeat, is_among, all_there}
use Rattle.quantity.specs.Names.{is_name}
use Rattle.quantity.specs.Digits.{has_length}
use Rattle.quantity.specs.Literals.{value_in}
use Rattle.quantity.specs.Times.{time_in}
use Rattle.atomic_face.specs.declared.params.Param.{Param}
use Rattle.atomic_face.specs.Words.{word_of}

-- the word of the last value, and of any value
abbrev pub any_word : ℤ
any_word = pos (10 ^ 16 + 1)

-- the input ports, by number
abbrev pub table_ports : List Bytes
table_ports = codes "a" ∷ codes "b" ∷ codes "c" ∷ codes "d" ∷ []

-- the keys that stand at most once
abbrev pub table_once_keys : List Bytes
table_once_keys = codes "states" ∷ codes "initial" ∷ []

-- the parameters of this key
abbrev pub with_key : Bytes → List Param → List Param
with_key key es = filter (λ (e : Param). bytes_eq e.key key) es

-- the value of the first parameter of this key
abbrev pub value_with : Bytes → List Param → Option Bytes
value_with key es =
    option_map (λ (e : Param). e.value) (find (λ (e : Param). bytes_eq e.key key) es)

-- ---- states

-- from 1 to 64 names, all different
abbrev pub are_states : List Bytes → Bool
are_states names = has_length 1 64 names && list_all is_name names && not (has_repeat names)

-- the states that a text names, or the one state idle where there is no text
abbrev pub states_in : Option Bytes → Option (List Bytes)
states_in None = Some (codes "idle" ∷ [])
states_in (Some text) = then_some (are_states (words text)) (words text)

-- the states that parameters name; none where they are off their form
abbrev pub states_of : List Param → Option (List Bytes)
states_of es = states_in (value_with (codes "states") es)

-- the number of a name among these
abbrev pub number_of_name : List Bytes → Bytes → Option ℕ
number_of_name names text = position (bytes_eq text) names

-- the same as a number of the settings
abbrev pub word_in : List Bytes → Bytes → Option ℤ
word_in names text = option_map (λ n. pos n) (number_of_name names text)

-- ---- hold and take

-- a literal, ? or this word
abbrev pub value_or : Bytes → Bytes → Option ℤ
value_or special text =
    if bytes_eq text special then Some any_word else option_map word_of (value_in text)

-- what a state holds: a time, the value that it then gives, and the state that follows
pub record HoldWords : Type 0 where
  pub state : ℕ
  pub words : List ℤ

-- a hold, where the state and its numbers are there
abbrev pub hold_words_of : Option ℕ → Option (List ℤ) → Option HoldWords
hold_words_of (Some state) (Some words) = Some (record { state = state; words = words })
hold_words_of state words = None

-- the words STATE TIME VALUE NEXT as a hold
abbrev pub hold_of_words : List Bytes → List Bytes → Option HoldWords
hold_of_words names (state ∷ time ∷ value ∷ next ∷ []) =
    hold_words_of (number_of_name names state)
    (all_there (option_map (λ n. pos n) (time_in time) ∷ value_or (codes "last") value
    ∷ word_in names next ∷ []))
hold_of_words names texts = None

-- the hold that a parameter names
abbrev pub hold_in : List Bytes → Param → Option HoldWords
hold_in names e = hold_of_words names (words e.value)

-- a state, a port, the value that is taken there, and the state that follows
abbrev pub take_of_words : List Bytes → List Bytes → Option (List ℤ)
take_of_words names (state ∷ port ∷ value ∷ next ∷ []) =
    all_there (word_in names state ∷ word_in table_ports port ∷ value_or (codes "any") value
    ∷ word_in names next ∷ [])
take_of_words names texts = None

-- the take that a parameter names
abbrev pub take_in : List Bytes → Param → Option (List ℤ)
take_in names e = take_of_words names (words e.value)

-- ---- settings

-- all holds that have their form
abbrev pub holds_of : List Bytes → List Param → List HoldWords
holds_of names es = filter_map (hold_in names) (with_key (codes "hold") es)

-- the numbers of the hold of a state, or of none
abbrev pub hold_words : List HoldWords → ℕ → List ℤ
hold_words hs state =
    unwrap_or
    (option_map (λ (h : HoldWords). h.words) (find (λ (h : HoldWords). h.state == state) hs))
    (negsuc 0 ∷ pos 0 ∷ pos 0 ∷ [])

-- the number of the first state: the one that is named, or 0
abbrev pub initial_word : List Bytes → List Param → ℤ
initial_word names es =
    unwrap_or (option_and_then (word_in names) (value_with (codes "initial") es)) (pos 0)

-- the settings of a table with these states
abbrev pub settings_with : List Bytes → List Param → List ℤ
settings_with names es =
    pos (length names) ∷ initial_word names es
    ∷ (flat_map (hold_words (holds_of names es)) (range_with_len 0 (length names))
    ++ flat_map (λ ws. ws) (filter_map (take_in names) (with_key (codes "take") es)))

-- the settings that parameters give a table
abbrev pub table_settings_of : List Param → List ℤ
table_settings_of es = settings_with (unwrap_or (states_of es) []) es

-- ---- lines that are off their form

-- the line of a parameter that is not right
abbrev pub line_unless : Bool → Param → List ℕ
line_unless is_right e = if is_right then [] else e.line ∷ []

-- a hold of a state that none of those before has
abbrev pub is_new_hold : List HoldWords → Option HoldWords → Bool
is_new_hold before None = false
is_new_hold before (Some h) = not (list_any (λ (k : HoldWords). k.state == h.state) before)

-- the lines of holds that are off their form, or of a state that one before them has
abbrev pub holds_off : List Bytes → List HoldWords → List Param → List ℕ
holds_off names before [] = []
holds_off names before (e ∷ es) =
    line_unless (is_new_hold before (hold_in names e)) e
    ++ holds_off names (before ++ filter_map (hold_in names) (e ∷ [])) es

-- the 1025th of all holds and takes
abbrev pub one_too_many : List Param → List ℕ
one_too_many es =
    map (λ (e : Param). e.line)
    (take 1 (drop 1024
    (filter (λ (e : Param). is_among (codes "hold" ∷ codes "take" ∷ []) e.key) es)))

-- where the states are off their form, theirs is the only line
abbrev pub lines_off_with : Option (List Bytes) → List Param → List ℕ
lines_off_with None es = map (λ (e : Param). e.line) (take 1 (with_key (codes "states") es))
lines_off_with (Some names) es =
    flat_map (λ (e : Param). line_unless (is_some (number_of_name names e.value)) e)
    (with_key (codes "initial") es)
    ++ holds_off names [] (with_key (codes "hold") es)
    ++ flat_map (λ (e : Param). line_unless (is_some (take_in names e)) e)
    (with_key (codes "take") es) ++ one_too_many es

-- the lines on which a parameter of a table is off its form
abbrev pub table_lines_off : List Param → List ℕ
table_lines_off es = lines_off_with (states_of es) es
