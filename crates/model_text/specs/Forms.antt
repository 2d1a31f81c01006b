-- The forms of the values of keys.
use Rattle.std.specs.Prelude.{ℕ, ◌==◌, Bool, false, not, ◌&&◌, ◌||◌, nat_le, Option, Some, None, List, [], ◌∷◌, ◌++◌, map, length, ℤ, pos, if◌then◌else◌, codes}
use Rattle.std.specs.List.{filter, flat_map, list_all, list_any, slice_split, before_first, after_first}
use Rattle.std.specs.Option.{option_and_then, is_some}
use Rattle.std.specs.Bool.{then_some}
use Rattle.std.specs.Prelude.{int_le}
use Rattle.std.specs.Str.{bytes_eq}
use Rattle.quantity.specs.declared.bounds.TheConstants.{MAX_DELAY}
use Rattle.quantity.specs.Bytes.{Bytes, is_byte, is_blank, is_empty, is_among, has_repeat, words, without_outer_blanks, all_there}
use Rattle.quantity.specs.Names.{is_name}
use Rattle.quantity.specs.Digits.{has_length, whole_number}
use Rattle.quantity.specs.Literals.{value_in}
use Rattle.source_text.specs.Tuples.{tuple, NamedTuple, named_tuple, parts_of}
use Rattle.rule_syntax.specs.Tokens.{is_of_word}
use Rattle.std.specs.Char.{is_ascii_alphabetic}

-- ---- sizes and words

-- a number that is there and is not 0
abbrev pub is_positive : Option ℕ → Bool
is_positive None = false
is_positive (Some n) = nat_le 1 n

-- at most 7 digits, and not 0
abbrev pub is_size : Bytes → Bool
is_size text = is_positive (whole_number 7 text)

-- numbers that are there, none of them below 1
abbrev pub are_sizes : Option (List ℤ) → Bool
are_sizes None = false
are_sizes (Some ns) = list_all (λ n. int_le (pos 1) n) ns

-- a tuple of sizes
abbrev pub is_dim : Bytes → Bool
is_dim text = are_sizes (tuple text)

-- a number that is there and is at most this
abbrev pub is_at_most : ℕ → Option ℕ → Bool
is_at_most most None = false
is_at_most most (Some n) = nat_le n most

-- whole milliseconds, at most 99:59:59:999
abbrev pub is_delay_time : Bytes → Bool
is_delay_time text = is_at_most MAX_DELAY (whole_number 9 text)

-- one of these texts
abbrev pub is_one_of : List Bytes → Bytes → Bool
is_one_of texts text = is_among texts text

-- a value or `?`
abbrev pub is_value_text : Bytes → Bool
is_value_text text = is_some (value_in text)

-- any text but none
abbrev pub is_file_name : Bytes → Bool
is_file_name text = not (is_empty text)

-- names between blanks
abbrev pub are_names : Bytes → Bool
are_names text = list_all is_name (words text)

-- a word of the rule language
abbrev pub is_rule_word : Bytes → Bool
is_rule_word [] = false
is_rule_word (c ∷ cs) = is_ascii_alphabetic c && list_all is_of_word cs && has_length 1 64 (c ∷ cs)

-- so many different words
abbrev pub are_words : ℕ → Bytes → Bool
are_words most text =
    has_length 1 most (words text) && list_all is_rule_word (words text)
    && not (has_repeat (words text))

-- at most 3 different words, none of them out
abbrev pub are_ports : Bytes → Bool
are_ports text = are_words 3 text && not (is_among (words text) (codes "out"))

-- ---- tuples behind names

-- tuples, each behind the group's name or behind nothing
abbrev pub is_of_group : Bytes → NamedTuple → Bool
is_of_group group t = is_empty t.name || bytes_eq t.name group

-- all tuples of a text, none of them behind another name
abbrev pub tuples_of : Bytes → Bytes → Option (List NamedTuple)
tuples_of group text =
    option_and_then (λ ts. then_some (list_all (is_of_group group) ts) ts)
    (option_and_then
    (λ parts. all_there (map (λ part. named_tuple (without_outer_blanks part)) parts))
    (parts_of text))

-- ---- port@group(tuple) rules

-- a port, the place of a cell and the name of its rules
pub record PortRuleText : Type 0 where
  pub port : Bytes
  pub place : List ℤ
  pub rules : Bytes

-- port@group( and the numbers of a tuple
abbrev pub port_and_place : Bytes → Bytes → Option (Bytes × List ℤ)
port_and_place group text =
    option_and_then
    (λ t. then_some (is_name (before_first (is_byte 64) text) && bytes_eq t.name group)
    (before_first (is_byte 64) text, t.place))
    (named_tuple (after_first (is_byte 64) text))

-- a blank is the first byte
abbrev pub begins_with_blank : Bytes → Bool
begins_with_blank [] = false
begins_with_blank (c ∷ cs) = is_blank c

-- port@group(tuple), a blank and the name of rules
abbrev pub port_rule_text : Bytes → Bytes → Option PortRuleText
port_rule_text group text =
    let rules = after_first (is_byte 41) text in
    option_and_then
    (λ p. then_some (begins_with_blank rules && is_name (without_outer_blanks rules))
    (record { port = p.0; place = p.1; rules = without_outer_blanks rules }))
    (port_and_place group (before_first (is_byte 41) text))

-- ---- the ends of a link

-- without any blank
abbrev pub without_blanks : Bytes → Bytes
without_blanks text = filter (λ c. not (is_blank c)) text

-- what stands behind an opening parenthesis: where a tuple ends at its first closing one, without
-- the tuple's blanks
abbrev pub with_whole_tuple : Bytes → Bytes
with_whole_tuple text =
    let inner = before_first (is_byte 41) text in
    if list_any (is_byte 41) text && is_some (tuple (40 ∷ inner ++ 41 ∷ []))
    then without_blanks inner ++ 41 ∷ after_first (is_byte 41) text else text

-- the text of these parts, which are parted by opening parentheses
abbrev pub with_whole_tuples : List Bytes → Bytes
with_whole_tuples [] = []
with_whole_tuples (p ∷ ps) = p ++ flat_map (λ q. 40 ∷ with_whole_tuple q) ps

-- the words, where a tuple is one piece with the text beside it: its own blanks part nothing
abbrev pub ends_of : Bytes → List Bytes
ends_of text = words (with_whole_tuples (slice_split (is_byte 40) text))

-- two ends, or nothing at all
abbrev pub has_two_ends : Bytes → Bool
has_two_ends text = is_empty text || (length (ends_of text) == 2)
