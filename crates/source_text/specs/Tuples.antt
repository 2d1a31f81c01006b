-- Tuples of whole numbers in texts, alone and behind names.
use Rattle.std.specs.Prelude.{Option, None, List, [], ◌∷◌, ◌++◌, map, ℤ}
use Rattle.std.specs.List.{slice_split, before_first, after_first}
use Rattle.std.specs.Bool.{then_some}
use Rattle.std.specs.Option.{option_map, option_and_then}
use Rattle.quantity.specs.ByteNames.{closing_parenthesis, comma, opening_parenthesis}
use Rattle.quantity.specs.Bytes.{Bytes, is_byte, is_empty, without_outer_blanks, inside, all_there}
use Rattle.quantity.specs.Digits.{has_length, signed_number}

-- two or three whole numbers of at most 7 digits
abbrev pub tuple : Bytes → Option (List ℤ)
tuple text =
    option_and_then (λ inner.
    option_and_then (λ numbers. then_some (has_length 2 3 numbers) numbers)
    (all_there
    (map (λ part. signed_number 7 (without_outer_blanks part))
    (slice_split (is_byte comma) inner))))
    (inside opening_parenthesis closing_parenthesis text)

-- a name and the numbers of the tuple behind it
pub record NamedTuple : Type 0 where
  pub name : Bytes
  pub place : List ℤ

-- a name, which may be empty, and behind it a tuple without its closing parenthesis
abbrev pub named_tuple : Bytes → Option NamedTuple
named_tuple text =
    option_map (λ is. record { name = before_first (is_byte opening_parenthesis) text; place = is })
    (tuple (opening_parenthesis ∷ after_first (is_byte opening_parenthesis) text
    ++ closing_parenthesis ∷ []))

-- all parts but the last, where that is blank
abbrev pub closed_parts : List Bytes → Option (List Bytes)
closed_parts [] = None
closed_parts (p ∷ []) = then_some (is_empty (without_outer_blanks p)) []
closed_parts (p ∷ q ∷ ps) = option_map (λ rest. p ∷ rest) (closed_parts (q ∷ ps))

-- the parts that each end with a closing parenthesis, where nothing but blanks follows the last
abbrev pub parts_of : Bytes → Option (List Bytes)
parts_of text = closed_parts (slice_split (is_byte closing_parenthesis) text)
