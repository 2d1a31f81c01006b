-- Private: the tuples of a group, and those of a link, part by part.
use Rattle.std.specs.Prelude.{Bool, ◌&&◌, Option, [], ◌∷◌, ◌++◌}
use Rattle.std.specs.List.{before_first, list_any}
use Rattle.std.specs.Option.{is_some, option_and_then}
use Rattle.std.specs.Bool.{then_some}
use Rattle.quantity.specs.ByteNames.{closing_parenthesis, opening_parenthesis}
use Rattle.quantity.specs.Bytes.{Bytes, is_byte, without_outer_blanks}
use Rattle.source_text.specs.Tuples.{NamedTuple, named_tuple, tuple}
use Rattle.model_text.specs.Forms.{is_of_group}

-- the tuple in a part that lacks its closing parenthesis, where no other name stands before it
abbrev pub tuple_in : Bytes → Bytes → Option NamedTuple
tuple_in group part =
    option_and_then (λ t. then_some (is_of_group group t) t)
    (named_tuple (without_outer_blanks part))

-- what stands behind an opening parenthesis, up to the first closing one, is a tuple
abbrev pub is_tuple : Bytes → Bool
is_tuple part =
    list_any (is_byte closing_parenthesis) part
    && is_some (tuple (opening_parenthesis ∷ before_first (is_byte closing_parenthesis) part
    ++ closing_parenthesis ∷ []))
