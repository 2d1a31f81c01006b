-- Zones as texts: a name, and between braces the places and ranges of places that it holds.
use Rattle.std.specs.Prelude.{Bool, ◌&&◌, nat_eq, nat_le, Option, Some, None, List, [], ◌∷◌, map, length, drop, if◌then◌else◌, codes}
use Rattle.std.specs.List.{before_first, starts_with}
use Rattle.std.specs.Option.{option_map, option_and_then}
use Rattle.std.specs.Bool.{then_some}
use Rattle.quantity.specs.declared.place.Place.{Place}
use Rattle.quantity.specs.ByteNames.{closing_brace, opening_brace}
use Rattle.quantity.specs.Bytes.{Bytes, is_byte, is_empty, inside, without_outer_blanks, all_there}
use Rattle.quantity.specs.Names.{is_name}
use Rattle.source_text.specs.Tuples.{named_tuple, parts_of}
use Rattle.cell_grid.specs.Space.{Space}
use Rattle.cell_grid.specs.Region.{Region}
use Rattle.cell_grid.specs.Places.{place_in}

-- ---- items: a tuple, or two with .. between them

-- a tuple that begins an item, or one behind .. that ends it
pub data Corner : Type 0 where
  start : Place → Corner
  up_to : Place → Corner

-- a place without a name before it
abbrev pub bare_place : Space → Bytes → Option Place
bare_place space part =
    option_and_then (λ t. option_and_then (place_in space) (then_some (is_empty t.name) t.place))
    (named_tuple part)

-- a corner of a range, the second one behind two dots
abbrev pub corner_in : Space → Bytes → Option Corner
corner_in space part =
    if starts_with nat_eq part (codes "..") then option_map up_to (bare_place space (drop 2 part))
    else option_map start (bare_place space (without_outer_blanks part))

-- no coordinate of the first passes that of the second
abbrev pub is_ordered : Place → Place → Bool
is_ordered p q = nat_le p.row q.row && nat_le p.column q.column && nat_le p.plane q.plane

-- a range before others, where its corners are in order
abbrev pub range : Place → Place → Option (List (Place × Place)) → Option (List (Place × Place))
range p q rest = option_and_then (λ ranges. then_some (is_ordered p q) ((p, q) ∷ ranges)) rest

-- the ranges of some corners
abbrev pub ranges_of : List Corner → Option (List (Place × Place))
ranges_of [] = Some []
ranges_of (up_to q ∷ cs) = None
ranges_of (start p ∷ []) = range p p (Some [])
ranges_of (start p ∷ up_to q ∷ cs) = range p q (ranges_of cs)
ranges_of (start p ∷ start q ∷ cs) = range p p (ranges_of (start q ∷ cs))

-- at least one range
abbrev pub some_ranges : List (Place × Place) → Option (List (Place × Place))
some_ranges [] = None
some_ranges (b ∷ bs) = Some (b ∷ bs)

-- the ranges that a text gives
abbrev pub ranges_in : Space → Bytes → Option (List (Place × Place))
ranges_in space text =
    option_and_then some_ranges
    (option_and_then ranges_of
    (option_and_then (λ parts. all_there (map (corner_in space) parts)) (parts_of text)))

-- ---- name { items }

-- the name before the braces
abbrev pub zone_name : Bytes → Bytes
zone_name text = without_outer_blanks (before_first (is_byte opening_brace) text)

-- what stands between the braces
abbrev pub zone_items : Bytes → Option Bytes
zone_items text =
    inside opening_brace closing_brace
    (drop (length (before_first (is_byte opening_brace) text)) text)

-- the zone that a text gives
abbrev pub zone_in : Space → Bytes → Option Region
zone_in space text =
    option_and_then
    (λ ranges.
    then_some (is_name (zone_name text)) (record { name = zone_name text; ranges = ranges }))
    (option_and_then (ranges_in space) (zone_items text))
