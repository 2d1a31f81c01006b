-- A cell read piece by piece, from left to right.
use Rattle.std.specs.Prelude.{Option, Some, None, List, ◌∷◌, ℤ, pos, if◌then◌else◌, codes}
use Rattle.std.specs.Option.{option_map, option_or}
use Rattle.quantity.specs.Digits.{whole_number, with_sign_of}
use Rattle.quantity.specs.Written.{for_some}
use Rattle.rule_words.specs.Tokens.{Token, number, mark}
use Rattle.rule_tree.specs.Phrases.{Cell}
use Rattle.rule_words.specs.Reading.{Prefix, is_sign, port_in}
use Rattle.rule_words.specs.Shown.{plane_of}
use Rattle.rule_words.specs.AtomParts.{after_mark}

-- a whole number without a sign
abbrev pub digits_before : List Token → Prefix ℤ
digits_before (number text ∷ ts) = option_map (λ n. (pos n, ts)) (whole_number 10 text)
digits_before ts = None

-- a whole number, with a sign or without
abbrev pub int_before : List Token → Prefix ℤ
int_before (number text ∷ ts) = option_map (λ n. (pos n, ts)) (whole_number 10 text)
int_before (mark m ∷ number text ∷ ts) =
    if is_sign m then option_map (λ n. (with_sign_of m (pos n), ts)) (whole_number 10 text)
    else None
int_before ts = None

-- a number behind a comma
abbrev pub next_int : List Token → Prefix ℤ
next_int ts = for_some (after_mark (codes ",") ts) int_before

-- the third coordinate, where there is one, and the parenthesis that closes
abbrev pub plane_before : List Token → Prefix (Option ℤ)
plane_before ts =
    option_or (option_map (λ rest. (None, rest)) (after_mark (codes ")") ts))
    (for_some (next_int ts) (λ k. option_map (λ rest. (Some k.0, rest)) (after_mark (codes ")") k.1)))

-- two or three whole numbers in parentheses
abbrev pub place_before : List Token → Prefix (List ℤ)
place_before ts =
    for_some (after_mark (codes "(") ts) (λ inner.
    for_some (int_before inner) (λ i.
    for_some (next_int i.1) (λ j.
    option_map (λ k. (i.0 ∷ j.0 ∷ plane_of k.0, k.1)) (plane_before j.1))))

-- a neighbour with its port
abbrev pub cell_in_pieces : List Token → Prefix Cell
cell_in_pieces ts =
    for_some (place_before ts) (λ p. option_map (λ q. (record { place = p.0; port = q.0 }, q.1))
    (port_in p.1))
