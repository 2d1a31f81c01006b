-- Zones: the parts of their texts, and the ranges that these give.
use Rattle.std.proofs.Common.{◌≡◌, ℕ, ◌+◌, ◌-◌, ◌<◌, ◌≤◌, Bool, true, false, cond, not, ◌&&◌, nat_eq, nat_le, nat_lt, Option, Some, None, List, [], ◌∷◌, ◌++◌, length, map, take, drop, reverse, codes, refl, ap, sym, ◌∙◌, arith, inl, inr, MatchOption}
use denote.Ref.{Bor}
use Rattle.std.proofs.lemmas.Bool.{cases_eq, cases_lt, eq-eqb, eqb-true, false≢true, le-leb}
use Rattle.std.proofs.lemmas.List.{append-nil, append_assoc, drop_all, drop_more, length-map, length-take-le, length_push, reverse-append, take_at}
use Rattle.std.proofs.lemmas.List.Sums.{passes_at_first, prefix_len-le-length}
use Rattle.std.proofs.lemmas.Slice.Eq.{bytes_eq-Decides}
use Rattle.std.proofs.lemmas.List.Splits.{length-slice_split}
use Rattle.std.specs.Bool.{then_some}
use Rattle.std.specs.List.{slice_split, position, position_or_len, prefix_len, starts_with, before_first, after_first, before_last}
use Rattle.std.specs.Str.{bytes_eq}
use Rattle.std.specs.Option.{option_map, option_and_then}
use Rattle.quantity.specs.declared.place.Place.{Place}
use Rattle.quantity.specs.Bytes.{Bytes, is_byte, is_empty, inside, without_outer_blanks, all_there, in_front}
use Rattle.quantity.specs.Names.{is_name}
use Rattle.source_text.specs.Tuples.{closed_parts, parts_of}
use Rattle.cell_grid.specs.Space.{Space}
use Rattle.cell_grid.specs.ZoneTexts.{Corner, start, up_to, bare_place, corner_in, is_ordered, range, ranges_of, ranges_in, some_ranges, zone_items, zone_name, zone_in}
use Rattle.cell_grid.specs.Region.{Region}
use Rattle.cell_grid.specs.Reading.{ranges_of_parts}
use Rattle.cell_grid.proofs.Gathered.{behind}

-- ---- the first that passes

position_or_len-map : {A B : Type 0} (p : B → Bool) (f : A → B) (xs : List A) → position_or_len p (map f xs) ≡ position_or_len (λ x. p (f x)) xs
position_or_len-map p f [] = refl
position_or_len-map p f (x ∷ xs) = ap (λ n. cond (not (p (f x))) (1 + n) 0) (position_or_len-map p f xs)

pub position-map : {A B : Type 0} (p : B → Bool) (f : A → B) (xs : List A) → position (λ x. p (f x)) xs ≡ position p (map f xs)
position-map p f xs =
    ap (λ n. cond (nat_lt n (length xs)) (Some n) None) (sym (position_or_len-map p f xs))
    ∙ ap (λ n. cond (nat_lt (position_or_len p (map f xs)) n) (Some (position_or_len p (map f xs))) None) (sym (length-map xs f))

-- ---- parts

closed_more : (part : Bytes) (parts : List Bytes) → 0 < length parts → closed_parts (part ∷ parts) ≡ option_map (λ rest. part ∷ rest) (closed_parts parts)
closed_more part [] h = absurd (omega arith)
closed_more part (q ∷ qs) h = refl

pub parts_cases : (text : Bytes) (r : Option (Bor Bytes × Bor Bytes))
    → MatchOption r (slice_split (is_byte 41) text ≡ text ∷ []) (λ cut. slice_split (is_byte 41) text ≡ cut.0.now ∷ slice_split (is_byte 41) cut.1.now)
    → MatchOption r (parts_of text ≡ then_some (is_empty (without_outer_blanks text)) []) (λ cut. parts_of text ≡ option_map (λ parts. cut.0.now ∷ parts) (parts_of cut.1.now))
parts_cases text None e = ap closed_parts e
parts_cases text (Some cut) e =
    ap closed_parts e ∙ closed_more cut.0.now (slice_split (is_byte 41) cut.1.now) (omega (arith, length-slice_split (is_byte 41) cut.1.now))

-- ---- ranges

itself : (p : Place) → is_ordered p p ≡ true
itself p =
    ap (λ b. b && nat_le p.column p.column && nat_le p.plane p.plane) (le-leb p.row p.row (omega arith))
    ∙ ap (λ b. b && nat_le p.plane p.plane) (le-leb p.column p.column (omega arith)) ∙ le-leb p.plane p.plane (omega arith)

range_alone : (p : Place) (o : Option (List (Place × Place))) → range p p o ≡ option_map (λ ranges. (p, p) ∷ ranges) o
range_alone p None = refl
range_alone p (Some ranges) = ap (λ b. then_some b ((p, p) ∷ ranges)) (itself p)

start_corner : (space : Space) (part : Bytes) (o : Option Place) → starts_with nat_eq part (codes "..") ≡ false → bare_place space (without_outer_blanks part) ≡ o → corner_in space part ≡ option_map start o
start_corner space part o s e = ap (λ b. cond b (option_map up_to (bare_place space (drop 2 part))) (option_map start (bare_place space (without_outer_blanks part)))) s ∙ ap (option_map start) e

-- a part that begins a range which the next part doesn't end
pub one_place : (space : Space) (part : Bytes) (parts : Option (List Bytes)) (p : Place) → starts_with nat_eq part (codes "..") ≡ false → bare_place space (without_outer_blanks part) ≡ Some p
    → ((next : Bytes) (rest : List Bytes) → parts ≡ Some (next ∷ rest) → starts_with nat_eq next (codes "..") ≡ false)
    → ranges_of_parts space (option_map (λ rest. part ∷ rest) parts) ≡ option_map (λ ranges. (p, p) ∷ ranges) (ranges_of_parts space parts)
one_place space part None p s e h = refl
one_place space part (Some []) p s e h = ap (λ o. option_and_then ranges_of (in_front o (Some []))) (start_corner space part (Some p) s e) ∙ range_alone p (Some [])
one_place space part (Some (next ∷ rest)) p s e h =
    ap (λ o. option_and_then ranges_of (in_front o (in_front (corner_in space next) (all_there (map (corner_in space) rest))))) (start_corner space part (Some p) s e)
    ∙ ap (λ o. option_and_then ranges_of (in_front (Some (start p)) (in_front o (all_there (map (corner_in space) rest))))) (start_corner space next (bare_place space (without_outer_blanks next)) (h next rest refl) refl)
    ∙ before_start (bare_place space (without_outer_blanks next)) (all_there (map (corner_in space) rest))
    ∙ ap (λ o. option_map (λ ranges. (p, p) ∷ ranges) (option_and_then ranges_of (in_front o (all_there (map (corner_in space) rest))))) (sym (start_corner space next (bare_place space (without_outer_blanks next)) (h next rest refl) refl))
  where
    before_start : (o : Option Place) (cs : Option (List Corner)) → option_and_then ranges_of (in_front (Some (start p)) (in_front (option_map start o) cs)) ≡ option_map (λ ranges. (p, p) ∷ ranges) (option_and_then ranges_of (in_front (option_map start o) cs))
    before_start None cs = refl
    before_start (Some q) None = refl
    before_start (Some q) (Some cs) = range_alone p (ranges_of (start q ∷ cs))

-- ---- a zone's ranges, one after another

module _ (ranges : List (Place × Place)) (whole left : Option (List (Place × Place))) (e : whole ≡ behind ranges left) where
  pub range_more : (b : Place × Place) (rest : Option (List (Place × Place))) → left ≡ option_map (λ bs. b ∷ bs) rest → whole ≡ behind (ranges ++ b ∷ []) rest
  range_more b rest is = e ∙ ap (behind ranges) is ∙ at rest
    where
      at : (o : Option (List (Place × Place))) → behind ranges (option_map (λ bs. b ∷ bs) o) ≡ behind (ranges ++ b ∷ []) o
      at None = refl
      at (Some bs) = ap Some (sym (append_assoc ranges (b ∷ []) bs))

  pub no_more : left ≡ None → option_and_then some_ranges whole ≡ None
  no_more is = ap (option_and_then some_ranges) (e ∙ ap (behind ranges) is)

  pub no_range : (b : Bool) → left ≡ then_some b [] → ranges ≡ [] → option_and_then some_ranges whole ≡ None
  no_range b is none = ap (option_and_then some_ranges) (e ∙ ap (λ bs. behind bs left) none ∙ ap (behind []) is) ∙ at b
    where
      at : (b : Bool) → option_and_then some_ranges (behind [] (then_some b [])) ≡ None
      at true = refl
      at false = refl

  pub all_ranges : left ≡ Some [] → 0 < length ranges → option_and_then some_ranges whole ≡ Some ranges
  all_ranges is some = ap (option_and_then some_ranges) (e ∙ ap (behind ranges) is ∙ ap Some (append-nil ranges)) ∙ at ranges some
    where
      at : (bs : List (Place × Place)) → 0 < length bs → some_ranges bs ≡ Some bs
      at [] h = absurd (omega arith)
      at (b ∷ bs) h = refl

-- ---- braces

abbrev region : Bytes → List (Place × Place) → Region
region name ranges = record { name = name; ranges = ranges }

abbrev named : Bytes → List (Place × Place) → Option Region
named text ranges = then_some (is_name (zone_name text)) (region (zone_name text) ranges)

before_last_byte : (c : ℕ) (xs : Bytes) → before_last (is_byte c) (xs ++ c ∷ []) ≡ xs
before_last_byte c xs =
    ap (λ ys. take (length (xs ++ c ∷ []) - prefix_len (λ x. not (is_byte c x)) ys - 1) (xs ++ c ∷ [])) (reverse-append xs (c ∷ []))
    ∙ ap (λ b. take (length (xs ++ c ∷ []) - cond (not b) (1 + prefix_len (λ x. not (is_byte c x)) (reverse xs)) 0 - 1) (xs ++ c ∷ [])) (eq-eqb c c refl)
    ∙ take_at xs (c ∷ []) (length (xs ++ c ∷ []) - 0 - 1) (omega (arith, length_push xs c))

same_bytes : (xs ys : Bytes) → xs ≡ ys → bytes_eq xs ys ≡ true
same_bytes xs ys e = (bytes_eq-Decides xs ys).1 e

before_brace : (text : Bytes) → length (before_first (is_byte 123) text) ≡ position_or_len (is_byte 123) text
before_brace text = length-take-le (position_or_len (is_byte 123) text) text (prefix_len-le-length (λ x. not (is_byte 123 x)) text)

from_brace : (text : Bytes) → position_or_len (is_byte 123) text < length text → drop (length (before_first (is_byte 123) text)) text ≡ 123 ∷ after_first (is_byte 123) text
from_brace text lt =
    ap (λ n. drop n text) (before_brace text) ∙ drop_more text (position_or_len (is_byte 123) text) 0 lt
    ∙ ap (λ c. c ∷ after_first (is_byte 123) text) (sym (eqb-true 123 _ (passes_at_first (is_byte 123) text 0 lt)))

no_brace : (text : Bytes) → length text ≤ position_or_len (is_byte 123) text → drop (length (before_first (is_byte 123) text)) text ≡ []
no_brace text h = ap (λ n. drop n text) (before_brace text) ∙ drop_all _ text h

pub open_braces : (text : Bytes) → ((front : Bytes) → after_first (is_byte 123) text ≡ front ++ 125 ∷ [] → ⊥) → zone_items text ≡ None
open_braces text h =
    elim (cases_lt (position_or_len (is_byte 123) text) (length text)) [
      | inl lt ↦ ap (inside 123 125) (from_brace text lt) ∙ at (bytes_eq (after_first (is_byte 123) text) (front ++ 125 ∷ [])) (λ e. h front ((bytes_eq-Decides (after_first (is_byte 123) text) (front ++ 125 ∷ [])).0 e))
      | inr ge ↦ ap (inside 123 125) (no_brace text ge)
    ]
  where
    front : Bytes
    front = before_last (is_byte 125) (after_first (is_byte 123) text)

    at : (b : Bool) → (b ≡ true → ⊥) → cond b (Some (before_last (is_byte 125) (after_first (is_byte 123) text))) None ≡ None
    at true k = absurd (k refl)
    at false k = refl

pub closed_braces : (text items : Bytes) → after_first (is_byte 123) text ≡ items ++ 125 ∷ [] → zone_items text ≡ Some items
closed_braces text items e =
    elim (cases_lt (position_or_len (is_byte 123) text) (length text)) [
      | inl lt ↦ ap (inside 123 125) (from_brace text lt ∙ ap (λ cs. 123 ∷ cs) e)
          ∙ ap (λ xs. cond (bytes_eq (items ++ 125 ∷ []) (xs ++ 125 ∷ [])) (Some xs) None) (before_last_byte 125 items)
          ∙ ap (λ b. cond b (Some items) None) (same_bytes (items ++ 125 ∷ []) (items ++ 125 ∷ []) refl)
      | inr ge ↦ let nil : after_first (is_byte 123) text ≡ [] = drop_all _ text (omega arith) in
          absurd (omega (arith, length_push items 125, ap length (sym nil ∙ e)))
    ]

module _ (space : Space) (text items : Bytes) (braced : after_first (is_byte 123) text ≡ items ++ 125 ∷ []) where
  pub no_ranges_no_zone : ranges_in space items ≡ None → zone_in space text ≡ None
  no_ranges_no_zone none = ap (λ o. option_and_then (named text) (option_and_then (ranges_in space) o)) (closed_braces text items braced) ∙ ap (option_and_then (named text)) none

  pub zone_with_ranges : (name : Bytes) (ranges : List (Place × Place)) → ranges_in space items ≡ Some ranges → name ≡ zone_name text → is_name (zone_name text) ≡ true → zone_in space text ≡ Some (record { name = name; ranges = ranges })
  zone_with_ranges name ranges some e is =
      ap (λ o. option_and_then (named text) (option_and_then (ranges_in space) o)) (closed_braces text items braced) ∙ ap (option_and_then (named text)) some
      ∙ ap (λ b. then_some b (region (zone_name text) ranges)) is ∙ ap (λ n. Some (region n ranges)) (sym e)

pub no_items_no_zone : (space : Space) (text : Bytes) → zone_items text ≡ None → zone_in space text ≡ None
no_items_no_zone space text none = ap (λ o. option_and_then (named text) (option_and_then (ranges_in space) o)) none

pub some_there : {r : Bool} (n : ℕ) → r ≡ nat_eq n 0 → r ≡ false → 0 < n
some_there n e f = elim (cases_eq n 0) [ inl z ↦ absurd (false≢true (sym f ∙ e ∙ eq-eqb n 0 z)) | inr z ↦ omega arith ]

pub not_bad : (b : Bool) → (not b ≡ true → ⊥) → b ≡ true
not_bad true h = refl
not_bad false h = absurd (h refl)
