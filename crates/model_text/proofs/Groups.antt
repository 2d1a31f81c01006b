-- The offsets, sizes and names of the groups of an accepted model.
use Rattle.std.proofs.Common.{◌≡◌, ℕ, ◌+◌, ◌≤◌, Bool, true, false, Option, Some, None, List, [], ◌∷◌, map, length, refl, arith}
use Rattle.std.specs.Prelude.{not, int_le, ℤ, pos, unsigned_abs, codes}
use Rattle.std.proofs.Math.Nat.{one-le-mul}
use Rattle.std.proofs.lemmas.Bool.Decides.{nat_tests}
use Rattle.std.proofs.lemmas.List.{length-replicate}
use Rattle.std.specs.List.{filter, flat_map, list_all, list_any, AllByRecursion}
use Rattle.quantity.specs.declared.place.Offset.{Offset}
use Rattle.quantity.specs.declared.value.Value.TheVariants.{Undefined}
use Rattle.quantity.specs.Bytes.{Bytes, words, has_repeat}
use Rattle.quantity.specs.Digits.{has_length}
use Rattle.quantity.specs.Literals.{value_in}
use Rattle.rule_tree.specs.Phrases.{out, looked_up}
use Rattle.rule_tree.specs.Scope.{offset_of, same_offset}
use Rattle.cell_grid.specs.declared.grid.Border.{Border}
use Rattle.cell_grid.specs.Space.{Space, cell_count, plane_count}
use Rattle.cell_grid.specs.Places.{is_near, is_offset}
use Rattle.source_text.specs.Tuples.{tuple}
use Rattle.ma_lines.specs.Sections.{Section}
use Rattle.model_tree.specs.Sound.{is_near_offset, offsets_differ}
use Rattle.model_text.specs.Keyed.{entries_of, value_of}
use Rattle.model_text.specs.Walk.{groups}
use Rattle.model_text.specs.Forms.{is_size, is_dim, is_delay_time, are_words, are_ports}
use Rattle.model_text.specs.Keys.{has_key, group_keys, group_forms, values_fit}
use Rattle.model_text.specs.Spaces.{border_of, space_of_sizes, size_of, sizes_of, space_of, first_large, places_of, distinct_offsets, ports_refused, too_many_offsets, of_space}
use Rattle.model_text.specs.Trees.{default_delay_of, values_of_key, variables_of, ports_of}
use Rattle.model_text.specs.GroupLaws.{RightOffsets, OffsetsAreRight, RightSizes, SizesAreRight, RightNames, NamesAreRight}
use Rattle.model_text.specs.BuildLaws.{SpacesCanBeHeld}
use Rattle.model_text.proofs.Basics.{both_empty, each_of_phase, all_imply, both_of_all, all_kept, all_there_long}
use Rattle.model_text.proofs.Keys.{has_form, words_of, texts_once}
use Rattle.model_text.proofs.GroupKeys.{KeyedGroup, groups_keyed}

-- ---- the offsets differ

none_kept : {X : Type 0} (test p : X → Bool) (xs : List X) → list_any test xs ≡ false → list_any test (filter p xs) ≡ false
none_kept test p [] h = refl
none_kept test p (x ∷ xs) h = grind (arith, none_kept test p xs)

none_left : {X : Type 0} (test : X → Bool) (xs : List X) → list_any test (filter (λ x. not (test x)) xs) ≡ false
none_left test [] = refl
none_left test (x ∷ xs) = grind (arith, none_left test xs)

differ_kept : (p : Offset → Bool) (os : List Offset) → offsets_differ os ≡ true → offsets_differ (filter p os) ≡ true
differ_kept p [] h = refl
differ_kept p (o ∷ os) h = grind (arith, none_kept (same_offset o) p os, differ_kept p os)

distinct_differ : (os : List Offset) → offsets_differ (distinct_offsets os) ≡ true
distinct_differ [] = refl
distinct_differ (o ∷ os) = grind (arith, none_left (same_offset o) (distinct_offsets os), differ_kept (λ p. not (same_offset o p)) (distinct_offsets os), distinct_differ os)

-- ---- they are near

near_tuple : (is : List ℤ) → list_all is_near is ≡ true → is_near_offset (offset_of is) ≡ true
near_tuple is h = grind arith

near_tuples : (space : Space) (ts : List (List ℤ)) → list_all is_near_offset (map offset_of (filter (is_offset space) ts)) ≡ true
near_tuples space [] = refl
near_tuples space (t ∷ ts) = grind (arith, near_tuples space ts, near_tuple t)

near_distinct : (os : List Offset) → list_all is_near_offset os ≡ true → list_all is_near_offset (distinct_offsets os) ≡ true
near_distinct [] h = refl
near_distinct (o ∷ os) h = grind (arith, all_kept is_near_offset (λ p. not (same_offset o p)) (distinct_offsets os), near_distinct os)

-- the ports and the number of offsets are parts of what is refused of a space
pub space_parts : (s : Section) → of_space s ≡ [] → (ports_refused s [] (entries_of (codes "portintransition") s) ≡ []) × (too_many_offsets s ≡ [])
space_parts s h =
    let parts = both_empty _ (too_many_offsets s) h in
    ((both_empty _ _ (both_empty _ _ (both_empty _ _ (both_empty _ _ parts.0).0).0).0).1, parts.1)

pub right_offsets : (s : Section) → of_space s ≡ [] → RightOffsets s
right_offsets s h =
    let tuples = flat_map (places_of s) (entries_of (codes "neighbors") s) in
    record {
      fit = grind (arith, nat_tests, (space_parts s h).1);
      near = near_distinct (map offset_of (filter (is_offset (space_of s)) tuples)) (near_tuples (space_of s) tuples);
      differ = distinct_differ (map offset_of (filter (is_offset (space_of s)) tuples));
    }

pub offsets_are_right : OffsetsAreRight
offsets_are_right ss h = all_imply right_offsets (groups ss) (each_of_phase of_space (groups ss) h)

-- ---- the sizes are numbers from 1 on

one_or_more : (n : ℤ) → int_le (pos 1) n ≡ true → 1 ≤ unsigned_abs n
one_or_more n e = grind (arith, nat_tests)

abbrev AreSizes : List ℤ → Type 0
AreSizes ns = (has_length 2 3 ns ≡ true) × (list_all (λ n. int_le (pos 1) n) ns ≡ true)

sizes_there : (b : Border) (ns : List ℤ) → AreSizes ns → (1 ≤ (space_of_sizes b ns).rows) × (1 ≤ (space_of_sizes b ns).columns) × (1 ≤ plane_count (space_of_sizes b ns))
sizes_there b ns h = grind (arith, one_or_more)

tuple_length : (text : Bytes) (ns : List ℤ) → tuple text ≡ Some ns → has_length 2 3 ns ≡ true
tuple_length text ns e = grind arith

a_size : (s : Section) → KeyedGroup s → (key : Bytes) → looked_up (group_forms s) key ≡ Some is_size → has_key key s ≡ true → int_le (pos 1) (size_of key s) ≡ true
a_size s k key known there = let right = has_form (group_forms s) key is_size known s.entries k.forms in grind (arith, nat_tests, right)

are_right : (s : Section) → KeyedGroup s → AreSizes (sizes_of s)
are_right s k =
    let dim = has_form (group_forms s) (codes "dim") is_dim refl s.entries k.forms in
    grind (arith, dim, tuple_length, k.missing, a_size s k (codes "height") refl, a_size s k (codes "width") refl)

delay_fits : (s : Section) → KeyedGroup s → default_delay_of s ≤ 359999999
delay_fits s k =
    let right = has_form (group_forms s) (codes "defaultdelaytime") is_delay_time refl s.entries k.forms in grind (arith, nat_tests, right)

pub right_sizes : (s : Section) → KeyedGroup s → RightSizes s
right_sizes s k =
    let there = sizes_there (border_of s) (sizes_of s) (are_right s k) in
    record { cells = one-le-mul (one-le-mul there.0 there.1) there.2; delay = delay_fits s k }

pub sizes_are_right : SizesAreRight
sizes_are_right ss h = all_imply right_sizes (groups ss) (groups_keyed ss h)

-- ---- the spaces can be held

each_fits : (gs : List Section) (cells : ℕ) → first_large cells gs ≡ None → AllByRecursion (λ s. cell_count (space_of s) ≤ 1048576) gs
each_fits [] cells e = tt
each_fits (g ∷ gs) cells e = grind (arith, nat_tests, each_fits gs (cells + cell_count (space_of g)))

pub spaces_can_be_held : SpacesCanBeHeld
spaces_can_be_held ss keys cells =
    all_imply (λ s p. let there = sizes_there (border_of s) (sizes_of s) (are_right s p.0) in (there.0, there.1, there.2, p.1)) (groups ss)
    (both_of_all KeyedGroup (λ s. cell_count (space_of s) ≤ 1048576) (groups ss) (groups_keyed ss keys) (each_fits (groups ss) 0 cells))

-- ---- the names of variables and ports

record Words (most : ℕ) (ws : List Bytes) : Type 0 where
  pub fit : length ws ≤ most
  pub differ : has_repeat ws ≡ false

words_are : (most : ℕ) (o : Option Bytes) → ((v : Bytes) → o ≡ Some v → are_words most v ≡ true) → Words most (words_of o)
words_are most o h = grind (arith, nat_tests)

value_each : (is_right : Bytes → Bool) (values names : Option Bytes) → ((v : Bytes) → names ≡ Some v → is_right v ≡ true) → ((v : Bytes) → values ≡ Some v → values_fit is_right names v ≡ true)
    → length (values_of_key values (words_of names)) ≡ length (words_of names)
value_each is_right None names right fit = length-replicate (length (words_of names)) Undefined
value_each is_right (Some v) None right fit = let e = fit v refl in absurd cc
value_each is_right (Some v) (Some n) right fit = grind (arith, nat_tests, right n refl, fit v refl, all_there_long value_in (words v))

pub right_names : (s : Section) → KeyedGroup s → RightNames s
right_names s k =
    let variables = value_of (codes "statevariables") s in
    let ports = value_of (codes "neighborports") s in
    let right = has_form (group_forms s) (codes "statevariables") (are_words 8) refl s.entries k.forms in
    let ports_right = has_form (group_forms s) (codes "neighborports") are_ports refl s.entries k.forms in
    let values = value_each (are_words 8) (value_of (codes "statevalues") s) variables right (has_form (group_forms s) (codes "statevalues") (values_fit (are_words 8) variables) refl s.entries k.forms) in
    let port_values = value_each are_ports (value_of (codes "portvalues") s) ports ports_right (has_form (group_forms s) (codes "portvalues") (values_fit are_ports ports) refl s.entries k.forms) in
    let v : Words 8 (words_of variables) = words_are 8 variables right in
    let p : Words 3 (words_of ports) = words_are 3 ports (λ text e. grind (arith, ports_right text e)) in
    let same_variables : variables_of s ≡ words_of variables = texts_once group_keys (codes "statevariables") s refl k.once in
    let same_ports : ports_of s ≡ words_of ports = texts_once group_keys (codes "neighborports") s refl k.once in
    record {
      variables = rw same_variables v.fit;
      variable_values = rw same_variables values;
      variables_differ = rw same_variables v.differ;
      ports = rw same_ports p.fit;
      port_values = rw same_ports port_values;
      ports_differ = rw same_ports (not_out ports ports_right p.differ);
    }
  where
    not_out : (o : Option Bytes) → ((v : Bytes) → o ≡ Some v → are_ports v ≡ true) → has_repeat (words_of o) ≡ false → has_repeat (out ∷ words_of o) ≡ false
    not_out o h e = grind arith

pub names_are_right : NamesAreRight
names_are_right ss h = all_imply right_names (groups ss) (groups_keyed ss h)
