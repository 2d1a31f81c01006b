-- Classes with settings that are not those by default, and states of every phase.
use Rattle.std.specs.Prelude.{◌≡◌, ◌^◌, ◌+◌, ◌*◌, true, false, Some, None, List, [], ◌∷◌, codes}
use Rattle.std.specs.Prelude.{ℤ, pos, negsuc}
use Rattle.quantity.specs.declared.value.Value.TheVariants.{Undefined}
use Rattle.atomic_face.specs.declared.class.Class.TheVariants.{Queue, Generator, Cpu, Counter}
use Rattle.atomic_face.specs.declared.class.Class.TheVariants.{Table}
use Rattle.atomic_face.specs.Classes.{initial_state, output_of, moved_state}
use Rattle.atomic_face.specs.Settings.{first_line_off}
use Rattle.atomic_face.specs.BoxStates.{is_box_state}
use Rattle.atomic_face.specs.Examples.{at}
use Rattle.atomic_face.specs.TextExamples.{param}
use Rattle.atomic_face.specs.BoxMoves.{gives}

-- ---- a generator that starts at 7 with 1 and adds 2 every 10 ms

abbrev pub rising_settings : List ℤ
rising_settings = pos 7 ∷ pos 10 ∷ pos 100000 ∷ pos 200000 ∷ negsuc 0 ∷ []

-- one that gives its value, which is large, so many times, and adds as much
abbrev pub large : ℤ → List ℤ
large count = pos 0 ∷ pos 10 ∷ pos (6000000000 * 100000) ∷ pos (6000000000 * 100000) ∷ count ∷ []

pub record GeneratorCorners : Type 0 where
  pub starts : initial_state Generator rising_settings ≡ pos 7 ∷ pos 100000 ∷ negsuc 0 ∷ []
  pub adds : moved_state Generator rising_settings (initial_state Generator rising_settings) 7 []
      ≡ Some (pos 17 ∷ pos 300000 ∷ negsuc 0 ∷ [])
  pub overflows : moved_state Generator (large (pos 2))
      (initial_state Generator (large (pos 2))) 0 [] ≡ None
  pub last_adds_nothing : moved_state Generator (large (pos 1))
      (initial_state Generator (large (pos 1))) 0 []
      ≡ Some (negsuc 0 ∷ pos (6000000000 * 100000) ∷ pos 0 ∷ [])
  pub nine_digits : first_line_off Generator (param 4 (codes "count") (codes "999999999") ∷ [])
      ≡ None
  pub ten_digits : first_line_off Generator (param 4 (codes "count") (codes "1000000000") ∷ [])
      ≡ Some 4

-- ---- a cpu whose first pair is later

pub record CpuCorners : Type 0 where
  pub in_front : moved_state Cpu (pos 10 ∷ []) (pos 30 ∷ pos 1 ∷ []) 5 (at 0 1 ∷ [])
      ≡ Some (pos 15 ∷ pos 100000 ∷ pos 30 ∷ pos 1 ∷ [])

-- ---- a counter that starts with 3, adds 1 and gives after 5 ms

abbrev pub from_three : List ℤ
from_three = pos 5 ∷ pos 300000 ∷ pos 100000 ∷ []

pub record CounterCorners : Type 0 where
  pub starts : initial_state Counter from_three ≡ pos 300000 ∷ negsuc 0 ∷ []
  pub resets : moved_state Counter from_three (pos 900000 ∷ negsuc 0 ∷ []) 3 (at 1 9 ∷ [])
      ≡ Some (pos 300000 ∷ pos 8 ∷ [])
  pub counts_again : moved_state Counter from_three (pos 900000 ∷ pos 8 ∷ []) 6 (at 0 9 ∷ [])
      ≡ Some (pos 1000000 ∷ pos 11 ∷ [])
  pub gives : moved_state Counter from_three (pos 900000 ∷ pos 8 ∷ []) 8 []
      ≡ Some (pos 900000 ∷ negsuc 0 ∷ [])
  pub waits : moved_state Counter from_three (pos 900000 ∷ pos 8 ∷ []) 6 []
      ≡ Some (pos 900000 ∷ pos 8 ∷ [])

-- ---- a table: in state 0 any value at a leads to state 1; that holds for 10 ms, gives the last
-- value and leads back, as ? at b does

abbrev pub back_and_forth : List ℤ
back_and_forth =
    pos 2 ∷ pos 0 ∷ negsuc 0 ∷ pos 0 ∷ pos 0 ∷ pos 10 ∷ pos (10 ^ 16 + 1) ∷ pos 0 ∷ pos 0 ∷ pos 0
    ∷ pos (10 ^ 16 + 1) ∷ pos 1 ∷ pos 1 ∷ pos 1 ∷ pos (10 ^ 16) ∷ pos 0 ∷ []

-- state 1 with 9, until 15
abbrev pub state_on_hold : List ℤ
state_on_hold = pos 1 ∷ pos 15 ∷ pos 900000 ∷ []

pub record TableCorners : Type 0 where
  pub starts : initial_state Table back_and_forth ≡ pos 0 ∷ negsuc 0 ∷ pos (10 ^ 16) ∷ []
  pub any : moved_state Table back_and_forth (initial_state Table back_and_forth) 5 (at 0 9 ∷ [])
      ≡ Some state_on_hold
  pub any_undefined : moved_state Table back_and_forth (initial_state Table back_and_forth) 5
      ((record { 0 = 0 }, Undefined) ∷ []) ≡ Some (pos 1 ∷ pos 15 ∷ pos (10 ^ 16) ∷ [])
  pub last : output_of Table back_and_forth state_on_hold ≡ gives 9
  pub without_hold : moved_state Table back_and_forth state_on_hold 15 []
      ≡ Some (pos 0 ∷ negsuc 0 ∷ pos 900000 ∷ [])
  pub undefined : moved_state Table back_and_forth state_on_hold 7
      ((record { 0 = 1 }, Undefined) ∷ [])
      ≡ Some (pos 0 ∷ negsuc 0 ∷ pos (10 ^ 16) ∷ [])
  pub not_undefined : moved_state Table back_and_forth state_on_hold 7 (at 1 9 ∷ [])
      ≡ Some state_on_hold

-- ---- which numbers are a state

pub record StateCorners : Type 0 where
  pub idle_and_due : is_box_state Queue (pos 0 ∷ []) (pos 0 ∷ pos 5 ∷ []) ≡ false
  pub preparing_for_ever : is_box_state Queue (pos 0 ∷ []) (pos 1 ∷ negsuc 0 ∷ pos 100000 ∷ [])
      ≡ false
  pub preparing_nothing : is_box_state Queue (pos 0 ∷ []) (pos 1 ∷ pos 5 ∷ []) ≡ false
  pub given_out : is_box_state Queue (pos 0 ∷ []) (pos 2 ∷ negsuc 0 ∷ []) ≡ true
  pub given_out_and_due : is_box_state Queue (pos 0 ∷ []) (pos 2 ∷ pos 5 ∷ []) ≡ false
  pub none_left_and_due : is_box_state Generator (large (pos 2)) (pos 10 ∷ pos 1 ∷ pos 0 ∷ [])
      ≡ false
  pub left_and_not_due : is_box_state Generator (large (pos 2)) (negsuc 0 ∷ pos 1 ∷ pos 1 ∷ [])
      ≡ false
  pub left_without_count : is_box_state Generator rising_settings (pos 10 ∷ pos 1 ∷ pos 1 ∷ [])
      ≡ false
  pub same_times : is_box_state Cpu (pos 0 ∷ []) (pos 5 ∷ pos 1 ∷ pos 5 ∷ pos 2 ∷ []) ≡ true
  pub held : is_box_state Table back_and_forth state_on_hold ≡ true
  pub held_and_not_due : is_box_state Table back_and_forth (pos 1 ∷ negsuc 0 ∷ pos 0 ∷ []) ≡ false
  pub not_held_and_due : is_box_state Table back_and_forth (pos 0 ∷ pos 15 ∷ pos 0 ∷ []) ≡ false
