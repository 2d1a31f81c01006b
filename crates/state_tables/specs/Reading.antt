-- Private: the parameters of a table, read one by one.
use Rattle.std.specs.Prelude.{◌≡◌, ℕ, ◌<◌, ◌==◌, Bool, not, ◌&&◌, Option, None, List, [], ◌∷◌, ◌++◌, length, slice_index_or, ℤ, pos, if◌then◌else◌, codes}
use Rattle.std.specs.List.{filter_map, find}
use Rattle.std.specs.Option.{option_map, is_some}
use Rattle.std.specs.Str.{bytes_eq}
use Rattle.quantity.specs.Bytes.{Bytes}
use Rattle.atomic_face.specs.declared.params.Param.{Param}
use Rattle.atomic_face.specs.TableSettings.{HoldWords, hold_in, is_new_hold, line_unless, number_of_name, with_key}
use Rattle.state_tables.specs.declared.settings.Hold.{Hold}
use Rattle.state_tables.specs.Settings.{shown_word}

-- ---- lines that are off their form

-- the first state is none of the states
abbrev pub is_initial_off : List Bytes → Param → Bool
is_initial_off names e =
    bytes_eq e.key (codes "initial") && not (is_some (number_of_name names e.value))

-- the line of a hold that is off its form, or whose state has one already
abbrev pub hold_lines : List Bytes → List HoldWords → Param → List ℕ
hold_lines names before e =
    if bytes_eq e.key (codes "hold") then line_unless (is_new_hold before (hold_in names e)) e
    else []

-- ---- holds

-- the words of a hold
abbrev pub words_of_hold : Hold → List ℤ
words_of_hold h = pos h.time ∷ shown_word h.shown ∷ pos h.next ∷ []

-- a hold as it was read
abbrev pub hold_read : ℕ × Hold → HoldWords
hold_read h = record { state = h.0; words = words_of_hold h.1 }

-- what one more parameter adds to the holds
abbrev pub holds_with : List Bytes → List HoldWords → Param → List HoldWords
holds_with names before e = before ++ filter_map (hold_in names) (with_key (codes "hold") (e ∷ []))

-- each state has the first of these holds that is of it
abbrev pub HasHolds : List (Option Hold) → List HoldWords → Type 0
HasHolds holds hs =
    (k : ℕ) → k < length holds → option_map words_of_hold (slice_index_or holds k None)
    ≡ option_map (λ (h : HoldWords). h.words) (find (λ (h : HoldWords). h.state == k) hs)
