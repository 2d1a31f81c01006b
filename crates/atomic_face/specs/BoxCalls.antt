-- What the calls of a box answer.
use Rattle.std.specs.Prelude.{◌≡◌, ℕ, true, false, Some, None, List, ℤ}
use Rattle.std.specs.declared.result.Result.{Result}
use Rattle.std.specs.declared.result.Result.TheVariants.{Ok, Err}
use Rattle.atomic_face.specs.declared.class.Class.{Class}
use Rattle.atomic_face.specs.declared.model.AdvanceRefusal.{AdvanceRefusal}
use Rattle.atomic_face.specs.declared.model.AdvanceRefusal.TheVariants.{Overflow, Memory}
use Rattle.atomic_face.specs.declared.params.Param.{Param}
use Rattle.atomic_face.specs.declared.params.SettleRefusal.{SettleRefusal}
use Rattle.atomic_face.specs.declared.params.SettleRefusal.TheVariants.{BadParameter, Memory as NoRoomToSettle}
use Rattle.atomic_face.specs.declared.params.RestoreRefusal.{RestoreRefusal}
use Rattle.atomic_face.specs.declared.params.RestoreRefusal.TheVariants.{BadState, Memory as NoRoomToRestore}
use Rattle.atomic_face.specs.Classes.{Bag, initial_state, moved_state}
use Rattle.atomic_face.specs.Settings.{settings_of, first_line_off}
use Rattle.atomic_face.specs.BoxStates.{is_box_state}
use Rattle.atomic_face.specs.Held.{Held}
use Rattle.atomic_face.specs.Moves.{with_state}

-- on Ok only the state has changed, to the one that the table gives; Overflow comes only where it
-- has none; after a refusal all is as before
abbrev pub AdvanceGives : {A : Type 0} → ℕ → Bag → Held → Held → Result A AdvanceRefusal → Type 0
AdvanceGives now bag before after (Ok x) =
    (moved_state before.kind before.settings before.state now bag ≡ Some after.state)
    × (after ≡ with_state before after.state)
AdvanceGives now bag before after (Err Overflow) =
    (moved_state before.kind before.settings before.state now bag ≡ None) × (after ≡ before)
AdvanceGives now bag before after (Err Memory) = after ≡ before

-- a class with settings, at its start
abbrev pub box_at_start : Class → List ℤ → Held
box_at_start kind settings =
    record { kind = kind; settings = settings; state = initial_state kind settings }

-- on Ok no line is off its form, and the box starts with the settings that the parameters give;
-- else the least line that is; after a refusal all is as before
abbrev pub SettleGives : {A : Type 0} → List Param → Held → Held → Result A SettleRefusal → Type 0
SettleGives entries before after (Ok x) =
    (first_line_off before.kind entries ≡ None)
    × (after ≡ box_at_start before.kind (settings_of before.kind entries))
SettleGives entries before after (Err (BadParameter line)) =
    (first_line_off before.kind entries ≡ Some line) × (after ≡ before)
SettleGives entries before after (Err NoRoomToSettle) = after ≡ before

-- on Ok the words are a state of the class with its settings, and they are the state; BadState
-- comes only where they aren't; after a refusal all is as before
abbrev pub RestoreGives : {A : Type 0} → List ℤ → Held → Held → Result A RestoreRefusal → Type 0
RestoreGives words before after (Ok x) =
    (is_box_state before.kind before.settings words ≡ true) × (after ≡ with_state before words)
RestoreGives words before after (Err BadState) =
    (is_box_state before.kind before.settings words ≡ false) × (after ≡ before)
RestoreGives words before after (Err NoRoomToRestore) = after ≡ before
