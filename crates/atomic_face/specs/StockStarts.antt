-- Private: where a stock begins to look for a free box of each class.
use Rattle.std.specs.Prelude.{◌≡◌, ◌<◌, ◌≤◌, ◌^◌, ℕ, false, List, length, slice_index, take}
use Rattle.std.specs.List.{list_any}
use Rattle.atomic_face.specs.declared.class.Class.{Class}
use Rattle.atomic_face.specs.ClassTable.{all_classes, class_number}
use Rattle.atomic_face.specs.StockView.{Stocked, is_free}

-- no box of the class before the place is free
abbrev pub NoneFreeBefore : List Stocked → Class → ℕ → Type 0
NoneFreeBefore stock c start =
    (start ≤ length stock) × (list_any (is_free c) (take start stock) ≡ false)

-- the numbers of boxes are of 32 bits, and each class has its start
pub record KeepsStarts (stock : List Stocked) (starts : List ℕ) : Type 0 where
  pub few : length stock < 2 ^ 32
  pub each : length starts ≡ length all_classes
  pub none_before : (c : Class) → NoneFreeBefore stock c (slice_index starts (class_number c))
