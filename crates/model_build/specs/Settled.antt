-- The box of an atomic component once it is settled.
use Rattle.std.specs.Prelude.{ℕ, ◌==◌, Bool, true, not, ◌&&◌, Option, Some, List, [], ◌∷◌, map}
use Rattle.std.specs.List.{list_any}
use Rattle.std.specs.Option.{option_map}
use Rattle.ma_lines.specs.Sections.{Section}
use Rattle.atomic_face.specs.declared.class.Class.{Class}
use Rattle.atomic_face.specs.Settings.{settings_of}
use Rattle.atomic_face.specs.BoxCalls.{box_at_start}
use Rattle.atomic_face.specs.StockView.{Stocked}
use Rattle.quantity.specs.Bytes.{Bytes}
use Rattle.model_tree.specs.declared.group.Atomic.{Atomic}
use Rattle.model_text.specs.Keyed.{Item}
use Rattle.model_text.specs.Walk.{item_name}
use Rattle.model_text.specs.Stock.{class_of_item, params_of}

-- the classes of the boxes of a stock
abbrev pub classes_of : List Stocked → List Class
classes_of stock = map (λ (s : Stocked). s.box.kind) stock

-- an atomic component's name and class
abbrev pub name_and_class : Atomic → Bytes × Option Class
name_and_class a = (a.name, Some a.class)

-- an item's name, and its class where there is one
abbrev pub named_item : Item → Bytes × Option Class
named_item i = (item_name i, class_of_item i)

-- a taken box of a class, at the start that the item's parameters give
abbrev pub started_box : List Section → Item → Class → Stocked
started_box ss i class =
    record { box = box_at_start class (settings_of class (params_of ss i)); taken = true }

-- the box of an item that has a class
abbrev pub box_of_item : List Section → Item → Option Stocked
box_of_item ss i = option_map (started_box ss i) (class_of_item i)

-- no number stands twice
abbrev pub are_apart : List ℕ → Bool
are_apart [] = true
are_apart (n ∷ ns) = not (list_any (λ m. n == m) ns) && are_apart ns
