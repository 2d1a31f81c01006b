-- Private: how one component takes its box.
use Rattle.std.specs.Prelude.{◌≡◌, ℕ, true, ◌&&◌, Option, Some, None, List, [], ◌∷◌, ◌++◌, map, slice_set, slice_get, if◌then◌else◌, IfSome}
use Rattle.std.specs.List.{list_any, position, filter_map, count_by}
use Rattle.std.specs.Option.{option_map, option_or, is_some}
use Rattle.ma_lines.specs.Sections.{Section}
use Rattle.atomic_face.specs.declared.class.Class.{Class}
use Rattle.atomic_face.specs.declared.params.Param.{Param}
use Rattle.atomic_face.specs.declared.params.SettleRefusal.{SettleRefusal}
use Rattle.atomic_face.specs.declared.params.SettleRefusal.TheVariants as Settling
use Rattle.atomic_face.specs.declared.stock.BoxNo.{BoxNo}
use Rattle.atomic_face.specs.declared.stock.StockRefusal.{StockRefusal}
use Rattle.atomic_face.specs.declared.stock.StockRefusal.TheVariants as Taking
use Rattle.atomic_face.specs.Held.{Held}
use Rattle.atomic_face.specs.BoxCalls.{box_at_start}
use Rattle.atomic_face.specs.Settings.{settings_of, first_line_off}
use Rattle.atomic_face.specs.Once.{are_once}
use Rattle.atomic_face.specs.StockView.{Stocked, is_of, is_free}
use Rattle.model_tree.specs.declared.group.Atomic.{Atomic}
use Rattle.model_text.specs.declared.kind.Kind.{Kind}
use Rattle.model_text.specs.declared.kind.Kind.TheVariants.{UnknownClass, OutOfStock, BadParameter}
use Rattle.model_text.specs.Refusals.{Refusal, refusal}
use Rattle.model_text.specs.Keyed.{Item}
use Rattle.model_text.specs.Walk.{item_name}
use Rattle.model_text.specs.Stock.{class_of_item, params_of, params_refused, boxes_of, first_component_refused}
use Rattle.model_walk.specs.declared.refused.Stop.{Stop}
use Rattle.model_walk.specs.declared.refused.Stop.TheVariants as Stops
use Rattle.model_build.specs.Settled.{classes_of, name_and_class, named_item, started_box, box_of_item, are_apart}

-- no parameter of the class that may stand once stands again
abbrev pub HasOnce : List Section → Item → Type 0
HasOnce ss i = IfSome (class_of_item i) (λ class. are_once class (params_of ss i) ≡ true)

-- why the stock refuses, as a kind
abbrev pub kind_of_stock : StockRefusal → Kind
kind_of_stock Taking.UnknownClass = UnknownClass
kind_of_stock Taking.OutOfStock = OutOfStock

-- why settling stops
abbrev pub stop_of_settling : SettleRefusal → Stop
stop_of_settling (Settling.BadParameter line) =
    Stops.Refused (record { line = line; kind = BadParameter })
stop_of_settling Settling.Memory = Stops.Memory

-- why a stock has no box of the class that is free
abbrev pub lacks : List Stocked → Class → Option Kind
lacks stock class =
    if is_some (position (is_free class) stock) then None
    else if list_any (is_of class) stock then Some OutOfStock
    else Some UnknownClass

-- the same for a class that there may not be
abbrev pub lacks_class : List Stocked → Option Class → Option Kind
lacks_class stock None = Some UnknownClass
lacks_class stock (Some class) = lacks stock class

-- why a component is refused that comes to this stock
abbrev pub component_lacks : List Section → List Stocked → Item → Option Refusal
component_lacks ss stock i =
    option_or (option_map (refusal i.line) (lacks_class stock (class_of_item i)))
    (params_refused ss i)

-- the refusal of parameters that are off the form of a box's class
abbrev pub off_of_box : List Param → Held → Option Refusal
off_of_box ps b = option_map (λ line. refusal line BadParameter) (first_line_off b.kind ps)

-- no parameter is off its form, and the box is at the start that they give
abbrev pub Settles : List Param → Held → Held → Type 0
Settles ps before after =
    (first_line_off before.kind ps ≡ None)
    × (after ≡ box_at_start before.kind (settings_of before.kind ps))

-- a component has taken the first free box of its class, and stands behind those that were found
pub record Adds (ss : List Section) (i : Item) (old new : List Stocked)
    (front all : List Atomic) : Type 0 where
  pub class : Class
  pub at : BoxNo
  pub before : Stocked
  pub known : class_of_item i ≡ Some class
  pub found : position (is_free class) old ≡ Some at.0
  pub stood : slice_get old at.0 ≡ Some before
  pub free : is_free class before ≡ true
  pub right : first_line_off class (params_of ss i) ≡ None
  pub settled : new ≡ slice_set old at.0 (started_box ss i class)
  pub added : all ≡ front ++ record { name = item_name i; class = class; at = at } ∷ []

-- how many boxes of a class are taken
abbrev pub taken_of : Class → List Stocked → ℕ
taken_of class stock = count_by (λ (s : Stocked). is_of class s && s.taken) stock

-- these items were added, with nothing refused: their components, and the stock
pub record Stands (ss : List Section) (classes : List Class) (stock : List Stocked)
    (found : List Atomic) (done : List Item) : Type 0 where
  pub kinds : classes_of stock ≡ classes
  pub named : map name_and_class found ≡ map named_item done
  pub boxes : map (λ (a : Atomic). slice_get stock a.at.0) found ≡ map (box_of_item ss) done
  pub apart : are_apart (map (λ (a : Atomic). a.at.0) found) ≡ true
  pub taken : (class : Class) → taken_of class stock
      ≡ boxes_of class (filter_map class_of_item done)
  pub passes : (later : List Item) → first_component_refused ss classes [] (done ++ later)
      ≡ first_component_refused ss classes (filter_map class_of_item done) later
