-- The boxes that the phase of the stock settles are those of a model at its start.
use Rattle.std.proofs.Common.{◌≡◌, ℕ, zero, suc, Option, Some, List, [], ◌∷◌, ℤ, map, slice_get, refl, sym, ap, subst, ◌∙◌}
use Rattle.std.specs.Prelude.{true, unwrap_or}
use Rattle.std.specs.Option.{option_map}
use Rattle.quantity.specs.Bytes.{Bytes}
use Rattle.ma_lines.specs.Sections.{Section}
use Rattle.atomic_face.specs.declared.class.Class.{Class}
use Rattle.atomic_face.specs.Settings.{settings_of}
use Rattle.atomic_face.specs.BoxCalls.{box_at_start}
use Rattle.atomic_face.specs.StockView.{Stocked}
use Rattle.model_tree.specs.declared.component.Coupled.{Coupled}
use Rattle.model_tree.specs.declared.component.Component.TheVariants.{Coupled as in_tree}
use Rattle.model_tree.specs.declared.group.Atomic.{Atomic}
use Rattle.model_text.specs.Keyed.{Item}
use Rattle.model_text.specs.Stock.{class_of_item, params_of}
use Rattle.model_build.specs.Settled.{name_and_class, named_item, started_box, box_of_item, are_apart}
use Rattle.model_build.specs.Built.{settings_of_item}
use Rattle.model_build.specs.Boxes.{settings_of_stock, atomics_in, IsStarted, HasBoxes}

same_head : {A : Type 0} (x y : A) (xs ys : List A) → x ∷ xs ≡ y ∷ ys → x ≡ y
same_head x y xs ys e = cc

same_tail : {A : Type 0} (x y : A) (xs ys : List A) → x ∷ xs ≡ y ∷ ys → xs ≡ ys
same_tail x y xs ys e = cc

-- ---- one component

class-told : (a : Atomic) (i : Item) → name_and_class a ≡ named_item i → class_of_item i ≡ Some a.class
class-told a i e = sym (ap (λ (n : Bytes × Option Class). n.1) e)

-- its box
box-told : (ss : List Section) (stock : List Stocked) (a : Atomic) (i : Item) → name_and_class a ≡ named_item i → slice_get stock a.at.0 ≡ box_of_item ss i
    → slice_get stock a.at.0 ≡ Some (started_box ss i a.class)
box-told ss stock a i n e = e ∙ ap (option_map (started_box ss i)) (class-told a i n)

-- and the settings of that
settings-told : (ss : List Section) (stock : List Stocked) (a : Atomic) (i : Item) → name_and_class a ≡ named_item i → slice_get stock a.at.0 ≡ box_of_item ss i
    → settings_of_stock stock a.at.0 ≡ settings_of a.class (params_of ss i)
settings-told ss stock a i n e =
    ap (λ (o : Option Stocked). unwrap_or (option_map (λ (s : Stocked). s.box.settings) o) []) (box-told ss stock a i n e)

one-set : (ss : List Section) (stock : List Stocked) (a : Atomic) (i : Item) → name_and_class a ≡ named_item i → slice_get stock a.at.0 ≡ box_of_item ss i
    → Some (settings_of_stock stock a.at.0) ≡ settings_of_item ss i
one-set ss stock a i n e =
    ap (λ (w : List ℤ). Some w) (settings-told ss stock a i n e)
    ∙ sym (ap (option_map (λ class. settings_of class (params_of ss i))) (class-told a i n))

one-started : (ss : List Section) (stock : List Stocked) (a : Atomic) (i : Item) → name_and_class a ≡ named_item i → slice_get stock a.at.0 ≡ box_of_item ss i → IsStarted stock a
one-started ss stock a i n e =
    box-told ss stock a i n e
    ∙ ap (λ (w : List ℤ). let s : Stocked = record { box = box_at_start a.class w; taken = true } in Some s) (sym (settings-told ss stock a i n e))

-- ---- all of them

pub has_settings : (ss : List Section) (stock : List Stocked) (found : List Atomic) (is : List Item) → map name_and_class found ≡ map named_item is
    → map (λ (a : Atomic). slice_get stock a.at.0) found ≡ map (box_of_item ss) is
    → map (λ (a : Atomic). Some (settings_of_stock stock a.at.0)) found ≡ map (settings_of_item ss) is
has_settings ss stock [] [] n e = refl
has_settings ss stock [] (i ∷ is) n e = absurd cc
has_settings ss stock (a ∷ found) [] n e = absurd cc
has_settings ss stock (a ∷ found) (i ∷ is) n e =
    let first = one-set ss stock a i (same_head _ _ _ _ n) (same_head _ _ _ _ e) in
    let rest = has_settings ss stock found is (same_tail _ _ _ _ n) (same_tail _ _ _ _ e) in
    ap (λ x. x ∷ map (λ (a : Atomic). Some (settings_of_stock stock a.at.0)) found) first ∙ ap (λ xs. settings_of_item ss i ∷ xs) rest

all-started : (ss : List Section) (stock : List Stocked) (found : List Atomic) (is : List Item) → map name_and_class found ≡ map named_item is
    → map (λ (a : Atomic). slice_get stock a.at.0) found ≡ map (box_of_item ss) is
    → (k : ℕ) (a : Atomic) → slice_get found k ≡ Some a → IsStarted stock a
all-started ss stock [] is n e k b at = absurd cc
all-started ss stock (a ∷ found) [] n e k b at = absurd cc
all-started ss stock (a ∷ found) (i ∷ is) n e zero b at =
    let is_it : a ≡ b = cc in subst (IsStarted stock) is_it (one-started ss stock a i (same_head _ _ _ _ n) (same_head _ _ _ _ e))
all-started ss stock (a ∷ found) (i ∷ is) n e (suc k) b at = all-started ss stock found is (same_tail _ _ _ _ n) (same_tail _ _ _ _ e) k b at

pub has_boxes : (ss : List Section) (stock : List Stocked) (top : Coupled) (found : List Atomic) (is : List Item) → atomics_in (in_tree top) ≡ found
    → map name_and_class found ≡ map named_item is → map (λ (a : Atomic). slice_get stock a.at.0) found ≡ map (box_of_item ss) is
    → are_apart (map (λ (a : Atomic). a.at.0) found) ≡ true → HasBoxes stock top
has_boxes ss stock top found is are n e apart =
    record {
      started = λ k a at. all-started ss stock found is n e k a (sym (ap (λ (bs : List Atomic). slice_get bs k) are) ∙ at);
      apart = ap (λ (bs : List Atomic). are_apart (map (λ (a : Atomic). a.at.0) bs)) are ∙ apart;
    }
