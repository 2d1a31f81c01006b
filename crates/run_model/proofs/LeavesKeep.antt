-- What every leaf that moves keeps, all leaves keep.
use Rattle.std.proofs.Common.{ℕ, Bool, true, false, List, [], ◌∷◌}
use Rattle.std.specs.Prelude.{⊤, if◌then◌else◌, ◌||◌}
use Rattle.std.specs.List.{All}
use Rattle.std.proofs.lemmas.List.Elements.{All-nil, All-cons, All-head, All-tail}
use Rattle.atomic_face.specs.Classes.{Bag, is_at}
use Rattle.model_tree.specs.Tree.{Leaf}
use Rattle.run_model.specs.Cycle.{LeafState, leaf_next, is_woken, has_values, Moved, stayed, moved, stopped, leaf_moved, move_in_cycle, all_asked, after, all_after}

abbrev pub MovedHas : (LeafState → Type 0) → Moved → Type 0
MovedHas P stayed = ⊤
MovedHas P (moved s) = P s
MovedHas P (stopped why) = ⊤

after-keeps : (P : LeafState → Type 0) (s : LeafState) (m : Moved) → P s → MovedHas P m → P (after s m)
after-keeps P s stayed h k = h
after-keeps P s (moved n) h k = k
after-keeps P s (stopped why) h k = h

pub all_after-keeps : (P : LeafState → Type 0) (ss : List LeafState) (ms : List Moved) → All P ss → All (MovedHas P) ms → All P (all_after ss ms)
all_after-keeps P [] ms h k = All-nil P
all_after-keeps P (s ∷ ss) [] h k = All-nil P
all_after-keeps P (s ∷ ss) (m ∷ ms) h k =
    All-cons P (after s m) (all_after ss ms) (after-keeps P s m (All-head P s ss h) (All-head (MovedHas P) m ms k)) (all_after-keeps P ss ms (All-tail P s ss h) (All-tail (MovedHas P) m ms k))

module _ (t : ℕ) (emitted : List LeafState) (gave : List Bag) (P : LeafState → Type 0) (L : Leaf → Type 0) (B : Bag → Type 0) (keeps : (woken : Bool) (bag : Bag) (l : Leaf) (s : LeafState) → L l → B bag → P s → MovedHas P (leaf_moved t emitted woken bag l s)) where
  asked-keeps : (l : Leaf) (s : LeafState) (bag : Bag) → L l → B bag → P s → MovedHas P (move_in_cycle t emitted gave l s bag)
  asked-keeps l s bag leaf good h = moves (is_at t (leaf_next s) || is_woken gave l || has_values bag)
    where
      moves : (b : Bool) → MovedHas P (if b then leaf_moved t emitted (is_woken gave l) bag l s else stayed)
      moves true = keeps (is_woken gave l) bag l s leaf good h
      moves false = tt

  pub all_asked-keeps : (ls : List Leaf) (ss : List LeafState) (bags : List Bag) → All L ls → All B bags → All P ss → All (MovedHas P) (all_asked t emitted gave ls ss bags)
  all_asked-keeps [] ss bags leaf good h = All-nil (MovedHas P)
  all_asked-keeps (l ∷ ls) [] bags leaf good h = All-nil (MovedHas P)
  all_asked-keeps (l ∷ ls) (s ∷ ss) [] leaf good h = All-nil (MovedHas P)
  all_asked-keeps (l ∷ ls) (s ∷ ss) (b ∷ bs) leaf good h =
      All-cons (MovedHas P) (move_in_cycle t emitted gave l s b) (all_asked t emitted gave ls ss bs)
      (asked-keeps l s b (All-head L l ls leaf) (All-head B b bs good) (All-head P s ss h))
      (all_asked-keeps ls ss bs (All-tail L l ls leaf) (All-tail B b bs good) (All-tail P s ss h))
