-- The state of one leaf is put.
use Rattle.std.proofs.Common.{◌≡◌, ◌∙◌, ℕ, zero, suc, ◌<◌, Bool, true, Option, List, [], ◌∷◌, length, refl, sym, ap, subst, arith}
use Rattle.std.specs.Prelude.{slice_get, slice_set, IsSomeAnd}
use Rattle.std.specs.List.{AllZip}
use Rattle.std.proofs.lemmas.List.{get_or-set_same, map-set}
use Rattle.atomic_face.specs.Held.{Held}
use Rattle.event_list.specs.Events.{Event}
use Rattle.model_tree.specs.Tree.{Tree, Leaf, atomic_leaf, cell_leaf, leaves, leaf_count}
use Rattle.model_leaves.proofs.Read.{leaves-length}
use Rattle.run_model.specs.Cycle.{LeafState, box_state, cell_state, leaf_next}
use Rattle.run_model.specs.Fitting.{Fits, FitsTree, OfLeaf}
use Rattle.route_flat.specs.Nets.{Flat}
use Rattle.sparse_cycle.specs.Sparse.{no_leaf, leaf_of}
use Rattle.run_leaves.specs.Seated.{Seated, is_box}
use Rattle.run_leaves.specs.Moving.{with_seated_state}
use Rattle.run_leaves.specs.Watching.{Watching}
use Rattle.run_leaves.proofs.Putting.{of-within}
use Rattle.run_model.specs.declared.stop.Stop.{Stop}
use Rattle.flat_run.specs.Holds.{HoldsRun}
use Rattle.flat_run.specs.Running.{tree_by}

-- ---- what fits

-- a state fits a leaf that there is
pub fits-within : (tree : Tree) (l : ℕ) (x : LeafState) → OfLeaf tree l (λ a. Fits a x) → l < leaf_count tree
fits-within tree l x fits =
    let lt = of-within (leaves tree) l (λ a. Fits a x) fits in
    let long = leaves-length tree 0 in
    omega (arith, lt, long)

set-fits : (ls : List Leaf) (ss : List LeafState) (l : ℕ) (x : LeafState) → IsSomeAnd (slice_get ls l) (λ a. Fits a x) → AllZip Fits ls ss → AllZip Fits ls (slice_set ss l x)
set-fits [] ss l x fits h = absurd fits
set-fits (a ∷ ls) [] l x fits h = absurd h
set-fits (a ∷ ls) (s ∷ ss) zero x fits h = (fits, h.1)
set-fits (a ∷ ls) (s ∷ ss) (suc l) x fits h = (h.0, set-fits ls ss l x fits h.1)

still-fits : (a : Leaf) (b c : Held) → c.kind ≡ b.kind → c.settings ≡ b.settings → Fits a (box_state b) → Fits a (box_state c)
still-fits (atomic_leaf name class settings) b c kind settings_are h = (kind ∙ h.0, settings_are ∙ h.1)
still-fits (cell_leaf g first cell) b c kind settings_are h = absurd h

no-box : (b : Held) → no_leaf ≡ box_state b → ⊥
no-box b e = cc

box-fits : (ls : List Leaf) (ss : List LeafState) (l : ℕ) (b c : Held) → AllZip Fits ls ss → leaf_of ss l ≡ box_state b → c.kind ≡ b.kind → c.settings ≡ b.settings → IsSomeAnd (slice_get ls l) (λ a. Fits a (box_state c))
box-fits [] [] l b c h is kind settings = absurd (no-box b is)
box-fits [] (s ∷ ss) l b c h is kind settings = absurd h
box-fits (a ∷ ls) [] l b c h is kind settings = absurd h
box-fits (a ∷ ls) (s ∷ ss) zero b c h is kind settings = still-fits a b c kind settings (subst (λ (y : LeafState). Fits a y) is h.0)
box-fits (a ∷ ls) (s ∷ ss) (suc l) b c h is kind settings = box-fits ls ss l b c h.1 is kind settings

-- another state of a leaf's box fits as its state does
pub put-fits : (tree : Tree) (states : List LeafState) (l : ℕ) (b c : Held) → FitsTree tree states → leaf_of states l ≡ box_state b → c.kind ≡ b.kind → c.settings ≡ b.settings → OfLeaf tree l (λ a. Fits a (box_state c))
put-fits tree states l b c fits is kind settings = box-fits (leaves tree) states l b c fits is kind settings

-- the box that stands at a place
pub box-there : (x : LeafState) → is_box x ≡ true → (b : Held) × (x ≡ box_state b)
box-there (box_state b) is = (b, refl)
box-there (cell_state c) is = absurd cc

box-within : (ss : List LeafState) (l : ℕ) (b : Held) → leaf_of ss l ≡ box_state b → l < length ss
box-within [] l b is = absurd (no-box b is)
box-within (s ∷ ss) zero b is = omega arith
box-within (s ∷ ss) (suc l) b is = let on = box-within ss l b is in omega (arith, on)

-- the state that was put stands there
pub put-stands : (old now : Seated) (l : ℕ) (b : Held) (x : LeafState) → leaf_of old.states l ≡ box_state b → now ≡ with_seated_state old l x → leaf_of now.states l ≡ x
put-stands old now l b x is made =
    ap (λ (s : Seated). leaf_of s.states l) made ∙ get_or-set_same old.states l x no_leaf (box-within old.states l b is)

-- ---- what holds then

-- one leaf has another state that fits, and the queue its next time
pub put-holds : (old now : Seated) (routes : Flat) (watching : Watching) (events : List Event) (waiting after : List (Option ℕ)) (woken touched : List Bool) (due moving end limit count : ℕ) (stopped : Option Stop) (l : ℕ) (x : LeafState)
    → HoldsRun old routes watching events waiting woken touched due moving end limit count stopped
    → OfLeaf (tree_by old) l (λ a. Fits a x) → now ≡ with_seated_state old l x → after ≡ slice_set waiting l (leaf_next x)
    → HoldsRun now routes watching events after woken touched due moving end limit count stopped
put-holds old now routes watching events waiting after woken touched due moving end limit count stopped l x was fits made set =
    subst (λ (s : Seated). HoldsRun s routes watching events after woken touched due moving end limit count stopped) (sym made) (
    record {
      counts = was.counts;
      frame = was.frame;
      goes_on = λ none. (
          let on = was.goes_on none in
          record {
            fits = set-fits (leaves (tree_by old)) old.states l x fits on.fits;
            queue = set ∙ ap (λ (w : List (Option ℕ)). slice_set w l (leaf_next x)) on.queue ∙ sym (map-set leaf_next old.states l x);
            calm = on.calm;
            at_rest = on.at_rest;
          }
          );
    }
    )
