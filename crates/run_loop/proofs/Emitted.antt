-- What the cells of a group have emitted, as frames show it before the first cycle.
use Rattle.std.proofs.Common.{◌≡◌, ℕ, zero, suc, ◌+◌, ◌<◌, ◌≤◌, true, false, Option, Some, None, List, [], ◌∷◌, ◌++◌, length, map, take, refl, sym, ap, ◌∙◌, subst, arith}
use Rattle.std.specs.Prelude.{IsTrue, IsSomeAnd, nat_lt, slice_get, if◌then◌else◌}
use Rattle.std.specs.Borrow.{Bor}
use Rattle.std.specs.List.{AllZip, range_with_len}
use Rattle.std.specs.Option.{is_some, option_map}
use Rattle.std.proofs.lemmas.Bool.Decides.{nat_tests}
use Rattle.std.proofs.lemmas.List.{length-set, take_all, take_more_set}
use Rattle.std.proofs.lemmas.List.FromFn.{length-map-range_with_len, map-range_with_len_more}
use Rattle.quantity.specs.declared.value.Value.{Value}
use Rattle.quantity.specs.declared.value.Value.TheVariants.{Undefined}
use Rattle.cell_grid.specs.Space.{cell_count}
use Rattle.model_tree.specs.Tree.{Word, Group, Tree, Leaf, atomic_leaf, cell_leaf, leaves}
use Rattle.run_model.specs.Cycle.{LeafState, box_state, cell_state}
use Rattle.run_model.specs.Emitted.{IsCell}
use Rattle.run_model.specs.Fitting.{Fits, FitsTree}
use Rattle.run_model.specs.Run.{Event, RunState}
use Rattle.text_forms.specs.StateOf.{Saved}
use Rattle.sparse_cycle.specs.Sparse.{leaf_of}
use Rattle.run_leaves.specs.Saved.{is_cell_state}
use Rattle.frame_draw.specs.Drawing.{with_value}
use Rattle.answer_model.specs.Asked.{FramesFile}
use Rattle.answer_model.specs.RunFiles.{group_at, emitted_of, emitted_before}
use Rattle.answer_model.specs.Cdpp.{begins}
use Rattle.saved_runs.specs.Accepted.{GroupsStand}
use Rattle.asked_words.specs.Shown.{text_of_name}
use Rattle.run_loop.specs.Groups.{picture_of, begun_at, showing_at_start}
use Rattle.run_loop.specs.Showing.{Showing, with_drawing}
use Rattle.run_loop.specs.Emitted.{given_by, with_emitted, AreCells, IsUnbegun, AreUnbegun}

-- ---- the cells of a group, one after another

-- so many of them have what they have emitted
pub record ArePreset (states : List LeafState) (start now : Showing) (n : ℕ) : Type 0 where
  pub place : now.first ≡ start.first
  pub picture : now.drawing.picture ≡ start.drawing.picture
  pub begun : now.drawing.begun ≡ None
  pub long : length now.drawing.values ≡ cell_count start.drawing.picture.space
  pub values : take n now.drawing.values ≡ map (λ cell. given_by states (start.first + cell)) (range_with_len 0 n)

pub preset_none : (states : List LeafState) (start : Showing) → IsUnbegun start → ArePreset states start start 0
preset_none states start fresh = record { place = refl; picture = refl; begun = fresh.begun; long = fresh.whole; values = refl }

pub preset_next : (states : List LeafState) (start now next : Showing) (n : ℕ) (v : Value) → ArePreset states start now n → n < cell_count start.drawing.picture.space → v ≡ given_by states (now.first + n) → next ≡ with_drawing (with_value n v now.drawing) now
    → ArePreset states start next (n + 1)
preset_next states start now next n v was inside v_is next_is =
    let given = λ (cell : ℕ). given_by states (start.first + cell) in
    let within : n < length now.drawing.values = omega (arith, inside, was.long) in
    let here : v ≡ given_by states (start.first + n) = v_is ∙ ap (λ k. given_by states (k + n)) was.place in
    let from_first : 0 + n ≡ n = omega arith in
    subst (λ (x : Showing). ArePreset states start x (n + 1)) (sym next_is) (record {
      place = was.place;
      picture = was.picture;
      begun = was.begun;
      long = length-set now.drawing.values n v ∙ was.long;
      values = take_more_set now.drawing.values n v within ∙ (λ i. was.values i ++ here i ∷ []) ∙ sym (map-range_with_len_more given 0 n n from_first);
    })

-- all of them
pub preset_all : (states : List LeafState) (start now : Showing) (n : ℕ) → ArePreset states start now n → n ≡ cell_count start.drawing.picture.space → now ≡ with_emitted states start
preset_all states start now n was all =
    let given = λ (cell : ℕ). given_by states (start.first + cell) in
    let whole : length now.drawing.values ≤ n = omega (arith, all, was.long) in
    let filled : now.drawing.values ≡ map given (range_with_len 0 (cell_count start.drawing.picture.space)) =
    sym (take_all n now.drawing.values whole) ∙ was.values ∙ ap (λ k. map given (range_with_len 0 k)) all in
    λ i. record { first = was.place i; drawing = record { picture = was.picture i; values = filled i; begun = was.begun i } }

-- cells that stand among so many leaves are no more than these
pub no_more_cells : (first count long : ℕ) → ((cell : ℕ) → cell < count → first + cell < long) → count ≤ long
no_more_cells first zero long h = omega arith
no_more_cells first (suc n) long h = last (h n (omega arith))
  where
    last : first + n < long → suc n ≤ long
    last lt = omega (arith, lt)

-- ---- the group that is drawn

fits_cell : (l : Leaf) (s : LeafState) → Fits l s → IsCell l → IsTrue (is_cell_state s)
fits_cell (atomic_leaf name class settings) s fits cell = absurd cell
fits_cell (cell_leaf g first n) (box_state b) fits cell = absurd fits
fits_cell (cell_leaf g first n) (cell_state c) fits cell = refl

-- a leaf that is a cell has the state of one
cell_there : (ls : List Leaf) (ss : List LeafState) (k : ℕ) → AllZip Fits ls ss → IsSomeAnd (slice_get ls k) IsCell → (k < length ss) × IsTrue (is_cell_state (leaf_of ss k))
cell_there [] ss k fits there = absurd there
cell_there (l ∷ ls) [] k fits there = absurd fits
cell_there (l ∷ ls) (s ∷ ss) zero fits there = (omega arith, fits_cell l s fits.0 there)
cell_there (l ∷ ls) (s ∷ ss) (suc k) fits there =
    let h = cell_there ls ss k fits.1 there in
    (further k (length ss) h.0, h.1)
  where
    further : (k n : ℕ) → k < n → suc k < suc n
    further k n lt = omega (arith, lt)

-- its cells stand among the leaves
pub cells_at_start : GroupsStand → (tree : Tree) (states : List LeafState) (frames : Option FramesFile) → FitsTree tree states → AreCells states (showing_at_start tree None frames)
cells_at_start stand tree states None fits = tt
cells_at_start stand tree states (Some f) fits = by (group_at f.drawing.group (leaves tree)) refl
  where
    by : (g : Option (ℕ × Group)) → group_at f.drawing.group (leaves tree) ≡ g → AreCells states (begun_at f None g)
    by None is = tt
    by (Some g) is = λ cell inside. cell_there (leaves tree) states (g.0 + cell) fits (stand tree f.drawing.group g cell is inside)

-- nothing is drawn yet
pub unbegun_at_start : (tree : Tree) (frames : Option FramesFile) → AreUnbegun (showing_at_start tree None frames)
unbegun_at_start tree None = tt
unbegun_at_start tree (Some f) = by (group_at f.drawing.group (leaves tree))
  where
    by : (g : Option (ℕ × Group)) → AreUnbegun (begun_at f None g)
    by None = tt
    by (Some g) = record { begun = refl; whole = length-map-range_with_len (emitted_before None g) 0 (cell_count g.1.space) }

-- ---- from a saved state

same_values : (a n : ℕ) (f h : ℕ → Value) → ((k : ℕ) → k < a + n → f k ≡ h k) → map f (range_with_len a n) ≡ map h (range_with_len a n)
same_values a zero f h same = refl
same_values a (suc n) f h same = λ i. same a (first a n) i ∷ same_values (a + 1) n f h (λ k lt. same k (later a n k lt)) i
  where
    first : (a n : ℕ) → a < a + suc n
    first a n = omega arith

    later : (a n k : ℕ) → k < a + 1 + n → k < a + suc n
    later a n k lt = omega (arith, lt)

-- what its leaves have emitted is what is shown before
shown_of_saved : (s : Saved) (g : ℕ × Group) (states : List LeafState) → states ≡ s.states
    → map (λ cell. given_by states (g.0 + cell)) (range_with_len 0 (cell_count g.1.space)) ≡ map (emitted_before (Some s) g) (range_with_len 0 (cell_count g.1.space))
shown_of_saved s g states is =
    same_values 0 (cell_count g.1.space) (λ cell. given_by states (g.0 + cell)) (emitted_before (Some s) g) (λ k lt. one k (below k (cell_count g.1.space) lt))
  where
    below : (k n : ℕ) → k < 0 + n → nat_lt k n ≡ true
    below k n lt = grind (arith, nat_tests)

    one : (k : ℕ) → nat_lt k (cell_count g.1.space) ≡ true → given_by states (g.0 + k) ≡ emitted_before (Some s) g k
    one k inside =
        ap (λ (ss : List LeafState). emitted_of (slice_get ss (g.0 + k))) is
        ∙ sym (ap (λ b. if b then emitted_of (slice_get s.states (g.0 + k)) else Undefined) inside)

emitted_at_start : (tree : Tree) (frames : Option FramesFile) (states : List LeafState) (s : Saved) → states ≡ s.states → option_map (with_emitted states) (showing_at_start tree None frames) ≡ showing_at_start tree (Some s) frames
emitted_at_start tree None states s is = refl
emitted_at_start tree (Some f) states s is = by (group_at f.drawing.group (leaves tree))
  where
    by : (g : Option (ℕ × Group)) → option_map (with_emitted states) (begun_at f None g) ≡ begun_at f (Some s) g
    by None = refl
    by (Some g) =
        λ i. Some (let w : Showing = record { first = g.0; drawing = record { picture = picture_of f g.1.space; values = shown_of_saved s g states is i; begun = None } } in w)

-- a state is asked for just where one is given
pub from_start : (name : Option (Bor Word)) (from : Option Saved) → is_some name ≡ false → is_some (text_of_name name) ≡ is_some from → None ≡ from
from_start None None none asked = refl
from_start None (Some s) none asked = absurd (cc)
from_start (Some n) from none asked = absurd (cc)

-- the frames of a run that goes on from one
pub shown_from : (tree : Tree) (frames : Option FramesFile) (name : Option (Bor Word)) (events : List Event) (from : Option Saved) (state : RunState) → is_some name ≡ true → is_some (text_of_name name) ≡ is_some from → state ≡ begins tree events from
    → option_map (with_emitted state.leaf_states) (showing_at_start tree None frames) ≡ showing_at_start tree from frames
shown_from tree frames None events from state some asked is = absurd (cc)
shown_from tree frames (Some n) events None state some asked is = absurd (cc)
shown_from tree frames (Some n) events (Some s) state some asked is = emitted_at_start tree frames state.leaf_states s (ap (λ (x : RunState). x.leaf_states) is)
