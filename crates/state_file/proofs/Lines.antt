-- The lines of leaves, one behind the other, and the whole text.
use Rattle.std.proofs.Common.{◌≡◌, ℕ, zero, suc, ◌+◌, ◌<◌, ◌≤◌, Option, Some, List, [], ◌∷◌, ◌++◌}
use Rattle.std.proofs.Common.{refl, sym, ap, ◌∙◌, subst, append_assoc, append-nil, arith, length}
use Rattle.std.proofs.Common.{map, take, slice_get, codes}
use Rattle.std.specs.Prelude.{IsTrue}
use Rattle.std.specs.List.{AllZip, flat_map, zip}
use Rattle.std.proofs.lemmas.List.{take_all}
use Rattle.std.proofs.lemmas.Grind.{flat_map-append}
use Rattle.quantity.specs.Bytes.{Bytes}
use Rattle.quantity.specs.Times.{time_text}
use Rattle.model_leaves.specs.declared.table.Model.{Model}
use Rattle.atomic_face.specs.declared.stock.BoxNo.{BoxNo}
use Rattle.model_leaves.specs.declared.leaves.LeafAt.TheVariants as at
use Rattle.model_tree.specs.Tree.{Group, Tree, Leaf, atomic_leaf, cell_leaf, leaves, leaf_count}
use Rattle.model_tree.specs.Tree.{groups}
use Rattle.model_leaves.specs.Models.{tree_of}
use Rattle.model_leaves.specs.Leaves.{Settings, IsLeafOf, IsPlaceOf, IsCellIn, HasBox}
use Rattle.model_leaves.proofs.Read.{leaves-length}
use Rattle.run_model.specs.Cycle.{LeafState, box_state, cell_state}
use Rattle.run_model.specs.Fitting.{Fits, FitsTree}
use Rattle.run_model.proofs.Basics.{none_some, some_same}
use Rattle.text_forms.specs.Lines.{line_with_end}
use Rattle.text_forms.specs.StateText.{at_line, leaf_line, leaf_lines, text_of_state}
use Rattle.sparse_cycle.specs.Sparse.{leaf_of}
use Rattle.run_leaves.specs.Seated.{is_box}
use Rattle.run_leaves.specs.Saved.{is_cell_state}
use Rattle.state_file.specs.Lines.{head_of, line_ended, lines_of}
use Rattle.state_lines.proofs.Appended as appended

-- ---- a leaf and its state

pub zip_there : {A B : Type 0} (R : A → B → Type 0) (xs : List A) (ys : List B) (k : ℕ) (x : A)
    → AllZip R xs ys → slice_get xs k ≡ Some x → (y : B) × (slice_get ys k ≡ Some y) × R x y
zip_there R [] ys k x h e = absurd (none_some e)
zip_there R (x ∷ xs) [] k z h e = absurd h
zip_there R (x ∷ xs) (y ∷ ys) zero z h e = (y, refl, subst (λ w. R w y) (some_same x z e) h.0)
zip_there R (x ∷ xs) (y ∷ ys) (suc k) z h e = zip_there R xs ys k z h.1 e

zip_long : {A B : Type 0} (R : A → B → Type 0) (xs : List A) (ys : List B) → AllZip R xs ys
    → length ys ≡ length xs
zip_long R [] [] h = refl
zip_long R [] (y ∷ ys) h = absurd h
zip_long R (x ∷ xs) [] h = absurd h
zip_long R (x ∷ xs) (y ∷ ys) h = ap suc (zip_long R xs ys h.1)

state_at : (ss : List LeafState) (k : ℕ) (s : LeafState) → slice_get ss k ≡ Some s
    → leaf_of ss k ≡ s
state_at [] k s e = absurd (none_some e)
state_at (x ∷ xs) zero s e = some_same x s e
state_at (x ∷ xs) (suc k) s e = state_at xs k s e

within : {A : Type 0} (xs : List A) (k : ℕ) (x : A) → slice_get xs k ≡ Some x → k < length xs
within [] k x e = absurd (none_some e)
within (y ∷ ys) zero x e = omega arith
within (y ∷ ys) (suc k) x e = omega (arith, within ys k x e)

-- the leaf of a number and its state
pub record Sits (tree : Tree) (states : List LeafState) (k : ℕ) : Type 0 where
  pub leaf : Leaf
  pub state : LeafState
  pub leaf_there : slice_get (leaves tree) k ≡ Some leaf
  pub state_there : slice_get states k ≡ Some state
  pub fits : Fits leaf state
  pub is : leaf_of states k ≡ state
  pub inside : k < length states

pub sits : (m : Model) (settings : Settings) (states : List LeafState) (k : ℕ)
    → FitsTree (tree_of m settings) states → IsLeafOf m k → Sits (tree_of m settings) states k
sits m settings states k fits there =
    let l = appended.leaf_of m k settings there in
    let s = zip_there Fits (leaves (tree_of m settings)) states k l.0 fits l.1 in
    record {
      leaf = l.0;
      state = s.0;
      leaf_there = l.1;
      state_there = s.1;
      fits = s.2;
      is =
          state_at states k s.0 s.1;
      inside = within states k s.0 s.1;
    }

pub cell_sits : (m : Model) (settings : Settings) (states : List LeafState) (k group cell : ℕ)
    → FitsTree (tree_of m settings) states → IsLeafOf m k → IsPlaceOf m k (at.Cell group cell)
    → IsTrue (is_cell_state (leaf_of states k))
cell_sits m settings states k group cell fits there place =
    let s = sits m settings states k fits there in
    subst (λ x. IsTrue (is_cell_state x)) (sym s.is) (by (slice_get (groups (tree_of m settings)) group)
    s.leaf s.state s.fits (place settings s.leaf s.leaf_there))
  where
    by : (o : Option Group) (l : Leaf) (x : LeafState) → Fits l x → IsCellIn o cell l
        → IsTrue (is_cell_state x)
    by o (atomic_leaf name class words) x fit h = absurd h
    by o (cell_leaf g first n) (box_state b) fit h = absurd fit
    by o (cell_leaf g first n) (cell_state c) fit h = refl

pub box_sits : (m : Model) (settings : Settings) (states : List LeafState) (k : ℕ) (box : BoxNo)
    → FitsTree (tree_of m settings) states → IsLeafOf m k → IsPlaceOf m k (at.Atomic box)
    → IsTrue (is_box (leaf_of states k))
box_sits m settings states k box fits there place =
    let s = sits m settings states k fits there in
    subst (λ x. IsTrue (is_box x)) (sym s.is)
    (by s.leaf s.state s.fits (place settings s.leaf s.leaf_there))
  where
    by : (l : Leaf) (x : LeafState) → Fits l x → HasBox (settings box.0) l → IsTrue (is_box x)
    by (atomic_leaf name class words) (box_state b) fit h = refl
    by (atomic_leaf name class words) (cell_state c) fit h = absurd fit
    by (cell_leaf g first n) x fit h = absurd h

-- ---- one line behind another

-- a line and its end
pub line_made : (states : List LeafState) (k : ℕ) (l : Leaf) (s : LeafState) (old new1 new2 : Bytes)
    → slice_get states k ≡ Some s → new1 ≡ old ++ leaf_line l (leaf_of states k) → new2 ≡ new1
    ++ codes "\n" → new2 ≡ old ++ line_ended (l, s)
line_made states k l s old new1 new2 there a b =
    b ∙ ap (λ x. x ++ codes "\n") a ∙ append_assoc old (leaf_line l (leaf_of states k)) (codes "\n")
    ∙ ap (λ x. old ++ line_ended (l, x)) (state_at states k s there)

zip_more : (ls : List Leaf) (ss : List LeafState) (k : ℕ) (l : Leaf) (s : LeafState)
    → slice_get ls k ≡ Some l → slice_get ss k ≡ Some s
    → take (suc k) (zip ls ss) ≡ take k (zip ls ss) ++ (l, s) ∷ []
zip_more [] ss k l s e f = absurd (none_some e)
zip_more (x ∷ xs) [] k l s e f = absurd (none_some f)
zip_more (x ∷ xs) (y ∷ ys) zero l s e f = ap (λ z. (z, y) ∷ []) (some_same x l e)
    ∙ ap (λ z. (l, z) ∷ []) (some_same y s f)
zip_more (x ∷ xs) (y ∷ ys) (suc k) l s e f = ap (λ zs. (x, y) ∷ zs) (zip_more xs ys k l s e f)

-- the line of one more leaf, behind those of the leaves before it
pub one_more : (m : Model) (settings : Settings) (states : List LeafState) (k : ℕ)
    (start old new : Bytes) → FitsTree (tree_of m settings) states → IsLeafOf m k → old ≡ start
    ++ flat_map line_ended (take k (zip (leaves (tree_of m settings)) states))
    → ((l : Leaf) (s : LeafState) → slice_get (leaves (tree_of m settings)) k ≡ Some l
    → slice_get states k ≡ Some s → new ≡ old ++ line_ended (l, s))
    → new ≡ start ++ flat_map line_ended (take (k + 1) (zip (leaves (tree_of m settings)) states))
one_more m settings states k start old new fits there so_far more =
    let x = sits m settings states k fits there in
    let ps = zip (leaves (tree_of m settings)) states in
    more x.leaf x.state x.leaf_there x.state_there
    ∙ ap (λ b. b ++ line_ended (x.leaf, x.state)) so_far
    ∙ append_assoc start (flat_map line_ended (take k ps)) (line_ended (x.leaf, x.state))
    ∙ ap (λ b. start ++ b) (ap (λ b. flat_map line_ended (take k ps)
    ++ b) (sym (append-nil (line_ended (x.leaf, x.state))))
    ∙ sym (flat_map-append line_ended (take k ps) ((x.leaf, x.state) ∷ [])))
    ∙ ap (λ ys. start ++ flat_map line_ended ys)
    (sym (zip_more (leaves (tree_of m settings)) states k x.leaf x.state x.leaf_there
    x.state_there))
    ∙ ap (λ n. start ++ flat_map line_ended (take n ps)) (next k)
  where
    next : (k : ℕ) → suc k ≡ k + 1
    next k = omega arith

zip_short : (ls : List Leaf) (ss : List LeafState) → length (zip ls ss) ≤ length ls
zip_short [] ss = omega arith
zip_short (l ∷ ls) [] = omega arith
zip_short (l ∷ ls) (s ∷ ss) = omega (arith, zip_short ls ss)

-- behind the last leaf
pub all_lines : (m : Model) (settings : Settings) (states : List LeafState) (k : ℕ)
    (start new : Bytes) → leaf_count (tree_of m settings) ≤ k → new ≡ start
    ++ flat_map line_ended (take k (zip (leaves (tree_of m settings)) states)) → new ≡ start
    ++ lines_of (leaves (tree_of m settings)) states
all_lines m settings states k start new past h =
    h ∙ ap (λ ys. start ++ flat_map line_ended ys)
    (take_all k (zip (leaves (tree_of m settings)) states)
    (omega (
      arith,
      past,
      zip_short (leaves (tree_of m settings)) states,
      leaves-length (tree_of m settings) 0,
    )))

-- there are as many states as leaves
pub as_many : (m : Model) (settings : Settings) (states : List LeafState)
    → FitsTree (tree_of m settings) states → length states ≡ leaf_count (tree_of m settings)
as_many m settings states fits = let n = zip_long Fits (leaves (tree_of m settings)) states fits in
    let k = leaves-length (tree_of m settings) 0 in omega (arith, n, k)

-- ---- the whole text

each_ended : (ps : List (Leaf × LeafState))
    → flat_map line_with_end (map (λ (p : Leaf × LeafState). leaf_line p.0 p.1) ps) ≡ flat_map line_ended ps
each_ended [] = refl
each_ended (p ∷ ps) = ap (λ b. line_with_end (leaf_line p.0 p.1) ++ b) (each_ended ps)

head_parts : (old t : Bytes) → ((old ++ codes "state 1\nat ") ++ t) ++ codes "\n"
    ≡ old ++ (codes "state 1\n" ++ ((codes "at " ++ t) ++ codes "\n"))
head_parts old t = simp append_assoc

pub head_made : (t : ℕ) (old new1 new2 new3 : Bytes) → new1 ≡ old ++ codes "state 1\nat "
    → new2 ≡ new1 ++ time_text t → new3 ≡ new2 ++ codes "\n" → new3 ≡ old ++ head_of t
head_made t old new1 new2 new3 a b c =
    c ∙ ap (λ x. x ++ codes "\n") (b ∙ ap (λ x. x ++ time_text t) a) ∙ head_parts old (time_text t)

pub text_made : (tree : Tree) (t : ℕ) (states : List LeafState) (old new1 new2 new3 : Bytes)
    → new1 ≡ old ++ head_of t → new2 ≡ new1 ++ lines_of (leaves tree) states
    → new3 ≡ new2 ++ codes "end\n" → new3 ≡ old ++ text_of_state tree t states
text_made tree t states old new1 new2 new3 a b c =
    let text = lines_of (leaves tree) states in
    let head = head_of t in
    let last = flat_map-append line_with_end (map (λ (p : Leaf × LeafState). leaf_line p.0 p.1)
    (zip (leaves tree) states)) (codes "end" ∷ []) in
    c ∙ ap (λ x. x ++ codes "end\n") (b ∙ ap (λ x. x ++ text) a)
    ∙ append_assoc (old ++ head) text (codes "end\n") ∙ append_assoc old head (text ++ codes "end\n")
    ∙ ap (λ x. old ++ (head ++ x))
    (ap (λ x. x ++ codes "end\n") (sym (each_ended (zip (leaves tree) states))) ∙ sym last)
    ∙ ap (λ x. old ++ x) (append_assoc (line_with_end (codes "state 1")) (line_with_end (at_line t))
    (flat_map line_with_end (leaf_lines (leaves tree) states)))

-- ---- how many leaves there are

-- the leaves of a model that is handed out
pub counted : (m n : Model) (settings : Settings) (count : ℕ) → n ≡ m
    → ((s : Settings) → count ≡ leaf_count (tree_of n s)) → count ≡ leaf_count (tree_of m settings)
counted m n settings count same h =
    subst (λ (x : Model). count ≡ leaf_count (tree_of x settings)) same (h settings)
