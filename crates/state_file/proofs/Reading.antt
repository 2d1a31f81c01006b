-- Leaves that are read one after another: what a loop over the lines keeps.
use Rattle.std.proofs.Common.{◌≡◌, ℕ, zero, suc, ◌+◌, ◌<◌, ◌≤◌, Bool, true, false, Option, Some}
use Rattle.std.proofs.Common.{None, List, [], ◌∷◌, ◌++◌, refl, sym, ap, ◌∙◌, subst, append_assoc}
use Rattle.std.proofs.Common.{append-nil, arith, length, take, drop, slice_get}
use Rattle.std.specs.Prelude.{Result, Ok, Err, slice_set, IsSomeAnd, IsTrue}
use Rattle.std.proofs.lemmas.List.{take_all}
use Rattle.quantity.specs.Bytes.{Bytes}
use Rattle.model_tree.specs.Tree.{Leaf, leaves, leaf_count}
use Rattle.model_leaves.specs.declared.table.Model.{Model}
use Rattle.model_leaves.specs.Leaves.{IsLeafOf, Settings, no_settings}
use Rattle.model_leaves.specs.Models.{tree_of}
use Rattle.model_tree.specs.Sound.{is_sound_model}
use Rattle.model_leaves.proofs.Read.{leaves-length}
use Rattle.run_model.specs.Cycle.{LeafState}
use Rattle.run_model.specs.Fitting.{Fits, FitsTree, OfLeaf}
use Rattle.run_model.proofs.Basics.{none_some, some_same}
use Rattle.text_forms.specs.declared.refusal.StateRefusal.{StateRefusal}
use Rattle.text_forms.specs.declared.refusal.StateRefusal.TheVariants.{BadStateLine}
use Rattle.text_forms.specs.StateOf.{leaves_in, read_leaf}
use Rattle.sparse_cycle.specs.Sparse.{leaf_of}
use Rattle.run_leaves.specs.Seated.{settings_at}
use Rattle.run_leaves.specs.Standing.{Standing, tree_in}
use Rattle.flat_run.specs.Changes.{with_leaf_state}
use Rattle.state_lines.specs.declared.sizes.CellSize.{CellSize}
use Rattle.state_lines.specs.Parts.{ended_at, line_in, parts_of, refused_at}
use Rattle.state_lines.specs.Sizes.{AreSizesOf}
use Rattle.state_file.specs.Taken.{AreTaken, CanTake, HasThese, IsNext, with_states}
use Rattle.state_lines.proofs.Heads.{line_none, line_some}
use Rattle.state_file.proofs.Lines.{as_many, counted, sits}

abbrev Read : Type 0
Read = Result (List LeafState) StateRefusal

-- these states, and then those that are read
abbrev pub behind : List LeafState → Read → Read
behind ss (Ok xs) = Ok (ss ++ xs)
behind ss (Err e) = Err e

-- a state before those that are read
abbrev before : LeafState → Read → Read
before s r = elim r as (λ x. Read) [ Err e ↦ Err e | Ok xs ↦ Ok (s ∷ xs) ]

-- the line in front is read, and the others are left
read_next : (n t : ℕ) (l : Leaf) (ls : List Leaf) (parts rest : List Bytes) (ss : List LeafState)
    (s : LeafState) → line_in (read_leaf t l) parts ≡ Some (s, rest)
    → behind ss (leaves_in n t (l ∷ ls) parts)
    ≡ behind (ss ++ s ∷ []) (leaves_in (n + 1) t ls rest)
read_next n t l ls parts rest ss s e =
    ap (behind ss) (line_some n (read_leaf t l) parts
    (λ s rest. before s (leaves_in (n + 1) t ls rest)) s rest e)
    ∙ by (leaves_in (n + 1) t ls rest)
  where
    by : (r : Read) → behind ss (before s r) ≡ behind (ss ++ s ∷ []) r
    by (Err why) = refl
    by (Ok xs) = ap (λ ys. let x : Read = Ok ys in x) (sym (append_assoc ss (s ∷ []) xs))

-- where it isn't, it is refused
not_read : (n t : ℕ) (l : Leaf) (ls : List Leaf) (parts : List Bytes) (ss : List LeafState)
    → line_in (read_leaf t l) parts ≡ None
    → behind ss (leaves_in n t (l ∷ ls) parts) ≡ Err (BadStateLine n)
not_read n t l ls parts ss e =
    ap (behind ss) (line_none n (read_leaf t l) parts
    (λ s rest. before s (leaves_in (n + 1) t ls rest)) e)

-- ---- lists, place by place

drop_at : {A : Type 0} (xs : List A) (k : ℕ) (x : A) → slice_get xs k ≡ Some x
    → drop k xs ≡ x ∷ drop (suc k) xs
drop_at [] k x e = absurd (none_some e)
drop_at (y ∷ ys) zero x e = ap (λ z. z ∷ ys) (some_same y x e)
drop_at (y ∷ ys) (suc k) x e = drop_at ys k x e

drop_more : {A : Type 0} (xs ys : List A) (k : ℕ) → drop k xs ≡ drop k ys
    → drop (suc k) xs ≡ drop (suc k) ys
drop_more {A = A} xs ys k e = by xs k ∙ ap (drop 1) e ∙ sym (by ys k)
  where
    by : (xs : List A) (k : ℕ) → drop (suc k) xs ≡ drop 1 (drop k xs)
    by [] zero = refl
    by [] (suc k) = refl
    by (x ∷ xs) zero = refl
    by (x ∷ xs) (suc k) = by xs k

set_take : {A : Type 0} (xs : List A) (k : ℕ) (x : A) → k < length xs
    → take (suc k) (slice_set xs k x) ≡ take k xs ++ x ∷ []
set_take [] k x h = absurd (omega (arith, h))
set_take (y ∷ ys) zero x h = refl
set_take (y ∷ ys) (suc k) x h = ap (λ zs. y ∷ zs) (set_take ys k x (omega (arith, h)))

set_drop : {A : Type 0} (xs : List A) (k : ℕ) (x : A)
    → drop (suc k) (slice_set xs k x) ≡ drop (suc k) xs
set_drop [] k x = refl
set_drop (y ∷ ys) zero x = refl
set_drop (y ∷ ys) (suc k) x = set_drop ys k x

set_length : {A : Type 0} (xs : List A) (k : ℕ) (x : A) → length (slice_set xs k x) ≡ length xs
set_length [] k x = refl
set_length (y ∷ ys) zero x = refl
set_length (y ∷ ys) (suc k) x = ap suc (set_length ys k x)

-- the state at a place is that of a list that is the same from there on
same_place : (xs ys : List LeafState) (k : ℕ) → drop k xs ≡ drop k ys → leaf_of xs k ≡ leaf_of ys k
same_place xs ys k e = by xs k ∙ ap (λ zs. leaf_of zs 0) e ∙ sym (by ys k)
  where
    by : (xs : List LeafState) (k : ℕ) → leaf_of xs k ≡ leaf_of (drop k xs) 0
    by [] zero = refl
    by [] (suc k) = refl
    by (x ∷ xs) zero = refl
    by (x ∷ xs) (suc k) = by xs k

-- ---- the leaves that are read so far

-- the first k leaves have the states of their lines, and the others those that they had
pub record ReadSo (t : ℕ) (text : Bytes) (s : Standing) (k : ℕ) (n : Standing) (left : Bytes) : Type
    0 where
  pub keeps : n ≡ with_states s n.state.leaf_states
  pub rest : drop k n.state.leaf_states ≡ drop k s.state.leaf_states
  pub long : length n.state.leaf_states ≡ length s.state.leaf_states
  pub read : leaves_in 3 t (leaves (tree_in s)) (parts_of text)
      ≡ behind (take k n.state.leaf_states) (leaves_in (3 + k) t (drop k (leaves (tree_in s)))
      (parts_of left))

pub none_read : (t : ℕ) (text : Bytes) (s : Standing) → ReadSo t text s 0 s text
none_read t text s = record {
  keeps = refl;
  rest = refl;
  long = refl;
  read =
      sym (by (leaves_in 3 t (leaves (tree_in s)) (parts_of text)));
}
  where
    by : (r : Read) → behind [] r ≡ r
    by (Ok xs) = refl
    by (Err e) = refl

-- ---- one leaf

-- the leaf that is there, with its state before
pub record Here (s n : Standing) (k : ℕ) : Type 0 where
  pub leaf : Leaf
  pub there : slice_get (leaves (tree_in s)) k ≡ Some leaf
  pub fits : Fits leaf (leaf_of n.state.leaf_states k)
  pub inside : k < length n.state.leaf_states

pub here : (t : ℕ) (text : Bytes) (s : Standing) (k : ℕ) (n : Standing) (left : Bytes)
    → FitsTree (tree_in s) s.state.leaf_states → IsLeafOf s.model k → ReadSo t text s k n left
    → Here s n k
here t text s k n left fits inside so =
    let x = sits s.model (settings_at s.settings) s.state.leaf_states k fits inside in
    record {
      leaf = x.leaf;
      there = x.leaf_there;
      fits = subst (Fits x.leaf) (sym x.is
          ∙ sym (same_place n.state.leaf_states s.state.leaf_states k so.rest)) x.fits;
      inside = subst (λ j. k < j) (sym so.long) x.inside;
    }

-- there is such a leaf of a model that is handed out
pub is_leaf : (m n : Model) (count k : ℕ) → n ≡ m
    → ((s : Settings) → count ≡ leaf_count (tree_of n s)) → k < count → IsLeafOf m k
is_leaf m n count k same h lt =
    subst (λ j. k < j) (counted m n no_settings count same h) lt

-- the model is the one that it was
pub same_model : (t : ℕ) (text : Bytes) (s : Standing) (k : ℕ) (n : Standing) (left : Bytes)
    → ReadSo t text s k n left → n.model ≡ s.model
same_model t text s k n left so = ap (λ (x : Standing). x.model) so.keeps

pub same_tree : (t : ℕ) (text : Bytes) (s : Standing) (k : ℕ) (n : Standing) (left : Bytes)
    → ReadSo t text s k n left → tree_in n ≡ tree_in s
same_tree t text s k n left so = ap tree_in so.keeps

-- what holds of the leaf that is there
pub at_here : (s n : Standing) (k : ℕ) (x : Here s n k) (P : Leaf → Type 0) → tree_in n ≡ tree_in s
    → OfLeaf (tree_in n) k P → P x.leaf
at_here s n k x P same h =
    by (slice_get (leaves (tree_in s)) k) x.there (subst (λ tree. OfLeaf tree k P) same h)
  where
    by : (o : Option Leaf) → o ≡ Some x.leaf → IsSomeAnd o P → P x.leaf
    by None e h = absurd h
    by (Some l) e h = subst P (some_same l x.leaf e) h

pub of_here : (s n : Standing) (k : ℕ) (x : Here s n k) (P : Leaf → Type 0) → tree_in n ≡ tree_in s
    → P x.leaf → OfLeaf (tree_in n) k P
of_here s n k x P same h =
    subst (λ tree. OfLeaf tree k P) (sym same) (subst (λ o. IsSomeAnd o P) (sym x.there) h)

-- the next leaf may be taken
pub can_take : (t : ℕ) (text : Bytes) (s : Standing) (k : ℕ) (n : Standing) (left : Bytes)
    (sizes : List CellSize) → (s.state.last ≡ None) × (s.stopped ≡ None)
    → IsTrue (is_sound_model (tree_in s)) → IsLeafOf s.model k → AreSizesOf s.model sizes
    → ReadSo t text s k n left → Here s n k → CanTake n sizes k
can_take t text s k n left sizes fresh sound there are so x =
    let tree = same_tree t text s k n left so in
    let model = sym (same_model t text s k n left so) in
    record {
      fresh = (
        ap (λ (x : Standing). x.state.last) so.keeps ∙ fresh.0,
        ap (λ (x : Standing). x.stopped) so.keeps ∙ fresh.1,
      );
      sound = subst (λ tree. IsTrue (is_sound_model tree)) (sym tree) sound;
      there = subst (λ (m : Model). IsLeafOf m k) model there;
      fits = of_here s n k x (λ l. Fits l (leaf_of n.state.leaf_states k)) tree x.fits;
      sizes_are = subst (λ (m : Model). AreSizesOf m sizes) model are;
    }

-- its line is read
one_next : (t : ℕ) (text : Bytes) (s : Standing) (k : ℕ) (n m : Standing) (left more : Bytes)
    → ReadSo t text s k n left → (x : Here s n k)
    → IsNext t k (parts_of left) n m (Some (parts_of more)) x.leaf → ReadSo t text s (suc k) m more
one_next t text s k n m left more so x next =
    let y = next.0 in
    let states = n.state.leaf_states in
    let now : m.state.leaf_states ≡ slice_set states k y =
    ap (λ (z : Standing). z.state.leaf_states) next.2 in
    let ls = drop (suc k) (leaves (tree_in s)) in
    record {
      keeps = next.2 ∙ ap (λ (z : Standing). with_leaf_state z k y) so.keeps
          ∙ ap (with_states s) (sym now);
      rest = ap (drop (suc k)) now ∙ set_drop states k y
          ∙ drop_more states s.state.leaf_states k so.rest;
      long = ap length now ∙ set_length states k y ∙ so.long;
      read = so.read
          ∙ ap (λ ls. behind (take k states) (leaves_in (3 + k) t ls (parts_of left)))
          (drop_at (leaves (tree_in s)) k x.leaf x.there)
          ∙ read_next (3 + k) t x.leaf ls (parts_of left) (parts_of more) (take k states) y next.1
          ∙ ap (λ ss. behind ss (leaves_in (3 + k + 1) t ls (parts_of more)))
          (sym (ap (take (suc k)) now ∙ set_take states k y x.inside))
          ∙ ap (λ j. behind (take (suc k) m.state.leaf_states)
          (leaves_in j t ls (parts_of more))) (on k);
    }
  where
    on : (k : ℕ) → 3 + k + 1 ≡ 3 + suc k
    on k = omega arith

pub one_more : (t : ℕ) (text : Bytes) (s : Standing) (k : ℕ) (n m : Standing) (left more : Bytes)
    → ReadSo t text s k n left → (x : Here s n k)
    → IsNext t k (parts_of left) n m (Some (parts_of more)) x.leaf → ReadSo t text s (k + 1) m more
one_more t text s k n m left more so x next =
    subst (λ j. ReadSo t text s j m more) (by k) (one_next t text s k n m left more so x next)
  where
    by : (k : ℕ) → suc k ≡ k + 1
    by k = omega arith

number : (k : ℕ) → 3 + k ≡ k + 3
number k = omega arith

-- its line is refused
pub not_next : (t : ℕ) (text : Bytes) (s : Standing) (k : ℕ) (n m : Standing) (left : Bytes)
    → ReadSo t text s k n left → (x : Here s n k) → IsNext t k (parts_of left) n m None x.leaf
    → leaves_in 3 t (leaves (tree_in s)) (parts_of text) ≡ Err (BadStateLine (k + 3))
not_next t text s k n m left so x next =
    so.read
    ∙ ap (λ ls. behind (take k n.state.leaf_states) (leaves_in (3 + k) t ls (parts_of left)))
    (drop_at (leaves (tree_in s)) k x.leaf x.there)
    ∙ not_read (3 + k) t x.leaf (drop (suc k) (leaves (tree_in s))) (parts_of left)
    (take k n.state.leaf_states) next
    ∙ ap (λ j. let r : Read = Err (BadStateLine j) in r) (number k)

-- ---- behind the last leaf

drop_all : {A : Type 0} (xs : List A) (k : ℕ) → length xs ≤ k → drop k xs ≡ []
drop_all [] zero h = refl
drop_all [] (suc k) h = refl
drop_all (x ∷ xs) zero h = absurd (omega (arith, h))
drop_all (x ∷ xs) (suc k) h = drop_all xs k (omega (arith, h))

all_read : (t : ℕ) (text : Bytes) (s : Standing) (k : ℕ) (n : Standing) (left : Bytes)
    (o : Option ℕ) → FitsTree (tree_in s) s.state.leaf_states → ReadSo t text s k n left
    → k ≡ leaf_count (tree_in s) → ended_at (k + 3) (parts_of left) ≡ refused_at o
    → leaves_in 3 t (leaves (tree_in s)) (parts_of text) ≡ behind n.state.leaf_states (refused_at o)
all_read t text s k n left o fits so last end =
    so.read
    ∙ ap (λ ls. behind (take k n.state.leaf_states) (leaves_in (3 + k) t ls (parts_of left)))
    (drop_all (leaves (tree_in s)) k (omega (arith, last, leaves-length (tree_in s) 0)))
    ∙ ap (λ ss. behind ss (ended_at (3 + k) (parts_of left)))
    (take_all k n.state.leaf_states (omega (
      arith,
      last,
      so.long,
      as_many s.model (settings_at s.settings) s.state.leaf_states fits,
    )))
    ∙ ap (λ j. behind n.state.leaf_states (ended_at j (parts_of left))) (number k)
    ∙ ap (behind n.state.leaf_states) end

pub all_taken : (t : ℕ) (text : Bytes) (s : Standing) (k : ℕ) (n : Standing) (left : Bytes)
    (o : Option ℕ) → FitsTree (tree_in s) s.state.leaf_states → ReadSo t text s k n left
    → k ≡ leaf_count (tree_in s) → ended_at (k + 3) (parts_of left) ≡ refused_at o
    → AreTaken s n (leaves_in 3 t (leaves (tree_in s)) (parts_of text)) o
all_taken t text s k n left (Some line) fits so last end =
    all_read t text s k n left (Some line) fits so last end
all_taken t text s k n left None fits so last end =
    subst (HasThese s n) (sym (all_read t text s k n left None fits so last end))
    (so.keeps ∙ ap (with_states s) (sym (append-nil n.state.leaf_states)))
