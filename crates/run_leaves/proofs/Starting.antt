-- The places of leaves at the start, and how the leaves stand there.
use Rattle.std.proofs.Common.{◌≡◌, ℕ, zero, suc, ◌+◌, ◌<◌, true, false, Option, Some, None, List, [], ◌∷◌, map, length, refl, sym, ◌∙◌, ap, subst, arith}
use Rattle.std.specs.Prelude.{slice_get, slice_index_or, ℤ}
use Rattle.std.specs.Option.{unwrap_or}
use Rattle.std.specs.List.{All}
use Rattle.std.proofs.lemmas.List.{length-map}
use Rattle.quantity.specs.declared.value.Value.{Value}
use Rattle.quantity.specs.declared.value.Value.TheVariants.{Undefined}
use Rattle.quantity.specs.Bytes.{has_repeat}
use Rattle.cell_grid.specs.Space.{cell_count}
use Rattle.atomic_face.specs.declared.class.Class.{Class}
use Rattle.atomic_face.specs.declared.stock.BoxNo.{BoxNo}
use Rattle.atomic_face.specs.StockView.{Stocked}
use Rattle.model_leaves.specs.declared.table.Model.{Model}
use Rattle.model_leaves.specs.declared.leaves.LeafAt.{LeafAt}
use Rattle.model_leaves.specs.declared.leaves.LeafAt.TheVariants.{Atomic, Cell}
use Rattle.model_tree.specs.Tree.{Word, Tree, Group, Leaf, atomic_leaf, cell_leaf, leaves, groups}
use Rattle.model_tree.specs.Sound.{totals, is_sound_group, is_sound_model}
use Rattle.model_leaves.specs.Leaves.{Settings, no_settings, IsLeafOf, HasBox, IsCellIn, StandsAt}
use Rattle.model_leaves.proofs.Read.{leaves-length}
use Rattle.model_leaves.specs.Boxes.{StartedAs, BoxesStand}
use Rattle.run_model.specs.CellStep.{CellState, initial_cell}
use Rattle.run_model.specs.Cycle.{box_state, cell_state, initial_leaf}
use Rattle.cell_engine.specs.Cells.{Cells}
use Rattle.cell_engine.proofs.Made.{numbers}
use Rattle.cell_table.specs.Told.{cell_at}
use Rattle.run_leaves.specs.Seated.{settings_in, settings_at, tree_at, box_there, cell_there, state_there, states_in, layouts_in, sizes_in, IsBoxPlace, IsCellPlace, Places, HasPort, HavePorts}
use Rattle.run_leaves.specs.Placed.{ArePlacesOf, AreStoresOf, HasSoundGroups}
use Rattle.run_leaves.proofs.Places.{some-is, get-map, get-within, within-get, found-at}
use Rattle.run_leaves.proofs.Joined.{maps-same}
use Rattle.run_leaves.proofs.Groups.{groups-same, group-once, in-run, first-once}
use Rattle.run_leaves.proofs.SameSettings.{same-tree}
use Rattle.run_leaves.proofs.SoundParts.{sound-parts, group-sound}
use Rattle.model_tree.specs.declared.component.Component.TheVariants.{Coupled as in_tree}
use Rattle.cell_engine.specs.Layout.{StandsFor}

-- ---- where one leaf stands

box-leaf : (words : List ℤ) (x : Leaf) → HasBox words x → (name : Word) × (class : Class) × (x ≡ atomic_leaf name class words)
box-leaf words (atomic_leaf name class own) h = (name, class, ap (atomic_leaf name class) h)
box-leaf words (cell_leaf g f c) h = absurd h

record CellIn (o : Option Group) (c : ℕ) (x : Leaf) : Type 0 where
  pub group : Group
  pub first : ℕ
  pub is : x ≡ cell_leaf group first c
  pub there : o ≡ Some group

cell-in : (o : Option Group) (c : ℕ) (x : Leaf) → IsCellIn o c x → CellIn o c x
cell-in None c (atomic_leaf name class own) h = absurd h
cell-in (Some g) c (atomic_leaf name class own) h = absurd h
cell-in None c (cell_leaf g f n) h = absurd h
cell-in (Some g) c (cell_leaf h f n) same =
    record { group = h; first = f; is = ap (cell_leaf h f) same.1; there = ap Some (sym same.0) }

-- the box of a leaf that has one
stocked : (o : Option Stocked) (x : Leaf) → StartedAs o x → (s : Stocked) × (o ≡ Some s)
stocked None x h = absurd h
stocked (Some s) x h = (s, refl)

box-starts : (o : Option Stocked) (x : Leaf) → StartedAs o x → box_there o ≡ initial_leaf x
box-starts None x h = absurd h
box-starts (Some s) (atomic_leaf name class words) h = ap (λ (b : Stocked). box_state b.box) h
box-starts (Some s) (cell_leaf g f c) h = absurd h

-- a cell of a store at its start
cell-starts : (g : Group) (vs : List Value) (c : ℕ) → c < length vs → cell_at (map (initial_cell g) vs) c ≡ initial_cell g (unwrap_or (slice_get vs c) Undefined)
cell-starts g [] c lt = absurd (omega (arith, lt))
cell-starts g (v ∷ vs) zero lt = refl
cell-starts g (v ∷ vs) (suc c) lt = cell-starts g vs c (omega (arith, lt))

initial-ports : (g : Group) (vs : List Value) → All HasPort (map (initial_cell g) vs)
initial-ports g [] k d lt = absurd (omega (arith, lt))
initial-ports g (v ∷ vs) zero d lt = omega arith
initial-ports g (v ∷ vs) (suc k) d lt = initial-ports g vs k d (omega (arith, lt))

store-size : (g : Group) (s : Cells) → s.cells ≡ map (initial_cell g) g.initial → is_sound_group g ≡ true → length s.cells ≡ cell_count g.space
store-size g s cells sound = ap length cells ∙ length-map g.initial (initial_cell g) ∙ (numbers g sound).cells

-- the store of a group
record HasStore (stores : List Cells) (n : ℕ) (g : Group) : Type 0 where
  pub store : Cells
  pub kept : slice_get stores n ≡ Some store
  pub layout : StandsFor g store.layout
  pub cells : store.cells ≡ map (initial_cell g) g.initial

-- a leaf that is a cell of the group of this number
record CellAt (tree : Tree) (l n c : ℕ) : Type 0 where
  pub group : Group
  pub first : ℕ
  pub numbered : slice_get (groups tree) n ≡ Some group
  pub leaf : slice_get (leaves tree) l ≡ Some (cell_leaf group first c)

-- ---- the groups of a sound model

pub sound-groups : (m : Model) (stock : List Stocked) → is_sound_model (tree_at m (settings_in stock)) ≡ true → HasSoundGroups m
sound-groups m stock sound = λ s n g e.
    let tree = tree_at m (settings_in stock) in
    group-sound tree (sound-parts tree sound).parts n g
    (ap (λ (gs : List Group). slice_get gs n) (groups-same (in_tree m.top) (settings_at (settings_in stock)) s) ∙ e)

-- ---- all leaves

module _ (m : Model) (stock : List Stocked) (seats : List LeafAt) (stores : List Cells) (sound : is_sound_model (tree_at m (settings_in stock)) ≡ true) (stand : BoxesStand stock m) (placed : ArePlacesOf m seats) (stored : AreStoresOf m stores) where
  abbrev tree : Tree
  tree = tree_at m (settings_in stock)

  abbrev settings : Settings
  settings = settings_at (settings_in stock)

  long : length seats ≡ length (leaves tree)
  long = placed.long settings ∙ sym (leaves-length tree 0)

  leaf-at : (l : ℕ) (a : LeafAt) → slice_get seats l ≡ Some a → (x : Leaf) × (slice_get (leaves tree) l ≡ Some x)
  leaf-at l a e = let lt = get-within seats l a e in found-at (leaves tree) l (omega (arith, lt, long))

  is-leaf : (l : ℕ) (a : LeafAt) → slice_get seats l ≡ Some a → IsLeafOf m l
  is-leaf l a e =
      let lt = get-within seats l a e in
      let many = placed.long no_settings in
      omega (arith, lt, many)

  names-once : has_repeat (totals tree).names ≡ false
  names-once = (sound-parts tree sound).names

  sure : (n : ℕ) (g : Group) → slice_get (groups tree) n ≡ Some g → is_sound_group g ≡ true
  sure n g e = group-sound tree (sound-parts tree sound).parts n g e

  -- ---- boxes

  started-as : (l : ℕ) (at : BoxNo) (x : Leaf) → slice_get seats l ≡ Some (Atomic at) → slice_get (leaves tree) l ≡ Some x → StartedAs (slice_get stock at.0) x
  started-as l at x e there =
      stand.started l at x (is-leaf l (Atomic at) e) (placed.each l (Atomic at) e) (ap (λ (t : Tree). slice_get (leaves t) l) (sym (same-tree m stock)) ∙ there)

  box-place : (l : ℕ) (at : BoxNo) → slice_get seats l ≡ Some (Atomic at) → IsBoxPlace tree (settings_in stock) l at
  box-place l at e =
      let x = leaf-at l (Atomic at) e in
      let box = box-leaf (settings at.0) x.0 (placed.each l (Atomic at) e settings x.0 x.1) in
      let s = stocked (slice_get stock at.0) x.0 (started-as l at x.0 e x.1) in
      let lt = get-within stock at.0 s.0 s.1 in
      let many = length-map stock (λ (b : Stocked). b.box.settings) in
      record {
        name = box.0;
        class = box.1;
        words = settings at.0;
        leaf = x.1 ∙ ap Some box.2;
        inside = omega (arith, lt, many);
      }

  -- ---- cells

  has-store : (n : ℕ) (g : Group) → slice_get (groups tree) n ≡ Some g → HasStore stores n g
  has-store n g e =
      let lt = get-within (groups tree) n g e in
      let many = stored.long settings in
      let s = found-at stores n (omega (arith, lt, many)) in
      let own = stored.each n s.0 s.1 in
      let same : own.group ≡ g = some-is own.group g (sym (own.numbered settings) ∙ e) in
      record {
        store = s.0;
        kept = s.1;
        layout = subst (λ (h : Group). StandsFor h s.0.layout) same own.layout;
        cells = subst (λ (h : Group). s.0.cells ≡ map (initial_cell h) h.initial) same own.cells;
      }

  cell-at : (l n c : ℕ) → slice_get seats l ≡ Some (Cell n c) → CellAt tree l n c
  cell-at l n c e =
      let x = leaf-at l (Cell n c) e in
      let cell = cell-in (slice_get (groups tree) n) c x.0 (placed.each l (Cell n c) e settings x.0 x.1) in
      record {
        group = cell.group;
        first = cell.first;
        numbered = cell.there;
        leaf = x.1 ∙ ap Some cell.is;
      }

  -- the place of a cell of a group
  seat-of : (n : ℕ) (g : Group) (f k : ℕ) → slice_get (groups tree) n ≡ Some g → (a : LeafAt) → StandsAt tree settings a (cell_leaf g f k) → a ≡ Cell n k
  seat-of n g f k numbered (Atomic at) h = absurd h
  seat-of n g f k numbered (Cell o d) h =
      let cell = cell-in (slice_get (groups tree) o) d (cell_leaf g f k) h in
      let group : cell.group ≡ g = cc (cell.is) in
      let number : d ≡ k = cc (cell.is) in
      let same : o ≡ n = group-once tree o n g names-once (cell.there ∙ ap Some group) numbered in
      λ i. Cell (same i) (number i)

  seat-there : (n : ℕ) (g : Group) (f k p : ℕ) → slice_get (groups tree) n ≡ Some g → slice_get (leaves tree) p ≡ Some (cell_leaf g f k) → slice_get seats p ≡ Some (Cell n k)
  seat-there n g f k p numbered there =
      let lt = get-within (leaves tree) p (cell_leaf g f k) there in
      let a = found-at seats p (omega (arith, lt, long)) in
      a.1 ∙ ap Some (seat-of n g f k numbered a.0 (placed.each p a.0 a.1 settings (cell_leaf g f k) there))

  cell-place : (l n c : ℕ) → slice_get seats l ≡ Some (Cell n c) → IsCellPlace tree seats (layouts_in stores) (sizes_in stores) l n c
  cell-place l n c e =
      let cell = cell-at l n c e in
      let run = in-run tree 0 l cell.group cell.first c cell.leaf in
      let own = has-store n cell.group cell.numbered in
      let right = sure n cell.group cell.numbered in
      let low = run.first_is in
      let high = run.place_is in
      record {
        group = cell.group;
        first = cell.first;
        layout = own.store.layout;
        leaf = cell.leaf;
        sound = right;
        kept = get-map (λ (s : Cells). s.layout) stores n own.store own.kept;
        stands = own.layout;
        size = get-map (λ (s : Cells). length s.cells) stores n own.store own.kept ∙ ap Some (store-size cell.group own.store own.cells right);
        inside = run.inside;
        number = omega (arith, low, high);
        others = λ k lt.
            let at : cell.first + k ≡ run.place + k = omega (arith, low) in
            seat-there n cell.group cell.first k (cell.first + k) cell.numbered (ap (slice_get (leaves tree)) at ∙ run.others k lt);
      }

  stand-apart : (j k : ℕ) (a : LeafAt) → slice_get seats j ≡ Some a → slice_get seats k ≡ Some a → j ≡ k
  stand-apart j k (Atomic at) e there =
      stand.apart j k at (is-leaf j (Atomic at) e) (is-leaf k (Atomic at) there) (placed.each j (Atomic at) e) (placed.each k (Atomic at) there)
  stand-apart j k (Cell n c) e there =
      let p = cell-at j n c e in
      let q = cell-at k n c there in
      let same : q.group ≡ p.group = some-is q.group p.group (sym q.numbered ∙ p.numbered) in
      let other : slice_get (leaves tree) k ≡ Some (cell_leaf p.group q.first c) = q.leaf ∙ ap (λ (g : Group). Some (cell_leaf g q.first c)) same in
      let first = first-once tree names-once 0 j k p.group p.first q.first c c p.leaf other in
      let r = in-run tree 0 j p.group p.first c p.leaf in
      let s = in-run tree 0 k p.group q.first c other in
      omega (arith, first, r.first_is, r.place_is, s.first_is, s.place_is)

  -- ---- what holds of the leaves

  pub places-stand : Places tree seats (settings_in stock) (layouts_in stores) (sizes_in stores)
  places-stand =
      record {
        long = placed.long settings;
        boxes = box-place;
        cells = cell-place;
        apart = stand-apart;
      }

  pub have-ports : HavePorts stores
  have-ports n d lt =
      let own = stored.each n (slice_index_or stores n d) (within-get stores n d lt) in
      subst (λ (cs : List CellState). All HasPort cs) (sym own.cells) (initial-ports own.group own.group.initial)

  starts-as : (l : ℕ) (a : LeafAt) (x : Leaf) → slice_get seats l ≡ Some a → slice_get (leaves tree) l ≡ Some x → state_there stock stores a ≡ initial_leaf x
  starts-as l (Atomic at) x e there = box-starts (slice_get stock at.0) x (started-as l at x e there)
  starts-as l (Cell n c) x e there =
      let cell = cell-at l n c e in
      let own = has-store n cell.group cell.numbered in
      let is : x ≡ cell_leaf cell.group cell.first c = some-is x (cell_leaf cell.group cell.first c) (sym there ∙ cell.leaf) in
      let run = in-run tree 0 l cell.group cell.first c cell.leaf in
      let size = (numbers cell.group (sure n cell.group cell.numbered)).cells in
      let below = run.inside in
      ap (λ (o : Option Cells). cell_there o c) own.kept
      ∙ ap (λ (cs : List CellState). cell_state (cell_at cs c)) own.cells
      ∙ ap cell_state (cell-starts cell.group cell.group.initial c (omega (arith, below, size)))
      ∙ ap initial_leaf (sym is)

  pub states-start : states_in stock stores seats ≡ map initial_leaf (leaves tree)
  states-start = maps-same (state_there stock stores) initial_leaf seats (leaves tree) long starts-as
