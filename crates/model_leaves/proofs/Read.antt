-- What is read from the table of a model.
use Rattle.std.proofs.Common.{◌≡◌, ℕ, ◌+◌, ◌<◌, ◌≤◌, true, Option, Some, None, List, [], ◌∷◌, map, length, take, drop, refl, sym, ap, ◌∙◌, append-nil, arith, subst, zero, suc, get_or}
use Rattle.std.specs.Prelude.{slice_get, ℤ, nat_le}
use Rattle.std.specs.Option.{option_map}
use Rattle.std.proofs.lemmas.List.{length-append, length-map, get_or_read}
use Rattle.std.proofs.lemmas.List.FromFn.{length-map-range_with_len}
use Rattle.std.proofs.lemmas.Option.{slice_get-map, slice_get_within, slice_get_read, unwrap_or-slice_get, same_Some, cond_some}
use Rattle.std.proofs.lemmas.Bool.Decides.{nat_tests}
use Rattle.cell_grid.specs.Space.{Space, cell_count}
use Rattle.atomic_face.specs.declared.stock.BoxNo.{BoxNo}
use Rattle.model_tree.specs.declared.component.Component.TheVariants.{Coupled as in_tree}
use Rattle.model_leaves.specs.declared.table.Model.{Model}
use Rattle.model_leaves.specs.declared.table.Part.{Part}
use Rattle.model_leaves.specs.declared.table.PartAt.{PartAt}
use Rattle.model_leaves.specs.declared.table.PartAt.TheVariants as at
use Rattle.model_leaves.specs.declared.table.Row.{Row}
use Rattle.model_tree.specs.Tree.{Word, Tree, Trees, coupled, cells, atomic, nil, cons, Group, Leaf, atomic_leaf, cell_leaf, leaves, leaves_from, all_leaves_from, leaf_count, leaf_counts, groups}
use Rattle.model_leaves.specs.Models.{tree_of}
use Rattle.model_leaves.specs.LeafTexts.{in_ports, out_ports, name_at}
use Rattle.model_leaves.specs.PlaneTexts.{leaf_text}
use Rattle.model_leaves.specs.Leaves.{HasBox, IsAtomic, IsCellIn, IsCellOfGroup, no_settings}
use Rattle.model_leaves.specs.Table.{Seat, seat_at, names_at, seat_in, seat_of, seats, seats_from}
use Rattle.model_leaves.specs.PartTexts.{part_text, part_outs, HasCell}
use Rattle.model_leaves.specs.Told.{Told, TellsOf}
use Rattle.model_leaves.proofs.Told.{AllTold, told-at, told-length, told-tree}

-- ---- how many leaves there are
mutual
  pub leaves-length : (t : Tree) (first : ℕ) → length (leaves_from t first) ≡ leaf_count t
  leaves-length (coupled name ins outs children links) first = all_leaves-length children first
  leaves-length (cells g) first = length-map-range_with_len (cell_leaf g first) 0 _
  leaves-length (atomic name class settings) first = refl

  all_leaves-length : (ts : Trees) (first : ℕ) → length (all_leaves_from ts first) ≡ leaf_counts ts
  all_leaves-length nil first = refl
  all_leaves-length (cons t ts) first =
      rw (length-append (leaves_from t first) (all_leaves_from ts (first + leaf_count t)), leaves-length t first, all_leaves-length ts (first + leaf_count t)) refl

-- ---- from a model, whatever the settings
all-told : (m : Model) (settings : ℕ → List ℤ) → AllTold settings (groups (tree_of m settings)) (seats_from (in_tree m.top) 0) (leaves (tree_of m settings))
all-told m settings = told-tree (in_tree m.top) settings (groups (tree_of m settings)) [] [] 0 0 refl (sym (append-nil (groups (tree_of m settings))))

pub rows-length : (m : Model) (settings : ℕ → List ℤ) → length m.rows ≡ leaf_count (tree_of m settings)
rows-length m settings =
    sym (length-map m.rows (seat_of m.parts.items m.ports.items)) ∙ ap length m.right ∙ length-map (seats_from (in_tree m.top) 0) Some
    ∙ told-length settings (groups (tree_of m settings)) (seats_from (in_tree m.top) 0) (leaves (tree_of m settings)) (all-told m settings)
    ∙ leaves-length (tree_of m settings) 0

-- ---- the parts of a row
some-from-map : {A : Type 0} (o : Option A) (x : Option A) → option_map Some o ≡ Some x → (y : A) × (o ≡ Some y) × (x ≡ Some y)
some-from-map None x e = absurd (cc)
some-from-map (Some y) x e = (y, refl, cc)

pub seat-read : (ps : List Part) (ns : List Word) (rs : List Row) (ss : List Seat) (k : ℕ) (r : Row) → seats ps ns rs ≡ map Some ss → slice_get rs k ≡ Some r → (s : Seat) × (slice_get ss k ≡ Some s) × (seat_of ps ns r ≡ Some s)
seat-read ps ns rs ss k r e f =
    some-from-map (slice_get ss k) (seat_of ps ns r)
    (sym (slice_get-map Some ss k) ∙ ap (λ (xs : List (Option Seat)). slice_get xs k) (sym e) ∙ slice_get-map (seat_of ps ns) rs k ∙ ap (option_map (seat_of ps ns)) f)

seat-parts : (o : Option Part) (q : Option (List Word)) (cell : ℕ) (s : Seat) → seat_in o q cell ≡ Some s → (p : Part) × (ins : List Word) × (o ≡ Some p) × (q ≡ Some ins) × (seat_at p.at p.name cell ins ≡ s)
seat-parts None q cell s e = absurd (cc)
seat-parts (Some p) None cell s e = absurd (cc)
seat-parts (Some p) (Some ins) cell s e = (p, ins, refl, refl, cc)

pub row-parts : (m : Model) (k : ℕ) (r : Row) → slice_get m.rows k ≡ Some r → (p : Part) × (ins : List Word) × (slice_get m.parts.items r.part ≡ Some p) × (names_at m.ports.items r.first_port r.ports ≡ Some ins) × TellsOf m k (seat_at p.at p.name r.cell ins)
row-parts m k r e =
    let read = seat-read m.parts.items m.ports.items m.rows (seats_from (in_tree m.top) 0) k r m.right e in
    let parts = seat-parts (slice_get m.parts.items r.part) (names_at m.ports.items r.first_port r.ports) r.cell read.0 read.2 in (
      parts.0,
      parts.1,
      parts.2,
      parts.3,
      λ settings l f. told-at settings (groups (tree_of m settings)) (seats_from (in_tree m.top) 0) (leaves (tree_of m settings)) (all-told m settings) k (seat_at parts.0.at parts.0.name r.cell parts.1) l
          (read.1 ∙ ap Some (sym parts.4)) f,
    )

-- so many names stand there
pub names-parts : (names ins : List Word) (first count : ℕ) → names_at names first count ≡ Some ins → (first + count ≤ length names) × (take count (drop first names) ≡ ins)
names-parts names ins first count e =
    let both = cond_some (nat_le (first + count) (length names)) (take count (drop first names)) ins e in
    (let yes : nat_le (first + count) (length names) ≡ true = both.0 in grind (arith, nat_tests), both.1)

-- a leaf of this number, where there is one
pub leaf-there : (m : Model) (k : ℕ) → k < leaf_count (tree_of m no_settings) → (l : Leaf) × (slice_get (leaves (tree_of m no_settings)) k ≡ Some l)
leaf-there m k h = at (leaves (tree_of m no_settings)) k (rw (leaves-length (tree_of m no_settings) 0) h)
  where
    at : (ls : List Leaf) (k : ℕ) → k < length ls → (l : Leaf) × (slice_get ls k ≡ Some l)
    at [] k h = absurd (omega arith)
    at (l ∷ ls) zero h = (l, refl)
    at (l ∷ ls) (suc k) h = at ls k (omega arith)

-- ---- what is answered of a leaf, from what is told of it
pub told-box : (settings : ℕ → List ℤ) (gs : List Group) (a : PartAt) (name : Word) (cell : ℕ) (ins : List Word) (l : Leaf) (box : BoxNo) → a ≡ at.Atomic box → Told settings gs (seat_at a name cell ins) l → HasBox (settings box.0) l
told-box settings gs a name cell ins l box e = subst (λ (x : PartAt). Told settings gs (seat_at x name cell ins) l → HasBox (settings box.0) l) (sym e) (here l)
  where
    here : (l : Leaf) → Told settings gs (seat_at (at.Atomic box) name cell ins) l → HasBox (settings box.0) l
    here (atomic_leaf n class words) t = t.2
    here (cell_leaf g first n) t = absurd t

pub told-cell : (settings : ℕ → List ℤ) (gs : List Group) (a : PartAt) (name : Word) (cell : ℕ) (ins : List Word) (l : Leaf) (number : ℕ) (space : Space) (ports : _) → a ≡ at.Cells number space ports → Told settings gs (seat_at a name cell ins) l → IsCellIn (slice_get gs number) cell l
told-cell settings gs a name cell ins l number space ports e = subst (λ (x : PartAt). Told settings gs (seat_at x name cell ins) l → IsCellIn (slice_get gs number) cell l) (sym e) (here l)
  where
    here : (l : Leaf) → Told settings gs (seat_at (at.Cells number space ports) name cell ins) l → IsCellIn (slice_get gs number) cell l
    here (atomic_leaf n class words) t = absurd t
    here (cell_leaf g first n) t = subst (λ (o : Option Group). IsCellIn o cell (cell_leaf g first n)) (sym t.group) (refl, sym t.cell)

pub told-ins : (settings : ℕ → List ℤ) (gs : List Group) (a : PartAt) (name : Word) (cell : ℕ) (ins : List Word) (l : Leaf) → Told settings gs (seat_at a name cell ins) l → ins ≡ in_ports l
told-ins settings gs (at.Atomic box) name cell ins (atomic_leaf n class words) t = t.1
told-ins settings gs (at.Atomic box) name cell ins (cell_leaf g first n) t = absurd t
told-ins settings gs (at.Cells number space ports) name cell ins (atomic_leaf n class words) t = absurd t
told-ins settings gs (at.Cells number space ports) name cell ins (cell_leaf g first n) t = t.ins

-- ---- as the code reads it
pub row-got : (m : Model) (k : ℕ) (r : Row) → k < leaf_count (tree_of m no_settings) → r ≡ get_or m.rows k r → slice_get m.rows k ≡ Some r
row-got m k r h e = slice_get_read m.rows (length m.rows) k r refl (omega (arith, rows-length m no_settings)) e

pub found-tells : (m : Model) (k : ℕ) (r : Row) (p : Part) (ins : List Word) → slice_get m.rows k ≡ Some r → p ≡ get_or m.parts.items r.part p → take r.ports (drop r.first_port m.ports.items) ≡ ins → TellsOf m k (seat_at p.at p.name r.cell ins)
found-tells m k r p ins e f g =
    let read = row-parts m k r e in
    let same : read.0 ≡ p = same_Some read.0 p (sym read.2 ∙ slice_get_read m.parts.items (length m.parts.items) r.part p refl (slice_get_within m.parts.items r.part read.0 read.2) f) in
    let names : read.1 ≡ ins = sym (names-parts m.ports.items read.1 r.first_port r.ports read.3).1 ∙ g in
    subst (λ (x : Part). TellsOf m k (seat_at x.at x.name r.cell ins)) same (subst (λ (x : List Word). TellsOf m k (seat_at read.0.at read.0.name r.cell x)) names read.4)

pub part-within : (m : Model) (k : ℕ) (r : Row) → slice_get m.rows k ≡ Some r → r.part < length m.parts.items
part-within m k r e = let read = row-parts m k r e in slice_get_within m.parts.items r.part read.0 read.2

pub names-within : (m : Model) (k : ℕ) (r : Row) → slice_get m.rows k ≡ Some r → r.first_port + r.ports ≤ length m.ports.items
names-within m k r e = let read = row-parts m k r e in (names-parts m.ports.items read.1 r.first_port r.ports read.3).0

pub name-read : (names : List Word) (k : ℕ) (name : Word) → k < length names → name ≡ get_or names k name → name ≡ name_at names k
name-read names k name h e = get_or_read names k name h e [] ∙ sym (unwrap_or-slice_get names k [])

pub told-text : (settings : ℕ → List ℤ) (gs : List Group) (a : PartAt) (name : Word) (cell : ℕ) (ins : List Word) (l : Leaf) → Told settings gs (seat_at a name cell ins) l → part_text a name cell ≡ leaf_text l
told-text settings gs (at.Atomic box) name cell ins (atomic_leaf n class words) t = t.0
told-text settings gs (at.Atomic box) name cell ins (cell_leaf g first n) t = absurd t
told-text settings gs (at.Cells number space ports) name cell ins (atomic_leaf n class words) t = absurd t
told-text settings gs (at.Cells number space ports) name cell ins (cell_leaf g first n) t = rw (t.name, t.space, t.cell) refl

pub told-outs : (settings : ℕ → List ℤ) (gs : List Group) (a : PartAt) (name : Word) (cell : ℕ) (ins : List Word) (l : Leaf) → Told settings gs (seat_at a name cell ins) l → part_outs a ≡ out_ports l
told-outs settings gs (at.Atomic box) name cell ins (atomic_leaf n class words) t = refl
told-outs settings gs (at.Atomic box) name cell ins (cell_leaf g first n) t = absurd t
told-outs settings gs (at.Cells number space ports) name cell ins (atomic_leaf n class words) t = absurd t
told-outs settings gs (at.Cells number space ports) name cell ins (cell_leaf g first n) t = rw (t.ports) refl

pub told-inside : (settings : ℕ → List ℤ) (gs : List Group) (a : PartAt) (name : Word) (cell : ℕ) (ins : List Word) (l : Leaf) → Told settings gs (seat_at a name cell ins) l → HasCell a cell
told-inside settings gs (at.Atomic box) name cell ins l t = tt
told-inside settings gs (at.Cells number space ports) name cell ins (atomic_leaf n class words) t = absurd t
told-inside settings gs (at.Cells number space ports) name cell ins (cell_leaf g first n) t =
    subst (λ (s : Space). cell < cell_count s) (sym t.space) (subst (λ (k : ℕ). k < cell_count g.space) (sym t.cell) t.inside)

pub told-atomic : (settings : ℕ → List ℤ) (gs : List Group) (a : PartAt) (name : Word) (cell : ℕ) (ins : List Word) (l : Leaf) (box : BoxNo) → a ≡ at.Atomic box → Told settings gs (seat_at a name cell ins) l → IsAtomic l
told-atomic settings gs a name cell ins l box e = subst (λ (x : PartAt). Told settings gs (seat_at x name cell ins) l → IsAtomic l) (sym e) (here l)
  where
    here : (l : Leaf) → Told settings gs (seat_at (at.Atomic box) name cell ins) l → IsAtomic l
    here (atomic_leaf n class words) t = tt
    here (cell_leaf g first n) t = absurd t

pub told-of-group : (settings : ℕ → List ℤ) (gs : List Group) (a : PartAt) (name : Word) (cell : ℕ) (ins : List Word) (l : Leaf) (number : ℕ) (space : Space) (ports : _) → a ≡ at.Cells number space ports → Told settings gs (seat_at a name cell ins) l → IsCellOfGroup gs number name space cell l
told-of-group settings gs a name cell ins l number space ports e = subst (λ (x : PartAt). Told settings gs (seat_at x name cell ins) l → IsCellOfGroup gs number name space cell l) (sym e) (here l)
  where
    here : (l : Leaf) → Told settings gs (seat_at (at.Cells number space ports) name cell ins) l → IsCellOfGroup gs number name space cell l
    here (atomic_leaf n class words) t = absurd t
    here (cell_leaf g first n) t = record {
      group = t.group;
      name = t.name;
      space = t.space;
      cell = t.cell;
      inside = t.inside;
    }
