-- One leaf: what its line says of it, and what is put.
use Rattle.std.proofs.Common.{◌≡◌, ℕ, zero, suc, ◌+◌, ◌<◌, ◌≤◌, ◌==◌, ◌&&◌, Bool, true, false, cond}
use Rattle.std.proofs.Common.{Option, Some, None, List, [], ◌∷◌, ◌++◌, refl, sym, ap, ◌∙◌, subst}
use Rattle.std.proofs.Common.{arith, length, map, take, drop, slice_get, get_or, nat_lt, nat_le}
use Rattle.std.proofs.Common.{not}
use Rattle.std.specs.Prelude.{⊤, IsTrue, IsSomeAnd, slice_set, ℤ}
use Rattle.std.specs.List.{All, list_all}
use Rattle.std.specs.Option.{option_map}
use Rattle.std.proofs.lemmas.Bool.{and_parts}
use Rattle.std.proofs.lemmas.Bool.Decides.{nat_tests}
use Rattle.std.proofs.lemmas.List.Elements.{All-nil, All-cons}
use Rattle.quantity.specs.Bytes.{Bytes, has_repeat}
use Rattle.quantity.specs.Written.{for_some}
use Rattle.quantity.specs.declared.value.Value.{Value}
use Rattle.rule_tree.specs.Phrases.{out}
use Rattle.cell_grid.specs.Space.{cell_count}
use Rattle.atomic_face.specs.declared.class.Class.{Class}
use Rattle.atomic_face.specs.declared.stock.BoxNo.{BoxNo}
use Rattle.atomic_face.specs.BoxStates.{is_box_state}
use Rattle.atomic_face.specs.Classes.{next_of}
use Rattle.atomic_face.specs.Held.{Held}
use Rattle.atomic_face.specs.Moves.{with_state}
use Rattle.model_leaves.specs.declared.table.Model.{Model}
use Rattle.model_leaves.specs.declared.leaves.LeafAt.TheVariants as at
use Rattle.model_tree.specs.Tree.{Group, Tree, Leaf, atomic_leaf, cell_leaf, leaves, groups}
use Rattle.model_leaves.specs.Models.{tree_of}
use Rattle.model_leaves.specs.Leaves.{AtLeaf, Settings, IsCellIn, HasBox, IsPlaceOf}
use Rattle.model_tree.specs.Sound.{has_right_names, has_right_rules, is_near_offset, is_sound_group}
use Rattle.model_tree.specs.Sound.{is_sound_model, offsets_differ}
use Rattle.run_model.specs.CellStep.{CellState, PortState}
use Rattle.run_model.specs.Cycle.{LeafState, box_state, cell_state, leaf_next}
use Rattle.run_model.specs.Fitting.{Fits, OfLeaf}
use Rattle.run_model.specs.Waiting.{RisesFrom}
use Rattle.run_model.proofs.Basics.{none_some, some_same}
use Rattle.text_forms.specs.LeafStates.{is_later, is_port_state, rises}
use Rattle.text_forms.specs.StateOf.{read_leaf}
use Rattle.sparse_cycle.specs.Sparse.{leaf_of, no_leaf}
use Rattle.run_leaves.specs.Seated.{is_box, settings_at}
use Rattle.run_leaves.proofs.SoundParts.{group-sound, sound-parts}
use Rattle.run_leaves.specs.Standing.{Standing, tree_in}
use Rattle.flat_run.specs.Changes.{CanPut, with_leaf_state}
use Rattle.state_lines.specs.LeafLines.{box_in, has_numbers, IsCellWith}
use Rattle.state_lines.proofs.Compared.{box_of, read_box}
use Rattle.state_lines.specs.declared.sizes.CellSize.{CellSize}
use Rattle.state_lines.specs.Sizes.{AreSizesOf, size_of}
use Rattle.state_lines.proofs.GroupSizes.{get_mapped}
use Rattle.state_lines.specs.Parts.{line_in, parts_of}
use Rattle.state_lines.proofs.Heads.{here}
use Rattle.state_file.specs.Taken.{is_box_after, IsBoxPut, IsCellOf, IsNext, IsTaken}

-- ---- a leaf that is there

-- what holds of it follows from what is told of the leaf of its number
pub of_both : (o : Option Leaf) (P Q R : Leaf → Type 0) → IsSomeAnd o P
    → ((l : Leaf) → o ≡ Some l → Q l) → ((l : Leaf) → P l → Q l → R l) → IsSomeAnd o R
of_both None P Q R h q f = absurd h
of_both (Some l) P Q R h q f = f l h (q l refl)

-- ---- a cell

pub same_number : (n m : ℕ) → (n == m) ≡ true → n ≡ m
same_number n m e = grind (arith, nat_tests)

less : (n m : ℕ) → nat_lt n m ≡ true → n < m
less n m e = grind (arith, nat_tests)

rises_from : (b low : ℕ) (ps : List (ℕ × Value)) → low ≤ b + 1 → rises b ps ≡ true
    → RisesFrom low ps
rises_from b low [] le h = tt
rises_from b low (p ∷ ps) le h =
    let x = and_parts (nat_lt b p.0 && nat_le p.0 719999998) (rises p.0 ps) h in
    let y = and_parts (nat_lt b p.0) (nat_le p.0 719999998) x.0 in
    (omega (arith, le, less b p.0 y.0), rises_from p.0 (p.0 + 1) ps (omega arith) x.1)

all_rise : (t : ℕ) (ps : List PortState) → list_all (is_port_state t) ps ≡ true
    → All (λ (p : PortState). RisesFrom 0 p.pairs) ps
all_rise t [] h = All-nil (λ (p : PortState). RisesFrom 0 p.pairs)
all_rise t (p ∷ ps) h =
    let x = and_parts (is_port_state t p) (list_all (is_port_state t) ps) h in
    All-cons (λ (p : PortState). RisesFrom 0 p.pairs) p ps (rises_from t 0 p.pairs (omega arith)
    x.0) (all_rise t ps x.1)

-- a state of so many ports and variables may be put
pub can_put : (tree : Tree) (leaf t : ℕ) (size : CellSize) (c : CellState)
    → OfLeaf tree leaf (IsCellOf size) → IsTrue (has_numbers t size.ports size.variables c)
    → CanPut tree leaf c
can_put tree leaf t size c is numbers =
    let x = and_parts (list_all (is_port_state t) c.ports && (length c.ports == size.ports))
    (length c.variables == size.variables) numbers in
    let y = and_parts (list_all (is_port_state t) c.ports) (length c.ports == size.ports) x.0 in
    record {
      fits = of_both (slice_get (leaves tree) leaf) (IsCellOf size) (λ l. ⊤)
          (λ l. Fits l (cell_state c)) is (λ l e. tt)
          (λ l h u. by l h (same_number (length c.ports) size.ports y.1)
          (same_number (length c.variables) size.variables x.1));
      rising = all_rise t c.ports y.0;
    }
  where
    by : (l : Leaf) → IsCellOf size l → length c.ports ≡ size.ports
        → length c.variables ≡ size.variables → Fits l (cell_state c)
    by (atomic_leaf name class settings) h p v = absurd h
    by (cell_leaf g first cell) h p v = (
      p ∙ ap (λ (s : CellSize). s.ports) h.0 ∙ ap suc (sym h.1),
      v ∙ ap (λ (s : CellSize). s.variables) h.0 ∙ sym h.2,
    )

cell_with : (size : CellSize) (l : Leaf) → IsCellOf size l → IsCellWith size.ports size.variables l
cell_with size (atomic_leaf name class settings) h = absurd h
cell_with size (cell_leaf g first cell) h =
    (ap (λ (s : CellSize). s.ports) h.0, ap (λ (s : CellSize). s.variables) h.0)

-- its line is read so, and it has that state
pub cell_taken : (s n : Standing) (leaf t : ℕ) (size : CellSize) (line : Bytes) (c : CellState)
    → OfLeaf (tree_in s) leaf (IsCellOf size)
    → AtLeaf s.model leaf (λ (l : Leaf). IsCellWith size.ports size.variables l
    → read_leaf t l line ≡ Some (cell_state c)) → n ≡ with_leaf_state s leaf (cell_state c)
    → OfLeaf (tree_in s) leaf (IsTaken t line leaf s n true)
cell_taken s n leaf t size line c is read put =
    of_both (slice_get (leaves (tree_in s)) leaf) (IsCellOf size)
    (λ l. IsCellWith size.ports size.variables l → read_leaf t l line ≡ Some (cell_state c))
    (IsTaken t line leaf s n true) is (read (settings_at s.settings))
    (λ l h r. (cell_state c, r (cell_with size l h), put))

pub cell_not_taken : (s n : Standing) (leaf t : ℕ) (size : CellSize) (line : Bytes)
    → OfLeaf (tree_in s) leaf (IsCellOf size)
    → AtLeaf s.model leaf (λ (l : Leaf). IsCellWith size.ports size.variables l
    → read_leaf t l line ≡ None)
    → OfLeaf (tree_in s) leaf (IsTaken t line leaf s n false)
cell_not_taken s n leaf t size line is read =
    of_both (slice_get (leaves (tree_in s)) leaf) (IsCellOf size)
    (λ l. IsCellWith size.ports size.variables l
    → read_leaf t l line ≡ None) (IsTaken t line leaf s n false) is
    (read (settings_at s.settings))
    (λ l h r. r (cell_with size l h))

-- ---- a box

no_box : (b : Held) → no_leaf ≡ box_state b → ⊥
no_box b e = cc

-- a state that is put stands there
pub set_there : (ss : List LeafState) (k : ℕ) (b : Held) (x : LeafState)
    → leaf_of ss k ≡ box_state b → leaf_of (slice_set ss k x) k ≡ x
set_there [] k b x e = absurd (no_box b e)
set_there (s ∷ ss) zero b x e = refl
set_there (s ∷ ss) (suc k) b x e = set_there ss k b x e

-- the leaf's box, with its class and settings
pub record Boxed (l : Leaf) (b : Held) : Type 0 where
  pub name : Bytes
  pub is : l ≡ atomic_leaf name b.kind b.settings

boxed : (l : Leaf) (b : Held) → Fits l (box_state b) → Boxed l b
boxed (atomic_leaf name class settings) b h =
    record { name = name; is = λ i. atomic_leaf name (sym h.0 i) (sym h.1 i) }
boxed (cell_leaf g first cell) b h = absurd h

-- what its line is read as
read_as : (t : ℕ) (l : Leaf) (b : Held) (line : Bytes) (o : Option (List ℤ)) → Fits l (box_state b)
    → box_in l line ≡ o → read_leaf t l line ≡ for_some {B =
    LeafState} o (box_of t b.kind b.settings)
read_as t l b line o h e =
    let x = boxed l b h in
    ap (λ l. read_leaf t l line) x.is ∙ read_box t x.name b.kind b.settings line
    ∙ ap (λ o. for_some {B = LeafState} o (box_of t b.kind b.settings))
    (ap (λ l. box_in l line) (sym x.is) ∙ e)

first_false : (a b : Bool) → a ≡ false → (a && b) ≡ false
first_false a b e = ap (λ x. x && b) e

module _ (s n : Standing) (leaf t : ℕ) (line : Bytes) (b : Held)
    (there : leaf_of s.state.leaf_states leaf ≡ box_state b)
    (fits : OfLeaf (tree_in s) leaf (λ (l : Leaf). Fits l (leaf_of s.state.leaf_states leaf))) where
  fit : (l : Leaf) → Fits l (leaf_of s.state.leaf_states leaf) → Fits l (box_state b)
  fit l h = subst (Fits l) there h

  -- no numbers are read
  pub no_numbers_taken : AtLeaf s.model leaf (λ (l : Leaf). box_in l line ≡ None)
      → OfLeaf (tree_in s) leaf (IsTaken t line leaf s n false)
  no_numbers_taken read =
      of_both (slice_get (leaves (tree_in s)) leaf) (λ l. Fits l (leaf_of s.state.leaf_states leaf))
      (λ l. box_in l line ≡ None) (IsTaken t line leaf s n false) fits
      (read (settings_at s.settings))
      (λ l h r. read_as t l b line None (fit l h) r)

  -- they are read, and put or not
  pub box_taken : (ws : List ℤ) (r : Bool)
      → AtLeaf s.model leaf (λ (l : Leaf). box_in l line ≡ Some ws) → IsBoxPut t leaf b ws s n r
      → OfLeaf (tree_in s) leaf (IsTaken t line leaf s n r)
  box_taken ws true read put =
      of_both (slice_get (leaves (tree_in s)) leaf)
      (λ l. Fits l (leaf_of s.state.leaf_states leaf)) (λ l. box_in l line ≡ Some ws)
      (IsTaken t line leaf s n true) fits (read (settings_at s.settings))
      (λ l h r. (
        box_state (with_state b ws),
        read_as t l b line (Some ws) (fit l h) r
            ∙ ap (λ a. cond a (Some (box_state (with_state b ws))) None) put.0,
        put.1,
      ))
  box_taken ws false read put =
      of_both (slice_get (leaves (tree_in s)) leaf)
      (λ l. Fits l (leaf_of s.state.leaf_states leaf)) (λ l. box_in l line ≡ Some ws)
      (IsTaken t line leaf s n false) fits (read (settings_at s.settings))
      (λ l h r. read_as t l b line (Some ws) (fit l h) r
      ∙ ap (λ a. cond a (Some (box_state (with_state b ws))) None) put)

-- the box that a state is the state of
pub record SomeBox (x : LeafState) : Type 0 where
  pub box : Held
  pub is : x ≡ box_state box

pub its_box : (x : LeafState) → is_box x ≡ true → SomeBox x
its_box (box_state b) h = record { box = b; is = refl }
its_box (cell_state c) h = absurd cc

-- a box is put, and the run still goes
pub record PutBox (s n : Standing) (leaf : ℕ) (b c : Held) : Type 0 where
  pub there : leaf_of s.state.leaf_states leaf ≡ box_state b
  pub put : n ≡ with_leaf_state s leaf (box_state c)

pub stands_there : (s n : Standing) (leaf : ℕ) (b c : Held) → PutBox s n leaf b c
    → leaf_of n.state.leaf_states leaf ≡ box_state c
stands_there s n leaf b c h = ap (λ (z : Standing). leaf_of z.state.leaf_states leaf) h.put
    ∙ set_there s.state.leaf_states leaf b (box_state c) h.there

pub still_box : (s n : Standing) (leaf : ℕ) (b c : Held) → PutBox s n leaf b c
    → is_box (leaf_of n.state.leaf_states leaf) ≡ true
still_box s n leaf b c h = ap is_box (stands_there s n leaf b c h)

pub still_goes : (s n : Standing) (leaf : ℕ) (b c : Held) → PutBox s n leaf b c
    → s.stopped ≡ None → n.stopped ≡ None
still_goes s n leaf b c h goes = ap (λ (z : Standing). z.stopped) h.put ∙ goes

-- they are a state, which waits for later or doesn't
pub box_put : (s n : Standing) (leaf t : ℕ) (b c : Held) (ws : List ℤ) (r : Bool) (next : Option ℕ)
    → PutBox s n leaf b c → is_box_state b.kind b.settings ws ≡ true → c ≡ with_state b ws
    → next ≡ leaf_next (leaf_of n.state.leaf_states leaf) → r ≡ is_later t next
    → IsBoxPut t leaf b ws s n r
box_put s n leaf t b c ws r next h good is next_is later =
    by r (ap (λ x. x && is_later t (next_of b.kind ws)) good ∙ sym (later
    ∙ ap (is_later t) (next_is ∙ ap leaf_next (stands_there s n leaf b c h ∙ ap box_state is))))
  where
    by : (r : Bool) → is_box_after t b ws ≡ r → IsBoxPut t leaf b ws s n r
    by true e = (e, h.put ∙ ap (λ (x : Held). with_leaf_state s leaf (box_state x)) is)
    by false e = e

pub box_not_put : (s n : Standing) (leaf t : ℕ) (b : Held) (ws : List ℤ)
    → is_box_state b.kind b.settings ws ≡ false → IsBoxPut t leaf b ws s n false
box_not_put s n leaf t b ws bad =
    first_false (is_box_state b.kind b.settings ws) (is_later t (next_of b.kind ws)) bad

-- ---- the line in front

of_leaf : (o : Option Leaf) (P R : Leaf → Type 0) → IsSomeAnd o P → ((l : Leaf) → P l → R l)
    → IsSomeAnd o R
of_leaf None P R h f = absurd h
of_leaf (Some l) P R h f = f l h

-- there is none
pub no_next : (tree : Tree) (leaf t : ℕ) (s n : Standing) (P : Leaf → Type 0) (parts : List Bytes)
    (last : Bytes) → OfLeaf tree leaf P → parts ≡ last ∷ []
    → OfLeaf tree leaf (IsNext t leaf parts s n None)
no_next tree leaf t s n P parts last there e =
    of_leaf (slice_get (leaves tree) leaf) P (IsNext t leaf parts s n None) there
    (λ l h. ap (line_in (read_leaf t l)) e)

-- it is read, or it isn't
pub next_taken : (tree : Tree) (leaf t : ℕ) (s n : Standing) (parts : List Bytes)
    (line behind : Bytes) (taken : Bool) → taken ≡ true → parts ≡ line ∷ parts_of behind
    → OfLeaf tree leaf (IsTaken t line leaf s n taken)
    → OfLeaf tree leaf (IsNext t leaf parts s n (Some (parts_of behind)))
next_taken tree leaf t s n parts line behind taken is e h =
    of_leaf (slice_get (leaves tree) leaf) (IsTaken t line leaf s n true)
    (IsNext t leaf parts s n (Some (parts_of behind)))
    (subst (λ b. OfLeaf tree leaf (IsTaken t line leaf s n b)) is h)
    (λ l h. (
      h.0,
      sym (here (read_leaf t l) parts line behind (Some h.0) e (sym h.1)),
      h.2,
    ))

pub next_refused : (tree : Tree) (leaf t : ℕ) (s n : Standing) (parts : List Bytes)
    (line behind : Bytes) (taken : Bool) → taken ≡ false → parts ≡ line ∷ parts_of behind
    → OfLeaf tree leaf (IsTaken t line leaf s n taken)
    → OfLeaf tree leaf (IsNext t leaf parts s n None)
next_refused tree leaf t s n parts line behind taken is e h =
    of_leaf (slice_get (leaves tree) leaf) (IsTaken t line leaf s n false)
    (IsNext t leaf parts s n None)
    (subst (λ b. OfLeaf tree leaf (IsTaken t line leaf s n b)) is h)
    (λ l h. sym (here (read_leaf t l) parts line behind None e (sym h)))

-- ---- sizes of groups

-- a sound group has a value for each further port and variable
pub record HasValues (g : Group) : Type 0 where
  pub ports : length g.port_values ≡ length g.ports
  pub variables : length g.variable_values ≡ length g.variables

pub has_values : (g : Group) → is_sound_group g ≡ true → HasValues g
has_values g sound =
    let a = nat_lt 0 (cell_count g.space) && (length g.initial == cell_count g.space) && nat_le
    g.settings.default_delay 359999999 && nat_le (length g.offsets) 128 && list_all is_near_offset
    g.offsets && offsets_differ g.offsets in
    let p = and_parts (a && has_right_names g) (has_right_rules g) sound in
    let q = and_parts a (has_right_names g) p.0 in
    let v = nat_le (length g.variables) 8 && (length g.variable_values == length g.variables) in
    let b = v && not (has_repeat g.variables) && nat_le (length g.ports) 3 in
    let r = and_parts (b && (length g.port_values == length g.ports))
    (not (has_repeat (out ∷ g.ports))) q.1 in
    let k = and_parts b (length g.port_values == length g.ports) r.0 in
    let m = and_parts (v && not (has_repeat g.variables)) (nat_le (length g.ports) 3) k.0 in
    let w = and_parts v (not (has_repeat g.variables)) m.0 in
    record {
      ports = same_number (length g.port_values) (length g.ports) k.1;
      variables = same_number (length g.variable_values) (length g.variables)
          (and_parts (nat_le (length g.variables) 8) (length g.variable_values == length
          g.variables) w.0).1;
    }

pub got : {A : Type 0} (xs : List A) (k : ℕ) (x d : A) → slice_get xs k ≡ Some x → (k < length xs)
    × (get_or xs k d ≡ x)
got [] k x d e = absurd (none_some e)
got (y ∷ ys) zero x d e = (omega arith, some_same y x e)
got (y ∷ ys) (suc k) x d e = let h = got ys k x d e in (omega (arith, h.0), h.1)

-- the leaf that is there stands in this cell of this group, of this size
pub record Sized (m : Model) (settings : Settings) (leaf group : ℕ) (sizes : List CellSize) : Type 0
  where
    pub size : CellSize
    pub there : slice_get sizes group ≡ Some size
    pub is : OfLeaf (tree_of m settings) leaf (IsCellOf size)

sized : (m : Model) (settings : Settings) (leaf group cell : ℕ) (sizes : List CellSize)
    (l : Leaf) → is_sound_model (tree_of m settings) ≡ true
    → slice_get (leaves (tree_of m settings)) leaf ≡ Some l
    → IsPlaceOf m leaf (at.Cell group cell) → sizes ≡ map size_of (groups (tree_of m settings))
    → Sized m settings leaf group sizes
sized m settings leaf group cell sizes l sound there place are =
    by (slice_get (groups (tree_of m settings)) group) l refl there (place settings l there)
  where
    by : (o : Option Group) (l : Leaf) → slice_get (groups (tree_of m settings)) group ≡ o
        → slice_get (leaves (tree_of m settings)) leaf ≡ Some l → IsCellIn o cell l
        → Sized m settings leaf group sizes
    by o (atomic_leaf name class words) e f h = absurd h
    by None (cell_leaf g first n) e f h = absurd h
    by (Some x) (cell_leaf g first n) e f h =
        let v = has_values x (group-sound (tree_of m settings)
        (sound-parts (tree_of m settings) sound).parts group x e) in
        record {
          size = size_of x;
          there = ap (λ ss. slice_get ss group) are
              ∙ get_mapped size_of (groups (tree_of m settings)) group x e;
          is = subst (λ o. IsSomeAnd o (IsCellOf (size_of x))) (sym f) (
            ap size_of (sym h.0),
            ap (λ (g : Group). length g.port_values) h.0 ∙ v.ports
                ∙ ap (λ (g : Group). length g.ports) (sym h.0),
            ap (λ (g : Group). length g.variable_values) h.0 ∙ v.variables
                ∙ ap (λ (g : Group). length g.variables) (sym h.0),
          );
        }

-- a box stands there
stands_box : (m : Model) (settings : Settings) (leaf : ℕ) (box : BoxNo) (l : Leaf)
    (x : LeafState) → slice_get (leaves (tree_of m settings)) leaf ≡ Some l
    → IsPlaceOf m leaf (at.Atomic box) → Fits l x → is_box x ≡ true
stands_box m settings leaf box l x there place fits = by l x (place settings l there) fits
  where
    by : (l : Leaf) (x : LeafState) → HasBox (settings box.0) l → Fits l x → is_box x ≡ true
    by (atomic_leaf name class words) (box_state b) h f = refl
    by (atomic_leaf name class words) (cell_state c) h f = absurd f
    by (cell_leaf g first n) x h f = absurd h

-- the leaf that is there
record There (tree : Tree) (leaf : ℕ) (P : Leaf → Type 0) : Type 0 where
  pub leaf_is : Leaf
  pub there : slice_get (leaves tree) leaf ≡ Some leaf_is
  pub holds : P leaf_is

its_leaf : (tree : Tree) (leaf : ℕ) (P : Leaf → Type 0) → OfLeaf tree leaf P → There tree leaf P
its_leaf tree leaf P h = by (slice_get (leaves tree) leaf) refl h
  where
    by : (o : Option Leaf) → slice_get (leaves tree) leaf ≡ o → IsSomeAnd o P → There tree leaf P
    by None e h = absurd h
    by (Some l) e h = record { leaf_is = l; there = e; holds = h }

-- the size of the group of a cell that may be taken
pub size_there : (m : Model) (settings : Settings) (leaf group cell : ℕ) (sizes : List CellSize)
    (states : List LeafState)
    → OfLeaf (tree_of m settings) leaf (λ l. Fits l (leaf_of states leaf))
    → is_sound_model (tree_of m settings) ≡ true → AreSizesOf m sizes
    → IsPlaceOf m leaf (at.Cell group cell) → Sized m settings leaf group sizes
size_there m settings leaf group cell sizes states fits sound are place =
    let x = its_leaf (tree_of m settings) leaf (λ l. Fits l (leaf_of states leaf)) fits in
    sized m settings leaf group cell sizes x.leaf_is sound x.there place (are settings)

-- the box of a leaf that may be taken
pub box_stands : (m : Model) (settings : Settings) (leaf : ℕ) (box : BoxNo)
    (states : List LeafState)
    → OfLeaf (tree_of m settings) leaf (λ l. Fits l (leaf_of states leaf))
    → IsPlaceOf m leaf (at.Atomic box) → is_box (leaf_of states leaf) ≡ true
box_stands m settings leaf box states fits place =
    let x = its_leaf (tree_of m settings) leaf (λ l. Fits l (leaf_of states leaf)) fits in
    stands_box m settings leaf box x.leaf_is (leaf_of states leaf) x.there place x.holds
