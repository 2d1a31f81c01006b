-- The components of an accepted model are sound.
use Rattle.std.proofs.Common.{◌≡◌, ℕ, zero, suc, Bool, true, false, cond, Option, Some, None, List, [], ◌∷◌, ◌++◌, map, refl, sym, ap, ◌∙◌, subst, arith}
use Rattle.std.proofs.lemmas.Bool.{and_from}
use Rattle.std.specs.Prelude.{◌&&◌, not, codes}
use Rattle.std.specs.List.{find, flat_map, AllByRecursion}
use Rattle.std.specs.Option.{option_or, is_some}
use Rattle.std.specs.Str.{bytes_eq}
use Rattle.quantity.specs.Bytes.{Bytes, is_among, is_empty}
use Rattle.cell_grid.specs.Space.{cell_count}
use Rattle.atomic_face.specs.declared.class.Class.{Class}
use Rattle.atomic_face.specs.Settings.{settings_of}
use Rattle.source_text.specs.Lines.{Files}
use Rattle.ma_lines.specs.Sections.{Section}
use Rattle.model_tree.specs.Tree as T
use Rattle.model_tree.specs.Tree.{Tree, Trees, coupled, cells, atomic, nil, cons}
use Rattle.model_tree.specs.Faces as F
use Rattle.model_tree.specs.Faces.{Face}
use Rattle.model_tree.specs.FaceOf.{child_of, face_of_coupled, face_of_group}
use Rattle.model_tree.specs.Sound.{are_accepted, has_child, is_sound_part, are_sound_parts}
use Rattle.model_text.specs.declared.kind.Kind.TheVariants.{MissingKey}
use Rattle.model_text.specs.Refusals.{refusal}
use Rattle.model_text.specs.Keyed.{section_named, first_entry, Item, items_of, texts_of}
use Rattle.model_text.specs.Walk.{is_group, children_of, item_name, is_atomic, section_of_item, Step, at_item, below, walk_from, type_refused, section_refused}
use Rattle.model_text.specs.Spaces.{space_of}
use Rattle.model_text.specs.Stock.{class_of_item, params_of}
use Rattle.model_text.specs.Links as L
use Rattle.model_text.specs.Links.{links_of, child_named, ports_in, inputs_of_class, face_of}
use Rattle.model_text.specs.Trees.{group_of_section, atomic_of, trees, component_of, first_tree}
use Rattle.model_text.specs.Met.{RightSection, RightItem, Met}
use Rattle.model_text.specs.BuildLaws.{component_at, tree_at_item, ItemsAreMade, SectionsAreMade}
use Rattle.model_text.proofs.Basics.{all_imply}
use Rattle.model_text.proofs.Keys.{same_bytes}

-- ---- the tree of an item

-- one tree alone, of this name and these ports, and sound
pub record IsPart (called : Bytes) (inputs outputs : List Bytes) (ts : List Tree) : Type 0 where
  pub one : ts ≡ first_tree ts ∷ []
  pub name : T.name_of (first_tree ts) ≡ called
  pub ins : F.inputs_of (Some (first_tree ts)) ≡ inputs
  pub outs : F.outputs_of (Some (first_tree ts)) ≡ outputs
  pub sound : is_sound_part (first_tree ts) ≡ true

-- the component of a section has the name and ports of the section
abbrev pub Component : ℕ → Files → List Section → Section → Type 0
Component n files ss s = IsPart s.name (texts_of (codes "in") s) (texts_of (codes "out") s) (component_of n files ss s)

abbrev pub ItemTree : ℕ → Files → List Section → Item → Type 0
ItemTree n files ss i = IsPart (item_name i) (L.inputs_of_item ss (Some i)) (L.outputs_of_item ss (Some i)) (component_at n files ss i)

pub find_is : (name : Bytes) (ss : List Section) (t : Section) → section_named ss name ≡ Some t → t.name ≡ name
find_is name [] t e = absurd cc
find_is name (s ∷ ss) t e = grind (arith, same_bytes s.name name, find_is name ss t)

-- a section stands behind a bare item alone, and has its name
pub behind : (ss : List Section) (i : Item) (t : Section) → section_of_item ss i ≡ Some t → (is_atomic i ≡ false) × (t.name ≡ item_name i)
behind ss i t e = grind (arith, find_is (item_name i) ss t)

abbrev pub trees_behind : ℕ → Files → List Section → Item → Option Section → List Tree
trees_behind n files ss i o = elim o [ None ↦ atomic_of ss i (class_of_item i) | Some u ↦ component_of n files ss u ]

item_of_section : (n : ℕ) (files : Files) (ss : List Section) (i : Item) (t : Section) → section_of_item ss i ≡ Some t → Component n files ss t → ItemTree n files ss i
item_of_section n files ss i t e c =
    let bare = behind ss i t e in
    rw (ap (trees_behind n files ss i) e)
    (record { one = c.one; name = c.name ∙ bare.1; ins = rw (e, bare.0) c.ins; outs = rw (e, bare.0) c.outs; sound = c.sound })

item_of_class : (n : ℕ) (files : Files) (ss : List Section) (i : Item) (c : Class) → section_of_item ss i ≡ None → is_atomic i ≡ true → class_of_item i ≡ Some c → ItemTree n files ss i
item_of_class n files ss i c e a same =
    let made : component_at n files ss i ≡ atomic (item_name i) c (settings_of c (params_of ss i)) ∷ [] = ap (trees_behind n files ss i) e ∙ ap (atomic_of ss i) same in
    rw made (record { one = refl; name = refl; ins = rw (a, same) refl; outs = rw a refl; sound = refl })

-- ---- the children of a section

abbrev pub ItemTrees : ℕ → Files → List Section → List Item → Type 0
ItemTrees n files ss is = AllByRecursion (ItemTree n files ss) is

pub alone : (n : ℕ) (files : Files) (ss : List Section) (is : List Item) → ItemTrees n files ss is → flat_map (component_at n files ss) is ≡ map (tree_at_item n files ss) is
alone n files ss [] h = refl
alone n files ss (i ∷ is) h =
    ap (λ ts. ts ++ flat_map (component_at n files ss) is) h.0.one ∙ ap (λ ts. tree_at_item n files ss i ∷ ts) (alone n files ss is h.1)

children_sound : (n : ℕ) (files : Files) (ss : List Section) (is : List Item) → ItemTrees n files ss is → are_sound_parts (trees (map (tree_at_item n files ss) is)) ≡ true
children_sound n files ss [] h = refl
children_sound n files ss (i ∷ is) h =
    and_from (is_sound_part (tree_at_item n files ss i)) (are_sound_parts (trees (map (tree_at_item n files ss) is))) h.0.sound (children_sound n files ss is h.1)

ports_of_child : (n : ℕ) (files : Files) (ss : List Section) (of_tree : Option Tree → List Bytes) (of_item : Option Item → List Bytes) → of_tree None ≡ of_item None → (is : List Item) → ItemTrees n files ss is
    → AllByRecursion (λ i. of_tree (Some (tree_at_item n files ss i)) ≡ of_item (Some i)) is → (c : Bytes) → of_tree (child_of (trees (map (tree_at_item n files ss) is)) c) ≡ of_item (find (λ i. bytes_eq (item_name i) c) is)
ports_of_child n files ss of_tree of_item none [] h k c = none
ports_of_child n files ss of_tree of_item none (i ∷ is) h k c =
    grind (arith, h.0.name, k.0, ports_of_child n files ss of_tree of_item none is h.1 k.1 c)

abbrev group_cells : Section → ℕ
group_cells s = cell_count (space_of s)

abbrev face_cells : Section → ℕ
face_cells s = cond (is_group s) (group_cells s) 0

-- what the links of a section may join is what those of its component may
same_face : (n : ℕ) (files : Files) (ss : List Section) (s : Section) → is_group s ≡ false → ItemTrees n files ss (children_of s) → face_of ss s ≡ face_of_coupled (texts_of (codes "in") s) (texts_of (codes "out") s) (trees (map (tree_at_item n files ss) (children_of s)))
same_face n files ss s g h =
    let ins : (c : Bytes) → L.inputs_of_item ss (child_named s c) ≡ F.inputs_of (child_of (trees (map (tree_at_item n files ss) (children_of s))) c) =
    λ c. sym (ports_of_child n files ss F.inputs_of (L.inputs_of_item ss) refl (children_of s) h (all_imply (λ i k. k.ins) (children_of s) h) c) in
    let outs : (c : Bytes) → L.outputs_of_item ss (child_named s c) ≡ F.outputs_of (child_of (trees (map (tree_at_item n files ss) (children_of s))) c) =
    λ c. sym (ports_of_child n files ss F.outputs_of (L.outputs_of_item ss) refl (children_of s) h (all_imply (λ i k. k.outs) (children_of s) h) c) in
    let none : face_cells s ≡ 0 = ap (λ b. cond b (group_cells s) 0) g in
    λ k. record { ins = texts_of (codes "in") s; outs = texts_of (codes "out") s; inputs_of = λ c. ins c k; outputs_of = λ c. outs c k; cells = none k }

-- ---- sections

filled : {A : Type 0} (o : Option A) (x : A) (group : Bool) (f : Item → Tree) (is : List Item) → option_or o (cond (not group && is_empty is) (Some x) None) ≡ None → group ≡ false → has_child (trees (map f is)) ≡ true
filled o x group f is e g = grind arith

coupled_sound : (n : ℕ) (files : Files) (ss : List Section) (line : ℕ) (s : Section) → section_refused line false s ≡ None → RightSection files ss s → is_group s ≡ false → ItemTrees n files ss (children_of s)
    → is_sound_part (coupled s.name (texts_of (codes "in") s) (texts_of (codes "out") s) (trees (map (tree_at_item n files ss) (children_of s))) (links_of s)) ≡ true
coupled_sound n files ss line s e r g h =
    let kids = trees (map (tree_at_item n files ss) (children_of s)) in
    let child : has_child kids ≡ true = filled (type_refused s (first_entry (codes "type") s)) (refusal s.line MissingKey) (is_group s) (tree_at_item n files ss) (children_of s) e g in
    let links : are_accepted (face_of_coupled (texts_of (codes "in") s) (texts_of (codes "out") s) kids) [] (links_of s) ≡ true = subst (λ f. are_accepted f [] (links_of s) ≡ true) (same_face n files ss s g h) r.links in
    rw (child, r.ins, r.outs, links, children_sound n files ss (children_of s) h)

pub no_children : (s : Section) → is_group s ≡ true → children_of s ≡ []
no_children s g = ap (λ b. cond b [] (items_of (codes "components") s)) g

group_face : (files : Files) (ss : List Section) (s : Section) → is_group s ≡ true → face_of ss s ≡ face_of_group (group_of_section files ss s)
group_face files ss s g =
    let none : (c : Bytes) → child_named s c ≡ None = λ c. ap (λ is. find (λ i. bytes_eq (item_name i) c) is) (no_children s g) in
    let all : face_cells s ≡ group_cells s = ap (λ b. cond b (group_cells s) 0) g in
    λ k. record { ins = texts_of (codes "in") s; outs = texts_of (codes "out") s; inputs_of = λ c. L.inputs_of_item ss (none c k); outputs_of = λ c. L.outputs_of_item ss (none c k); cells = all k }

group_sound : (files : Files) (ss : List Section) (s : Section) → RightSection files ss s → is_group s ≡ true → is_sound_part (cells (group_of_section files ss s)) ≡ true
group_sound files ss s r g =
    let links : are_accepted (face_of_group (group_of_section files ss s)) [] (links_of s) ≡ true = subst (λ f. are_accepted f [] (links_of s) ≡ true) (group_face files ss s g) r.links in
    rw (r.group g, r.ins, r.outs, links)

-- ---- the walk, section by section

abbrev pub AllMet : Files → List Section → List Step → Type 0
AllMet files ss steps = AllByRecursion (Met files ss) steps

pub split_all : {X : Type 0} (P : X → Type 0) (xs ys : List X) → AllByRecursion P (xs ++ ys) → AllByRecursion P xs × AllByRecursion P ys
split_all P [] ys h = (tt, h)
split_all P (x ∷ xs) ys h = let p = split_all P xs ys h.1 in ((h.0, p.0), p.1)

abbrev pub item_steps : ℕ → List Section → List Bytes → Item → List Step
item_steps n ss around i =
    at_item around i ∷ elim (below ss around i) [ None ↦ [] | Some t ↦ walk_from n ss around i.line t ]

pub is_below : (ss : List Section) (around : List Bytes) (i : Item) → is_among around (item_name i) ≡ false → below ss around i ≡ section_of_item ss i
is_below ss around i e = ap (λ b. cond b None (section_of_item ss i)) e

abbrev pub Walks : ℕ → Files → List Section → Type 0
Walks n files ss = (around : List Bytes) (line : ℕ) (s : Section) → AllMet files ss (walk_from n ss around line s) → Component n files ss s

-- an item that no section stands behind has a class
pub class_there : (ss : List Section) (around : List Bytes) (i : Item) → RightItem ss around i × (is_atomic i ≡ true → is_some (class_of_item i) ≡ true) → section_of_item ss i ≡ None → (is_atomic i ≡ true) × (c : Class) × (class_of_item i ≡ Some c)
class_there ss around i h e =
    let a : is_atomic i ≡ true = atomic_there (is_atomic i) (section_of_item ss i) e h.0.1.found in
    let c = found (class_of_item i) (h.1 a) in
    (a, c.0, c.1)
  where
    atomic_there : (b : Bool) (o : Option Section) → o ≡ None → (not b && not (is_some o)) ≡ false → b ≡ true
    atomic_there b o e f = grind arith

    found : (o : Option Class) → is_some o ≡ true → (c : Class) × (o ≡ Some c)
    found o f = grind arith

item_tree : (n : ℕ) (files : Files) (ss : List Section) → Walks n files ss → (around : List Bytes) (i : Item) → AllMet files ss (item_steps n ss around i) → ItemTree n files ss i
item_tree n files ss walks around i h = go (section_of_item ss i) refl
  where
    go : (o : Option Section) → section_of_item ss i ≡ o → ItemTree n files ss i
    go None e = let a = class_there ss around i h.0 e in item_of_class n files ss i a.1 e a.0 a.2
    go (Some t) e = item_of_section n files ss i t e (walks around i.line t (rw (is_below ss around i h.0.0.1.not_around ∙ e) at h.1))

pub item_trees : (n : ℕ) (files : Files) (ss : List Section) → Walks n files ss → (around : List Bytes) (is : List Item) → AllMet files ss (flat_map (item_steps n ss around) is) → ItemTrees n files ss is
item_trees n files ss walks around [] h = tt
item_trees n files ss walks around (i ∷ is) h =
    let p = split_all (Met files ss) (item_steps n ss around i) (flat_map (item_steps n ss around) is) h in
    (item_tree n files ss walks around i p.0, item_trees n files ss walks around is p.1)

-- the component of a section, which is a group or not
abbrev pub made : ℕ → Files → List Section → Section → Bool → List Tree
made n files ss s b =
    cond b (cells (group_of_section files ss s)) (coupled s.name (texts_of (codes "in") s) (texts_of (codes "out") s) (trees (flat_map (component_at n files ss) (children_of s))) (links_of s)) ∷ []

pub made_group : (n : ℕ) (files : Files) (ss : List Section) (s : Section) → is_group s ≡ true → component_of (suc n) files ss s ≡ cells (group_of_section files ss s) ∷ []
made_group n files ss s g = ap (made n files ss s) g

pub made_coupled : (n : ℕ) (files : Files) (ss : List Section) (s : Section) → is_group s ≡ false → ItemTrees n files ss (children_of s)
    → component_of (suc n) files ss s ≡ coupled s.name (texts_of (codes "in") s) (texts_of (codes "out") s) (trees (map (tree_at_item n files ss) (children_of s))) (links_of s) ∷ []
made_coupled n files ss s g kids =
    ap (made n files ss s) g
    ∙ ap (λ ts. let x : List Tree = coupled s.name (texts_of (codes "in") s) (texts_of (codes "out") s) (trees ts) (links_of s) ∷ [] in x) (alone n files ss (children_of s) kids)

pub components_are_sound : (n : ℕ) (files : Files) (ss : List Section) → Walks n files ss
components_are_sound zero files ss around line s h = absurd cc
components_are_sound (suc n) files ss around line s h =
    let kids = item_trees n files ss (components_are_sound n files ss) (s.name ∷ around) (children_of s) h.1 in
    go (is_group s) refl kids
  where
    go : (b : Bool) → is_group s ≡ b → ItemTrees n files ss (children_of s) → Component (suc n) files ss s
    go true g kids = rw (made_group n files ss s g) (record { one = refl; name = refl; ins = refl; outs = refl; sound = group_sound files ss s h.0.1 g })
    go false g kids = rw (made_coupled n files ss s g kids) (record { one = refl; name = refl; ins = refl; outs = refl; sound = coupled_sound n files ss line s h.0.0 h.0.1 g kids })

-- ---- item by item

pub items_are_made : ItemsAreMade
items_are_made = record {
  section = λ n files ss i t e. ap (trees_behind n files ss i) e;
  class = λ n files ss i class e c. ap (trees_behind n files ss i) e ∙ ap (atomic_of ss i) c;
}

kids : (n : ℕ) (files : Files) (ss : List Section) (around : List Bytes) (line : ℕ) (s : Section) → AllByRecursion (Met files ss) (walk_from (suc n) ss around line s) → ItemTrees n files ss (children_of s)
kids n files ss around line s h = item_trees n files ss (components_are_sound n files ss) (s.name ∷ around) (children_of s) h.1

pub sections_are_made : SectionsAreMade
sections_are_made = record {
  group = made_group;
  coupled_of = λ n files ss around line s g h. made_coupled n files ss s g (kids n files ss around line s h);
  alone = λ n files ss around line s h. all_imply (λ i k. k.one) (children_of s) (kids n files ss around line s h);
}
