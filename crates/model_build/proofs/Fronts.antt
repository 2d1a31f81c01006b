-- What is built, step by step: the parts ahead, the trees that are made of them, and the component top.
use Rattle.std.proofs.Common.{◌≡◌, ℕ, suc, Bool, true, false, cond, Option, Some, None, List, [], ◌∷◌, map, refl, sym, ap, ◌∙◌, subst, codes, ◌++◌, zero, ◌+◌, ◌<◌, length, get_or, take, not, ◌&&◌, ◌||◌}
use Rattle.std.specs.List.{flat_map}
use Rattle.quantity.specs.Bytes.{Bytes}
use Rattle.ma_lines.specs.Sections.{Section}
use Rattle.model_tree.specs.declared.group.Atomic.{Atomic}
use Rattle.model_tree.specs.declared.group.CellGroup.{CellGroup}
use Rattle.model_tree.specs.declared.link.Link.{Link}
use Rattle.model_leaves.specs.Leaves.{Settings}
use Rattle.model_text.specs.Keyed.{Item, items_of, section_named, texts_of, first_entry, is_this_value}
use Rattle.model_text.specs.Walk.{Step, at_section, at_item, is_group, is_atomic, item_name, section_of_item, below, walk_from, children_of, top, is_wrong_type, type_refused, walk, walk_at, groups, atomics}
use Rattle.model_text.specs.Links.{links_of}
use Rattle.model_walk.specs.Met.{item_steps, steps_of}
use Rattle.model_walk.specs.MetTree.{MetWith, section_met, AreWith, IsMetWhere, IsMet, IsItemMet, AreMet, IsTopMet}
use Rattle.model_walk.specs.declared.met.MetComponent.{MetComponent}
use Rattle.model_walk.specs.declared.met.MetComponent.TheVariants.{Atomic as atomic_met}
use Rattle.model_walk.specs.Placed.{Placed, plain_group, placed_of}
use Rattle.model_walk.specs.Sets.{Sets, sets_shown, sets_of}
use Rattle.model_build.specs.declared.parts.Parts.{Parts}
use Rattle.model_build.specs.Ahead.{AreOfItems, lists_of, reached_in, groups_in, atomics_in, IsAhead, TakesLinks, TakesGroup, IsMade, Builds, Boxes, AllMet, BuildsSection, BuildsItems, BuildsItem, group_with}
use Rattle.model_tree.specs.declared.component.Coupled.{Coupled}
use Rattle.model_tree.specs.declared.component.Component.{Component, Row_of-Component, end_of-Component, more_of-Component, items-the_row-Component, items_hidden-the_row-Component-0}
use Rattle.model_tree.specs.declared.component.Component.TheVariants.{Coupled as in_tree, Cells}
use Rattle.model_tree.specs.Tree.{Tree, coupled, cons, cells}
use Rattle.model_tree.specs.Stands.{part_of, parts_of}
use Rattle.model_tree.proofs.Children.{row_of}
use Rattle.model_text.specs.Trees.{trees, group_of_section, component_of, first_tree, no_files, tree_of_section}
use Rattle.model_build.specs.Blank.{blanked, all_blanked}
use Rattle.model_build.specs.Boxes as held
use Rattle.std.proofs.lemmas.List.{append_assoc, append-nil, map-append, take_more}
use Rattle.std.proofs.lemmas.List.Concat.{flat_map-append}
use Rattle.std.specs.Option.{option_map, option_or}
use Rattle.atomic_face.specs.declared.class.Class.{Class}
use Rattle.model_text.specs.Met.{Met}
use Rattle.model_text.specs.BuildLaws.{tree_at_item, ItemsAreMade, SectionsAreMade, PassedLinks, WalkIsMet}
use Rattle.model_text.proofs.Parts.{behind, split_all, find_is, is_below, class_there}
use Rattle.std.specs.Prelude.{IfSome}
use Rattle.std.specs.Str.{bytes_eq}
use Rattle.ma_lines.specs.declared.section.Entry.{Entry}
use Rattle.model_text.specs.declared.kind.Kind.TheVariants.{BadValue}
use Rattle.model_text.specs.Refusals.{refusal}
use Rattle.model_text.specs.Walk as W
use Rattle.model_build.specs.Settled.{name_and_class, named_item}
use Rattle.model_build.specs.Built.{settings_of_item, HasSettings, IsBuilt}
use Rattle.model_text.proofs.Keys.{same_bytes}

-- ---- a section

-- the groups from a section on
pub groups-from : (line : ℕ) (deep : Bool) (s : Section) (later : List Step) (b : Bool) → is_group s ≡ b → groups_in (at_section line deep s ∷ later) ≡ cond b (s ∷ groups_in later) (groups_in later)
groups-from line deep s later b e = ap (λ c. cond c (s ∷ groups_in later) (groups_in later)) e

-- the links of a coupled component are taken: they are the section's
pub links_taken : (told : Option Settings) (ss : List Section) (line : ℕ) (deep : Bool) (s : Section) (later : List Step) (old new : Parts) (links : List Link) → is_group s ≡ false → TakesLinks old links new
    → IsAhead told ss old (at_section line deep s ∷ later) → (links ≡ links_of s) × IsAhead told ss new later
links_taken told ss line deep s later old new links b t h =
    let gs = groups-from line deep s later false b in
    let all : links ∷ lists_of new ≡ links_of s ∷ map links_of (reached_in later) = sym t.links ∙ h.links in
    let ahead : IsAhead told ss new later = record {
      groups = ap (map plain_group) t.groups ∙ h.groups ∙ ap (map placed_of) gs;
      rules = ap (map sets_shown) t.rules ∙ h.rules ∙ ap (map (sets_of ss)) gs;
      atomics = subst (λ (bs : List Atomic). AreOfItems told ss bs (atomics_in later)) (sym t.atomics) h.atomics;
      links = cc;
    } in
    (cc, ahead)

-- a group is taken: it is the section's
pub record Taken (told : Option Settings) (ss : List Section) (s : Section) (later : List Step) (placed : Placed) (sets : Sets) (list : List Link) (new : Parts) : Type 0 where
  pub placed_is : placed ≡ placed_of s
  pub sets_is : sets ≡ sets_of ss s
  pub list_is : list ≡ links_of s
  pub ahead : IsAhead told ss new later

pub group_taken : (told : Option Settings) (ss : List Section) (line : ℕ) (deep : Bool) (s : Section) (later : List Step) (old new : Parts) (g : CellGroup) → is_group s ≡ true → (t : TakesGroup old g new)
    → IsAhead told ss old (at_section line deep s ∷ later) → Taken told ss s later t.placed t.sets t.list new
group_taken told ss line deep s later old new g b t h =
    let gs = groups-from line deep s later true b in
    let groups : t.placed ∷ map plain_group new.groups.rest.items ≡ placed_of s ∷ map placed_of (groups_in later) = sym t.groups ∙ h.groups ∙ ap (map placed_of) gs in
    let rules : t.sets ∷ map sets_shown new.rules.rest.items ≡ sets_of ss s ∷ map (sets_of ss) (groups_in later) = sym t.rules ∙ h.rules ∙ ap (map (sets_of ss)) gs in
    let links : t.list ∷ lists_of new ≡ links_of s ∷ map links_of (reached_in later) = sym t.links ∙ h.links in
    record {
      placed_is = cc;
      sets_is = cc;
      list_is = cc;
      ahead = record { groups = cc; rules = cc; atomics = subst (λ (bs : List Atomic). AreOfItems told ss bs (atomics_in later)) (sym t.atomics) h.atomics; links = cc };
    }

-- the walk of a group's section
pub walk-of-group : (n : ℕ) (ss : List Section) (around : List Bytes) (line : ℕ) (s : Section) → is_group s ≡ true → walk_from (suc n) ss around line s ≡ at_section line false s ∷ []
walk-of-group n ss around line s b =
    ap (λ is. at_section line false s ∷ flat_map (item_steps n ss (s.name ∷ around)) is) (ap (λ c. cond c [] (items_of (codes "components") s)) b)

-- ---- an item

-- the components from an item on
pub items-from : (told : Option Settings) (ss : List Section) (around : List Bytes) (i : Item) (later : List Step) (p : Parts) (b : Bool) → is_atomic i ≡ b → IsAhead told ss p (at_item around i ∷ later)
    → AreOfItems told ss p.atomics.rest.items (cond b (i ∷ atomics_in later) (atomics_in later))
items-from told ss around i later p b e h = subst (λ c. AreOfItems told ss p.atomics.rest.items (cond c (i ∷ atomics_in later) (atomics_in later))) e h.atomics

-- a bare item takes nothing
pub ahead_of_bare : (told : Option Settings) (ss : List Section) (around : List Bytes) (i : Item) (later : List Step) (p : Parts) → is_atomic i ≡ false → IsAhead told ss p (at_item around i ∷ later) → IsAhead told ss p later
ahead_of_bare told ss around i later p b h = record { groups = h.groups; rules = h.rules; atomics = items-from told ss around i later p false b h; links = h.links }

-- ---- the steps of an item

abbrev steps_behind : ℕ → List Section → List Bytes → Item → Option Section → List Step
steps_behind n ss inside i o = at_item inside i ∷ elim o [ None ↦ [] | Some t ↦ walk_from n ss inside i.line t ]

-- no name around an item is its own, so the section of its name stands behind it
behind_it : (n : ℕ) (ss : List Section) (inside : List Bytes) (i : Item) (o : Option Section) → AllMet ss (item_steps n ss inside i) → below ss inside i ≡ o → section_of_item ss i ≡ o
behind_it n ss inside i o met e = sym (is_below ss inside i met.0.0.1.not_around) ∙ e

-- the item of an atomic component is atomic
pub atomic_item : (n : ℕ) (ss : List Section) (inside : List Bytes) (i : Item) → IsItemMet n ss inside i atomic_met → AllMet ss (item_steps n ss inside i) → is_atomic i ≡ true
atomic_item n ss inside i h met = by (below ss inside i) refl h
  where
    by : (o : Option Section) → below ss inside i ≡ o → IsMetWhere (IsMet n ss inside) o None → is_atomic i ≡ true
    by None e h = (class_there ss inside i met.0 (behind_it n ss inside i None met e)).0
    by (Some s) e h = absurd h

-- the item of a section
pub record BareItem (n : ℕ) (ss : List Section) (inside : List Bytes) (i : Item) (m : MetWith) : Type 0 where
  pub section : Section
  pub met : IsMet n ss inside section m
  pub found : section_of_item ss i ≡ Some section
  pub steps : item_steps n ss inside i ≡ at_item inside i ∷ walk_from n ss inside i.line section
  pub right : AllMet ss (walk_from n ss inside i.line section)

pub bare_item : (n : ℕ) (ss : List Section) (inside : List Bytes) (i : Item) (c : MetComponent) (m : MetWith) → section_met c ≡ Some m → IsItemMet n ss inside i c → AllMet ss (item_steps n ss inside i)
    → BareItem n ss inside i m
bare_item n ss inside i c m is h met = by (below ss inside i) refl (subst (IsMetWhere (IsMet n ss inside) (below ss inside i)) is h)
  where
    by : (o : Option Section) → below ss inside i ≡ o → IsMetWhere (IsMet n ss inside) o (Some m) → BareItem n ss inside i m
    by None e h = absurd h
    by (Some s) e h =
        let steps = ap (steps_behind n ss inside i) e in
        let right : AllMet ss (at_item inside i ∷ walk_from n ss inside i.line s) = subst (AllMet ss) steps met in
        record { section = s; met = h; found = behind_it n ss inside i (Some s) met e; steps = steps; right = right.1 }

parts-row : (n : _) (row : Row_of-Component n) (settings : Settings) → parts_of row settings ≡ trees (map (λ c. part_of c settings) (items-the_row-Component n row))
parts-row n end_of-Component settings = refl
parts-row n (more_of-Component c rest) settings = ap (cons (part_of c settings)) (parts-row _ rest settings)

-- the tree of a coupled component
pub part-coupled : (c : Coupled) (settings : Settings) → part_of (in_tree c) settings ≡ coupled c.name c.ins.items c.outs.items (trees (map (λ d. part_of d settings) c.children.items)) c.links.items
part-coupled c settings =
    let row = row_of (in_tree c) in
    ap (λ ts. coupled c.name c.ins.items c.outs.items ts c.links.items) (parts-row row.0 row.1 settings ∙ ap (λ (cs : List Component). trees (map (λ d. part_of d settings) cs)) (items_hidden-the_row-Component-0 c.children))

pub all-blanked : (ts : List Tree) → all_blanked (trees ts) ≡ trees (map blanked ts)
all-blanked [] = refl
all-blanked (t ∷ ts) = ap (cons (blanked t)) (all-blanked ts)

boxes-row : (n : _) (row : Row_of-Component n) → held.all_atomics_in row ≡ flat_map held.atomics_in (items-the_row-Component n row)
boxes-row n end_of-Component = refl
boxes-row n (more_of-Component c rest) = ap (λ bs. held.atomics_in c ++ bs) (boxes-row _ rest)

-- the atomic components of a coupled one are those of its children
pub boxes-coupled : (c : Coupled) → held.atomics_in (in_tree c) ≡ flat_map held.atomics_in c.children.items
boxes-coupled c =
    let row = row_of (in_tree c) in
    boxes-row row.0 row.1 ∙ ap (flat_map held.atomics_in) (items_hidden-the_row-Component-0 c.children)

-- ---- steps that follow one another

pub builds-more : (ss : List Section) (xs ys : List Step) (ts us : List Tree) (old mid new : Parts) (cs ds : List Component) → Builds ss xs ts old cs mid → Builds ss ys us mid ds new → Builds ss (xs ++ ys) (ts ++ us) old (cs ++ ds) new
builds-more ss xs ys ts us old mid new cs ds a b =
    record {
      takes = λ told later h. b.takes told later (a.takes told (ys ++ later) (subst (IsAhead told ss old) (append_assoc xs ys later) h));
      shows = λ settings later h.
          let k = subst (IsAhead (Some settings) ss old) (append_assoc xs ys later) h in
          map-append (λ c. part_of c settings) cs ds
          ∙ (λ i. a.shows settings (ys ++ later) k i ++ b.shows settings later (a.takes (Some settings) (ys ++ later) k) i) ∙ sym (map-append blanked ts us);
    }

-- ---- a group

pub group_builds : (law : SectionsAreMade) (m : MetWith) (old new : Parts) (g : CellGroup) → is_group m.section ≡ true → TakesGroup old g new → BuildsSection m old (Cells g) new
group_builds law m old new g b t zero ss around line s h met = absurd h
group_builds law m old new g b t (suc n) ss around line s h met =
    let group : is_group s ≡ true = ap is_group (sym h.0) ∙ b in
    let steps = walk-of-group n ss around line s group in
    let tree : first_tree (component_of (suc n) no_files ss s) ≡ cells (group_of_section no_files ss s) = ap first_tree (law.group n no_files ss s group) in
    let taken = λ (told : Option Settings) (later : List Step) (h : IsAhead told ss old (walk_from (suc n) ss around line s ++ later)).
    group_taken told ss line false s later old new g group t (subst (λ (xs : List Step). IsAhead told ss old (xs ++ later)) steps h)
    in
    record {
      takes = λ told later h. (taken told later h).ahead;
      shows = λ settings later h.
          let u = taken (Some settings) later h in
          ap (λ x. cells x ∷ []) (t.made ∙ (λ k. group_with (u.placed_is k) (u.sets_is k) (u.list_is k))) ∙ ap (λ x. blanked x ∷ []) (sym tree);
    }

-- ---- a coupled component

pub coupled_builds : (law : SectionsAreMade) (m : MetWith) (old mid new : Parts) (c : Coupled) (cs : List Component) (links : List Link) → is_group m.section ≡ false → TakesLinks old links mid
    → BuildsItems m.components mid cs new → IsMade c m.section cs links → BuildsSection m old (in_tree c) new
coupled_builds law m old mid new c cs links b t k made zero ss around line s h met = absurd h
coupled_builds law m old mid new c cs links b t k made (suc n) ss around line s h met =
    let no_group : is_group s ≡ false = ap is_group (sym h.0) ∙ b in
    let mine : IsMade c s cs links = subst (λ (x : Section). IsMade c x cs links) h.0 made in
    let rest = steps_of n ss (s.name ∷ around) (children_of s) in
    let ts = map (tree_at_item n no_files ss) (children_of s) in
    let kids = k n ss (s.name ∷ around) (children_of s) h.1 met.1 in
    let tree : first_tree (component_of (suc n) no_files ss s) ≡ coupled s.name (texts_of (codes "in") s) (texts_of (codes "out") s) (trees ts) (links_of s) =
    ap first_tree (law.coupled_of n no_files ss around line s no_group met) in
    let taken = λ (told : Option Settings) (later : List Step) (h : IsAhead told ss old (walk_from (suc n) ss around line s ++ later)). links_taken told ss line false s (rest ++ later) old mid links no_group t h in
    record {
      takes = λ told later h. kids.takes told later (taken told later h).1;
      shows = λ settings later h.
          let u = taken (Some settings) later h in
          let parts : map (λ d. part_of d settings) c.children.items ≡ map blanked ts = ap (map (λ d. part_of d settings)) mine.children ∙ kids.shows settings later u.1 in
          ap (λ x. x ∷ [])
          (part-coupled c settings ∙ (λ k. coupled (mine.name k) (mine.ins k) (mine.outs k) (trees (parts k)) ((mine.links ∙ u.0) k))
          ∙ ap (λ x. coupled s.name (texts_of (codes "in") s) (texts_of (codes "out") s) x (links_of s)) (sym (all-blanked ts)) ∙ ap blanked (sym tree));
    }

pub coupled_boxes : (old mid new : Parts) (s : Section) (c : Coupled) (cs : List Component) (links : List Link) → TakesLinks old links mid → IsMade c s cs links → Boxes mid cs new → Boxes old (in_tree c ∷ []) new
coupled_boxes old mid new s c cs links t m b =
    let all : flat_map held.atomics_in cs ≡ flat_map held.atomics_in (in_tree c ∷ []) = ap (flat_map held.atomics_in) (sym m.children) ∙ sym (boxes-coupled c) ∙ sym (append-nil (held.atomics_in (in_tree c))) in
    sym t.atomics ∙ b ∙ ap (λ zs. zs ++ new.atomics.rest.items) all

-- ---- an item

pub bare_builds : (law : ItemsAreMade) (c : MetComponent) (m : MetWith) (old new : Parts) (made : Component) → section_met c ≡ Some m → BuildsSection m old made new → BuildsItem c old made new
bare_builds law c m old new made is k n ss inside i h met =
    let x = bare_item n ss inside i c m is h met in
    let s = x.section in
    let rest = walk_from n ss inside i.line s in
    let below = k n ss inside i.line s x.met x.right in
    let tree : first_tree (component_of n no_files ss s) ≡ tree_at_item n no_files ss i = ap first_tree (sym (law.section n no_files ss i s x.found)) in
    let ahead = λ (told : Option Settings) (later : List Step) (h : IsAhead told ss old (item_steps n ss inside i ++ later)).
    ahead_of_bare told ss inside i (rest ++ later) old (behind ss i s x.found).0 (subst (λ (xs : List Step). IsAhead told ss old (xs ++ later)) x.steps h)
    in
    record {
      takes = λ told later h. below.takes told later (ahead told later h);
      shows = λ settings later h. below.shows settings later (ahead (Some settings) later h) ∙ ap (λ t. blanked t ∷ []) tree;
    }

-- ---- items, one after another

-- the last goes with the last
record LastWith {A B : Type 0} (R : A → B → Type 0) (xs : List A) (ys : List B) (y : B) : Type 0 where
  pub front : List A
  pub last : A
  pub same : xs ≡ front ++ last ∷ []
  pub fronts : AreWith R front ys
  pub lasts : R last y

last_with : {A B : Type 0} (R : A → B → Type 0) (xs : List A) (ys : List B) (y : B) → AreWith R xs (ys ++ y ∷ []) → LastWith R xs ys y
last_with R [] [] y h = absurd h
last_with R [] (b ∷ ys) y h = absurd h
last_with R (a ∷ []) [] y h = record { front = []; last = a; same = refl; fronts = tt; lasts = h.0 }
last_with R (a ∷ b ∷ xs) [] y h = absurd h.1
last_with R (a ∷ xs) (b ∷ ys) y h =
    let r = last_with R xs ys y h.1 in
    record { front = a ∷ r.front; last = r.last; same = ap (λ zs. a ∷ zs) r.same; fronts = (h.0, r.fronts); lasts = r.lasts }

pub items_none : (p : Parts) (cs : List Component) → cs ≡ [] → BuildsItems [] p cs p
items_none p cs e n ss inside [] h met = rw e (record { takes = λ told later h. h; shows = λ settings later h. refl })
items_none p cs e n ss inside (i ∷ is) h met = absurd h

-- one more
pub boxes_step : (old mid new : Parts) (cs ds : List Component) (c : Component) → ds ≡ cs ++ c ∷ [] → Boxes old cs mid → Boxes mid (c ∷ []) new → Boxes old ds new
boxes_step old mid new cs ds c e a b = rw (e, flat_map-append held.atomics_in cs (c ∷ []), append_assoc) (a ∙ ap (λ zs. flat_map held.atomics_in cs ++ zs) b)

builds-last : (n : ℕ) (ss : List Section) (inside : List Bytes) (is front : List Item) (x : Item) (old mid new : Parts) (cs ds : List Component) (c : Component) → is ≡ front ++ x ∷ [] → ds ≡ cs ++ c ∷ []
    → Builds ss (steps_of n ss inside front) (map (tree_at_item n no_files ss) front) old cs mid → Builds ss (item_steps n ss inside x) (tree_at_item n no_files ss x ∷ []) mid (c ∷ []) new
    → Builds ss (steps_of n ss inside is) (map (tree_at_item n no_files ss) is) old ds new
builds-last n ss inside is front x old mid new cs ds c same e a b =
    let steps = item_steps n ss inside in
    let trees_of = tree_at_item n no_files ss in
    rw (e, same, flat_map-append steps front (x ∷ []), append-nil (steps x), map-append trees_of front (x ∷ []))
    (builds-more ss (flat_map steps front) (steps x) (map trees_of front) (trees_of x ∷ []) old mid new cs (c ∷ []) a b)

steps-last : (n : ℕ) (ss : List Section) (inside : List Bytes) (is front : List Item) (x : Item) → is ≡ front ++ x ∷ [] → steps_of n ss inside is ≡ steps_of n ss inside front ++ item_steps n ss inside x
steps-last n ss inside is front x same =
    let steps = item_steps n ss inside in
    ap (flat_map steps) same ∙ flat_map-append steps front (x ∷ []) ∙ ap (λ ys. flat_map steps front ++ ys) (append-nil (steps x))

pub items_step : (ms : List MetComponent) (i : ℕ) (d : MetComponent) (old mid new : Parts) (cs ds : List Component) (c : Component) → i < length ms → ds ≡ cs ++ c ∷ [] → BuildsItems (take i ms) old cs mid
    → BuildsItem (get_or ms i d) mid c new → BuildsItems (take (i + 1) ms) old ds new
items_step ms i d old mid new cs ds c lt e k one n ss inside is h met =
    let w = last_with (IsItemMet n ss inside) is (take i ms) (get_or ms i d) (subst (AreMet n ss inside is) (take_more ms i d lt) h) in
    let here = item_steps n ss inside w.last in
    let right = split_all (Met no_files ss) (steps_of n ss inside w.front) here (subst (AllMet ss) (steps-last n ss inside is w.front w.last w.same) met) in
    builds-last n ss inside is w.front w.last old mid new cs ds c w.same e (k n ss inside w.front w.fronts right.0) (one n ss inside w.last w.lasts right.1)

-- ---- the section top

both_none : {A : Type 0} (o p : Option A) → option_or o p ≡ None → o ≡ None
both_none None p e = refl
both_none (Some x) p e = absurd cc

wrong_by : {A : Type 0} (a b : Bool) (x : A) → cond (not (a || (b && not true))) (Some x) None ≡ None → a ≡ true
wrong_by true b x e = refl
wrong_by false true x e = absurd cc
wrong_by false false x e = absurd cc

coupled_by : (s : Section) (o : Option Entry) → s.name ≡ top → type_refused s o ≡ None → is_this_value (codes "cell") (option_map (λ (e : Entry). e.value) o) ≡ false
coupled_by s None n h = refl
coupled_by s (Some e) n h =
    let name : bytes_eq s.name top ≡ true = ap (λ t. bytes_eq t top) n in
    let fine = subst (λ b. cond (not (bytes_eq e.value (codes "coupled") || (bytes_eq e.value (codes "cell") && not b))) (Some (refusal e.line BadValue)) None ≡ None) name h in
    ap (bytes_eq (codes "cell")) (same_bytes e.value (codes "coupled") (wrong_by (bytes_eq e.value (codes "coupled")) (bytes_eq e.value (codes "cell")) (refusal e.line BadValue) fine))

-- the section top, as it was met
pub record TopMet (ss : List Section) (m : MetWith) : Type 0 where
  pub section : Section
  pub named : section_named ss top ≡ Some section
  pub met : IsMet 17 ss [] section m

pub top_was_met : (ss : List Section) (m : MetWith) → IsTopMet ss (section_named ss top) m → TopMet ss m
top_was_met ss m h = by (section_named ss top) refl h
  where
    by : (o : Option Section) → section_named ss top ≡ o → IsTopMet ss o m → TopMet ss m
    by None e h = absurd h
    by (Some s) e h = record { section = s; named = e; met = h }

pub top_met : (law : WalkIsMet) (classes : List Class) (ss : List Section) (s : Section) → PassedLinks classes ss → section_named ss top ≡ Some s → AllMet ss (walk_from 17 ss [] 0 s)
top_met law classes ss s p e = subst (AllMet ss) (ap (walk_at ss) e) (law no_files classes ss p)

pub top_is_coupled : (law : WalkIsMet) (classes : List Class) (ss : List Section) (m : MetWith) → PassedLinks classes ss → TopMet ss m → is_group m.section ≡ false
top_is_coupled law classes ss m p t =
    let s = t.section in
    let met = top_met law classes ss s p t.named in
    ap is_group t.met.0 ∙ coupled_by s (first_entry (codes "type") s) (find_is top ss s t.named) (both_none (type_refused s (first_entry (codes "type") s)) _ met.0.0)

-- ---- what stands ahead

of_items : (told : Option Settings) (ss : List Section) (bs : List Atomic) (is : List Item) → map name_and_class bs ≡ map named_item is
    → IfSome told (λ s. map (λ (a : Atomic). Some (s a.at.0)) bs ≡ map (settings_of_item ss) is) → AreOfItems told ss bs is
of_items told ss [] [] e f = tt
of_items told ss [] (i ∷ is) e f = absurd cc
of_items told ss (a ∷ bs) [] e f = absurd cc
of_items None ss (a ∷ bs) (i ∷ is) e f = ((cc, tt), of_items None ss bs is (cc) tt)
of_items (Some s) ss (a ∷ bs) (i ∷ is) e f = ((cc, cc), of_items (Some s) ss bs is (cc) (cc))

pub start : (told : Option Settings) (ss : List Section) (p : Parts) → map plain_group p.groups.rest.items ≡ map placed_of (groups ss) → map sets_shown p.rules.rest.items ≡ map (sets_of ss) (groups ss)
    → map name_and_class p.atomics.rest.items ≡ map named_item (atomics ss) → IfSome told (λ s. HasSettings ss s p.atomics.rest.items) → lists_of p ≡ map links_of (W.reached_sections ss) → IsAhead told ss p (walk ss)
start told ss p g r a s l = record { groups = g; rules = r; atomics = of_items told ss p.atomics.rest.items (atomics ss) a s; links = l }

-- ---- what is built

pub at_top : (told : Option Settings) (ss : List Section) (s : Section) (p : Parts) → section_named ss top ≡ Some s → IsAhead told ss p (walk ss) → IsAhead told ss p (walk_from 17 ss [] 0 s ++ [])
at_top told ss s p e h = subst (IsAhead told ss p) (ap (walk_at ss) e ∙ sym (append-nil (walk_from 17 ss [] 0 s))) h

pub tree_is_built : (law : WalkIsMet) (classes : List Class) (ss : List Section) (m : MetWith) (old new : Parts) (c : Coupled) (settings : Settings) → PassedLinks classes ss → TopMet ss m
    → BuildsSection m old (in_tree c) new → IsAhead (Some settings) ss old (walk ss) → IsBuilt ss settings c
tree_is_built law classes ss m old new c settings p t k h =
    let s = t.section in
    let b = k 17 ss [] 0 s t.met (top_met law classes ss s p t.named) in
    let one : part_of (in_tree c) settings ∷ [] ≡ blanked (first_tree (component_of 17 no_files ss s)) ∷ [] = b.shows settings [] (at_top (Some settings) ss s old t.named h) in
    let same : part_of (in_tree c) settings ≡ blanked (first_tree (component_of 17 no_files ss s)) = cc in
    same ∙ ap (λ (o : Option Section). blanked (tree_of_section no_files ss o)) (sym t.named)

none_left : (ss : List Section) (bs : List Atomic) → AreOfItems None ss bs [] → bs ≡ []
none_left ss [] e = refl
none_left ss (a ∷ bs) e = absurd e

pub boxes_are_held : (law : WalkIsMet) (classes : List Class) (ss : List Section) (m : MetWith) (old new : Parts) (c : Coupled) → PassedLinks classes ss → TopMet ss m → BuildsSection m old (in_tree c) new
    → Boxes old (in_tree c ∷ []) new → IsAhead None ss old (walk ss) → held.atomics_in (in_tree c) ≡ old.atomics.rest.items
boxes_are_held law classes ss m old new c p t k boxes h =
    let s = t.section in
    let b = k 17 ss [] 0 s t.met (top_met law classes ss s p t.named) in
    let left : new.atomics.rest.items ≡ [] = none_left ss new.atomics.rest.items (b.takes None [] (at_top None ss s old t.named h)).atomics in
    let mine = held.atomics_in (in_tree c) in
    sym (boxes ∙ ap (λ bs. (mine ++ []) ++ bs) left ∙ append-nil (mine ++ []) ∙ append-nil mine)
