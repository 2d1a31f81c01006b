-- What stands in front: the parts of a section, of items and of one item.
use Rattle.std.proofs.Common.{◌≡◌, ℕ, zero, suc, ◌+◌, ◌<◌, length, get_or, drop, true, false, Some, None, List, [], ◌∷◌, ◌++◌, map, sym, ap, subst, ◌∙◌, Vec, Global, arith}
use Rattle.std.proofs.lemmas.List.{append_assoc, drop_more}
use Rattle.quantity.specs.Bytes.{Bytes}
use Rattle.ma_lines.specs.Sections.{Section}
use Rattle.atomic_face.specs.declared.class.Class.{Class}
use Rattle.model_tree.specs.declared.component.Component.{Component}
use Rattle.model_tree.specs.declared.group.Atomic.{Atomic}
use Rattle.model_tree.specs.declared.link.Link.{Link}
use Rattle.model_text.specs.BuildLaws.{PassedLinks, WalkIsMet}
use Rattle.model_text.specs.Keyed.{Item}
use Rattle.model_text.specs.Met.{Met}
use Rattle.model_text.specs.Trees.{no_files}
use Rattle.model_text.specs.Walk.{Step, at_section, is_group, walk_from, walk, children_of}
use Rattle.model_text.specs.Links.{links_of}
use Rattle.model_text.proofs.Parts.{behind, split_all}
use Rattle.model_walk.specs.Met.{item_steps, steps_of}
use Rattle.model_walk.specs.MetTree.{MetWith, section_met, IsMet, IsItemMet, AreMet}
use Rattle.model_walk.specs.declared.met.MetComponent.{MetComponent}
use Rattle.model_walk.specs.declared.met.MetComponent.TheVariants.{Atomic as atomic_met}
use Rattle.model_walk.specs.Placed.{plain_group, placed_of}
use Rattle.model_walk.specs.Sets.{sets_shown, sets_of}
use Rattle.model_build.specs.declared.parts.Parts.{Parts}
use Rattle.model_build.specs.Ahead.{AreOfItems, reached_in, groups_in, IsAhead, TakesLinks, AllMet, StandAhead, BuildsItem, SectionAhead, ItemsAhead, ItemAhead}
use Rattle.model_build.proofs.Fronts.{groups-from, links_taken, items-from, ahead_of_bare, atomic_item, bare_item, TopMet, at_top, top_met}

filled : {A B : Type 0} (f : A → B) (xs : List A) (y : B) (ys : List B) → map f xs ≡ y ∷ ys → 0 < length xs
filled f [] y ys e = absurd cc
filled f (x ∷ xs) y ys e = omega arith

-- ---- a section

-- a section that was met, from its own step on
record First (m : MetWith) (p : Parts) : Type 0 where
  pub levels : ℕ
  pub sections : List Section
  pub around : List Bytes
  pub line : ℕ
  pub section : Section
  pub later : List Step
  pub same : m.section ≡ section
  pub met : AreMet levels sections (section.name ∷ around) (children_of section) m.components
  pub parts : IsAhead None sections p (at_section line false section ∷ steps_of levels sections (section.name ∷ around) (children_of section) ++ later)
  pub right : AllMet sections (steps_of levels sections (section.name ∷ around) (children_of section))

first : (m : MetWith) (p : Parts) → SectionAhead m p → First m p
first m p h = by h.levels h.met h.stand
  where
    by : (levels : ℕ) → IsMet levels h.sections h.around h.section m → StandAhead h.sections p (walk_from levels h.sections h.around h.line h.section) → First m p
    by zero met stand = absurd met
    by (suc n) met stand =
        record {
          levels = n;
          sections = h.sections;
          around = h.around;
          line = h.line;
          section = h.section;
          later = stand.later;
          same = met.0;
          met = met.1;
          parts = stand.parts;
          right = stand.met.1;
        }

-- the steps behind the first
abbrev behind_first : (m : MetWith) (p : Parts) → First m p → List Step
behind_first m p f = steps_of f.levels f.sections (f.section.name ∷ f.around) (children_of f.section) ++ f.later

pub links_there : (m : MetWith) (p : Parts) → SectionAhead m p → 0 < length p.links.rest.items
links_there m p h =
    let f = first m p h in
    filled (λ (l : Vec Link Global). l.items) p.links.rest.items (links_of f.section) (map links_of (reached_in (behind_first m p f))) f.parts.links

pub group_there : (m : MetWith) (p : Parts) → is_group m.section ≡ true → SectionAhead m p → (0 < length p.groups.rest.items) × (0 < length p.rules.rest.items)
group_there m p b h =
    let f = first m p h in
    let s = f.section in
    let later = behind_first m p f in
    let gs = groups-from f.line false s later true (ap is_group (sym f.same) ∙ b) in
    (filled plain_group p.groups.rest.items (placed_of s) (map placed_of (groups_in later)) (f.parts.groups ∙ ap (map placed_of) gs), filled sets_shown p.rules.rest.items (sets_of f.sections s) (map (sets_of f.sections) (groups_in later)) (f.parts.rules ∙ ap (map (sets_of f.sections)) gs))

-- the items of a section stand in front where its links are taken
pub items_stand : (m : MetWith) (old mid : Parts) (links : List Link) → is_group m.section ≡ false → TakesLinks old links mid → SectionAhead m old → ItemsAhead m.components mid
items_stand m old mid links b t h =
    let f = first m old h in
    record {
      levels = f.levels;
      sections = f.sections;
      inside = f.section.name ∷ f.around;
      items = children_of f.section;
      met = f.met;
      stand = record { later = f.later; parts = (links_taken None f.sections f.line false f.section (behind_first m old f) old mid links (ap is_group (sym f.same) ∙ b) t f.parts).1; met = f.right };
    }

-- ---- items

-- the first item, and the others behind it
record ItemFirst (m : MetComponent) (ms : List MetComponent) (p : Parts) : Type 0 where
  pub levels : ℕ
  pub sections : List Section
  pub inside : List Bytes
  pub item : Item
  pub items : List Item
  pub later : List Step
  pub met : IsItemMet levels sections inside item m
  pub others : AreMet levels sections inside items ms
  pub parts : IsAhead None sections p (item_steps levels sections inside item ++ (steps_of levels sections inside items ++ later))
  pub right : AllMet sections (item_steps levels sections inside item) × AllMet sections (steps_of levels sections inside items)

item_first : (m : MetComponent) (ms : List MetComponent) (p : Parts) → ItemsAhead (m ∷ ms) p → ItemFirst m ms p
item_first m ms p h = by h.items h.met h.stand
  where
    by : (is : List Item) → AreMet h.levels h.sections h.inside is (m ∷ ms) → StandAhead h.sections p (steps_of h.levels h.sections h.inside is) → ItemFirst m ms p
    by [] met stand = absurd met
    by (i ∷ is) met stand =
        let here = item_steps h.levels h.sections h.inside i in
        let rest = steps_of h.levels h.sections h.inside is in
        record {
          levels = h.levels;
          sections = h.sections;
          inside = h.inside;
          item = i;
          items = is;
          later = stand.later;
          met = met.0;
          others = met.1;
          parts = subst (IsAhead None h.sections p) (append_assoc here rest stand.later) stand.parts;
          right = split_all (Met no_files h.sections) here rest stand.met;
        }

-- the next of them
next_first : (ms : List MetComponent) (i : ℕ) (d : MetComponent) (p : Parts) → i < length ms → ItemsAhead (drop i ms) p → ItemFirst (get_or ms i d) (drop (i + 1) ms) p
next_first ms i d p lt h = item_first (get_or ms i d) (drop (i + 1) ms) p (subst (λ (ns : List MetComponent). ItemsAhead ns p) (drop_more ms i d lt) h)

pub item_stands : (ms : List MetComponent) (i : ℕ) (d : MetComponent) (p : Parts) → i < length ms → ItemsAhead (drop i ms) p → ItemAhead (get_or ms i d) p
item_stands ms i d p lt h =
    let f = next_first ms i d p lt h in
    record {
      levels = f.levels;
      sections = f.sections;
      inside = f.inside;
      item = f.item;
      met = f.met;
      stand = record { later = steps_of f.levels f.sections f.inside f.items ++ f.later; parts = f.parts; met = f.right.0 };
    }

-- the others stand in front where it is built
pub others_stand : (ms : List MetComponent) (i : ℕ) (d : MetComponent) (old new : Parts) (c : Component) → i < length ms → ItemsAhead (drop i ms) old → BuildsItem (get_or ms i d) old c new → ItemsAhead (drop (i + 1) ms) new
others_stand ms i d old new c lt h b =
    let f = next_first ms i d old lt h in
    let rest = steps_of f.levels f.sections f.inside f.items in
    record {
      levels = f.levels;
      sections = f.sections;
      inside = f.inside;
      items = f.items;
      met = f.others;
      stand = record { later = f.later; parts = (b f.levels f.sections f.inside f.item f.met f.right.0).takes None (rest ++ f.later) f.parts; met = f.right.1 };
    }

-- ---- an item

there : (ss : List Section) (bs : List Atomic) (i : Item) (is : List Item) → AreOfItems None ss bs (i ∷ is) → 0 < length bs
there ss [] i is h = absurd h
there ss (a ∷ bs) i is h = omega arith

pub atomic_there : (p : Parts) → ItemAhead atomic_met p → 0 < length p.atomics.rest.items
atomic_there p h =
    let atomic = atomic_item h.levels h.sections h.inside h.item h.met h.stand.met in
    there h.sections p.atomics.rest.items h.item _ (items-from None h.sections h.inside h.item _ p true atomic h.stand.parts)

pub section_stands : (c : MetComponent) (m : MetWith) (p : Parts) → section_met c ≡ Some m → ItemAhead c p → SectionAhead m p
section_stands c m p is h =
    let x = bare_item h.levels h.sections h.inside h.item c m is h.met h.stand.met in
    let rest = walk_from h.levels h.sections h.inside h.item.line x.section in
    record {
      levels = h.levels;
      sections = h.sections;
      around = h.inside;
      line = h.item.line;
      section = x.section;
      met = x.met;
      stand = record {
        later = h.stand.later;
        parts = ahead_of_bare None h.sections h.inside h.item (rest ++ h.stand.later) p (behind h.sections h.item x.section x.found).0 (subst (λ (xs : List Step). IsAhead None h.sections p (xs ++ h.stand.later)) x.steps h.stand.parts);
        met = x.right;
      };
    }

-- ---- the section top

pub top_stands : (law : WalkIsMet) (classes : List Class) (ss : List Section) (m : MetWith) (p : Parts) → PassedLinks classes ss → TopMet ss m → IsAhead None ss p (walk ss) → SectionAhead m p
top_stands law classes ss m p passed t h =
    record {
      levels = 17;
      sections = ss;
      around = [];
      line = 0;
      section = t.section;
      met = t.met;
      stand = record { later = []; parts = at_top None ss t.section p t.named h; met = top_met law classes ss t.section passed t.named };
    }
