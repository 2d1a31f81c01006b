-- What the walk of an accepted model says of the sections, items and links that it meets.
use Rattle.std.proofs.Common.{◌≡◌, ℕ, ◌≤◌, true, false, Option, None, List, [], ◌∷◌, ◌++◌, map, length, refl, sym, subst, arith}
use Rattle.std.proofs.lemmas.Bool.Decides.{nat_tests}
use Rattle.std.specs.Prelude.{codes}
use Rattle.std.proofs.lemmas.List.{append-nil, append_assoc, map-append, length-append}
use Rattle.std.proofs.lemmas.List.Elements.{filter-append}
use Rattle.std.specs.List.{filter, filter_map, AllByRecursion}
use Rattle.std.specs.Option.{option_map, option_or, is_some}
use Rattle.quantity.specs.Bytes.{Bytes, is_among, has_repeat}
use Rattle.source_text.specs.Lines.{Files}
use Rattle.ma_lines.specs.declared.section.Entry.{Entry}
use Rattle.ma_lines.specs.Sections.{Section}
use Rattle.atomic_face.specs.declared.class.Class.{Class}
use Rattle.model_tree.specs.declared.link.Link.{Link}
use Rattle.model_tree.specs.Faces.{Face}
use Rattle.model_tree.specs.Sound.{are_accepted}
use Rattle.model_text.specs.Refusals.{Refusal, refusal}
use Rattle.model_text.specs.Keyed.{Item, items_of}
use Rattle.model_text.specs.Walk.{top, is_group, is_atomic, item_name, Step, at_section, at_item, section_in, items_in, walk, reached_sections, groups, atomics, item_refused, section_refused, first_step_refused}
use Rattle.model_text.specs.Keys.{repeated_words}
use Rattle.model_text.specs.Spaces.{of_space}
use Rattle.model_text.specs.Stock.{class_of_item, box_refused, component_refused, first_component_refused}
use Rattle.model_text.specs.Rules.{of_group_rules}
use Rattle.model_text.specs.Links.{link_of, links_of, link_entries, face_of, entry_refused, at_line, links_refused_after, of_links}
use Rattle.model_text.specs.Accepted.{ComponentsDiffer, AtomicsFit, LinksAreAccepted, Passed}
use Rattle.model_text.specs.Met.{RightSection, Right, HasClass, Met}
use Rattle.model_text.specs.BuildLaws.{PassedLinks}
use Rattle.model_text.proofs.Basics.{both_none, both_empty, each_of_phase, all_imply, both_of_all, unfiltered, repeat_last, same_as_itself}
use Rattle.model_text.proofs.Keys.{same_bytes}
use Rattle.model_text.proofs.GroupKeys.{Keyed, keyed_group, all_keyed}
use Rattle.model_text.proofs.GroupSound.{group_is_sound}

-- ---- items

item_is_right : (ss : List Section) (before : List Item) (around : List Bytes) (i : Item) → option_map (refusal i.line) (item_refused ss before around i) ≡ None → Right ss before around i
item_is_right ss before around i e = grind arith

-- what each item keeps, all items have
items_keep : (Q : List Item → Type 0) (ss : List Section)
    → ((before : List Item) (around : List Bytes) (i : Item) → Right ss before around i → Q before → Q (before ++ i ∷ []))
    → (before : List Item) (steps : List Step) → first_step_refused ss before steps ≡ None → Q before → Q (before ++ items_in steps)
items_keep Q ss keep before [] e q = subst Q (sym (append-nil before)) q
items_keep Q ss keep before (at_section line deep s ∷ steps) e q =
    let p = both_none (section_refused line deep s) (first_step_refused ss (before ++ []) steps) e in
    items_keep Q ss keep before steps (rw append-nil at p.1) q
items_keep Q ss keep before (at_item around i ∷ steps) e q =
    let p = both_none (option_map (refusal i.line) (item_refused ss before around i)) (first_step_refused ss (before ++ i ∷ []) steps) e in
    subst Q (append_assoc before (i ∷ []) (items_in steps)) (items_keep Q ss keep (before ++ i ∷ []) steps p.1 (keep before around i (item_is_right ss before around i p.0) q))

pub components_differ : ComponentsDiffer
components_differ ss e =
    items_keep (λ is. has_repeat (top ∷ map item_name is) ≡ false) ss keep [] (walk ss) e refl
  where
    keep : (before : List Item) (around : List Bytes) (i : Item) → Right ss before around i → has_repeat (top ∷ map item_name before) ≡ false → has_repeat (top ∷ map item_name (before ++ i ∷ [])) ≡ false
    keep before around i r q = rw map-append (repeat_last (top ∷ map item_name before) (item_name i) q (grind arith))

pub atomics_fit : AtomicsFit
atomics_fit ss e = items_keep (λ is. length (filter is_atomic is) ≤ 4096) ss keep [] (walk ss) e (omega arith)
  where
    keep : (before : List Item) (around : List Bytes) (i : Item) → Right ss before around i → length (filter is_atomic before) ≤ 4096 → length (filter is_atomic (before ++ i ∷ [])) ≤ 4096
    keep before around i r q = rw (filter-append, length-append) (grind (arith, nat_tests))

-- ---- links, each accepted after those before it

all_accepted : (f : Face) (s : Section) (before : List Link) (es : List Entry) → links_refused_after f s before es ≡ [] → are_accepted f before (filter_map (link_of s) es) ≡ true
all_accepted f s before [] h = refl
all_accepted f s before (e ∷ es) h =
    let p = both_empty (at_line e (entry_refused f before (link_of s e))) (links_refused_after f s (before ++ filter_map (link_of s) (e ∷ [])) es) h in
    grind (arith, all_accepted f s (before ++ filter_map (link_of s) (e ∷ [])) es p.1)

pub links_are_accepted : LinksAreAccepted
links_are_accepted ss h =
    all_imply (λ s. all_accepted (face_of ss s) s [] (link_entries s)) (reached_sections ss) (each_of_phase (of_links ss) (reached_sections ss) h)

-- ---- ports stand once

none_again : (before : List Bytes) (t : Bytes) (is : List Item) → repeated_words before is ≡ [] → is_among before t ≡ true → is_among (map (λ (i : Item). i.text) is) t ≡ false
none_again before t [] h b = refl
none_again before t (i ∷ is) h b = grind (arith, same_bytes t i.text, none_again (i.text ∷ before) t is)

stand_once : (before : List Bytes) (is : List Item) → repeated_words before is ≡ [] → has_repeat (map (λ (i : Item). i.text) is) ≡ false
stand_once before [] h = refl
stand_once before (i ∷ is) h = grind (arith, none_again (i.text ∷ before) i.text is, same_as_itself i.text, stand_once (i.text ∷ before) is)

-- ---- sections

abbrev SpaceAndRules : List Section → Section → Type 0
SpaceAndRules ss s = (of_space s ≡ []) × (of_group_rules ss s ≡ [])

right_section : (files : Files) (ss : List Section) (s : Section) → Keyed s → are_accepted (face_of ss s) [] (links_of s) ≡ true → (is_group s ≡ true → SpaceAndRules ss s) → RightSection files ss s
right_section files ss s k links group =
    record {
      ins = stand_once [] (items_of (codes "in") s) k.ins;
      outs = stand_once [] (items_of (codes "out") s) k.outs;
      links = links;
      group = λ g. group_is_sound files ss s (keyed_group s g k) (group g).0 (group g).1;
    }

sections_right : (files : Files) (classes : List Class) (ss : List Section) → PassedLinks classes ss → AllByRecursion (RightSection files ss) (reached_sections ss)
sections_right files classes ss p =
    all_imply (λ s q. right_section files ss s q.0 q.1.0 q.1.1) (reached_sections ss)
    (both_of_all Keyed (λ s. (are_accepted (face_of ss s) [] (links_of s) ≡ true) × (is_group s ≡ true → SpaceAndRules ss s)) (reached_sections ss) (all_keyed ss p.keys)
    (both_of_all (λ s. are_accepted (face_of ss s) [] (links_of s) ≡ true) (λ s. is_group s ≡ true → SpaceAndRules ss s) (reached_sections ss) (links_are_accepted ss p.links)
    (unfiltered (SpaceAndRules ss) is_group (reached_sections ss)
    (both_of_all (λ s. of_space s ≡ []) (λ s. of_group_rules ss s ≡ []) (groups ss) (each_of_phase of_space (groups ss) p.spaces) (each_of_phase (of_group_rules ss) (groups ss) p.rules)))))

-- ---- classes

has_class : (line : ℕ) (classes taken : List Class) (o : Option Class) (more : Option Refusal) → option_or (option_map (refusal line) (box_refused classes taken o)) more ≡ None → is_some o ≡ true
has_class line classes taken o more e = grind arith

have_classes : (ss : List Section) (classes taken : List Class) (is : List Item) → first_component_refused ss classes taken is ≡ None → AllByRecursion HasClass is
have_classes ss classes taken [] e = tt
have_classes ss classes taken (i ∷ is) e =
    let p = both_none (component_refused ss classes taken i) (first_component_refused ss classes (taken ++ filter_map class_of_item (i ∷ [])) is) e in
    (has_class i.line classes taken (class_of_item i) _ p.0, have_classes ss classes (taken ++ filter_map class_of_item (i ∷ [])) is p.1)

-- ---- steps

all_met : (files : Files) (ss : List Section) (before : List Item) (steps : List Step) → first_step_refused ss before steps ≡ None → AllByRecursion (RightSection files ss) (filter_map section_in steps)
    → AllByRecursion (λ i. is_atomic i ≡ true → HasClass i) (items_in steps) → AllByRecursion (Met files ss) steps
all_met files ss before [] e rs cs = tt
all_met files ss before (at_section line deep s ∷ steps) e rs cs =
    let p = both_none (section_refused line deep s) (first_step_refused ss (before ++ []) steps) e in
    ((p.0, rs.0), all_met files ss (before ++ []) steps p.1 rs.1 cs)
all_met files ss before (at_item around i ∷ steps) e rs cs =
    let p = both_none (option_map (refusal i.line) (item_refused ss before around i)) (first_step_refused ss (before ++ i ∷ []) steps) e in
    (((before, item_is_right ss before around i p.0), cs.0), all_met files ss (before ++ i ∷ []) steps p.1 rs cs.1)

pub links_passed : (classes : List Class) (ss : List Section) → Passed classes ss → PassedLinks classes ss
links_passed classes ss p = assumption

pub walk_is_met : (files : Files) (classes : List Class) (ss : List Section) → PassedLinks classes ss → AllByRecursion (Met files ss) (walk ss)
walk_is_met files classes ss p =
    all_met files ss [] (walk ss) p.tree (sections_right files classes ss p)
    (unfiltered HasClass is_atomic (items_in (walk ss)) (have_classes ss classes [] (atomics ss) p.stock))
