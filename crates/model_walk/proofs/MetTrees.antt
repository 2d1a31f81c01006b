-- The sections that were met, one in another.
use Rattle.std.proofs.Common.{◌≡◌, ℕ, suc, ◌+◌, ◌<◌, length, get_or, take, map, Option, Some, None, List, [], ◌∷◌, ◌++◌, ap, sym, subst, ◌∙◌}
use Rattle.std.proofs.lemmas.List.{take_more, map-append}
use Rattle.quantity.specs.Bytes.{Bytes}
use Rattle.ma_lines.specs.Sections.{Section}
use Rattle.model_text.specs.Keyed.{Item}
use Rattle.model_text.specs.Walk.{below, children_of}
use Rattle.model_walk.specs.Shown.{item_of}
use Rattle.model_walk.specs.declared.item.Item as kept
use Rattle.model_walk.specs.MetTree.{MetWith, met_with, section_met, AreWith, IsMetWhere, IsMet, IsItemMet, AreMet}
use Rattle.model_walk.specs.declared.met.MetSection.{MetSection}
use Rattle.model_walk.specs.declared.met.MetComponent.{MetComponent, items_hidden-the_row-MetComponent-0}
use Rattle.model_walk.specs.declared.met.MetComponent.TheVariants.{Atomic, Section as in_tree}

-- the section of a component, over the list of what stands in it
pub section_met-Section : (m : MetSection) → section_met (in_tree m) ≡ Some (met_with m)
section_met-Section m = ap (λ (cs : List MetComponent). (let w : MetWith = record { section = m.section.now; components = cs } in Some w)) (items_hidden-the_row-MetComponent-0 m.components)

-- one more on each side
with-more : {A B : Type 0} (R : A → B → Type 0) (xs : List A) (ys : List B) (x : A) (y : B) → AreWith R xs ys → R x y → AreWith R (xs ++ x ∷ []) (ys ++ y ∷ [])
with-more R [] [] x y h r = (r, tt)
with-more R [] (b ∷ ys) x y h r = absurd h
with-more R (a ∷ xs) [] x y h r = absurd h
with-more R (a ∷ xs) (b ∷ ys) x y h r = (h.0, with-more R xs ys x y h.1 r)

-- the component of one item more
pub met-more : (n : ℕ) (ss : List Section) (around : List Bytes) (is : List kept.Item) (i : ℕ) (d : kept.Item) (old new : List MetComponent) (c : MetComponent) → i < length is
    → AreMet n ss around (map item_of (take i is)) old → new ≡ old ++ c ∷ [] → IsItemMet n ss around (item_of (get_or is i d)) c → AreMet n ss around (map item_of (take (i + 1) is)) new
met-more n ss around is i d old new c lt h pushed here =
    let met = IsItemMet n ss around in
    let item = get_or is i d in
    subst (λ (cs : List MetComponent). AreWith met (map item_of (take (i + 1) is)) cs) (sym pushed)
    (subst (λ (js : List Item). AreWith met js (old ++ c ∷ [])) (sym (ap (map item_of) (take_more is i d lt) ∙ map-append item_of (take i is) (item ∷ [])))
    (with-more met (map item_of (take i is)) old (item_of item) c h here))

-- a section whose components were met
pub met-section : (levels n : ℕ) (ss : List Section) (around inside : List Bytes) (s : Section) (m : MetWith) (is : List Item)
    → levels ≡ suc n → inside ≡ s.name ∷ around → is ≡ children_of s → m.section ≡ s → AreMet n ss inside is m.components → IsMet levels ss around s m
met-section levels n ss around inside s m is e names children same h =
    subst (λ l. IsMet l ss around s m) (sym e)
    (same, subst (λ (js : List Item). AreMet n ss (s.name ∷ around) js m.components) children (subst (λ (ns : List Bytes). AreMet n ss ns is m.components) names h))

-- an item without a section behind it
pub met-atomic : (n : ℕ) (ss : List Section) (around : List Bytes) (i : Item) → below ss around i ≡ None → IsItemMet n ss around i Atomic
met-atomic n ss around i none = subst (λ (o : Option Section). IsMetWhere (IsMet n ss around) o None) (sym none) tt

-- an item whose section was met
pub met-below : (n : ℕ) (ss : List Section) (around : List Bytes) (i : Item) (s : Section) (m : MetSection) → below ss around i ≡ Some s → IsMet n ss around s (met_with m) → IsItemMet n ss around i (in_tree m)
met-below n ss around i s m there h =
    subst (λ (o : Option Section). IsMetWhere (IsMet n ss around) o (section_met (in_tree m))) (sym there)
    (subst (λ (o : Option MetWith). IsMetWhere (IsMet n ss around) (Some s) o) (sym (section_met-Section m)) h)
