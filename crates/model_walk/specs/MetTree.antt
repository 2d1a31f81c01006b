-- How the sections that the walk met stand in one another.
use Rattle.std.specs.Prelude.{◌≡◌, ℕ, zero, suc, Option, Some, None, List, [], ◌∷◌}
use Rattle.quantity.specs.Bytes.{Bytes}
use Rattle.quantity.specs.declared.bounds.TheConstants.{MAX_LEVELS}
use Rattle.ma_lines.specs.Sections.{Section}
use Rattle.model_text.specs.Keyed.{Item}
use Rattle.model_text.specs.Walk.{below, children_of}
use Rattle.model_walk.specs.declared.met.MetSection.{MetSection}
use Rattle.model_walk.specs.declared.met.MetComponent.{MetComponent, items-the_row-MetComponent}
use Rattle.model_walk.specs.declared.met.MetComponent.TheVariants.{Atomic, Section'}

-- a section that was met, and the components that stand in it
pub record MetWith : Type 0 where
  pub section : Section
  pub components : List MetComponent

-- the same of one in the code
abbrev pub met_with : MetSection → MetWith
met_with m = record { section = m.section.now; components = m.components.items }

-- the section of a component; an atomic component has none
abbrev pub section_met : MetComponent → Option MetWith
section_met Atomic = None
section_met (Section' section shape components) =
    Some (record { section = section.now; components = items-the_row-MetComponent _ components })

-- each goes with the one at its place
abbrev pub AreWith : {A B : Type 0} → (A → B → Type 0) → List A → List B → Type 0
AreWith R [] [] = Unit {0}
AreWith R [] (y ∷ ys) = ⊥
AreWith R (x ∷ xs) [] = ⊥
AreWith R (x ∷ xs) (y ∷ ys) = R x y × AreWith R xs ys

-- a section was met where there is one
abbrev pub IsMetWhere : (Section → MetWith → Type 0) → Option Section → Option MetWith → Type 0
IsMetWhere R None None = Unit {0}
IsMetWhere R None (Some m) = ⊥
IsMetWhere R (Some s) None = ⊥
IsMetWhere R (Some s) (Some m) = R s m

-- a section was met that may have so many levels of sections, itself included, inside these names
abbrev pub IsMet : ℕ → List Section → List Bytes → Section → MetWith → Type 0
IsMet zero ss around s m = ⊥
IsMet (suc n) ss around s m =
    (m.section ≡ s)
    × AreWith (λ (i : Item) (c : MetComponent).
    IsMetWhere (IsMet n ss (s.name ∷ around)) (below ss (s.name ∷ around) i) (section_met c))
    (children_of s) m.components

-- the component of an item
abbrev pub IsItemMet : ℕ → List Section → List Bytes → Item → MetComponent → Type 0
IsItemMet n ss around i c = IsMetWhere (IsMet n ss around) (below ss around i) (section_met c)

-- the components of items
abbrev pub AreMet : ℕ → List Section → List Bytes → List Item → List MetComponent → Type 0
AreMet n ss around is cs = AreWith (IsItemMet n ss around) is cs

-- the section top
abbrev pub IsTopMet : List Section → Option Section → MetWith → Type 0
IsTopMet ss None m = ⊥
IsTopMet ss (Some s) m = IsMet MAX_LEVELS ss [] s m
