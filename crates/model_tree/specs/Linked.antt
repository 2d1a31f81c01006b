-- What one more link does to a component.
use Rattle.std.specs.Prelude.{◌≡◌, ◌⊎◌, ℕ, ℤ, None, Some, List, [], ◌∷◌, ◌++◌}
use Rattle.std.specs.declared.result.Result.{Result}
use Rattle.std.specs.declared.result.Result.TheVariants.{Ok, Err}
use Rattle.model_tree.specs.declared.link.Link.{Link}
use Rattle.model_tree.specs.declared.group.CellGroup.{CellGroup}
use Rattle.model_tree.specs.declared.component.Coupled.{Coupled}
use Rattle.model_tree.specs.declared.component.Component.TheVariants.{Coupled as in_tree}
use Rattle.model_tree.specs.declared.refusal.LinkRefusal.{LinkRefusal}
use Rattle.model_tree.specs.declared.refusal.LinkRefusal.TheVariants.{Memory}
use Rattle.model_tree.specs.Tree.{Tree, coupled, cells, atomic}
use Rattle.model_tree.specs.Faces.{Face, link_refused}
use Rattle.model_tree.specs.FaceOf.{face_of_coupled, face_of_group}
use Rattle.model_tree.specs.Stands.{group_of, part_of}

-- the face of what has no ports
abbrev pub no_face : Face
no_face =
    record { ins = []; outs = []; inputs_of = λ child. []; outputs_of = λ child. []; cells = 0 }

-- what a link inside a component may join
abbrev pub face_of : Tree → Face
face_of (coupled name ins outs children links) = face_of_coupled ins outs children
face_of (cells g) = face_of_group g
face_of (atomic name class settings) = no_face

-- the links inside a component
abbrev pub links_of : Tree → List Link
links_of (coupled name ins outs children links) = links
links_of (cells g) = g.links
links_of (atomic name class settings) = []

-- one more link behind the others
abbrev pub with_link : Link → Tree → Tree
with_link l (coupled name ins outs children links) =
    coupled name ins outs children (links ++ l ∷ [])
with_link l (cells g) = cells (record g { links = g.links ++ l ∷ [] })
with_link l (atomic name class settings) = atomic name class settings

-- a link that no cause refuses is added; else nothing changes, and the first cause is answered, or
-- want of memory
abbrev pub LinkGives : Tree → Link → Result Unit LinkRefusal → Tree → Type 0
LinkGives old l (Ok u) new =
    (link_refused (face_of old) (links_of old) l ≡ None) × (new ≡ with_link l old)
LinkGives old l (Err why) new =
    (new ≡ old) × ((link_refused (face_of old) (links_of old) l ≡ Some why) ⊎ (why ≡ Memory))

-- the same for what the code has, whatever the settings of the boxes
abbrev pub LinksCoupled : Coupled → Link → Result Unit LinkRefusal → Coupled → Type 0
LinksCoupled old l r new =
    (settings : ℕ → List ℤ) → LinkGives (part_of (in_tree old) settings) l r
    (part_of (in_tree new) settings)

-- a link more in a group, or its refusal
abbrev pub LinksGroup : CellGroup → Link → Result Unit LinkRefusal → CellGroup → Type 0
LinksGroup old l r new = LinkGives (cells (group_of old)) l r (cells (group_of new))

-- a link more behind these, or none and want of memory; only private clauses name this
abbrev pub PutsLink : List Link → Link → Result Unit LinkRefusal → List Link → Type 0
PutsLink old l (Ok u) new = new ≡ old ++ l ∷ []
PutsLink old l (Err why) new = (new ≡ old) × (why ≡ Memory)
