-- Words for the steps of judging a link: what is asked of a component, and the causes one after
-- another.
use Rattle.std.specs.Prelude.{◌≡◌, ℕ, ℤ, Bool, not, Option, Some, None, List, [], ◌∷◌, if◌then◌else◌}
use Rattle.std.specs.List.{list_any}
use Rattle.std.specs.Str.{bytes_eq}
use Rattle.model_tree.specs.declared.link.Link.{Link}
use Rattle.model_tree.specs.declared.group.CellGroup.{CellGroup}
use Rattle.model_tree.specs.declared.component.Component.{Component}
use Rattle.model_tree.specs.declared.component.Coupled.{Coupled}
use Rattle.model_tree.specs.declared.component.Component.TheVariants.{Coupled as in_tree}
use Rattle.model_tree.specs.declared.refusal.LinkRefusal.{LinkRefusal}
use Rattle.model_tree.specs.declared.refusal.LinkRefusal.TheVariants.{UnknownPort, SelfLink, PassThrough, DuplicateLink}
use Rattle.model_tree.specs.Tree.{Word, Tree, cells, name_of}
use Rattle.model_tree.specs.Faces.{Face, is_at_one_child, are_own, same_link, link_refused}
use Rattle.model_tree.specs.Linked.{face_of, links_of}
use Rattle.model_tree.specs.Stands.{group_of, part_of}

-- this holds of the component's tree, whatever the settings of the boxes
abbrev pub OfComponent : Component → (Tree → Type 0) → Type 0
OfComponent c P = (settings : ℕ → List ℤ) → P (part_of c settings)

-- said of the tree of a coupled component, for all settings of its boxes
abbrev pub OfCoupled : Coupled → (Tree → Type 0) → Type 0
OfCoupled c P = (settings : ℕ → List ℤ) → P (part_of (in_tree c) settings)

-- said of the tree of a group
abbrev pub OfGroup : CellGroup → (Tree → Type 0) → Type 0
OfGroup g P = P (cells (group_of g))

-- the ports that links inside a component may use
abbrev pub face_in : Tree → Face
face_in t = face_of t

-- why a link is refused in a component
abbrev pub refused_in : Tree → Link → Option LinkRefusal
refused_in t l = link_refused (face_of t) (links_of t) l

-- the first cause that applies, where this says whether both ends are ports
abbrev pub first_cause : Bool → List Link → Link → Option LinkRefusal
first_cause known before l =
    if not known then Some UnknownPort
    else if is_at_one_child l.from l.to then Some SelfLink
    else if are_own l.from l.to then Some PassThrough
    else if list_any (same_link l) before then Some DuplicateLink
    else None

-- the first component of a name, of these
abbrev pub child_in : List Component → (ℕ → List ℤ) → Word → Option Tree
child_in [] settings name = None
child_in (c ∷ cs) settings name =
    if bytes_eq (name_of (part_of c settings)) name then Some (part_of c settings)
    else child_in cs settings name

-- no child has this name
abbrev pub NoneNamed : List Component → Word → Type 0
NoneNamed cs name = (settings : ℕ → List ℤ) → child_in cs settings name ≡ None

-- this is the first child of the name
abbrev pub FirstNamed : List Component → Word → Component → Type 0
FirstNamed cs name c =
    (settings : ℕ → List ℤ) → child_in cs settings name ≡ Some (part_of c settings)
