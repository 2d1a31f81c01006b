-- The child of a name, over the row in which the children of a component lie.
use Rattle.std.proofs.Common.{◌≡◌, ℕ, List, ℤ, Option, Some, refl, ap, ◌∙◌, if◌then◌else◌}
use Rattle.std.specs.Str.{bytes_eq}
use mathlib.Core.Former.{Count}
use Rattle.model_tree.specs.declared.component.Coupled.{Coupled}
use Rattle.model_tree.specs.declared.component.Component.{Component, Row_of-Component, end_of-Component, more_of-Component, items-the_row-Component, items_hidden-the_row-Component-0}
use Rattle.model_tree.specs.declared.component.Component.TheVariants.{Coupled as in_tree, Coupled'}
use Rattle.model_tree.specs.Tree.{Word, Tree, name_of}
use Rattle.model_tree.specs.FaceOf.{child_of}
use Rattle.model_tree.specs.Causes.{child_in}
use Rattle.model_tree.specs.Stands.{part_of, parts_of}

abbrev pub row_of : Component → (n : Count) × Row_of-Component n
row_of (Coupled' name ins outs shape children links) = (_, children)
row_of c = (_, end_of-Component)

child-row : (n : _) (row : Row_of-Component n) (settings : ℕ → List ℤ) (name : Word) → child_of (parts_of row settings) name ≡ child_in (items-the_row-Component n row) settings name
child-row n end_of-Component settings name = refl
child-row n (more_of-Component c rest) settings name =
    ap (λ (o : Option Tree). if bytes_eq (name_of (part_of c settings)) name then Some (part_of c settings) else o) (child-row _ rest settings name)

-- the child of a name, over the list of the children
pub child_of-Coupled : (c : Coupled) (settings : ℕ → List ℤ) (name : Word) → child_of (parts_of (row_of (in_tree c)).1 settings) name ≡ child_in c.children.items settings name
child_of-Coupled c settings name =
    let row = row_of (in_tree c) in
    child-row row.0 row.1 settings name ∙ ap (λ cs. child_in cs settings name) (items_hidden-the_row-Component-0 c.children)
