-- The leaves of a coupled component, over the list of its children.
use Rattle.std.proofs.Common.{◌≡◌, ◌+◌, ◌++◌, ℕ, List, ℤ, [], refl, sym, ap, ◌∙◌}
use Rattle.std.proofs.lemmas.List.Sums.{sum_by-cons}
use Rattle.model_tree.specs.declared.component.Coupled.{Coupled}
use Rattle.model_tree.specs.declared.component.Component.{Row_of-Component, end_of-Component, more_of-Component, items-the_row-Component, items_hidden-the_row-Component-0}
use Rattle.model_tree.specs.declared.component.Component.TheVariants.{Coupled as in_tree}
use Rattle.model_tree.specs.Tree.{leaf_counts, groups, all_groups}
use Rattle.model_tree.specs.Stands.{part_of, parts_of}
use Rattle.model_leaves.specs.Nth.{groups_of_all}
use Rattle.model_leaves.specs.Table.{seats_from, all_seats_from, groups_in, all_groups_in}
use Rattle.model_leaves.specs.Growing.{seats_of_all, groups_in_all}
use Rattle.model_leaves.specs.Counted.{leaves_in, leaves_in_all}
use Rattle.model_tree.proofs.Children.{row_of}

leaves-row : (n : _) (row : Row_of-Component n) → leaf_counts (parts_of row (λ n. [])) ≡ leaves_in_all (items-the_row-Component n row)
leaves-row n end_of-Component = refl
leaves-row n (more_of-Component c rest) = ap (λ m. leaves_in c + m) (leaves-row _ rest) ∙ sym (sum_by-cons leaves_in c (items-the_row-Component _ rest))

pub leaves_in-Coupled : (c : Coupled) → leaves_in (in_tree c) ≡ leaves_in_all c.children.items
leaves_in-Coupled c =
    let row = row_of (in_tree c) in
    leaves-row row.0 row.1 ∙ ap leaves_in_all (items_hidden-the_row-Component-0 c.children)

seats-row : (n : _) (row : Row_of-Component n) (number : ℕ) → all_seats_from row number ≡ seats_of_all (items-the_row-Component n row) number
seats-row n end_of-Component number = refl
seats-row n (more_of-Component c rest) number = ap (λ ss. seats_from c number ++ ss) (seats-row _ rest (number + groups_in c))

pub seats_from-Coupled : (c : Coupled) (number : ℕ) → seats_from (in_tree c) number ≡ seats_of_all c.children.items number
seats_from-Coupled c number =
    let row = row_of (in_tree c) in
    seats-row row.0 row.1 number ∙ ap (λ cs. seats_of_all cs number) (items_hidden-the_row-Component-0 c.children)

groups-row : (n : _) (row : Row_of-Component n) → all_groups_in row ≡ groups_in_all (items-the_row-Component n row)
groups-row n end_of-Component = refl
groups-row n (more_of-Component c rest) = ap (λ m. groups_in c + m) (groups-row _ rest) ∙ sym (sum_by-cons groups_in c (items-the_row-Component _ rest))

pub groups_in-Coupled : (c : Coupled) → groups_in (in_tree c) ≡ groups_in_all c.children.items
groups_in-Coupled c =
    let row = row_of (in_tree c) in
    groups-row row.0 row.1 ∙ ap groups_in_all (items_hidden-the_row-Component-0 c.children)

all_groups-row : (n : _) (row : Row_of-Component n) (settings : ℕ → List ℤ) → all_groups (parts_of row settings) ≡ groups_of_all (items-the_row-Component n row) settings
all_groups-row n end_of-Component settings = refl
all_groups-row n (more_of-Component c rest) settings = ap (λ gs. groups (part_of c settings) ++ gs) (all_groups-row _ rest settings)

pub groups-Coupled : (c : Coupled) (settings : ℕ → List ℤ) → groups (part_of (in_tree c) settings) ≡ groups_of_all c.children.items settings
groups-Coupled c settings =
    let row = row_of (in_tree c) in
    all_groups-row row.0 row.1 settings ∙ ap (λ cs. groups_of_all cs settings) (items_hidden-the_row-Component-0 c.children)
