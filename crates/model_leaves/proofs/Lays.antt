-- Values that are laid, and the table that stays.
use Rattle.std.proofs.Common.{◌≡◌, ◌+◌, ◌++◌, ℕ, ℤ, List, [], ◌∷◌, Vec, Global, drop, length, refl, sym, ap, ◌∙◌, subst, zero, suc}
use Rattle.std.specs.Prelude.{slice_get, unwrap_or}
use Rattle.std.proofs.lemmas.List.{drop-drop}
use Rattle.std.proofs.lemmas.List.Sums.{sum_by-cons}
use Rattle.quantity.specs.declared.value.Value.{Value}
use Rattle.model_tree.specs.declared.component.Coupled.{Coupled}
use Rattle.model_tree.specs.declared.group.CellGroup.{CellGroup}
use Rattle.model_tree.specs.declared.component.Component.{Component, Row_of-Component, end_of-Component, more_of-Component, items-the_row-Component, items_hidden-the_row-Component-0}
use Rattle.model_tree.specs.declared.component.Component.TheVariants.{Coupled as in_tree, Cells as cells_in_tree}
use Rattle.model_tree.specs.Tree.{Trees, coupled, groups}
use Rattle.model_tree.specs.Stands.{part_of, parts_of}
use Rattle.model_leaves.specs.Laid.{all_laid_from}
use Rattle.model_leaves.specs.Table.{all_seats_from, groups_in, all_groups_in}
use Rattle.model_leaves.specs.Growing.{groups_in_all}
use Rattle.model_leaves.specs.Laying.{IsLaid, AreLaid}
use Rattle.model_tree.proofs.Children.{row_of}
use Rattle.model_leaves.proofs.Told.{groups_in-length}

laid-rows : (n : _) (row : Row_of-Component n) (m : _) (row' : Row_of-Component m) (values : List (List Value)) → AreLaid (items-the_row-Component n row) (items-the_row-Component m row') values → (settings : ℕ → List ℤ) (all : List (List Value)) (first : ℕ) → values ≡ drop first all → parts_of row' settings ≡ all_laid_from (parts_of row settings) first all
laid-rows n end_of-Component m end_of-Component values h settings all first e = refl
laid-rows n end_of-Component m (more_of-Component d rest') values h settings all first e = absurd h
laid-rows n (more_of-Component c rest) m end_of-Component values h settings all first e = absurd h
laid-rows n (more_of-Component c rest) m (more_of-Component d rest') values h settings all first e =
    let next : drop (groups_in c) values ≡ drop (first + length (groups (part_of c settings))) all =
    ap (drop (groups_in c)) e ∙ drop-drop (groups_in c) first all ∙ ap (λ (k : ℕ). drop (first + k) all) (groups_in-length c settings) in
    rw (h.0.tree settings all first e, laid-rows _ rest _ rest' (drop (groups_in c) values) h.1 settings all (first + length (groups (part_of c settings))) next) refl

table-rows : (n : _) (row : Row_of-Component n) (m : _) (row' : Row_of-Component m) (values : List (List Value)) → AreLaid (items-the_row-Component n row) (items-the_row-Component m row') values → (number : ℕ) → all_seats_from row' number ≡ all_seats_from row number
table-rows n end_of-Component m end_of-Component values h number = refl
table-rows n end_of-Component m (more_of-Component d rest') values h number = absurd h
table-rows n (more_of-Component c rest) m end_of-Component values h number = absurd h
table-rows n (more_of-Component c rest) m (more_of-Component d rest') values h number =
    rw (h.0.table number, h.0.groups, table-rows _ rest _ rest' (drop (groups_in c) values) h.1 (number + groups_in c)) refl

groups-rows : (n : _) (row : Row_of-Component n) (m : _) (row' : Row_of-Component m) (values : List (List Value)) → AreLaid (items-the_row-Component n row) (items-the_row-Component m row') values → all_groups_in row' ≡ all_groups_in row
groups-rows n end_of-Component m end_of-Component values h = refl
groups-rows n end_of-Component m (more_of-Component d rest') values h = absurd h
groups-rows n (more_of-Component c rest) m end_of-Component values h = absurd h
groups-rows n (more_of-Component c rest) m (more_of-Component d rest') values h =
    rw (h.0.groups, groups-rows _ rest _ rest' (drop (groups_in c) values) h.1) refl

-- the children of a coupled component are others
pub laid-Coupled : (c : Coupled) (children : Vec Component Global) (values : List (List Value)) → AreLaid c.children.items children.items values → IsLaid (in_tree c) (in_tree (record c { children = children })) values
laid-Coupled c children values h =
    let old = row_of (in_tree c) in
    let new = row_of (in_tree (record c { children = children })) in
    let rows : AreLaid (items-the_row-Component old.0 old.1) (items-the_row-Component new.0 new.1) values =
    subst (λ (cs : List Component). AreLaid cs (items-the_row-Component new.0 new.1) values) (sym (items_hidden-the_row-Component-0 c.children))
    (subst (λ (ds : List Component). AreLaid c.children.items ds values) (sym (items_hidden-the_row-Component-0 children)) h) in
    record {
      tree = λ settings all first e. ap (λ (ts : Trees). coupled c.name c.ins.items c.outs.items ts c.links.items) (laid-rows old.0 old.1 new.0 new.1 values rows settings all first e);
      table = λ number. table-rows old.0 old.1 new.0 new.1 values rows number;
      groups = groups-rows old.0 old.1 new.0 new.1 values rows;
    }

-- one component more
pub laid-more : (cs ds : List Component) (values : List (List Value)) (c d : Component) → AreLaid cs ds values → IsLaid c d (drop (groups_in_all cs) values) → AreLaid (cs ++ c ∷ []) (ds ++ d ∷ []) values
laid-more [] [] values c d a h = (h, tt)
laid-more [] (y ∷ ds) values c d a h = absurd a
laid-more (x ∷ cs) [] values c d a h = absurd a
laid-more (x ∷ cs) (y ∷ ds) values c d a h =
    let next : drop (groups_in_all (x ∷ cs)) values ≡ drop (groups_in_all cs) (drop (groups_in x) values) =
    ap (λ (k : ℕ). drop k values) (sum_by-cons groups_in x cs) ∙ sym (drop-drop (groups_in_all cs) (groups_in x) values) in
    (a.0, laid-more cs ds (drop (groups_in x) values) c d a.1 (subst (IsLaid c d) next h))

first-of : (all : List (List Value)) (first : ℕ) (values : List (List Value)) → values ≡ drop first all → slice_get all first ≡ slice_get values 0
first-of all zero values e = ap (λ (vs : List (List Value)). slice_get vs 0) (sym e)
first-of [] (suc first) values e = ap (λ (vs : List (List Value)). slice_get vs 0) (sym e)
first-of (v ∷ all) (suc first) values e = first-of all first values e

-- a group's values are others
pub laid-Cells : (g h : CellGroup) (values : List (List Value)) → h ≡ record g { initial = unwrap_or (slice_get values 0) g.initial } → IsLaid (cells_in_tree g) (cells_in_tree h) values
laid-Cells g h values e =
    subst (λ (x : CellGroup). IsLaid (cells_in_tree g) (cells_in_tree x) values) (sym e)
    (record {
      tree = λ settings all first f. rw (first-of all first values f) refl;
      table = λ number. refl;
      groups = refl;
    })

pub laid-length : (cs ds : List Component) (values : List (List Value)) → AreLaid cs ds values → length ds ≡ length cs
laid-length [] [] values h = refl
laid-length [] (d ∷ ds) values h = absurd h
laid-length (c ∷ cs) [] values h = absurd h
laid-length (c ∷ cs) (d ∷ ds) values h = ap suc (laid-length cs ds (drop (groups_in c) values) h.1)
