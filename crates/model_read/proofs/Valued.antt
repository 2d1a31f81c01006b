-- Values that fit the groups of the tree of the sections.
use Rattle.std.proofs.Common.{◌≡◌, ℕ, List, [], ◌∷◌, map, length, refl, sym, ap, ◌∙◌, subst}
use Rattle.std.proofs.lemmas.List.{length-map}
use Rattle.quantity.specs.declared.value.Value.{Value}
use Rattle.ma_lines.specs.Sections.{Section}
use Rattle.atomic_face.specs.declared.class.Class.{Class}
use Rattle.cell_grid.specs.Space.{cell_count}
use Rattle.model_leaves.specs.declared.table.Model.{Model}
use Rattle.model_leaves.specs.Laid.{Covers}
use Rattle.model_leaves.specs.Leaves.{no_settings}
use Rattle.model_leaves.specs.Models as code
use Rattle.model_tree.specs.Tree as T
use Rattle.model_tree.specs.Tree.{Group}
use Rattle.model_text.specs.BuildLaws.{PassedLinks}
use Rattle.model_text.specs.Spaces.{space_of}
use Rattle.model_text.specs.Trees.{group_of_section, tree_of_sections, no_files}
use Rattle.model_text.specs.Walk.{groups}
use Rattle.model_build.specs.Blank.{blank_group}
use Rattle.model_build.specs.Laws.{GroupsAreMet, GroupsAreAlike, BlanksAreLaid}
use Rattle.model_read.specs.Ends.{IsBlank}

abbrev head_or : ℕ → List ℕ → ℕ
head_or d [] = d
head_or d (n ∷ ns) = n

abbrev tail_of : List ℕ → List ℕ
tail_of [] = []
tail_of (n ∷ ns) = ns

abbrev pub sizes_of : List (List Value) → List ℕ
sizes_of values = map (λ v. length v) values

abbrev pub sizes_in : List Section → List ℕ
sizes_in ss = map (λ s. cell_count (space_of s)) ss

covers_all : (f : Section → Group) → ((s : Section) → (f s).space ≡ space_of s) → (values : List (List Value)) (xs : List Section) → sizes_of values ≡ sizes_in xs → Covers values (map f xs)
covers_all f same [] [] e = tt
covers_all f same [] (x ∷ xs) e = tt
covers_all f same (v ∷ values) [] e = tt
covers_all f same (v ∷ values) (x ∷ xs) e = (ap (head_or 0) e ∙ ap cell_count (sym (same x)), covers_all f same values xs (ap tail_of e))

counts_all : (f : Section → Group) (values : List (List Value)) (xs : List Section) → sizes_of values ≡ sizes_in xs → length values ≡ length (map f xs)
counts_all f values xs e =
    sym (length-map values (λ v. length v)) ∙ ap length e ∙ length-map xs (λ s. cell_count (space_of s)) ∙ sym (length-map xs f)

abbrev blank_of : List Section → Section → Group
blank_of ss s = blank_group (group_of_section no_files ss s)

blank_groups : (ss xs : List Section) → map blank_group (map (group_of_section no_files ss) xs) ≡ map (blank_of ss) xs
blank_groups ss [] = refl
blank_groups ss (x ∷ xs) = ap (λ gs. blank_of ss x ∷ gs) (blank_groups ss xs)

module _ (ss : List Section) (classes : List Class) (passed : PassedLinks classes ss) (met : GroupsAreMet) (values : List (List Value)) (sizes : sizes_of values ≡ sizes_in (groups ss)) where
  are : T.groups (tree_of_sections no_files ss) ≡ map (group_of_section no_files ss) (groups ss)
  are = met no_files classes ss passed

  pub count : length values ≡ length (T.groups (tree_of_sections no_files ss))
  count = counts_all (group_of_section no_files ss) values (groups ss) sizes ∙ ap length (sym are)

  pub covers : Covers values (T.groups (tree_of_sections no_files ss))
  covers = subst (Covers values) (sym are) (covers_all (group_of_section no_files ss) (λ s. refl) values (groups ss) sizes)

  -- ---- of a model with ? in each cell

  module _ (blanks : BlanksAreLaid) (alike : GroupsAreAlike) (m : Model) (blank : IsBlank ss m) where
    blank_are : T.groups (code.tree_of m no_settings) ≡ map (blank_of ss) (groups ss)
    blank_are =
        alike m no_settings blank.0 ∙ ap T.groups blank.1 ∙ blanks.groups_are (tree_of_sections no_files ss) ∙ ap (map blank_group) are ∙ blank_groups ss (groups ss)

    pub blank_count : length values ≡ length (T.groups (code.tree_of m no_settings))
    blank_count = counts_all (blank_of ss) values (groups ss) sizes ∙ ap length (sym blank_are)

    pub blank_covers : Covers values (T.groups (code.tree_of m no_settings))
    blank_covers = subst (Covers values) (sym blank_are) (covers_all (blank_of ss) (λ s. refl) values (groups ss) sizes)
