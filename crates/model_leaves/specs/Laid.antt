-- A model whose groups have other values at the start.
use Rattle.std.specs.Prelude.{◌≡◌, ℕ, ◌+◌, List, length, slice_get, unwrap_or}
use Rattle.std.specs.List.{AllByRecursion, zip}
use Rattle.quantity.specs.declared.value.Value.{Value}
use Rattle.cell_grid.specs.Space.{cell_count}
use Rattle.model_tree.specs.Tree.{Group, Tree, Trees, coupled, cells, atomic, nil, cons, groups}

-- the groups are counted in declared order, from this number on
abbrev mutual
  pub laid_from : Tree → ℕ → List (List Value) → Tree
  laid_from (coupled name ins outs children links) first values =
      coupled name ins outs (all_laid_from children first values) links
  laid_from (cells g) first values =
      cells (record g { initial = unwrap_or (slice_get values first) g.initial })
  laid_from (atomic name class settings) first values = atomic name class settings

  pub all_laid_from : Trees → ℕ → List (List Value) → Trees
  all_laid_from nil first values = nil
  all_laid_from (cons c rest) first values =
      cons (laid_from c first values) (all_laid_from rest (first + length (groups c)) values)

-- each group has the values of its number
abbrev pub tree_with_values : List (List Value) → Tree → Tree
tree_with_values values t = laid_from t 0 values

-- a value for each cell of each group
abbrev pub Covers : List (List Value) → List Group → Type 0
Covers values gs = AllByRecursion (λ p. length p.0 ≡ cell_count p.1.space) (zip values gs)
