-- Trees whose groups have ? in each cell.
use Rattle.quantity.specs.declared.value.Value.TheVariants.{Undefined}
use Rattle.cell_grid.specs.Initial.{uniform_values}
use Rattle.model_tree.specs.Tree.{Group, Tree, Trees, coupled, cells, atomic, nil, cons}

-- ? in each cell
abbrev pub blank_group : Group → Group
blank_group g = record g { initial = uniform_values g.space Undefined }

-- of each group
abbrev mutual
  pub blanked : Tree → Tree
  blanked (coupled name ins outs children links) =
      coupled name ins outs (all_blanked children) links
  blanked (cells g) = cells (blank_group g)
  blanked (atomic name class settings) = atomic name class settings

  pub all_blanked : Trees → Trees
  all_blanked nil = nil
  all_blanked (cons t ts) = cons (blanked t) (all_blanked ts)
