-- Trees whose links begin and end at ports and cells that there are, and whose components have
-- parts.
use Rattle.std.specs.Prelude.{◌≡◌, ℕ, ◌<◌, true, List, ⊤}
use Rattle.std.specs.List.{AllByRecursion}
use Rattle.quantity.specs.Bytes.{is_among}
use Rattle.cell_grid.specs.Space.{cell_count}
use Rattle.model_tree.specs.declared.link.End.{End}
use Rattle.model_tree.specs.declared.link.End.TheVariants.{Own, Child, Cell}
use Rattle.model_tree.specs.declared.link.Link.{Link}
use Rattle.model_tree.specs.Tree.{Word, Tree, Trees, coupled, cells, atomic, nil, cons}

-- a link begins at an own input that is declared, or at a cell that there is
abbrev pub BeginsWithin : List Word → ℕ → End → Type 0
BeginsWithin ins count (Own p) = is_among ins p ≡ true
BeginsWithin ins count (Child p c) = ⊤
BeginsWithin ins count (Cell p n) = n < count

-- a link leads to an own output that is declared
abbrev pub LeadsWithin : List Word → End → Type 0
LeadsWithin outs (Own p) = is_among outs p ≡ true
LeadsWithin outs (Child p c) = ⊤
LeadsWithin outs (Cell p n) = ⊤

-- each link does both
abbrev pub AreWithin : List Word → List Word → ℕ → List Link → Type 0
AreWithin ins outs count links =
    AllByRecursion (λ (l : Link). BeginsWithin ins count l.from × LeadsWithin outs l.to) links

-- there is a child
abbrev pub HasChild : Trees → Type 0
HasChild nil = ⊥
HasChild (cons c rest) = ⊤

abbrev mutual
  pub IsLinked : Tree → Type 0
  IsLinked (coupled name ins outs children links) =
      HasChild children × AreWithin ins outs 0 links × AreLinked children
  IsLinked (cells g) =
      (0 < cell_count g.space) × AreWithin g.ins g.outs (cell_count g.space) g.links
  IsLinked (atomic name class settings) = ⊤

  pub AreLinked : Trees → Type 0
  AreLinked nil = ⊤
  AreLinked (cons c rest) = IsLinked c × AreLinked rest

-- top has ports of its own, so it is no atomic component
abbrev pub HasPorts : Tree → Type 0
HasPorts (coupled name ins outs children links) = ⊤
HasPorts (cells g) = ⊤
HasPorts (atomic name class settings) = ⊥
