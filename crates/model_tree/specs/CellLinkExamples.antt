-- Links of cells: how ports are numbered, what reaches them, and what is refused.
use Rattle.std.specs.Prelude.{◌≡◌, Some, None, [], ◌∷◌, codes}
use Rattle.quantity.specs.declared.value.Value.TheVariants.{Undefined}
use Rattle.cell_grid.specs.declared.grid.Border.TheVariants.{NoWrapped}
use Rattle.model_tree.specs.declared.link.Link.{Link}
use Rattle.model_tree.specs.declared.link.End.TheVariants.{Own, Child, Cell}
use Rattle.model_tree.specs.declared.refusal.LinkRefusal.TheVariants.{UnknownPort, SelfLink}
use Rattle.model_tree.specs.declared.refusal.LinkRefusal.TheVariants.{PassThrough, DuplicateLink}
use Rattle.model_tree.specs.Tree.{Group, Tree, coupled, cells, nil, cons}
use Rattle.model_tree.specs.Pull.{cell_ports, leaf_source, sources, top_source, top_sources}
use Rattle.model_tree.specs.Faces.{Face, link_refused}
use Rattle.model_tree.specs.FaceOf.{face_of_group}
use Rattle.rule_tree.specs.Phrases.{out}
use Rattle.model_tree.specs.Examples.{letter, link}
use Rattle.model_tree.specs.UnsoundExamples.{one}

-- two cells: the first has a port v with two links and a port w, the second one takes what the
-- first gives
abbrev pub linked_group : Group
linked_group =
    record one {
      space = record { rows = 1; columns = 2; planes = None; border = NoWrapped };
      initial = Undefined ∷ Undefined ∷ [];
      ins = letter 97 ∷ letter 98 ∷ [];
      outs = letter 111 ∷ [];
      links = link (Own (letter 97)) (Cell (letter 118) 0)
          ∷ link (Own (letter 98)) (Cell (letter 119) 0)
          ∷ link (Own (letter 98)) (Cell (letter 118) 0)
          ∷ link (Cell out 0) (Cell (letter 119) 1)
          ∷ link (Cell out 1) (Own (letter 111)) ∷ [];
    }

-- a model of this group
abbrev pub from_top : Tree
from_top =
    coupled (codes "top") (letter 97 ∷ letter 98 ∷ []) (letter 111 ∷ [])
    (cons (cells linked_group) nil)
    (link (Own (letter 97)) (Child (letter 97) (letter 103))
    ∷ link (Own (letter 98)) (Child (letter 98) (letter 103))
    ∷ link (Child (letter 111) (letter 103)) (Own (letter 111)) ∷ [])

pub record CellsAreLinked : Type 0 where
  pub by_first_link : cell_ports linked_group 0 ≡ letter 118 ∷ letter 119 ∷ []
  pub of_its_own : cell_ports linked_group 1 ≡ letter 119 ∷ []
  pub sources_of_ports : sources from_top
      ≡ ((top_source (letter 97) ∷ top_source (letter 98) ∷ [])
      ∷ (top_source (letter 98) ∷ []) ∷ [])
      ∷ ((leaf_source 0 ∷ []) ∷ []) ∷ []
  pub sources_of_output : top_sources from_top ≡ (leaf_source 1 ∷ []) ∷ []

-- a group with two cells, no links, an input a and an output o
abbrev pub two_cells : Face
two_cells = face_of_group linked_group

-- a link that stands before
abbrev pub into_v : Link
into_v = link (Own (letter 97)) (Cell (letter 118) 0)

pub record LinksOfCellsAreRefused : Type 0 where
  pub accepted : link_refused two_cells [] into_v ≡ None
  pub between_cells : link_refused two_cells [] (link (Cell out 0) (Cell (letter 118) 1)) ≡ None
  pub again : link_refused two_cells (into_v ∷ []) into_v ≡ Some DuplicateLink
  pub again_between_cells : link_refused two_cells
      (link (Cell out 0) (Cell (letter 118) 1) ∷ []) (link (Cell out 0) (Cell (letter 118) 1))
      ≡ Some DuplicateLink
  pub other_cell : link_refused two_cells (into_v ∷ [])
      (link (Own (letter 97)) (Cell (letter 118) 1)) ≡ None
  pub other_port : link_refused two_cells (into_v ∷ [])
      (link (Own (letter 97)) (Cell (letter 119) 0)) ≡ None
  pub itself : link_refused two_cells [] (link (Cell out 0) (Cell (letter 118) 0)) ≡ Some SelfLink
  pub through : link_refused two_cells [] (link (Own (letter 97)) (Own (letter 111)))
      ≡ Some PassThrough
  pub no_output : link_refused two_cells [] (link (Cell (letter 118) 0) (Own (letter 111)))
      ≡ Some UnknownPort
  pub no_cell : link_refused two_cells [] (link (Cell out 2) (Own (letter 111))) ≡ Some UnknownPort
  pub no_cell_behind : link_refused two_cells [] (link (Own (letter 97)) (Cell (letter 118) 2))
      ≡ Some UnknownPort
  pub no_child : link_refused two_cells []
      (link (Own (letter 97)) (Child (letter 118) (letter 103))) ≡ Some UnknownPort
