-- What each processor gives, takes, becomes and answers in a cycle, as the reference run has it.
use Rattle.std.specs.Prelude.{ℕ, ℤ, ◌+◌, Bool, false, Option, Some, None, List, [], ◌∷◌, ◌++◌, map, slice_get, unwrap_or}
use Rattle.std.specs.List.{range_with_len}
use Rattle.quantity.specs.declared.value.Value.{Value}
use Rattle.cell_grid.specs.Space.{cell_count}
use Rattle.atomic_face.specs.declared.class.Class.{Class}
use Rattle.atomic_face.specs.Classes.{Bag}
use Rattle.model_tree.specs.declared.link.Link.{Link}
use Rattle.model_tree.specs.Tree.{Word, Group, Tree, Trees, coupled, cells, atomic, nil, cons, Leaf, atomic_leaf, cell_leaf, name_of, leaf_count}
use Rattle.model_tree.specs.Pull.{class_ports, cell_ports, is_child, is_cell, what_links_bring, nothing, given_out, given_by}
use Rattle.quantity.specs.Times.{earlier}
use Rattle.run_model.specs.Cycle.{LeafState, leaf_next, output_bags, given_by_leaf, bag_of, is_woken, Moved, stayed, moved, stopped}
use Rattle.run_model.specs.Run.{RunState, at_top}
use Rattle.served_tree.specs.Service.{StoppedLeaf, Instant, instant_of, leaf_became}

-- what a processor gives and takes, whether it is woken, what becomes of it, and what it answers: a
-- next time and a stop
pub record Part : Type 0 where
  pub gives : Bag
  pub takes : Bag
  pub woken : Bool
  pub becomes : Moved
  pub answers : Option ℕ × StoppedLeaf

-- ---- a leaf

-- what a leaf answers that had this state: one that stopped has no next time
abbrev pub leaf_answer : ℕ → Option LeafState → Moved → Option ℕ × StoppedLeaf
leaf_answer number before (stopped why) = (None, Some (number, why))
leaf_answer number before (moved s) = (leaf_next s, None)
leaf_answer number None stayed = (None, None)
leaf_answer number (Some s) stayed = (leaf_next s, None)

-- the part of a leaf of this number that takes a bag, where all leaves gave this
abbrev pub leaf_part : Instant → List Bag → ℕ → Leaf → Bag → Part
leaf_part at gave number leaf takes =
    let became = leaf_became at number leaf takes (is_woken gave leaf) in
    record {
      gives = unwrap_or (slice_get gave number) [];
      takes = takes;
      woken = is_woken gave leaf;
      becomes = became;
      answers = leaf_answer number (slice_get at.states number) became;
    }

-- ---- a component

-- the first stop of two
abbrev pub or_else : StoppedLeaf → StoppedLeaf → StoppedLeaf
or_else None b = b
or_else (Some s) b = Some s

-- the least next time and the first stop of two answers
abbrev pub answer_of_both : Option ℕ × StoppedLeaf → Option ℕ × StoppedLeaf → Option ℕ × StoppedLeaf
answer_of_both a b = (earlier a.0 b.0, or_else a.1 b.1)

-- of all answers
abbrev pub all_joined : List (Option ℕ × StoppedLeaf) → Option ℕ × StoppedLeaf
all_joined [] = (None, None)
all_joined (a ∷ as') = answer_of_both a (all_joined as')

-- the part of a cell by its number in the group, where these lists stand at the group's inputs
abbrev pub cell_part : Instant → List Bag → Group → ℕ → (Word → List Value) → ℕ → Part
cell_part at gave g first own k =
    leaf_part at gave (first + k) (cell_leaf g first k)
    (bag_of
    (map (λ port.
    what_links_bring g.links (is_cell port k) own (λ p c. []) (λ m. given_by_leaf gave (first + m)))
    (cell_ports g k)))

-- the part of an atomic component, where these lists stand at its inputs
abbrev pub box_part : Instant → List Bag → Word → Class → List ℤ → ℕ → (Word → List Value) → Part
box_part at gave name class settings first own =
    leaf_part at gave first (atomic_leaf name class settings) (bag_of (map own (class_ports class)))

-- the parts of a group's cells
abbrev pub cell_parts : Instant → List Bag → Group → ℕ → (Word → List Value) → List Part
cell_parts at gave g first own =
    map (cell_part at gave g first own) (range_with_len 0 (cell_count g.space))

-- what stands at the inputs of a component's children: the child, then the port
abbrev pub own_of : List Bag → List Link → Trees → ℕ → (Word → List Value) → Word → Word
    → List Value
own_of gave links children first own child port =
    what_links_bring links (is_child port child) own
    (given_by children first (given_by_leaf gave)) nothing

-- what a component answers, where its first leaf has this number and these lists stand at its
-- inputs
abbrev mutual
  pub told : Instant → List Bag → Tree → ℕ → (Word → List Value) → Option ℕ × StoppedLeaf
  told at gave (coupled name ins outs children links) first own =
      all_told at gave children first (own_of gave links children first own)
  told at gave (cells g) first own =
      all_joined (map (λ (p : Part). p.answers) (cell_parts at gave g first own))
  told at gave (atomic name class settings) first own =
      (box_part at gave name class settings first own).answers

  pub all_told : Instant → List Bag → Trees → ℕ → (Word → Word → List Value)
      → Option ℕ × StoppedLeaf
  all_told at gave nil first own = (None, None)
  all_told at gave (cons c rest) first own =
      answer_of_both (told at gave c first (own (name_of c)))
      (all_told at gave rest (first + leaf_count c) own)

-- the parts of all processors of a component, in their order
abbrev mutual
  pub parts_from : Instant → List Bag → Tree → ℕ → (Word → List Value) → List Part
  parts_from at gave (coupled name ins outs children links) first own =
      record {
        gives =
            bag_of
            (map (given_out (coupled name ins outs children links) first (given_by_leaf gave)) outs);
        takes = bag_of (map own ins);
        woken = false;
        becomes = stayed;
        answers = all_told at gave children first (own_of gave links children first own);
      }
      ∷ all_parts_from at gave children first (own_of gave links children first own)
  parts_from at gave (cells g) first own =
      record {
        gives = bag_of (map (given_out (cells g) first (given_by_leaf gave)) g.outs);
        takes = bag_of (map own g.ins);
        woken = false;
        becomes = stayed;
        answers = all_joined (map (λ (p : Part). p.answers) (cell_parts at gave g first own));
      }
      ∷ cell_parts at gave g first own
  parts_from at gave (atomic name class settings) first own =
      box_part at gave name class settings first own ∷ []

  pub all_parts_from : Instant → List Bag → Trees → ℕ → (Word → Word → List Value) → List Part
  all_parts_from at gave nil first own = []
  all_parts_from at gave (cons c rest) first own =
      parts_from at gave c first (own (name_of c))
      ++ all_parts_from at gave rest (first + leaf_count c) own

-- the parts of a cycle's processors
abbrev pub parts : Tree → ℕ → RunState → List Part
parts tree t s =
    parts_from (instant_of tree t s) (output_bags t s.leaf_states) tree 0 (at_top tree t s.events)

-- no processor is there
abbrev pub no_part : Part
no_part = record { gives = []; takes = []; woken = false; becomes = stayed; answers = (None, None) }

-- the part of a processor by its number
abbrev pub part_at : List Part → ℕ → Part
part_at ps n = unwrap_or (slice_get ps n) no_part
