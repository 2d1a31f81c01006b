-- In a sound model each leaf has a value for each of its further ports and variables.
use Rattle.std.proofs.Common.{◌≡◌, ℕ, zero, suc, ◌+◌, Bool, true, List, [], length, map}
use Rattle.std.specs.Prelude.{◌&&◌, not, ⊤}
use Rattle.std.specs.List.{All, range_with_len}
use Rattle.std.proofs.lemmas.Bool.{and_parts}
use Rattle.std.proofs.lemmas.List.Elements.{All-nil, All-cons, All-append}
use Rattle.quantity.specs.Bytes.{has_repeat}
use Rattle.cell_grid.specs.Space.{cell_count}
use Rattle.model_tree.specs.Tree.{Group, Tree, Trees, coupled, cells, atomic, nil, cons}
use Rattle.model_tree.specs.Tree.{Leaf, atomic_leaf, cell_leaf, leaf_count, leaves}
use Rattle.model_tree.specs.Tree.{leaves_from, all_leaves_from}
use Rattle.model_tree.specs.FaceOf.{face_of_coupled, face_of_group}
use Rattle.model_tree.specs.Sound.{has_child, are_accepted, is_sound_group, is_sound_part}
use Rattle.model_tree.specs.Sound.{are_sound_parts, is_sound_model}
use Rattle.run_leaves.proofs.SoundParts.{sound-parts}
use Rattle.state_file.proofs.Putting.{HasValues, has_values}

abbrev pub HasSizes : Leaf → Type 0
HasSizes (atomic_leaf name class settings) = ⊤
HasSizes (cell_leaf g first cell) = HasValues g

cells_sized : (g : Group) (first a n : ℕ) → HasValues g
    → All HasSizes (map (cell_leaf g first) (range_with_len a n))
cells_sized g first a zero h = All-nil HasSizes
cells_sized g first a (suc n) h =
    All-cons HasSizes (cell_leaf g first a) (map (cell_leaf g first) (range_with_len (a + 1) n)) h
    (cells_sized g first (a + 1) n h)

mutual
  part_sized : (t : Tree) (first : ℕ) → is_sound_part t ≡ true → All HasSizes (leaves_from t first)
  part_sized (coupled name ins outs children links) first sound =
      parts_sized children first
      (and_parts (has_child children && not (has_repeat ins) && not (has_repeat outs)
      && are_accepted (face_of_coupled ins outs children) [] links) (are_sound_parts children) sound).1
  part_sized (cells g) first sound =
      let p = and_parts (is_sound_group g && not (has_repeat g.ins) && not (has_repeat g.outs))
      (are_accepted (face_of_group g) [] g.links) sound in
      let q = and_parts (is_sound_group g && not (has_repeat g.ins)) (not (has_repeat g.outs)) p.0 in
      let group = (and_parts (is_sound_group g) (not (has_repeat g.ins)) q.0).0 in
      cells_sized g first 0 (cell_count g.space) (has_values g group)
  part_sized (atomic name class settings) first sound =
      All-cons HasSizes (atomic_leaf name class settings) [] tt (All-nil HasSizes)

  parts_sized : (ts : Trees) (first : ℕ) → are_sound_parts ts ≡ true
      → All HasSizes (all_leaves_from ts first)
  parts_sized nil first sound = All-nil HasSizes
  parts_sized (cons t ts) first sound =
      let p = and_parts (is_sound_part t) (are_sound_parts ts) sound in
      let behind = first + leaf_count t in
      All-append HasSizes (leaves_from t first) (all_leaves_from ts behind)
      (part_sized t first p.0) (parts_sized ts behind p.1)

pub leaves_sized : (t : Tree) → is_sound_model t ≡ true → All HasSizes (leaves t)
leaves_sized t sound = part_sized t 0 (sound-parts t sound).parts
