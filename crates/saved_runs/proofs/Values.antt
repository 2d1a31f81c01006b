-- A cell of an accepted model has a value for each further port and variable.
use Rattle.std.proofs.Common.{◌≡◌, ℕ, zero, suc, ◌+◌, true, [], ◌∷◌, map, length, arith}
use Rattle.std.specs.Prelude.{◌&&◌, ◌==◌, not, nat_le, nat_lt}
use Rattle.std.specs.List.{All, list_all, range_with_len}
use Rattle.std.proofs.lemmas.Bool.{and_parts}
use Rattle.std.proofs.lemmas.Bool.Decides.{nat_tests}
use Rattle.std.proofs.lemmas.List.Elements.{All-nil, All-cons, All-append}
use Rattle.quantity.specs.Bytes.{has_repeat}
use Rattle.rule_tree.specs.Phrases.{out}
use Rattle.cell_grid.specs.Space.{cell_count}
use Rattle.model_tree.specs.Tree.{Group, Tree, Trees, coupled, cells, atomic, nil, cons}
use Rattle.model_tree.specs.Tree.{atomic_leaf, cell_leaf, leaf_count, leaves_from, all_leaves_from}
use Rattle.model_tree.specs.Tree.{ins_of, outs_of}
use Rattle.model_tree.specs.FaceOf.{face_of_coupled, face_of_group}
use Rattle.model_tree.specs.Sound.{is_near_offset, offsets_differ, has_right_names, has_right_rules}
use Rattle.model_tree.specs.Sound.{is_sound_group, are_accepted, has_child, is_sound_part}
use Rattle.model_tree.specs.Sound.{are_sound_parts, totals, is_within_limits}
use Rattle.model_tree.specs.Paths.{path_count}
use Rattle.model_tree.specs.Sound.{is_sound_model}
use Rattle.model_text.specs.Accepted.{ReadsSoundModels}
use Rattle.saved_runs.specs.Accepted.{HasValues, ModelsHaveValues}

as_many : (n m : ℕ) → (n == m) ≡ true → n ≡ m
as_many n m e = grind (arith, nat_tests)

group_values : (g : Group) → is_sound_group g ≡ true → (length g.port_values ≡ length g.ports)
    × (length g.variable_values ≡ length g.variables)
group_values g sound =
    let a = nat_lt 0 (cell_count g.space) && (length g.initial == cell_count g.space) && nat_le
    g.settings.default_delay 359999999 && nat_le (length g.offsets) 128 && list_all is_near_offset
    g.offsets && offsets_differ g.offsets in
    let p = and_parts (a && has_right_names g) (has_right_rules g) sound in
    let q = and_parts a (has_right_names g) p.0 in
    let few = nat_le (length g.variables) 8 in
    let valued = length g.variable_values == length g.variables in
    let once = not (has_repeat g.variables) in
    let some = nat_le (length g.ports) 3 in
    let r = and_parts (few && valued && once && some && (length g.port_values == length g.ports))
    (not (has_repeat (out ∷ g.ports))) q.1 in
    let s = and_parts (few && valued && once && some) (length g.port_values == length g.ports) r.0
    in
    let u = and_parts (few && valued && once) some s.0 in
    let v = and_parts (few && valued) once u.0 in
    let w = and_parts few valued v.0 in (
      as_many (length g.port_values) (length g.ports) s.1,
      as_many (length g.variable_values) (length g.variables) w.1,
    )

cells_have : (g : Group) (first a n : ℕ) → (length g.port_values ≡ length g.ports)
    × (length g.variable_values ≡ length g.variables)
    → All HasValues (map (cell_leaf g first) (range_with_len a n))
cells_have g first a zero h = All-nil HasValues
cells_have g first a (suc n) h =
    All-cons HasValues (cell_leaf g first a) (map (cell_leaf g first) (range_with_len (a + 1) n)) h
    (cells_have g first (a + 1) n h)

mutual
  leaves_have : (t : Tree) (first : ℕ) → is_sound_part t ≡ true
      → All HasValues (leaves_from t first)
  leaves_have (coupled name ins outs children links) first sound =
      all_have children first
      (and_parts (has_child children && not (has_repeat ins) && not (has_repeat outs) &&
      are_accepted (face_of_coupled ins outs children) [] links) (are_sound_parts children)
      sound).1
  leaves_have (cells g) first sound =
      let p = and_parts (is_sound_group g && not (has_repeat g.ins) && not (has_repeat g.outs))
      (are_accepted (face_of_group g) [] g.links) sound in
      let q = and_parts (is_sound_group g && not (has_repeat g.ins)) (not (has_repeat g.outs)) p.0
      in
      cells_have g first 0 (cell_count g.space)
      (group_values g (and_parts (is_sound_group g) (not (has_repeat g.ins)) q.0).0)
  leaves_have (atomic name class settings) first sound =
      All-cons HasValues (atomic_leaf name class settings) [] tt (All-nil HasValues)

  all_have : (ts : Trees) (first : ℕ) → are_sound_parts ts ≡ true
      → All HasValues (all_leaves_from ts first)
  all_have nil first sound = All-nil HasValues
  all_have (cons t ts) first sound =
      let p = and_parts (is_sound_part t) (are_sound_parts ts) sound in
      All-append HasValues (leaves_from t first) (all_leaves_from ts (first + leaf_count t))
      (leaves_have t first p.0) (all_have ts (first + leaf_count t) p.1)

sound_parts : (t : Tree) → is_sound_model t ≡ true → is_sound_part t ≡ true
sound_parts t h =
    let n = totals t in
    let p = and_parts (is_sound_part t && is_within_limits n && nat_le (length (ins_of t)) 65536 &&
    nat_le (length (outs_of t)) 65536) (nat_le (path_count t) 65536) h in
    let q = and_parts (is_sound_part t && is_within_limits n && nat_le (length (ins_of t)) 65536)
    (nat_le (length (outs_of t)) 65536) p.0 in
    let r = and_parts (is_sound_part t && is_within_limits n) (nat_le (length (ins_of t)) 65536) q.0
    in
    (and_parts (is_sound_part t) (is_within_limits n) r.0).0

pub models_have_values : ReadsSoundModels → ModelsHaveValues
models_have_values sound t a =
    leaves_have t 0 (sound_parts t (sound a.bytes a.files a.classes a.drawing t a.found))
