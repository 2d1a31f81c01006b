-- What a sound model has: a value for each further port of its cells, and few leaves.
use Rattle.std.proofs.Common.{◌≡◌, ℕ, zero, suc, ◌+◌, ◌<◌, ◌≤◌, ◌^◌, ◌==◌, true, [], ◌∷◌, length, map, refl, subst, arith}
use Rattle.std.specs.Prelude.{◌&&◌, not, nat_le, nat_lt, IsTrue}
use Rattle.std.specs.List.{All, list_all, range_with_len}
use Rattle.std.proofs.lemmas.List.Elements.{All-nil, All-cons, All-append}
use Rattle.std.proofs.lemmas.Option.{slice_get_within, get_or_from_slice_get}
use Rattle.std.proofs.lemmas.Bool.{and_parts}
use Rattle.std.proofs.lemmas.Bool.Decides.{nat_tests}
use Rattle.quantity.specs.Bytes.{has_repeat}
use Rattle.rule_tree.specs.Phrases.{out}
use Rattle.cell_grid.specs.Space.{cell_count}
use Rattle.model_tree.specs.Tree.{Group, Tree, Trees, coupled, cells, atomic, nil, cons, atomic_leaf, cell_leaf, leaf_count, leaf_counts, leaves_from, all_leaves_from, leaves, ins_of, outs_of}
use Rattle.model_tree.specs.FaceOf.{face_of_coupled, face_of_group}
use Rattle.model_tree.specs.Sound.{totals, all_totals, has_child, are_accepted, is_near_offset, offsets_differ, has_right_names, has_right_rules, is_sound_group, is_sound_part, are_sound_parts, is_within_limits, is_sound_model}
use Rattle.model_tree.specs.Paths.{path_count}
use Rattle.text_forms.specs.CycleNames.{HasPortValues}
use Rattle.run_loop.specs.Left.{HaveValues}

-- ---- each further port has a value

group_values : (g : Group) → is_sound_group g ≡ true → length g.port_values ≡ length g.ports
group_values g sound =
    let a = nat_lt 0 (cell_count g.space) && (length g.initial == cell_count g.space) && nat_le g.settings.default_delay 359999999 && nat_le (length g.offsets) 128 && list_all is_near_offset g.offsets && offsets_differ g.offsets in
    let p = and_parts (a && has_right_names g) (has_right_rules g) sound in
    let q = and_parts a (has_right_names g) p.0 in
    let b = nat_le (length g.variables) 8 && (length g.variable_values == length g.variables) && not (has_repeat g.variables) && nat_le (length g.ports) 3 in
    let r = and_parts (b && (length g.port_values == length g.ports)) (not (has_repeat (out ∷ g.ports))) q.1 in
    as_many (length g.port_values) (length g.ports) (and_parts b (length g.port_values == length g.ports) r.0).1
  where
    as_many : (n m : ℕ) → (n == m) ≡ true → n ≡ m
    as_many n m e = grind (arith, nat_tests)

cells_have : (g : Group) (first a n : ℕ) → length g.port_values ≡ length g.ports → All HasPortValues (map (cell_leaf g first) (range_with_len a n))
cells_have g first a zero h = All-nil HasPortValues
cells_have g first a (suc n) h = All-cons HasPortValues (cell_leaf g first a) (map (cell_leaf g first) (range_with_len (a + 1) n)) h (cells_have g first (a + 1) n h)

mutual
  leaves_have : (t : Tree) (first : ℕ) → is_sound_part t ≡ true → All HasPortValues (leaves_from t first)
  leaves_have (coupled name ins outs children links) first sound =
      all_have children first (and_parts (has_child children && not (has_repeat ins) && not (has_repeat outs) && are_accepted (face_of_coupled ins outs children) [] links) (are_sound_parts children) sound).1
  leaves_have (cells g) first sound =
      let p = and_parts (is_sound_group g && not (has_repeat g.ins) && not (has_repeat g.outs)) (are_accepted (face_of_group g) [] g.links) sound in
      let q = and_parts (is_sound_group g && not (has_repeat g.ins)) (not (has_repeat g.outs)) p.0 in
      cells_have g first 0 (cell_count g.space) (group_values g (and_parts (is_sound_group g) (not (has_repeat g.ins)) q.0).0)
  leaves_have (atomic name class settings) first sound = All-cons HasPortValues (atomic_leaf name class settings) [] tt (All-nil HasPortValues)

  all_have : (ts : Trees) (first : ℕ) → are_sound_parts ts ≡ true → All HasPortValues (all_leaves_from ts first)
  all_have nil first sound = All-nil HasPortValues
  all_have (cons t ts) first sound =
      let p = and_parts (is_sound_part t) (are_sound_parts ts) sound in
      All-append HasPortValues (leaves_from t first) (all_leaves_from ts (first + leaf_count t)) (leaves_have t first p.0) (all_have ts (first + leaf_count t) p.1)

-- ---- the whole model

-- its parts are sound, and it is within the limits
record IsSound (t : Tree) : Type 0 where
  parts : is_sound_part t ≡ true
  limits : is_within_limits (totals t) ≡ true

sound_is : (t : Tree) → is_sound_model t ≡ true → IsSound t
sound_is t h =
    let n = totals t in
    let p = and_parts (is_sound_part t && is_within_limits n && nat_le (length (ins_of t)) 65536 && nat_le (length (outs_of t)) 65536) (nat_le (path_count t) 65536) h in
    let q = and_parts (is_sound_part t && is_within_limits n && nat_le (length (ins_of t)) 65536) (nat_le (length (outs_of t)) 65536) p.0 in
    let r = and_parts (is_sound_part t && is_within_limits n) (nat_le (length (ins_of t)) 65536) q.0 in
    let s = and_parts (is_sound_part t) (is_within_limits n) r.0 in
    record { parts = s.0; limits = s.1 }

pub have_values : (t : Tree) → IsTrue (is_sound_model t) → HaveValues t
have_values t sound k l is =
    let lt = slice_get_within (leaves t) k l is in
    subst HasPortValues (get_or_from_slice_get (leaves t) k l l is) (leaves_have t 0 (sound_is t sound).parts k l lt)

-- ---- few leaves

mutual
  counted : (t : Tree) → leaf_count t ≡ (totals t).cells + (totals t).atomics
  counted (coupled name ins outs children links) = all_counted children
  counted (cells g) = alone (cell_count g.space)
    where
      alone : (n : ℕ) → n ≡ n + 0
      alone n = omega arith
  counted (atomic name class settings) = refl

  all_counted : (ts : Trees) → leaf_counts ts ≡ (all_totals ts).cells + (all_totals ts).atomics
  all_counted nil = refl
  all_counted (cons t ts) = joined (leaf_count t) (leaf_counts ts) (totals t).cells (totals t).atomics (all_totals ts).cells (all_totals ts).atomics (counted t) (all_counted ts)
    where
      joined : (n m a b c d : ℕ) → n ≡ a + b → m ≡ c + d → n + m ≡ (a + c) + (b + d)
      joined n m a b c d p q = omega (arith, p, q)

at_most : (a b : ℕ) → nat_le a b ≡ true → a ≤ b
at_most a b h = grind (arith, nat_tests)

pub few_leaves : (t : Tree) → IsTrue (is_sound_model t) → leaf_count t < 2 ^ 32
few_leaves t sound =
    let n = totals t in
    let a = and_parts (not (has_repeat n.names) && nat_le n.cells 1048576 && nat_le n.atomics 4096 && nat_le n.links 16384) (nat_le n.depth 17) (sound_is t sound).limits in
    let b = and_parts (not (has_repeat n.names) && nat_le n.cells 1048576 && nat_le n.atomics 4096) (nat_le n.links 16384) a.0 in
    let c = and_parts (not (has_repeat n.names) && nat_le n.cells 1048576) (nat_le n.atomics 4096) b.0 in
    let d = and_parts (not (has_repeat n.names)) (nat_le n.cells 1048576) c.0 in
    few (leaf_count t) n.cells n.atomics (counted t) (at_most n.cells 1048576 d.1) (at_most n.atomics 4096 c.1)
  where
    few : (n a b : ℕ) → n ≡ a + b → a ≤ 1048576 → b ≤ 4096 → n < 2 ^ 32
    few n a b is p q = omega (arith, is, p, q)
