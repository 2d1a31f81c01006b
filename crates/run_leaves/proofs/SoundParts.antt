-- What the test of a sound model says of its groups, its names and the inputs of top.
use Rattle.std.proofs.Common.{◌≡◌, ℕ, zero, suc, Bool, true, false, Some, [], length, refl, sym, ◌∙◌, ap}
use Rattle.std.specs.Prelude.{◌&&◌, not, nat_le, slice_get}
use Rattle.std.proofs.lemmas.Bool.{and_parts, true≢false}
use Rattle.quantity.specs.Bytes.{has_repeat}
use Rattle.model_tree.specs.Tree.{Group, Tree, Trees, coupled, cells, atomic, nil, cons, ins_of, outs_of, groups, all_groups}
use Rattle.model_tree.specs.FaceOf.{face_of_coupled, face_of_group}
use Rattle.model_tree.specs.Sound.{totals, is_sound_group, has_child, are_accepted, is_sound_part, are_sound_parts, is_within_limits, is_sound_model}
use Rattle.model_tree.specs.Paths.{path_count}
use Rattle.run_leaves.proofs.Places.{none-some, some-is}
use Rattle.run_leaves.proofs.Joined.{get-joined}

pub record HasSoundParts (t : Tree) : Type 0 where
  pub parts : is_sound_part t ≡ true
  pub names : has_repeat (totals t).names ≡ false

no : (b : Bool) → not b ≡ true → b ≡ false
no true e = absurd (true≢false (sym e))
no false e = refl

pub sound-parts : (t : Tree) → is_sound_model t ≡ true → HasSoundParts t
sound-parts t h =
    let n = totals t in
    let p = and_parts (is_sound_part t && is_within_limits n && nat_le (length (ins_of t)) 65536 && nat_le (length (outs_of t)) 65536) (nat_le (path_count t) 65536) h in
    let q = and_parts (is_sound_part t && is_within_limits n && nat_le (length (ins_of t)) 65536) (nat_le (length (outs_of t)) 65536) p.0 in
    let r = and_parts (is_sound_part t && is_within_limits n) (nat_le (length (ins_of t)) 65536) q.0 in
    let v = and_parts (is_sound_part t) (is_within_limits n) r.0 in
    let a = and_parts (not (has_repeat n.names) && nat_le n.cells 1048576 && nat_le n.atomics 4096 && nat_le n.links 16384) (nat_le n.depth 17) v.1 in
    let b = and_parts (not (has_repeat n.names) && nat_le n.cells 1048576 && nat_le n.atomics 4096) (nat_le n.links 16384) a.0 in
    let c = and_parts (not (has_repeat n.names) && nat_le n.cells 1048576) (nat_le n.atomics 4096) b.0 in
    let d = and_parts (not (has_repeat n.names)) (nat_le n.cells 1048576) c.0 in
    record { parts = v.0; names = no (has_repeat n.names) d.0 }

-- no two inputs have one name
pub inputs-once : (t : Tree) → is_sound_part t ≡ true → has_repeat (ins_of t) ≡ false
inputs-once (coupled name ins outs children links) sound =
    let a = and_parts (has_child children && not (has_repeat ins) && not (has_repeat outs) && are_accepted (face_of_coupled ins outs children) [] links) (are_sound_parts children) sound in
    let b = and_parts (has_child children && not (has_repeat ins) && not (has_repeat outs)) (are_accepted (face_of_coupled ins outs children) [] links) a.0 in
    let c = and_parts (has_child children && not (has_repeat ins)) (not (has_repeat outs)) b.0 in
    no (has_repeat ins) (and_parts (has_child children) (not (has_repeat ins)) c.0).1
inputs-once (cells g) sound =
    let a = and_parts (is_sound_group g && not (has_repeat g.ins) && not (has_repeat g.outs)) (are_accepted (face_of_group g) [] g.links) sound in
    let b = and_parts (is_sound_group g && not (has_repeat g.ins)) (not (has_repeat g.outs)) a.0 in
    no (has_repeat g.ins) (and_parts (is_sound_group g) (not (has_repeat g.ins)) b.0).1
inputs-once (atomic name class words) sound = refl

mutual
  -- each group is sound
  pub group-sound : (t : Tree) → is_sound_part t ≡ true → (n : ℕ) (g : Group) → slice_get (groups t) n ≡ Some g → is_sound_group g ≡ true
  group-sound (coupled name ins outs children links) sound n g e =
      groups-sound children
      (and_parts (has_child children && not (has_repeat ins) && not (has_repeat outs) && are_accepted (face_of_coupled ins outs children) [] links) (are_sound_parts children) sound).1
      n g e
  group-sound (cells h) sound zero g e =
      let a = and_parts (is_sound_group h && not (has_repeat h.ins) && not (has_repeat h.outs)) (are_accepted (face_of_group h) [] h.links) sound in
      let b = and_parts (is_sound_group h && not (has_repeat h.ins)) (not (has_repeat h.outs)) a.0 in
      ap is_sound_group (sym (some-is h g e)) ∙ (and_parts (is_sound_group h) (not (has_repeat h.ins)) b.0).0
  group-sound (cells h) sound (suc n) g e = absurd (none-some e)
  group-sound (atomic name class words) sound n g e = absurd (none-some e)

  groups-sound : (ts : Trees) → are_sound_parts ts ≡ true → (n : ℕ) (g : Group) → slice_get (all_groups ts) n ≡ Some g → is_sound_group g ≡ true
  groups-sound nil sound n g e = absurd (none-some e)
  groups-sound (cons t ts) sound n g e =
      let both = and_parts (is_sound_part t) (are_sound_parts ts) sound in
      get-joined (is_sound_group g ≡ true) (groups t) (all_groups ts) n g e (λ left. group-sound t both.0 n g left) (λ j on right. groups-sound ts both.1 j g right)
