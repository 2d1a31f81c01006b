-- What a sound model's test says of its parts, its names and its cells.
use Rattle.std.proofs.Common.{◌≡◌, ℕ, ◌≤◌, Bool, true, false, length, refl, arith, sym}
use Rattle.std.specs.Prelude.{◌&&◌, not, nat_le}
use Rattle.std.proofs.lemmas.Bool.{and_parts}
use Rattle.std.proofs.lemmas.Bool.Decides.{nat_tests}
use Rattle.quantity.specs.Bytes.{has_repeat}
use Rattle.model_tree.specs.Tree.{Tree, ins_of, outs_of}
use Rattle.model_tree.specs.Sound.{totals, is_sound_part, is_within_limits, is_sound_model}
use Rattle.model_tree.specs.Paths.{path_count}
use Rattle.run_model.proofs.Basics.{true_false}

pub record IsSound (t : Tree) : Type 0 where
  pub parts : is_sound_part t ≡ true
  pub names : has_repeat (totals t).names ≡ false
  pub cells : (totals t).cells ≤ 1048576

pub at_most : (a b : ℕ) → nat_le a b ≡ true → a ≤ b
at_most a b h = grind (arith, nat_tests)

no : (b : Bool) → not b ≡ true → b ≡ false
no true e = absurd (true_false (sym e))
no false e = refl

pub sound_is : (t : Tree) → is_sound_model t ≡ true → IsSound t
sound_is t h =
    let n = totals t in
    let p = and_parts (is_sound_part t && is_within_limits n && nat_le (length (ins_of t)) 65536 && nat_le (length (outs_of t)) 65536) (nat_le (path_count t) 65536) h in
    let q = and_parts (is_sound_part t && is_within_limits n && nat_le (length (ins_of t)) 65536) (nat_le (length (outs_of t)) 65536) p.0 in
    let r = and_parts (is_sound_part t && is_within_limits n) (nat_le (length (ins_of t)) 65536) q.0 in
    let v = and_parts (is_sound_part t) (is_within_limits n) r.0 in
    let a = and_parts (not (has_repeat n.names) && nat_le n.cells 1048576 && nat_le n.atomics 4096 && nat_le n.links 16384) (nat_le n.depth 17) v.1 in
    let b = and_parts (not (has_repeat n.names) && nat_le n.cells 1048576 && nat_le n.atomics 4096) (nat_le n.links 16384) a.0 in
    let c = and_parts (not (has_repeat n.names) && nat_le n.cells 1048576) (nat_le n.atomics 4096) b.0 in
    let d = and_parts (not (has_repeat n.names)) (nat_le n.cells 1048576) c.0 in
    record { parts = v.0; names = no (has_repeat n.names) d.0; cells = at_most n.cells 1048576 d.1 }
