-- The group of a name, among the leaves of a sound model and among its groups.
use Rattle.std.proofs.Common.{◌≡◌, ℕ, ◌<◌, ◌≤◌, Bool, true, false, cond, Some, None, length, refl, sym, ap, ◌∙◌, arith}
use Rattle.std.specs.Prelude.{◌&&◌, nat_le, nat_lt}
use Rattle.std.proofs.lemmas.Bool.{and_parts}
use Rattle.std.proofs.lemmas.Bool.Decides.{nat_tests}
use Rattle.cell_grid.specs.Space.{plane_count}
use Rattle.model_tree.specs.Tree.{Group, Tree, leaves, ins_of, outs_of}
use Rattle.model_tree.specs.Sound.{is_sound_part, totals, is_within_limits, is_sound_model}
use Rattle.model_tree.specs.Paths.{path_count}
use Rattle.model_text.specs.declared.kind.Kind.TheVariants.{NoSuchPlane}
use Rattle.model_text.specs.Refusals.{refusal}
use Rattle.model_text.specs.Drawings.{Drawing, group_named, has_plane, drawing_refused}
use Rattle.answer_model.specs.RunFiles.{group_at}
use Rattle.answer_model.proofs.DrawnGroups.{group_in, group_found}

-- ---- what a sound model has

-- its parts are sound, and it has at most 65536 inputs
pub record IsSound (t : Tree) : Type 0 where
  pub parts : is_sound_part t ≡ true
  pub ins : length (ins_of t) ≤ 65536

at_most : (a b : ℕ) → nat_le a b ≡ true → a ≤ b
at_most a b h = grind (arith, nat_tests)

pub sound_is : (t : Tree) → is_sound_model t ≡ true → IsSound t
sound_is t h =
    let n = totals t in
    let p = and_parts (is_sound_part t && is_within_limits n && nat_le (length (ins_of t)) 65536 && nat_le (length (outs_of t)) 65536) (nat_le (path_count t) 65536) h in
    let q = and_parts (is_sound_part t && is_within_limits n && nat_le (length (ins_of t)) 65536) (nat_le (length (outs_of t)) 65536) p.0 in
    let r = and_parts (is_sound_part t && is_within_limits n) (nat_le (length (ins_of t)) 65536) q.0 in
    record { parts = (and_parts (is_sound_part t) (is_within_limits n) r.0).0; ins = at_most (length (ins_of t)) 65536 r.1 }

-- ---- the plane of a group

below : (k n : ℕ) → nat_lt k n ≡ true → k < n
below k n h = grind (arith, nat_tests)

accepted : (b : Bool) → cond b None (Some (refusal 0 NoSuchPlane)) ≡ None → b ≡ true
accepted true h = refl
accepted false h = cc

refused : (b : Bool) → cond b None (Some (refusal 0 NoSuchPlane)) ≡ None → b ≡ false → ⊥
refused true h off = absurd (cc)
refused false h off = absurd (cc)

-- a drawing that is accepted is of a group that has leaves
pub group_there : (t : Tree) (d : Drawing) → is_sound_model t ≡ true → drawing_refused (Some d) t ≡ None → group_at d.group (leaves t) ≡ None → ⊥
group_there t d sound drawn none =
    let named : group_named d.group t ≡ None = sym (group_found t 0 d.group (sound_is t sound).parts) ∙ ap group_in none in
    refused (has_plane d.plane (group_named d.group t)) drawn (ap (has_plane d.plane) named)

-- a drawing that is accepted is of a plane of its group
pub plane_inside : (t : Tree) (d : Drawing) (p : ℕ × Group) → is_sound_model t ≡ true → drawing_refused (Some d) t ≡ None → group_at d.group (leaves t) ≡ Some p → d.plane < plane_count p.1.space
plane_inside t d p sound drawn there =
    let named : group_named d.group t ≡ Some p.1 = sym (group_found t 0 d.group (sound_is t sound).parts) ∙ ap group_in there in
    below d.plane (plane_count p.1.space) (sym (ap (has_plane d.plane) named) ∙ accepted (has_plane d.plane (group_named d.group t)) drawn)
