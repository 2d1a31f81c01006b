-- The group of an accepted drawing stands among the leaves, and has the plane.
use Rattle.std.proofs.Common.{◌≡◌, ℕ, zero, suc, ◌+◌, ◌<◌, Bool, true, false, cond, Option, Some, None, List, [], ◌∷◌, ◌++◌, length, map, refl, sym, ap, ◌∙◌, subst, arith}
use Rattle.std.specs.Prelude.{◌&&◌, ◌==◌, not, nat_le, nat_lt}
use Rattle.std.specs.List.{find, list_all, range_with_len}
use Rattle.std.specs.Option.{option_map, option_or}
use Rattle.std.specs.Str.{bytes_eq}
use Rattle.std.proofs.lemmas.Bool.{and_parts}
use Rattle.std.proofs.lemmas.Bool.Decides.{nat_tests}
use Rattle.quantity.specs.Bytes.{has_repeat}
use Rattle.cell_grid.specs.Space.{cell_count, plane_count}
use Rattle.model_tree.specs.Tree.{Word, Group, Tree, Trees, coupled, cells, atomic, nil, cons, Leaf, cell_leaf, leaf_count, leaves_from, all_leaves_from, leaves, groups, all_groups}
use Rattle.model_tree.specs.FaceOf.{face_of_coupled, face_of_group}
use Rattle.model_tree.specs.Sound.{is_near_offset, offsets_differ, has_right_names, has_right_rules, is_sound_group, are_accepted, has_child, is_sound_part, are_sound_parts}
use Rattle.model_text.specs.declared.kind.Kind.TheVariants.{NoSuchPlane}
use Rattle.model_text.specs.Refusals.{refusal}
use Rattle.model_text.specs.Drawings.{group_named, has_plane}
use Rattle.model_text.specs.Accepted.{PassesEachPhase, ReadsSoundModels}
use Rattle.answer_model.specs.RunFiles.{group_at}
use Rattle.answer_model.specs.AcceptedRuns.{DrawingsHaveGroups}
use Rattle.run_model.proofs.Basics.{true_false, some_none, map_there}
use Rattle.answer_model.proofs.SoundParts.{sound_is}
use Rattle.answer_model.proofs.NamedCells.{none_found, found_in, other_cells}

-- the group that is found, without its first leaf
abbrev pub group_in : Option (ℕ × Group) → Option Group
group_in o = option_map (λ (p : ℕ × Group). p.1) o

-- the group has this name
abbrev pub is_named : Word → Group → Bool
is_named name g = bytes_eq g.name name

find_in : (name : Word) (xs ys : List Group) → find (is_named name) (xs ++ ys) ≡ option_or (find (is_named name) xs) (find (is_named name) ys)
find_in name [] ys = refl
find_in name (g ∷ gs) ys = go (bytes_eq g.name name) (find_in name gs ys)
  where
    go : (b : Bool) → find (is_named name) (gs ++ ys) ≡ option_or (find (is_named name) gs) (find (is_named name) ys)
        → cond b (Some g) (find (is_named name) (gs ++ ys)) ≡ option_or (cond b (Some g) (find (is_named name) gs)) (find (is_named name) ys)
    go true later = refl
    go false later = later

either_in : (o p : Option (ℕ × Group)) → group_in (option_or o p) ≡ option_or (group_in o) (group_in p)
either_in None p = refl
either_in (Some x) p = refl

has_cells : (g : Group) → is_sound_group g ≡ true → 0 < cell_count g.space
has_cells g sound =
    let a = nat_lt 0 (cell_count g.space) in
    let b = length g.initial == cell_count g.space in
    let c = nat_le g.settings.default_delay 359999999 in
    let d = nat_le (length g.offsets) 128 in
    let e = list_all is_near_offset g.offsets in
    let p = and_parts (a && b && c && d && e && offsets_differ g.offsets && has_right_names g) (has_right_rules g) sound in
    let q = and_parts (a && b && c && d && e && offsets_differ g.offsets) (has_right_names g) p.0 in
    let r = and_parts (a && b && c && d && e) (offsets_differ g.offsets) q.0 in
    let t = and_parts (a && b && c && d) e r.0 in
    let u = and_parts (a && b && c) d t.0 in
    let v = and_parts (a && b) c u.0 in
    above (cell_count g.space) (and_parts a b v.0).0
  where
    above : (n : ℕ) → nat_lt 0 n ≡ true → 0 < n
    above n h = grind (arith, nat_tests)

cells_found : (name : Word) (g : Group) (first a n : ℕ) → 0 < n → group_in (group_at name (map (cell_leaf g first) (range_with_len a n))) ≡ find (is_named name) (g ∷ [])
cells_found name g first a zero h = absurd (never h)
  where
    never : 0 < 0 → ⊥
    never h = omega arith
cells_found name g first a (suc n) h = go (bytes_eq g.name name) refl
  where
    rest : List Leaf
    rest = map (cell_leaf g first) (range_with_len (a + 1) n)

    go : (b : Bool) → bytes_eq g.name name ≡ b → group_in (cond b (Some (first, g)) (group_at name rest)) ≡ cond b (Some g) None
    go true same = refl
    go false same = ap group_in (none_found name rest (other_cells name g first (a + 1) n same))

-- ---- the group of a name, among the leaves and among the groups

mutual
  pub group_found : (t : Tree) (first : ℕ) (name : Word) → is_sound_part t ≡ true → group_in (group_at name (leaves_from t first)) ≡ find (is_named name) (groups t)
  group_found (coupled n ins outs children links) first name sound =
      all_found children first name (and_parts (has_child children && not (has_repeat ins) && not (has_repeat outs) && are_accepted (face_of_coupled ins outs children) [] links) (are_sound_parts children) sound).1
  group_found (cells g) first name sound =
      let p = and_parts (is_sound_group g && not (has_repeat g.ins) && not (has_repeat g.outs)) (are_accepted (face_of_group g) [] g.links) sound in
      let q = and_parts (is_sound_group g && not (has_repeat g.ins)) (not (has_repeat g.outs)) p.0 in
      cells_found name g first 0 (cell_count g.space) (has_cells g (and_parts (is_sound_group g) (not (has_repeat g.ins)) q.0).0)
  group_found (atomic n class settings) first name sound = refl

  all_found : (ts : Trees) (first : ℕ) (name : Word) → are_sound_parts ts ≡ true → group_in (group_at name (all_leaves_from ts first)) ≡ find (is_named name) (all_groups ts)
  all_found nil first name sound = refl
  all_found (cons t ts) first name sound =
      let p = and_parts (is_sound_part t) (are_sound_parts ts) sound in
      let rest = all_leaves_from ts (first + leaf_count t) in
      ap group_in (found_in name (leaves_from t first) rest) ∙ either_in (group_at name (leaves_from t first)) (group_at name rest)
      ∙ ap (λ o. option_or o (group_in (group_at name rest))) (group_found t first name p.0) ∙ ap (option_or (find (is_named name) (groups t))) (all_found ts (first + leaf_count t) name p.1)
      ∙ sym (find_in name (groups t) (all_groups ts))

plane_there : (plane : ℕ) (o : Option Group) → has_plane plane o ≡ true → (g : Group) × (o ≡ Some g) × (plane < plane_count g.space)
plane_there plane None h = absurd (true_false (sym h))
plane_there plane (Some g) h = (g, refl, below (plane_count g.space) h)
  where
    below : (n : ℕ) → nat_lt plane n ≡ true → plane < n
    below n h = grind (arith, nat_tests)

pub drawings_have_groups : PassesEachPhase → ReadsSoundModels → DrawingsHaveGroups
drawings_have_groups passes sound bytes files classes d t e =
    let a = passes bytes files classes (Some d) t e in
    let p = plane_there d.plane (group_named d.group t) (right (has_plane d.plane (group_named d.group t)) a.drawn) in
    let q = map_there (λ (p : ℕ × Group). p.1) (group_at d.group (leaves t)) p.0 (group_found t 0 d.group (sound_is t (sound bytes files classes (Some d) t e)).parts ∙ p.1) in
    (q.0, q.1, subst (λ (g : Group). d.plane < plane_count g.space) (sym q.2) p.2)
  where
    right : (b : Bool) → cond b None (Some (refusal 0 NoSuchPlane)) ≡ None → b ≡ true
    right true h = refl
    right false h = absurd (some_none h)
