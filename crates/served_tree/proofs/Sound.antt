-- Sound models are served.
use Rattle.std.proofs.Common.{◌≡◌, Bool, true, false, true≢false, not, ◌&&◌, nat_lt, ltb-true, Option, Some, List, [], ◌∷◌, ◌++◌, refl, sym, ◌∙◌}
use Rattle.std.specs.Prelude.{if◌then◌else◌}
use Rattle.std.specs.Option.{is_none}
use Rattle.std.specs.Str.{bytes_eq}
use Rattle.std.proofs.lemmas.Bool.{and_parts}
use Rattle.std.proofs.lemmas.Slice.Zip.{AllZip-long}
use Rattle.quantity.specs.Bytes.{has_repeat}
use Rattle.rule_tree.specs.Phrases.{out}
use Rattle.cell_grid.specs.Space.{cell_count}
use Rattle.model_tree.specs.declared.link.End.{End}
use Rattle.model_tree.specs.declared.link.End.TheVariants.{Own, Child, Cell}
use Rattle.model_tree.specs.declared.link.Link.{Link}
use Rattle.model_tree.specs.declared.refusal.LinkRefusal.{LinkRefusal}
use Rattle.model_tree.specs.declared.refusal.LinkRefusal.TheVariants.{UnknownPort}
use Rattle.model_tree.specs.Tree.{Tree, Trees, coupled, cells, atomic, nil, cons, leaves}
use Rattle.model_tree.specs.Faces.{Face, is_source, is_target, link_refused}
use Rattle.model_tree.specs.FaceOf.{face_of_coupled, face_of_group}
use Rattle.model_tree.specs.Sound.{has_child, is_sound_group, are_accepted, is_sound_part, are_sound_parts}
use Rattle.run_model.specs.Fitting.{Fits}
use Rattle.served_tree.specs.Linked.{BeginsWithin, LeadsWithin, AreWithin, HasChild, IsLinked, AreLinked}
use Rattle.served_tree.specs.Orders.{SoundServes}
use Rattle.served_tree.proofs.Finishing.{leaves-many}

begins : (f : Face) (e : End) → is_source f e ≡ true → BeginsWithin f.ins f.cells e
begins f (Own p) is = is
begins f (Child p c) is = tt
begins f (Cell p n) is = ltb-true n f.cells (and_parts (bytes_eq p out) (nat_lt n f.cells) is).1

leads : (f : Face) (e : End) → is_target f e ≡ true → LeadsWithin f.outs e
leads f (Own p) is = is
leads f (Child p c) is = tt
leads f (Cell p n) is = tt

known-both : (b : Bool) (rest : Option LinkRefusal)
    → is_none (if not b then Some UnknownPort else rest) ≡ true → b ≡ true
known-both true rest is = refl
known-both false rest is = absurd (true≢false (sym is))

within : (f : Face) (before links : List Link) → are_accepted f before links ≡ true
    → AreWithin f.ins f.outs f.cells links
within f before [] is = tt
within f before (l ∷ ls) is =
    let both = and_parts (is_none (link_refused f before l)) (are_accepted f (before ++ l ∷ []) ls) is in
    let ends = and_parts (is_source f l.from) (is_target f l.to) (known-both (is_source f l.from && is_target f l.to) _ both.0) in
    ((begins f l.from ends.0, leads f l.to ends.1), within f (before ++ l ∷ []) ls both.1)

some-child : (ts : Trees) → has_child ts ≡ true → HasChild ts
some-child nil is = absurd (true≢false (sym is))
some-child (cons t ts) is = tt

and-four : (a b c d : Bool) → (a && b && c && d) ≡ true → (a ≡ true) × (d ≡ true)
and-four true true true true is = (refl, refl)
and-four true true true false is = (refl, is)
and-four true true false d is = absurd (true≢false (sym is))
and-four true false c d is = absurd (true≢false (sym is))
and-four false b c d is = absurd (true≢false (sym is))

and-five : (a b c d e : Bool) → (a && b && c && d && e) ≡ true
    → (a ≡ true) × (d ≡ true) × (e ≡ true)
and-five true true true true true is = (refl, refl, refl)
and-five true true true true false is = (refl, refl, is)
and-five true true true false e is = absurd (true≢false (sym is))
and-five true true false d e is = absurd (true≢false (sym is))
and-five true false c d e is = absurd (true≢false (sym is))
and-five false b c d e is = absurd (true≢false (sym is))

and-first : (a b c d e f g h : Bool) → (a && b && c && d && e && f && g && h) ≡ true → a ≡ true
and-first true b c d e f g h is = refl
and-first false b c d e f g h is = absurd (true≢false (sym is))

mutual
  linked : (t : Tree) → is_sound_part t ≡ true → IsLinked t
  linked (coupled name ins outs children links) is =
      let all = and-five (has_child children) (not (has_repeat ins)) (not (has_repeat outs)) (are_accepted (face_of_coupled ins outs children) [] links) (are_sound_parts children) is in
      (some-child children all.0, within (face_of_coupled ins outs children) [] links all.1, all-linked children all.2)
  linked (cells g) is =
      let all = and-four (is_sound_group g) (not (has_repeat g.ins)) (not (has_repeat g.outs)) (are_accepted (face_of_group g) [] g.links) is in
      (ltb-true 0 (cell_count g.space) (and-first (nat_lt 0 (cell_count g.space)) _ _ _ _ _ _ _ all.0), within (face_of_group g) [] g.links all.1)
  linked (atomic name class settings) is = tt

  all-linked : (ts : Trees) → are_sound_parts ts ≡ true → AreLinked ts
  all-linked nil is = tt
  all-linked (cons t ts) is =
      let both = and_parts (is_sound_part t) (are_sound_parts ts) is in
      (linked t both.0, all-linked ts both.1)

pub sound-serves : SoundServes
sound-serves tree states sound ports fits =
    record {
      linked = linked tree sound;
      ports = ports;
      states_are = AllZip-long Fits (leaves tree) states fits ∙ leaves-many tree 0;
    }
