-- The records of a run of an accepted model have lines of a log's form, so its frames are drawn
-- from its log.
use Rattle.std.proofs.Common.{ap, ◌≡◌, ℕ, zero, suc, ◌+◌, true, Some}
use Rattle.std.proofs.Common.{None, List, [], ◌∷◌, length, refl, arith}
use Rattle.std.specs.Prelude.{◌&&◌, ◌==◌, not, nat_le, nat_lt}
use Rattle.std.specs.Prelude.{map}
use Rattle.std.specs.List.{All, list_all, range_with_len}
use Rattle.std.proofs.lemmas.Bool.{and_parts}
use Rattle.std.proofs.lemmas.Bool.Decides.{nat_tests}
use Rattle.std.proofs.lemmas.List.Elements.{All-nil, All-cons, All-append}
use Rattle.quantity.specs.Bytes.{has_repeat}
use Rattle.rule_tree.specs.Phrases.{out}
use Rattle.cell_grid.specs.Space.{cell_count}
use Rattle.model_tree.specs.Tree.{Word, Group, Tree, Trees, coupled, cells, atomic, nil, cons}
use Rattle.model_tree.specs.Tree.{atomic_leaf, cell_leaf, leaf_count, leaves_from, all_leaves_from}
use Rattle.model_tree.specs.Tree.{leaves, ins_of}
use Rattle.model_tree.specs.FaceOf.{face_of_coupled, face_of_group}
use Rattle.model_tree.specs.Sound.{is_near_offset, offsets_differ, has_right_names, has_right_rules}
use Rattle.model_tree.specs.Sound.{is_sound_group, are_accepted, has_child, is_sound_part}
use Rattle.model_tree.specs.Sound.{are_sound_parts}
use Rattle.run_model.specs.Run.{start}
use Rattle.run_model.specs.Bounds.{StartIsBounded, RunsAreBounded}
use Rattle.run_model.specs.Fitting.{StartFits, RunsFit}
use Rattle.model_text.specs.Accepted.{ReadsSoundModels}
use Rattle.text_forms.specs.LeafNames.{HasPortValues}
use Rattle.text_forms.proofs.CycleLines.{AreKnown, cycles_fit}
use Rattle.answer_model.specs.Cdpp.{run_on}
use Rattle.answer_model.specs.RunFiles.{emitted_before}
use Rattle.text_forms.specs.Frames.{frames_of}
use Rattle.quantity.specs.Bytes.{Bytes}
use Rattle.answer_model.specs.AcceptedRuns.{EventsAreBounded, ModelsAreBounded}
use Rattle.answer_model.specs.AcceptedRuns.{ModelsAreNamed, GroupsAreNamed, RunsAreDrawn}
use Rattle.answer_model.specs.AcceptedRuns.{FilesAreDrawn, DrawingsHaveGroups, picture_of}
use Rattle.answer_model.specs.AcceptedRuns.{FramesAreDrawn}
use Rattle.answer_model.specs.DrawnRuns.{DrawnAgrees}
use Rattle.answer_model.proofs.Resumes.{is_run}
use Rattle.answer_model.proofs.SoundParts.{sound_is}

-- ---- each further port has a value

group_ports : (g : Group) → is_sound_group g ≡ true → length g.port_values ≡ length g.ports
group_ports g sound =
    let a = nat_lt 0 (cell_count g.space) && (length g.initial == cell_count g.space)
    && nat_le g.settings.default_delay 359999999 && nat_le (length g.offsets) 128
    && list_all is_near_offset g.offsets && offsets_differ g.offsets in
    let p = and_parts (a && has_right_names g) (has_right_rules g) sound in
    let q = and_parts a (has_right_names g) p.0 in
    let b = nat_le (length g.variables) 8 && (length g.variable_values == length g.variables)
    && not (has_repeat g.variables) && nat_le (length g.ports) 3 in
    let r = and_parts (b && (length g.port_values == length g.ports))
    (not (has_repeat (out ∷ g.ports))) q.1 in
    as_many (length g.port_values) (length g.ports)
    (and_parts b (length g.port_values == length g.ports) r.0).1
  where
    as_many : (n m : ℕ) → (n == m) ≡ true → n ≡ m
    as_many n m e = grind (arith, nat_tests)

cells_have : (g : Group) (first a n : ℕ) → length g.port_values ≡ length g.ports
    → All HasPortValues (map (cell_leaf g first) (range_with_len a n))
cells_have g first a zero h = All-nil HasPortValues
cells_have g first a (suc n) h =
    All-cons HasPortValues (cell_leaf g first a)
    (map (cell_leaf g first) (range_with_len (a + 1) n)) h (cells_have g first (a + 1) n h)

mutual
  leaves_have : (t : Tree) (first : ℕ) → is_sound_part t ≡ true
      → All HasPortValues (leaves_from t first)
  leaves_have (coupled name ins outs children links) first sound =
      all_have children first
      (and_parts (has_child children && not (has_repeat ins) && not (has_repeat outs)
      && are_accepted (face_of_coupled ins outs children) [] links) (are_sound_parts children) sound).1
  leaves_have (cells g) first sound =
      let p = and_parts (is_sound_group g && not (has_repeat g.ins) && not (has_repeat g.outs))
      (are_accepted (face_of_group g) [] g.links) sound in
      let q = and_parts (is_sound_group g && not (has_repeat g.ins))
      (not (has_repeat g.outs)) p.0 in
      cells_have g first 0 (cell_count g.space)
      (group_ports g (and_parts (is_sound_group g) (not (has_repeat g.ins)) q.0).0)
  leaves_have (atomic name class settings) first sound =
      All-cons HasPortValues (atomic_leaf name class settings) [] tt (All-nil HasPortValues)

  all_have : (ts : Trees) (first : ℕ) → are_sound_parts ts ≡ true
      → All HasPortValues (all_leaves_from ts first)
  all_have nil first sound = All-nil HasPortValues
  all_have (cons t ts) first sound =
      let p = and_parts (is_sound_part t) (are_sound_parts ts) sound in
      All-append HasPortValues (leaves_from t first) (all_leaves_from ts (first + leaf_count t))
      (leaves_have t first p.0) (all_have ts (first + leaf_count t) p.1)

-- the laws that the last one stands on
pub record Laws : Type 0 where
  pub bounded : ModelsAreBounded
  pub named : ModelsAreNamed
  pub shows : GroupsAreNamed
  pub sound : ReadsSoundModels
  pub start_bounded : StartIsBounded
  pub runs_bounded : RunsAreBounded
  pub start_fits : StartFits
  pub runs_fit : RunsFit
  pub drawn : DrawnAgrees

pub runs_are_drawn : Laws → RunsAreDrawn
runs_are_drawn laws bytes files classes drawing t e events small end early limit letters y name g found p same =
    let values = laws.bounded bytes files classes drawing t e in
    let r = run_on t events end limit None in
    let runs = is_run t events limit end None tt in
    let known : AreKnown (leaves t) = record {
      named = laws.named bytes files classes drawing t e;
      ported = leaves_have t 0 (sound_is t (laws.sound bytes files classes drawing t e)).parts;
    } in
    let bounded = laws.runs_bounded t end limit
    (start t events) r.left r.cycles r.verdict values early
    (laws.start_bounded t events values small) runs in
    let fits = laws.runs_fit t end limit (start t events) r.left r.cycles r.verdict
    (laws.start_fits t events) runs in
    laws.drawn t events end limit letters name g p
    (record {
      names = laws.shows bytes files classes drawing t e name g found;
      lines = cycles_fit t end r.cycles early known bounded.0 fits.0;
    }) y same

pub files_are_drawn : Laws → EventsAreBounded → FilesAreDrawn
files_are_drawn laws small bytes files classes drawing t e event_bytes events h =
    runs_are_drawn laws bytes files classes drawing t e events
    (small event_bytes (ins_of t) events h).0

pub frames_are_drawn : Laws → DrawingsHaveGroups → FramesAreDrawn
frames_are_drawn laws have bytes files classes f t e events small end early limit letters y =
    let g = have bytes files classes f.drawing t e in
    let cs = (run_on t events end limit None).cycles in
    let made : ℕ
    × Group → List (Word × Bytes) =
    λ p. (f.name, frames_of (picture_of f p.1) p.0 (emitted_before None p) cs) ∷ [] in (
      g.0.1,
      frames_of (picture_of f g.0.1) g.0.0 (emitted_before None g.0) cs,
      runs_are_drawn laws bytes files classes
          (Some f.drawing) t e events small end early limit letters y f.drawing.group g.0 g.1
          (picture_of f g.0.1) refl,
      ap (λ o. let fs : List (Word × Bytes) = elim o [ None ↦ [] | Some p ↦ made p ] in fs) g.1,
    )
