-- The group whose frames are drawn, and how they begin.
use Rattle.std.proofs.Common.{◌≡◌, ℕ, ◌<◌, Option, Some, None, List, [], get_or, sym, ap, ◌∙◌, subst, arith}
use Rattle.std.specs.Prelude.{slice_get}
use Rattle.std.specs.Option.{option_map}
use Rattle.std.proofs.lemmas.Option.{slice_get-get_or}
use Rattle.atomic_face.specs.declared.class.Class.TheVariants.{Queue}
use Rattle.model_tree.specs.Tree.{Group, Tree, Leaf, atomic_leaf, leaf_count, leaves, groups}
use Rattle.model_leaves.proofs.Read.{leaves-length}
use Rattle.run_model.specs.Run.{Cycle}
use Rattle.run_model.specs.Instants.{InstantsNeverFall}
use Rattle.text_forms.specs.Frames.{frames_of as frames_of_cycles}
use Rattle.text_forms.specs.StateOf.{Saved}
use Rattle.answer_model.specs.Asked.{FramesFile}
use Rattle.answer_model.specs.Started.{drawing_of}
use Rattle.answer_model.specs.RunFiles.{group_at, emitted_before}
use Rattle.asked_words.specs.declared.asked.FramesFile as code
use Rattle.asked_words.specs.declared.group.GroupAt.{GroupAt}
use Rattle.asked_words.specs.Group.{IsDrawn}
use Rattle.asked_words.specs.Shown.{frames_file_of}
use Rattle.run_loop.specs.Groups.{picture_of, begun_at, showing_at_start}
use Rattle.run_loop.specs.Showing.{Showing, showing_none, frames_left, IsBegunBy}
use Rattle.run_loop.proofs.Starts.{none_from, emitted_inside}
use Rattle.run_loop.proofs.Turns.{never_fall_from, all_frames}

-- the leaf that there is
pub leaf_in : (t : Tree) (k : ℕ) → k < leaf_count t → (l : Leaf) × (slice_get (leaves t) k ≡ Some l)
leaf_in t k lt =
    let d = atomic_leaf [] Queue [] in
    (get_or (leaves t) k d, slice_get-get_or (leaves t) k d (omega (arith, lt, leaves-length t 0)))

-- ---- how the frames begin

-- the group that is found is the one of this number
space_is : (t : Tree) (k : FramesFile) (p : GroupAt) (h : Group) → IsDrawn (Some k.drawing) (Some p) t → slice_get (groups t) p.number ≡ Some h → group_at k.drawing.group (leaves t) ≡ Some (p.first, h)
space_is t k p h is there =
    let both : Some is.0 ≡ Some h = sym is.2 ∙ there in
    let same : is.0 ≡ h = cc in
    is.1 ∙ ap (λ (g : Group). let x : Option (ℕ × Group) = Some (p.first, g) in x) same

pub shown_from : (t : Tree) (o : Option code.FramesFile) (f : code.FramesFile) (group : Option GroupAt) (p : GroupAt) (h : Group) (w : Showing) → o ≡ Some f → group ≡ Some p → IsDrawn (drawing_of (option_map frames_file_of o)) group t → slice_get (groups t) p.number ≡ Some h
    → w ≡ showing_none p.first (picture_of (frames_file_of f) h.space) → Some w ≡ showing_at_start t None (option_map frames_file_of o)
shown_from t None f group p h w some here is there begins = absurd (cc)
shown_from t (Some k) f None p h w some here is there begins = absurd (cc)
shown_from t (Some k) f (Some q) p h w some here is there begins =
    let same : q ≡ p = cc in
    let frames : k ≡ f = cc in
    let found = space_is t (frames_file_of k) q h is (subst (λ (x : GroupAt). slice_get (groups t) x.number ≡ Some h) (sym same) there) in
    let shown = begins ∙ (λ i. showing_none ((sym same i).first) (picture_of (frames_file_of (sym frames i)) h.space)) ∙ none_from q.first (picture_of (frames_file_of k) h.space) in
    ap (λ (x : Showing). Some x) shown ∙ sym (ap (begun_at (frames_file_of k) None) found)

-- ---- what they come to

-- no instant is begun
pub none_begun : (low : ℕ) (tree : Tree) (from : Option Saved) (frames : Option FramesFile) → IsBegunBy low (showing_at_start tree from frames)
none_begun low tree from None = tt
none_begun low tree from (Some f) = by (group_at f.drawing.group (leaves tree))
  where
    by : (g : Option (ℕ × Group)) → IsBegunBy low (begun_at f from g)
    by None = tt
    by (Some g) = λ x q. absurd (cc)

-- frames of a group that is there, from the start or from a saved state, are those of all cycles
pub begun_frames : (f : FramesFile) (from : Option Saved) (g : ℕ × Group) (low : ℕ) (cs : List Cycle) → InstantsNeverFall low cs → frames_left (begun_at f from (Some g)) cs ≡ frames_of_cycles (picture_of f g.1.space) g.0 (emitted_before from g) cs
begun_frames f from g low cs falls =
    all_frames (picture_of f g.1.space) g.0 (emitted_before from g) cs (emitted_inside from g) (never_fall_from low 0 cs (omega arith) falls)
