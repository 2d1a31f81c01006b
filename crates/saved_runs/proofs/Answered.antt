-- The answers to a run that is saved and to the run on from its file are, one behind the other, the
-- answer to one run.
use Rattle.std.proofs.Common.{◌≡◌, ℕ, ◌+◌, Option, Some, None, List, [], ◌∷◌, ◌++◌, length, refl}
use Rattle.std.proofs.Common.{ap, ◌∙◌, subst}
use Rattle.std.specs.Prelude.{⊤}
use Rattle.std.proofs.lemmas.List.{append-nil}
use Rattle.quantity.specs.Bytes.{Bytes}
use Rattle.rule_tree.specs.declared.outcome.RuleStop.TheVariants.{NoTrueRule, Overflow, BadDelay}
use Rattle.model_tree.specs.Tree.{Word, Group, Tree, leaves}
use Rattle.run_model.specs.Run.{Event, Cycle, Run, Verdict, done, too_many, stop}
use Rattle.text_forms.specs.Lines.{line_with_end, log_bytes, out_bytes}
use Rattle.text_forms.specs.Frames.{Picture, frames_of}
use Rattle.text_forms.specs.StateText.{text_of_state}
use Rattle.text_forms.specs.StateOf.{Saved}
use Rattle.answer_model.specs.Answer.{MadeFiles, Answer}
use Rattle.answer_model.specs.Asked.{Asked, FramesFile}
use Rattle.answer_model.specs.RunEnd.{end_line, verdict_message}
use Rattle.answer_model.specs.RunFiles.{file_if, group_at, emitted_before, frames_if, saved_text}
use Rattle.answer_model.specs.RunFiles.{answer_of_run}
use Rattle.answer_model.specs.Cdpp.{run_on}
use Rattle.answer_model.specs.Resume.{saved_at, FilesJoin}
use Rattle.answer_model.specs.declared.status.Status.TheVariants.{Done}
use Rattle.saved_runs.specs.Joined.{RunsAreOne, RunsJoin}
use Rattle.saved_runs.specs.Answered.{to_end, joined_files, Tells, AnswerAsOne, AnswersAsOne}

-- ---- files that follow each other

-- as many files, each of the last list the first's and then the second's
abbrev Follow : MadeFiles → MadeFiles → MadeFiles → Type 0
Follow [] [] [] = ⊤
Follow [] [] (h ∷ hs) = ⊥
Follow [] (g ∷ gs) hs = ⊥
Follow (f ∷ fs) [] hs = ⊥
Follow (f ∷ fs) (g ∷ gs) [] = ⊥
Follow (f ∷ fs) (g ∷ gs) (h ∷ hs) = (h ≡ (f.0, f.1 ++ g.1)) × Follow fs gs hs

both_follow : (fs gs hs ds es cs : MadeFiles) → Follow fs gs hs → Follow ds es cs
    → Follow (fs ++ ds) (gs ++ es) (hs ++ cs)
both_follow [] [] [] ds es cs h k = k
both_follow [] [] (x ∷ xs) ds es cs h k = absurd h
both_follow [] (g ∷ gs) hs ds es cs h k = absurd h
both_follow (f ∷ fs) [] hs ds es cs h k = absurd h
both_follow (f ∷ fs) (g ∷ gs) [] ds es cs h k = absurd h
both_follow (f ∷ fs) (g ∷ gs) (x ∷ xs) ds es cs h k = (h.0, both_follow fs gs xs ds es cs h.1 k)

-- the state of the first is left out, what the second has behind stays
are_joined : (s : Word × Bytes) (fs gs hs ts : MadeFiles) → Follow fs gs hs → hs
    ++ ts ≡ joined_files (fs ++ s ∷ []) (gs ++ ts)
are_joined s [] [] [] ts h = refl
are_joined s [] [] (x ∷ xs) ts h = absurd h
are_joined s [] (g ∷ gs) hs ts h = absurd h
are_joined s (f ∷ fs) [] hs ts h = absurd h
are_joined s (f ∷ fs) (g ∷ gs) [] ts h = absurd h
are_joined s (f ∷ []) (g ∷ gs) (x ∷ xs) ts h = ap (λ y. y ∷ (xs ++ ts)) h.0
    ∙ ap (λ ys. (f.0, f.1 ++ g.1) ∷ ys) (are_joined s [] gs xs ts h.1)
are_joined s (f ∷ e ∷ fs) (g ∷ gs) (x ∷ xs) ts h = ap (λ y. y ∷ (xs ++ ts)) h.0
    ∙ ap (λ ys. (f.0, f.1 ++ g.1) ∷ ys) (are_joined s (e ∷ fs) gs xs ts h.1)

file_follows : (o : Option Word) (a b c : Bytes) → c ≡ a ++ b
    → Follow (file_if o a) (file_if o b) (file_if o c)
file_follows None a b c e = tt
file_follows (Some name) a b c e = (ap (λ x. (name, x)) e, tt)

abbrev picture : FramesFile → ℕ × Group → Picture
picture f g = record {
  space = g.1.space;
  plane = f.drawing.plane;
  width = f.width;
  decimals =
      f.decimals;
}

module _ (tree : Tree) (saved : Saved) (here rest whole : Run) (files : FilesJoin tree None saved
    here rest whole) where
  frames_follow : (o : Option FramesFile)
      → Follow (frames_if tree None here.cycles o) (frames_if tree (Some saved) rest.cycles o)
      (frames_if tree None whole.cycles o)
  frames_follow None = tt
  frames_follow (Some f) = go (group_at f.drawing.group (leaves tree)) refl
    where
      go : (o : Option (ℕ × Group)) → group_at f.drawing.group (leaves tree) ≡ o
          → Follow (let x : MadeFiles =
          elim o [
            | None ↦ []
            | Some g ↦ (
              f.name,
              frames_of (picture f g) g.0 (emitted_before None g) here.cycles,
            ) ∷ []
          ] in x)
          (let x : MadeFiles = elim o [
            | None ↦ []
            | Some g ↦ (
              f.name,
              frames_of (picture f g) g.0 (emitted_before (Some saved) g) rest.cycles,
            ) ∷ []
          ] in x)
          (let x : MadeFiles = elim o [
            | None ↦ []
            | Some g ↦ (
              f.name,
              frames_of (picture f g) g.0 (emitted_before None g) whole.cycles,
            ) ∷ []
          ] in x)
      go None e = tt
      go (Some g) e = (
        ap (λ b. (f.name, b)) (files.frames f.drawing.group g (picture f g) e refl),
        tt,
      )

  all_follow : (a : Asked) → Follow (file_if a.log (log_bytes tree a.letters here.cycles)
      ++ file_if a.out (out_bytes tree here.cycles) ++ frames_if tree None here.cycles a.frames)
      (file_if a.log (log_bytes tree a.letters rest.cycles)
      ++ file_if a.out (out_bytes tree rest.cycles)
      ++ frames_if tree (Some saved) rest.cycles a.frames)
      (file_if a.log (log_bytes tree a.letters whole.cycles)
      ++ file_if a.out (out_bytes tree whole.cycles)
      ++ frames_if tree None whole.cycles a.frames)
  all_follow a =
      both_follow (file_if a.log (log_bytes tree a.letters here.cycles)
      ++ file_if a.out (out_bytes tree here.cycles))
      (file_if a.log (log_bytes tree a.letters rest.cycles)
      ++ file_if a.out (out_bytes tree rest.cycles))
      (file_if a.log (log_bytes tree a.letters whole.cycles)
      ++ file_if a.out (out_bytes tree whole.cycles))
      (frames_if tree None here.cycles a.frames) (frames_if tree (Some saved) rest.cycles a.frames)
      (frames_if tree None whole.cycles a.frames)
      (both_follow (file_if a.log (log_bytes tree a.letters here.cycles))
      (file_if a.log (log_bytes tree a.letters rest.cycles))
      (file_if a.log (log_bytes tree a.letters whole.cycles))
      (file_if a.out (out_bytes tree here.cycles)) (file_if a.out (out_bytes tree rest.cycles))
      (file_if a.out (out_bytes tree whole.cycles))
      (file_follows a.log (log_bytes tree a.letters here.cycles)
      (log_bytes tree a.letters rest.cycles) (log_bytes tree a.letters whole.cycles)
      (files.log a.letters))
      (file_follows a.out (out_bytes tree here.cycles) (out_bytes tree rest.cycles)
      (out_bytes tree whole.cycles) files.out))
      (frames_follow a.frames)

-- ---- what is said

status_done : (a : Asked) (tree : Tree) (events : List Event) (cycles : List Cycle) (v : Verdict)
    → (verdict_message a tree events cycles v).status ≡ Done → v ≡ done
status_done a tree events cycles done e = refl
status_done a tree events cycles (too_many t) e = absurd cc
status_done a tree events cycles (stop leaf t NoTrueRule) e = absurd cc
status_done a tree events cycles (stop leaf t Overflow) e = absurd cc
status_done a tree events cycles (stop leaf t (BadDelay d)) e = absurd cc

-- the answer to a run of a file's model with this end
abbrev answered : Asked → Tree → List Event → Word → ℕ → Option Word → Option Word → Option Saved
    → List Word → Run → Answer
answered a tree events model end save state from inputs r =
    answer_of_run (to_end a model end save state) tree events from inputs r

tells : (a : Asked) (tree : Tree) (events : List Event) (model : Word) (end : ℕ)
    (save state : Option Word) (from : Option Saved) (inputs : List Word) (r : Run)
    → Tells end (length r.cycles) (answered a tree events model end save state from inputs r)
tells a tree events model end save state from inputs r e = (
  r,
  refl,
  shown r.verdict (status_done (to_end a model end save state) tree events r.cycles
      r.verdict e),
)
  where
    shown : (v : Verdict) → v ≡ done
        → (verdict_message (to_end a model end save state) tree events r.cycles v).shown
        ≡ line_with_end (end_line end r.cycles)
    shown v f = ap (λ w. (verdict_message (to_end a model end save state) tree events r.cycles w).shown) f
        ∙ ap line_with_end (append-nil (end_line end r.cycles))

-- what is said hangs on the verdict, but for the line of a run that is done
same_end : (a : Asked) (tree : Tree) (events : List Event) (model : Word) (end : ℕ)
    (save s t : Option Word) (cs ds : List Cycle) (v : Verdict)
    → ((verdict_message (to_end a model end save s) tree events cs v).status
    ≡ (verdict_message (to_end a model end save t) tree events ds v).status)
    × ((verdict_message (to_end a model end save s) tree events cs v).complained
    ≡ (verdict_message (to_end a model end save t) tree events ds v).complained)
same_end a tree events model end save s t cs ds done = (refl, refl)
same_end a tree events model end save s t cs ds (too_many u) = (refl, refl)
same_end a tree events model end save s t cs ds (stop leaf u why) = (refl, refl)

-- the state that is saved hangs on the verdict and on the states
abbrev text_by : Tree → ℕ → Bytes → Verdict → Bytes
text_by tree end text v = elim v [ done ↦ text | _ ↦ [] ]

as_one : (a : Asked) (tree : Tree) (events : List Event) (model name : Word) (save : Option Word)
    (first last : ℕ) (i j k : List Word) (saved : Saved) (here rest whole : Run)
    → here.verdict ≡ done → FilesJoin tree None saved here rest whole
    → length whole.cycles ≡ length here.cycles + length rest.cycles
    → AnswerAsOne first last (answered a tree events model first (Some name) None None i here)
    (answered a tree events model last save (Some name) (Some saved) j rest)
    (answered a tree events model last save None None k whole)
as_one a tree events model name save first last i j k saved here rest whole is files count =
    let same_text : saved_text last tree whole ≡ saved_text last tree rest =
    ap (λ v. text_by tree last (text_of_state tree last whole.left.leaf_states) v) files.verdict
    ∙ ap (λ x. text_by tree last x rest.verdict) (files.state last) in
    let ends = same_end a tree events model last save None (Some name) whole.cycles rest.cycles
    rest.verdict in
    record {
      made =
          ap (λ b. file_if a.log (log_bytes tree a.letters whole.cycles)
          ++ file_if a.out (out_bytes tree whole.cycles)
          ++ frames_if tree None whole.cycles a.frames ++ file_if save b) same_text
          ∙ are_joined (name, saved_text first tree here) _ _ _
          (file_if save (saved_text last tree rest))
          (all_follow tree saved here rest whole files a);
      status = ap (λ v. (verdict_message (to_end a model last save None) tree events whole.cycles v).status)
          files.verdict ∙ ends.0;
      complained = ap (λ v. (verdict_message (to_end a model last save None) tree events whole.cycles
          v).complained) files.verdict ∙ ends.1;
      before = length here.cycles;
      after = length rest.cycles;
      tells_before = tells a tree events model first (Some name) None None i here;
      tells_after = tells a tree events model last save (Some name) (Some saved) j rest;
      tells_all = subst (λ n. Tells last n (answered a tree events model last save None None k
          whole)) count (tells a tree events model last save None None k whole);
    }

pub answers-as-one : RunsJoin → AnswersAsOne
answers-as-one join a tree events model name save first last i j k accepted good le early ok size =
    let here = run_on tree events first a.limit None in
    let is = status_done (to_end a model first (Some name) None) tree events here.cycles
    here.verdict ok in
    let one : RunsAreOne tree None first last here
    (run_on tree events last a.limit (Some (saved_at first here)))
    (run_on tree events last a.limit None) =
    join tree events a.limit first last None accepted good tt le early is size in
    let rest = run_on tree events last a.limit (Some (saved_at first here)) in
    let whole = run_on tree events last a.limit None in (
      saved_at first here,
      one.files.read,
      as_one a tree events model name save first last i j k
          (saved_at first here) here rest whole is one.files.files one.cycles,
    )
