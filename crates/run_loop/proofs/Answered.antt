-- The answer to a run, from what is asked for.
use Rattle.std.proofs.Common.{◌≡◌, ℕ, ◌≤◌, Option, Some, None, List, [], ◌∷◌, ◌++◌, refl, sym, ap, ◌∙◌, subst, arith}
use Rattle.quantity.specs.Bytes.{Bytes}
use Rattle.model_tree.specs.Tree.{Word, Group, Tree, leaves}
use Rattle.run_model.specs.Run.{Event, Cycle, Run, run_from, most_cycles}
use Rattle.run_model.specs.Instants.{InstantsNeverFall}
use Rattle.text_forms.specs.Frames.{frames_of}
use Rattle.text_forms.specs.Lines.{log_bytes, out_bytes}
use Rattle.text_forms.specs.StateOf.{Saved}
use Rattle.text_forms.specs.Chosen.{letters_of}
use Rattle.answer_model.specs.Asked.{FramesFile, Asked}
use Rattle.answer_model.specs.Answer.{MadeFiles}
use Rattle.answer_model.specs.Cdpp.{run_on}
use Rattle.answer_model.specs.RunEnd.{Said, verdict_message}
use Rattle.answer_model.specs.RunFiles.{file_if, group_at, emitted_before, frames_if, saved_text, made_files}
use Rattle.run_leaves.specs.Standing.{Standing, tree_in}
use Rattle.asked_words.specs.declared.asked.Asked as code
use Rattle.asked_words.specs.declared.group.GroupAt.{GroupAt}
use Rattle.asked_words.specs.Shown.{asked_of}
use Rattle.run_loop.specs.AskedFiles.{frames_name, names_asked, names_of}
use Rattle.run_loop.specs.Texts.{Texts, files}
use Rattle.run_loop.specs.Order.{texts_of}
use Rattle.run_loop.specs.Pieces.{run_pieces}
use Rattle.run_loop.specs.Showing.{Showing, frames_left, left_texts}
use Rattle.run_loop.specs.Groups.{picture_of, begun_at, showing_at_start, CanDrawOf, CanShow}
use Rattle.run_loop.proofs.Groups.{none_begun, begun_frames}
use Rattle.run_loop.proofs.Turns.{texts_all}
use Rattle.run_loop.specs.Answers.{MayRun, BeginsFrom, answer_to}
use Rattle.run_loop.specs.Known.{IsFit, RunsAreFit}
use Rattle.run_loop.specs.Left.{rest_of, IsFitTo}
use Rattle.run_loop.specs.ToBe.{IsAnswerOf}

-- ---- the files

-- the file of frames of a group
abbrev group_frames : FramesFile → Option Saved → List Cycle → Option (ℕ × Group) → MadeFiles
group_frames f from cycles None = []
group_frames f from cycles (Some g) = (f.name, frames_of (picture_of f g.1.space) g.0 (emitted_before from g) cycles) ∷ []

of_group : (f : FramesFile) (from : Option Saved) (low : ℕ) (cycles : List Cycle) → InstantsNeverFall low cycles → (g : Option (ℕ × Group)) → CanDrawOf f g → group_frames f from cycles g ≡ file_if (Some f.name) (frames_left (begun_at f from g) cycles)
of_group f from low cycles falls None can = absurd can
of_group f from low cycles falls (Some g) can = ap (λ (text : Bytes). let fs : MadeFiles = (f.name, text) ∷ [] in fs) (sym (begun_frames f from g low cycles falls))

found : (f : FramesFile) (from : Option Saved) (cycles : List Cycle) (g : Option (ℕ × Group)) → elim g [ None ↦ [] | Some g ↦ (f.name, frames_of (picture_of f g.1.space) g.0 (emitted_before from g) cycles) ∷ [] ] ≡ group_frames f from cycles g
found f from cycles None = refl
found f from cycles (Some g) = refl

frames_same : (frames : Option FramesFile) (tree : Tree) (from : Option Saved) (low : ℕ) (cycles : List Cycle) → CanShow tree frames → InstantsNeverFall low cycles
    → frames_if tree from cycles frames ≡ file_if (frames_name frames) (frames_left (showing_at_start tree from frames) cycles)
frames_same None tree from low cycles can falls = refl
frames_same (Some f) tree from low cycles can falls = found f from cycles (group_at f.drawing.group (leaves tree)) ∙ of_group f from low cycles falls (group_at f.drawing.group (leaves tree)) can

files_same : (a : Asked) (tree : Tree) (from : Option Saved) (low : ℕ) (r : Run) → CanShow tree a.frames → InstantsNeverFall low r.cycles
    → made_files a tree from r ≡ files (names_asked a) (left_texts tree a.letters (showing_at_start tree from a.frames) r.cycles (saved_text a.end tree r))
files_same a tree from low r can falls =
    let log = file_if a.log (log_bytes tree a.letters r.cycles) in
    let lines = file_if a.out (out_bytes tree r.cycles) in
    let state = file_if a.save (saved_text a.end tree r) in
    ap (λ (fs : MadeFiles). log ++ lines ++ fs ++ state) (frames_same a.frames tree from low r.cycles can falls)

-- ---- the run

-- so many cycles are the most that it may have
abbrev pub most : code.Asked → ℕ
most a = most_cycles a.end a.given.limit

run_is : (a : code.Asked) (group : Option GroupAt) (s : Standing) (events : List Event) (from : Option Saved) → MayRun a group s → BeginsFrom (asked_of a) events from s → run_on (tree_in s) events a.end a.given.limit from ≡ rest_of (most a) s
unfolding run_on
run_is a group s events from may begins = λ i. run_from (most a) (tree_in s) (sym may.end i) (sym may.limit i) (sym begins.state i)

fit_of : (a : code.Asked) (group : Option GroupAt) (s : Standing) (may : MayRun a group s) → RunsAreFit → IsFit (tree_in s) s.end s.limit may.low (most a) s.state
fit_of a group s may known =
    known (tree_in s) s.end s.limit may.low (most a) s.state may.stands may.fits
    (subst (λ (n : ℕ). most_cycles s.end s.limit ≤ n) (λ i. most_cycles (may.end i) (may.limit i)) (no_more (most_cycles s.end s.limit)))
  where
    no_more : (n : ℕ) → n ≤ n
    no_more n = omega arith

pub fit_to : (a : code.Asked) (group : Option GroupAt) (s : Standing) (k : ℕ) → MayRun a group s → RunsAreFit → k ≡ most a → IsFitTo k s
fit_to a group s k may known is =
    let f = fit_of a group s may known in
    subst (λ (k : ℕ). IsFitTo k s) (sym is) (record { whole = f.whole; names = f.names; fits = f.fits })

-- ---- the answer

-- the answer, by its texts and what is said
answer_is : (a : code.Asked) (group : Option GroupAt) (s : Standing) (events : List Event) (from : Option Saved) (inputs : List Word) → (may : MayRun a group s) → BeginsFrom (asked_of a) events from s → InstantsNeverFall may.low (rest_of (most a) s).cycles
    → IsAnswerOf (names_of a) (left_texts (tree_in s) (letters_of a.given.letters) (showing_at_start (tree_in s) from (asked_of a).frames) (rest_of (most a) s).cycles (saved_text a.end (tree_in s) (rest_of (most a) s)))
    (verdict_message (asked_of a) (tree_in s) events (rest_of (most a) s).cycles (rest_of (most a) s).verdict) (answer_to (asked_of a) events from s inputs)
answer_is a group s events from inputs may begins falls =
    let tree = tree_in s in
    let r = rest_of (most a) s in
    let same = run_is a group s events from may begins in
    let told = ap (λ (q : Run). verdict_message (asked_of a) tree events q.cycles q.verdict) same in
    record {
      made = ap (made_files (asked_of a) tree from) same ∙ files_same (asked_of a) tree from may.low r may.shows falls;
      shown = ap (λ (q : Said). q.shown) told;
      complained = ap (λ (q : Said). q.complained) told;
      status = ap (λ (q : Said). q.status) told;
    }

-- the pieces of k cycles, and what is said of these, are the answer
abbrev pub IsAnswered : code.Asked → Standing → List Event → Option Saved → List Word → ℕ → Option Showing → Type 0
IsAnswered a s events from inputs k w =
    let tree = tree_in s in
    let r = rest_of k s in
    IsAnswerOf (names_of a) (texts_of (run_pieces tree (letters_of a.given.letters) w r.cycles (saved_text a.end tree r)))
    (verdict_message (asked_of a) tree events r.cycles r.verdict) (answer_to (asked_of a) events from s inputs)

pub answer_as : (a : code.Asked) (group : Option GroupAt) (s : Standing) (events : List Event) (from : Option Saved) (inputs : List Word) (k : ℕ) (w : Option Showing) → MayRun a group s → RunsAreFit → BeginsFrom (asked_of a) events from s → k ≡ most a
    → w ≡ showing_at_start (tree_in s) from (asked_of a).frames → IsAnswered a s events from inputs k w
answer_as a group s events from inputs k w may known begins k_is w_is =
    let r = rest_of (most a) s in
    let tree = tree_in s in
    let letters = letters_of a.given.letters in
    let start = showing_at_start tree from (asked_of a).frames in
    let saved = saved_text a.end tree r in
    let falls = (fit_of a group s may known).never_fall in
    let texts = texts_all tree letters start r.cycles saved may.low (none_begun may.low tree from (asked_of a).frames) falls in
    subst (λ (n : ℕ). IsAnswered a s events from inputs n w) (sym k_is)
    (subst (λ (v : Option Showing). IsAnswered a s events from inputs (most a) v) (sym w_is)
    (subst (λ (t : Texts). IsAnswerOf (names_of a) t (verdict_message (asked_of a) tree events r.cycles r.verdict) (answer_to (asked_of a) events from s inputs)) (sym texts)
    (answer_is a group s events from inputs may begins falls)))
