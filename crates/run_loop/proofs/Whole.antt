-- The end of a run: the last frame, and the state in which it is left.
use Rattle.std.proofs.Common.{◌≡◌, ℕ, ◌+◌, ◌≤◌, Bool, Option, None, List, sym, ◌∙◌, subst, arith}
use Rattle.std.specs.Prelude.{Result, Ok, Err, IsTrue}
use Rattle.std.specs.Bool.{OnTrue}
use Rattle.std.proofs.lemmas.Bool.{OnTrue_at, OnTrue_from}
use Rattle.model_tree.specs.Tree.{Tree}
use Rattle.run_model.specs.Run.{Run, RunState}
use Rattle.run_model.specs.Fitting.{FitsTree}
use Rattle.run_model.specs.Visits.{last_visits}
use Rattle.text_forms.specs.Chosen.{letters_of}
use Rattle.room_edge.specs.Outside.{Outside}
use Rattle.answer_model.specs.RunFiles.{saved_text}
use Rattle.answer_model.specs.Visits.{state_visits}
use Rattle.asked_words.specs.declared.asked.Asked as code
use Rattle.run_leaves.specs.Marking.{Marking}
use Rattle.run_leaves.specs.Standing.{Standing, tree_in}
use Rattle.run_leaves.specs.Steps.{Keeps}
use Rattle.run_loop.specs.declared.outputs.Output.TheVariants.{Frames, State}
use Rattle.run_loop.specs.declared.outputs.Unwritten.{Unwritten}
use Rattle.run_loop.specs.AskedFiles.{names_of}
use Rattle.run_loop.specs.Texts.{FileNames, AreCreated}
use Rattle.run_loop.specs.Order.{Piece, one_piece}
use Rattle.run_loop.specs.Written.{AddsAll, Falls, Writes}
use Rattle.run_loop.specs.Showing.{Showing, last_frame}
use Rattle.run_loop.specs.Pieces.{drawn_after, cycles_pieces, end_pieces}
use Rattle.run_loop.proofs.Adding.{all_both}
use Rattle.run_loop.proofs.Ends.{frame_unwritten, end_written}
use Rattle.run_loop.specs.declared.ending.Ending.{Ending}
use Rattle.run_loop.specs.declared.ending.Ending.TheVariants.{Done, Stopped}
use Rattle.run_loop.specs.declared.going.Going.{Going}
use Rattle.run_loop.specs.Left.{rest_of, IsFitTo}
use Rattle.run_loop.specs.Ends.{IsVerdict}
use Rattle.run_loop.specs.DoneIn.{DoneIn}
use Rattle.run_loop.specs.Leaves.{spent_between as spent_of, after_cycles}
use Rattle.run_loop.specs.Marked.{IsMarked}
use Rattle.run_loop.specs.Saving.{LeftIn, Saves}
use Rattle.run_loop.specs.Ran.{asking_of, BreaksOff, RunsTo, RunsWhole}
use Rattle.run_loop.proofs.GoesOn.{same_tree}
use Rattle.run_loop.proofs.Marks.{still_none}
use Rattle.run_loop.proofs.Stands.{cost_of, saved_in, all_pieces}

-- ---- the state

-- a run that is done goes on from states that fit the model
pub left_in : (n : ℕ) (s m : Standing) (ending : Ending) (is_saved : Bool) (old new : Option Marking) → IsFitTo n s → Keeps s m → DoneIn (Ok ending) (rest_of n s).left m → (IsTrue is_saved → old ≡ None) → IsMarked ending n s old new → LeftIn ending is_saved new m
left_in n s m Done is_saved old new fit keeps d none marked = (
  d.1,
  subst (λ (t : Tree). FitsTree t m.state.leaf_states) (sym (same_tree s m keeps))
      (subst (λ (x : RunState). FitsTree (tree_in s) x.leaf_states) (sym d.0) fit.fits),
  λ given. still_none n s old new (none given) marked,
)
left_in n s m (Stopped stop) is_saved old new fit keeps d none marked = tt

-- it was left as it stands
saves : (r : Run) (m : Standing) (ending : Ending) → IsVerdict ending r.verdict → DoneIn (Ok ending) r.left m → Saves ending r m
saves r m Done verdict d = (verdict, sym d.0)
saves r m (Stopped stop) verdict d = (verdict, tt)

-- what is written of the state in which it is left, whatever came of that
pub writes_saved : (a : code.Asked) (r : Run) (s m : Standing) (ending : Ending) (old new : Outside) (result : Result (Unit {0}) Unwritten) → Keeps s m → IsVerdict ending r.verdict → DoneIn (Ok ending) r.left m
    → ((q : Run) → Saves ending q m → Writes (names_of a) (one_piece State (saved_text a.end (tree_in m) q)) old new result)
    → Writes (names_of a) (one_piece State (saved_in a s r)) old new result
writes_saved a r s m ending old new result keeps verdict d writes =
    subst (λ (t : Tree). Writes (names_of a) (one_piece State (saved_text a.end t r)) old new result) (same_tree s m keeps) (writes r (saves r m ending verdict d))

-- what it costs, for the model of the start
pub cost_kept : (a : code.Asked) (s m : Standing) (before after : ℕ) → Keeps s m → after ≤ before + state_visits (names_of a).state (tree_in m) → after ≤ before + state_visits (names_of a).state (tree_in s)
cost_kept a s m before after keeps within = subst (λ (t : Tree). after ≤ before + state_visits (names_of a).state t) (same_tree s m keeps) within

-- ---- behind all cycles

module _ (a : code.Asked) (s : Standing) (r : Run) (old mid : Going) (ending : Ending) (outside first : Outside) (is_counted : Bool) (before after : ℕ) (was : RunsTo (asking_of a s) r old mid outside first (spent_of is_counted before after) (Ok ending)) where
  abbrev names : FileNames
  names = names_of a

  -- the last frame, by what was drawn
  abbrev frame_of : Option Showing → List Piece
  frame_of w = one_piece Frames (last_frame w)

  abbrev drawn_last : Option Showing
  drawn_last = drawn_after r.cycles old.drawn

  frame_added : (later : Outside) → AddsAll names (frame_of mid.drawn) first later → AddsAll names (frame_of drawn_last) first later
  frame_added later adds = subst (λ (w : Option Showing). AddsAll names (frame_of w) first later) was.1.drawn adds

  -- the files are still those that were made
  pub cycles_created : AreCreated names outside.created → AreCreated names first.created
  cycles_created created = subst (AreCreated names) (sym was.1.adds.adds.created) created

  pub frame_created : (later : Outside) → AddsAll names (frame_of mid.drawn) first later → AreCreated names outside.created → AreCreated names later.created
  frame_created later adds created = subst (AreCreated names) (sym adds.adds.created) (cycles_created created)

  -- no more visits than all cycles, the verdict and the state that is saved cost
  whole_within : (spent : ℕ) → spent ≤ after + state_visits names.state (tree_in s) → OnTrue is_counted (spent ≤ before + (cost_of s r.cycles + last_visits (tree_in s) r.verdict r.left + state_visits names.state (tree_in s)))
  whole_within spent cost =
      OnTrue_from is_counted _ (λ on. sum (cost_of s r.cycles + last_visits (tree_in s) r.verdict r.left) (state_visits names.state (tree_in s)) spent cost (OnTrue_at on was.1.within))
    where
      sum : (c d spent : ℕ) → spent ≤ after + d → after ≤ before + c → spent ≤ before + (c + d)
      sum c d spent p q = omega (arith, p, q)

  -- all cycles are written, and not all of the end
  end_broken : (why : Unwritten) (later : Outside) (spent : ℕ) → Falls names why (end_pieces drawn_last (saved_in a s r)) first later → spent ≤ after + state_visits names.state (tree_in s)
      → BreaksOff (asking_of a s) why r old.drawn outside later (spent_of is_counted before spent)
  end_broken why later spent falls cost =
      record { point = after_cycles; is_point = tt; between = first; whole = was.1.adds; falls = falls; within = whole_within spent cost }

  -- the last frame is not written whole
  pub last_fell : (why : Unwritten) (later : Outside) → Falls names why (frame_of mid.drawn) first later → BreaksOff (asking_of a s) why r old.drawn outside later (spent_of is_counted before after)
  last_fell why later falls =
      end_broken why later after
      (frame_unwritten names drawn_last (saved_in a s r) why first later (subst (λ (w : Option Showing). Falls names why (frame_of w) first later) was.1.drawn falls))
      (omega arith)

  -- the last frame is, whatever became of the state
  end_added : (later last : Outside) (result : Result (Unit {0}) Unwritten) → AddsAll names (frame_of mid.drawn) first later → Writes names (one_piece State (saved_in a s r)) later last result → Writes names (end_pieces drawn_last (saved_in a s r)) first last result
  end_added later last result adds state = end_written names drawn_last (saved_in a s r) first later last result (frame_added later adds) state

  -- the state is not written whole
  pub state_fell : (why : Unwritten) (later last : Outside) (spent : ℕ) → AddsAll names (frame_of mid.drawn) first later → Falls names why (one_piece State (saved_in a s r)) later last → spent ≤ after + state_visits names.state (tree_in s)
      → BreaksOff (asking_of a s) why r old.drawn outside last (spent_of is_counted before spent)
  state_fell why later last spent adds falls cost = end_broken why last spent (end_added later last (Err why) adds falls) cost

  -- all of it is written
  all_written : (later last : Outside) → AddsAll names (frame_of mid.drawn) first later → AddsAll names (one_piece State (saved_in a s r)) later last → AddsAll names (all_pieces a s r old.drawn) outside last
  all_written later last adds state = all_both names (cycles_pieces (tree_in s) (letters_of a.given.letters) old.drawn r.cycles) (end_pieces drawn_last (saved_in a s r)) outside first last was.1.adds (end_added later last (Ok tt) adds state)

  pub whole_run : (new : Going) (later last : Outside) (spent : ℕ) → AddsAll names (frame_of mid.drawn) first later → AddsAll names (one_piece State (saved_in a s r)) later last → new.counted ≡ mid.counted → new.cycles ≡ mid.cycles
      → spent ≤ after + state_visits names.state (tree_in s) → RunsWhole (asking_of a s) r old new outside last (spent_of is_counted before spent) (Ok ending)
  whole_run new later last spent adds state counted_is cycles_is cost = (
    record { verdict = was.0.verdict; cycles = cycles_is ∙ was.0.cycles; counted = counted_is ∙ was.0.counted },
    all_written later last adds state,
    whole_within spent cost,
  )
