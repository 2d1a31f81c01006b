-- How a run ended, and what is told of it.
use Rattle.std.specs.Prelude.{◌≡◌, ℕ, Option, Some, None, List, [], ◌++◌, length, slice_get, codes, decimal, count_by}
use Rattle.std.specs.Option.{option_map, unwrap_or}
use Rattle.quantity.specs.Bytes.{Bytes}
use Rattle.quantity.specs.declared.value.Value.{Value}
use Rattle.quantity.specs.ValueTexts.{text5}
use Rattle.quantity.specs.Times.{time_text}
use Rattle.rule_tree.specs.declared.outcome.RuleStop.TheVariants as rules
use Rattle.model_tree.specs.Tree.{Tree, leaves}
use Rattle.run_model.specs.Run.{Cycle, Verdict, done, too_many, stop}
use Rattle.text_forms.specs.LogLine.{leaf_name_text}
use Rattle.text_forms.specs.Lines.{leaf_name}
use Rattle.room_edge.specs.Outside.{Outside}
use Rattle.answer_model.specs.declared.status.Status.{Status}
use Rattle.answer_model.specs.Asked.{Asked}
use Rattle.answer_model.specs.RunEnd.{Said, verdict_message, shows, done_line, stopped_at}
use Rattle.answer_model.specs.Endings.{Says, ShowsEnd}
use Rattle.run_model.specs.declared.stop.Stop.{Stop}
use Rattle.run_model.specs.declared.stop.Stop.TheVariants.{NoTrueRule, Overflow, BadDelay, TooManyCycles, Memory}
use Rattle.run_loop.specs.Counts.{Counts, counts_of}
use Rattle.run_loop.specs.Begins.{counts_at_start}
use Rattle.run_loop.specs.declared.ending.Ending.{Ending}
use Rattle.run_loop.specs.declared.ending.Ending.TheVariants.{Done, Stopped}
use Rattle.run_loop.specs.declared.going.Going.{Going}

-- the verdict that an ending is
abbrev pub IsVerdict : Ending → Verdict → Type 0
IsVerdict Done v = v ≡ done
IsVerdict (Stopped (NoTrueRule leaf t)) v = v ≡ stop leaf t rules.NoTrueRule
IsVerdict (Stopped (Overflow leaf t)) v = v ≡ stop leaf t rules.Overflow
IsVerdict (Stopped (BadDelay leaf t delay)) v = v ≡ stop leaf t (rules.BadDelay delay)
IsVerdict (Stopped (TooManyCycles t)) v = v ≡ too_many t
IsVerdict (Stopped Memory) v = ⊥

-- ---- lines, by what was counted

-- the last line of a run that came to its end
abbrev pub end_text : ℕ → ℕ → Bytes
end_text end cycles = codes "end " ++ time_text end ++ codes " cycles " ++ decimal cycles

-- the last line of a run of a made model
abbrev pub made_text : ℕ → ℕ → ℕ → Counts → Bytes
made_text size cells cycles k =
    codes "made " ++ decimal size ++ codes " cells " ++ decimal cells ++ codes " cycles "
    ++ decimal cycles
    ++ codes " y " ++ decimal k.y ++ codes " s " ++ decimal k.s
    ++ codes " ones " ++ decimal (count_by (λ b. b) k.ones)

-- the mark behind it, where there is one
abbrev pub mark_behind : Option ℕ → Bytes
mark_behind None = []
mark_behind (Some mark) = codes " mark " ++ decimal mark

-- how the leaf of this number is called, or no bytes where there is none
abbrev pub leaf_called : Tree → ℕ → Bytes
leaf_called tree leaf =
    unwrap_or (option_map (λ l. leaf_name_text (leaf_name l)) (slice_get (leaves tree) leaf)) []

-- what is complained of a leaf that stops a run by a delay that is none
abbrev pub bad_delay_text : Tree → ℕ → ℕ → Value → Bytes
bad_delay_text tree leaf t delay =
    stopped_at (codes "bad delay") tree leaf t ++ codes ": " ++ text5 delay

-- ---- what is said of a run

-- what a run with this verdict says, where its service was left with this mark
abbrev pub said_with : Option ℕ → Asked → Tree → List Cycle → Verdict → Said
said_with mark a tree cycles done = shows (done_line a tree cycles ++ mark_behind mark)
said_with mark a tree cycles (too_many t) = verdict_message a tree [] cycles (too_many t)
said_with mark a tree cycles (stop leaf t why) = verdict_message a tree [] cycles (stop leaf t why)

-- it is said, as far as it can be: a line is shown, or a line is complained
pub data IsSaid (s : Said) (old new : Outside) (status : Status) : Type 0 where
  is_shown : s.complained ≡ [] → ShowsEnd s.shown s.status old new status → IsSaid s old new status
  is_complained : s.shown ≡ [] → Says s.complained s.status old new status
      → IsSaid s old new status

-- the cycles were counted, and what the last line of a made model tells
pub record HasCounted (a : Asked) (tree : Tree) (cycles : List Cycle) (going : Going) : Type 0
  where
    pub number : going.cycles ≡ length cycles
    pub counted : going.counted ≡ option_map (counts_of cycles) (counts_at_start tree a.source)

-- a fact of the last line, for all cycles that may have been counted so
abbrev pub OfLastLine : Asked → Going → Tree → (Bytes → Type 0) → Type 0
OfLastLine a going tree fact =
    (cycles : List Cycle) → HasCounted a tree cycles going → fact (done_line a tree cycles)

-- what a run says that ended so, for all cycles that may have been counted so
abbrev pub SaysEnding : Ending → Option ℕ → Asked → Going → Tree → Outside → Outside → Status
    → Type 0
SaysEnding ending mark a going tree old new status =
    (cycles : List Cycle) (v : Verdict) → IsVerdict ending v → HasCounted a tree cycles going
    → IsSaid (said_with mark a tree cycles v) old new status

-- what a run says that stopped, whatever its cycles and its mark
abbrev pub SaysStop : Stop → Asked → Tree → Outside → Outside → Status → Type 0
SaysStop why a tree old new status =
    (mark : Option ℕ) (cycles : List Cycle) (v : Verdict) → IsVerdict (Stopped why) v
    → IsSaid (said_with mark a tree cycles v) old new status
