-- What reading a saved state makes of a run.
use Rattle.std.specs.Prelude.{◌≡◌, ℕ, List, ⊤}
use Rattle.std.specs.declared.result.Result.{Result}
use Rattle.std.specs.declared.result.Result.TheVariants.{Ok, Err}
use Rattle.quantity.specs.Bytes.{Bytes}
use Rattle.model_tree.specs.Tree.{leaves}
use Rattle.run_model.specs.Cycle.{LeafState}
use Rattle.run_model.specs.Run.{resumed_state}
use Rattle.text_forms.specs.declared.refusal.StateRefusal.{StateRefusal}
use Rattle.text_forms.specs.declared.refusal.StateRefusal.TheVariants.{BadStateLine, EndBefore}
use Rattle.text_forms.specs.declared.refusal.StateRefusal.TheVariants.{TooLarge, Memory}
use Rattle.text_forms.specs.StateOf.{Saved, leaves_in}
use Rattle.run_leaves.specs.Standing.{Standing, tree_in}
use Rattle.state_lines.specs.Parts.{parts_of}

-- the same model, end and limit, where a run goes on from a saved state
abbrev pub resumed_from : Standing → Saved → Standing
resumed_from s saved =
    record {
      model = s.model;
      settings = s.settings;
      state = resumed_state saved.time saved.states s.state.events;
      end = s.end;
      limit = s.limit;
      stopped = s.stopped;
    }

-- the states of the leaves as a saved state with this time
abbrev pub with_time : ℕ → Result (List LeafState) StateRefusal → Result Saved StateRefusal
with_time t (Ok states) = Ok (record { time = t; states = states })
with_time t (Err why) = Err why

-- the states of a run's leaves, from the third line of these bytes on, where all waits for times
-- after this one
abbrev pub states_by : ℕ → Standing → Bytes → Result (List LeafState) StateRefusal
states_by t run bytes = leaves_in 3 t (leaves (tree_in run)) (parts_of bytes)

-- where a state is read, the run goes on from it, and its time is answered
abbrev pub GoesOnFrom : Standing → Result Saved StateRefusal → Standing × ℕ → Type 0
GoesOnFrom s (Ok saved) r = (r.0 ≡ resumed_from s saved) × (r.1 ≡ saved.time)
GoesOnFrom s (Err why) r = ⊥

-- a refusal is that of the reading; want of memory alone is free
abbrev pub IsRefusalOf : {A : Type 0} → Result A StateRefusal → StateRefusal → Type 0
IsRefusalOf read Memory = ⊤
IsRefusalOf read (BadStateLine line) = read ≡ Err (BadStateLine line)
IsRefusalOf read (EndBefore line) = read ≡ Err (EndBefore line)
IsRefusalOf read (TooLarge line) = read ≡ Err (TooLarge line)

-- by what is read and what is answered
abbrev pub Loads : Standing → Result Saved StateRefusal → Result (Standing × ℕ) StateRefusal
    → Type 0
Loads s read (Ok r) = GoesOnFrom s read r
Loads s read (Err why) = IsRefusalOf read why

-- the same of a run that is changed
abbrev pub TakesText : Standing → Standing → Result Saved StateRefusal → Result ℕ StateRefusal
    → Type 0
TakesText s s' read (Ok t) = GoesOnFrom s read (s', t)
TakesText s s' read (Err why) = IsRefusalOf read why
