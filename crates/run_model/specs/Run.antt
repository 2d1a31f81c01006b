-- A run: cycle after cycle, until a verdict.
use Rattle.std.specs.Prelude.{ℕ, zero, suc, ◌+◌, ◌*◌, Bool, not, ◌&&◌, ◌==◌, nat_lt, nat_le, Option, Some, None, List, ◌∷◌, map, slice_get, if◌then◌else◌, []}
use Rattle.std.specs.List.{filter, flat_map, filter_map, enumerate_from, position}
use Rattle.std.specs.Option.{option_map}
use Rattle.std.specs.Str.{bytes_eq}
use Rattle.quantity.specs.declared.value.Value.{Value}
use Rattle.rule_tree.specs.declared.outcome.RuleStop.{RuleStop}
use Rattle.atomic_face.specs.declared.class.PortNo.{PortNo}
pub use Rattle.event_list.specs.Events.{Event}
use Rattle.atomic_face.specs.Classes.{Bag, is_at}
use Rattle.model_tree.specs.Tree.{Word, Tree, leaves, ins_of}
use Rattle.model_tree.specs.Pull.{top_pulled}
use Rattle.quantity.specs.Times.{earlier}
use Rattle.run_model.specs.CellStep.{PortState}
use Rattle.run_model.specs.Cycle.{LeafState, box_state, cell_state, initial_leaf, leaf_next, output_bags, given_by_leaf, bags, Moved, stayed, moved, stopped, moves, first_stop, all_after, next_of_all}

-- ---- records of a cycle

-- a value at a port of a leaf; leaves are numbered in declared order
pub record PortRecord : Type 0 where
  pub leaf : ℕ
  pub port : ℕ
  pub value : Value

-- a leaf that moved: its computed value, where it is a cell, and its next time
pub record StateRecord : Type 0 where
  pub leaf : ℕ
  pub value : Option Value
  pub next : Option ℕ

-- a value at an output of top
pub record OutRecord : Type 0 where
  pub port : ℕ
  pub value : Value

-- the records of the cycle at this time: values given at ports out (Y) and at further ports (N),
-- values that reached leaves (X), leaves that moved (S), and values at outputs of top
pub record Cycle : Type 0 where
  pub time : ℕ
  pub y : List PortRecord
  pub n : List PortRecord
  pub x : List PortRecord
  pub s : List StateRecord
  pub out : List OutRecord

-- a bag of a leaf, as records
abbrev pub port_records : ℕ × Bag → List PortRecord
port_records b = map (λ (o : PortNo × Value). record { leaf = b.0; port = o.0.0; value = o.1 }) b.1

-- the bags of all leaves, as records
abbrev pub records_of_bags : List Bag → List PortRecord
records_of_bags bags = flat_map port_records (enumerate_from 0 bags)

-- a record of the port out
abbrev pub is_of_out : PortRecord → Bool
is_of_out r = r.port == 0

-- the computed value at the port out of a cell
abbrev pub computed_of : LeafState → Option Value
computed_of (box_state b) = None
computed_of (cell_state c) = option_map (λ (p : PortState). p.computed) (slice_get c.ports 0)

-- the S record of a leaf that moved
abbrev pub record_of_move : ℕ → Moved → Option StateRecord
record_of_move leaf stayed = None
record_of_move leaf (moved s) =
    Some (record { leaf = leaf; value = computed_of s; next = leaf_next s })
record_of_move leaf (stopped stop) = None

-- the same of a pair
abbrev pub state_record : ℕ × Moved → Option StateRecord
state_record m = record_of_move m.0 m.1

-- the values at one output, which has a number
abbrev pub out_records : ℕ × List Value → List OutRecord
out_records p = map (λ v. record { port = p.0; value = v }) p.1

-- ---- one cycle

-- where a run stands: its leaves, the events not yet taken, and the last instant with the number of
-- its cycles
pub record RunState : Type 0 where
  pub leaf_states : List LeafState
  pub events : List Event
  pub last : Option ℕ
  pub count : ℕ

-- all leaves at the start, and all events
abbrev pub start : Tree → List Event → RunState
start tree events =
    record { leaf_states = map initial_leaf (leaves tree); events = events; last = None; count = 0 }

-- a saved state of this time, with the events after it
abbrev pub resumed_state : ℕ → List LeafState → List Event → RunState
resumed_state time states events =
    record {
      leaf_states = states;
      events = filter (λ (e : Event). nat_lt time e.time) events;
      last = None;
      count = 0;
    }

-- the least time of an event
abbrev pub first_event : List Event → Option ℕ
first_event [] = None
first_event (e ∷ es) = earlier (Some e.time) (first_event es)

-- the least next time of a leaf or event
abbrev pub next_instant : RunState → Option ℕ
next_instant s = earlier (next_of_all s.leaf_states) (first_event s.events)

-- the value of an event at this time and input
abbrev pub event_at : ℕ → ℕ → Event → Option Value
event_at t port e = if (e.time == t) && (e.port == port) then Some e.value else None

-- the values of the events at this time and input
abbrev pub events_at : ℕ → List Event → Option ℕ → List Value
events_at t events None = []
events_at t events (Some port) = filter_map (event_at t port) events

-- what stands at an input of top in a cycle: its events of that time, in file order
abbrev pub at_top : Tree → ℕ → List Event → Word → List Value
at_top tree t events name = events_at t events (position (λ p. bytes_eq p name) (ins_of tree))

-- the records, from what was given, what stands at top and what moved
abbrev pub cycle_of : Tree → ℕ → List Bag → (Word → List Value) → List Moved → Cycle
cycle_of tree t gave top ms =
    record {
      time = t;
      y = filter is_of_out (records_of_bags gave);
      n = filter (λ r. not (is_of_out r)) (records_of_bags gave);
      x = records_of_bags (bags tree gave top);
      s = filter_map state_record (enumerate_from 0 ms);
      out = flat_map out_records (enumerate_from 0 (top_pulled tree (given_by_leaf gave)));
    }

-- how many cycles this instant has had
abbrev pub cycles_at : ℕ → RunState → ℕ
cycles_at t s = if is_at t s.last then s.count else 0

-- where the run stands after a cycle
abbrev pub state_after : ℕ → RunState → List Moved → RunState
state_after t s ms =
    record {
      leaf_states = all_after s.leaf_states ms;
      events = filter (λ (e : Event). not (e.time == t)) s.events;
      last = Some t;
      count = cycles_at t s + 1;
    }

-- how a run ends: done, with too many cycles at a time, or with a stop of a leaf
pub data Verdict : Type 0 where
  done : Verdict
  too_many : (time : ℕ) → Verdict
  stop : (leaf time : ℕ) → RuleStop → Verdict

-- the next cycle, or the end
pub data Next : Type 0 where
  ended : Verdict → Next
  cycled : Cycle → RunState → Next

-- a cycle, unless a leaf stops
abbrev pub unless_stop : ℕ → Option (ℕ × RuleStop) → Cycle → RunState → Next
unless_stop t None c s = cycled c s
unless_stop t (Some p) c s = ended (stop p.0 t p.1)

-- the cycle from what was given and what moved
abbrev pub moved_on : Tree → ℕ → RunState → List Bag → (Word → List Value) → List Moved → Next
moved_on tree t s gave top ms =
    unless_stop t (first_stop 0 ms) (cycle_of tree t gave top ms) (state_after t s ms)

-- the cycle at an instant
abbrev pub cycled_at : Tree → ℕ → RunState → Next
cycled_at tree t s =
    let gave = output_bags t s.leaf_states in
    let top = at_top tree t s.events in
    moved_on tree t s gave top (moves tree t s.leaf_states gave top)

-- at this instant, if there is one
abbrev pub next_at : Tree → ℕ → ℕ → RunState → Option ℕ → Next
next_at tree end limit s None = ended done
next_at tree end limit s (Some t) =
    if nat_lt end t then ended done
    else if nat_le limit (cycles_at t s) then ended (too_many t) else cycled_at tree t s

-- the next cycle, or the verdict
unfoldable pub next_cycle : Tree → ℕ → ℕ → RunState → Next
next_cycle tree end limit s = next_at tree end limit s (next_instant s)

-- ---- the run

-- the cycles of a run, its verdict and the state that it leaves
pub record Run : Type 0 where
  pub cycles : List Cycle
  pub verdict : Verdict
  pub left : RunState

-- a cycle before those of a run
abbrev pub cycle_in_front : Cycle → Run → Run
cycle_in_front c r = record r { cycles = c ∷ r.cycles }

-- the run behind a cycle, if there is one
abbrev pub run_behind : RunState → Next → (RunState → Run) → Run
run_behind s (ended v) go = record { cycles = []; verdict = v; left = s }
run_behind s (cycled c n) go = cycle_in_front c (go n)

-- no cycle more: a run in which one were due has too many
abbrev pub at_last : RunState → Next → Run
at_last s (ended v) = record { cycles = []; verdict = v; left = s }
at_last s (cycled c n) = record { cycles = []; verdict = too_many c.time; left = s }

-- at most n cycles, and then a verdict
unfoldable pub run_from : ℕ → Tree → ℕ → ℕ → RunState → Run
run_from zero tree end limit s = at_last s (next_cycle tree end limit s)
run_from (suc n) tree end limit s =
    run_behind s (next_cycle tree end limit s) (run_from n tree end limit)

-- at each instant up to the end there are at most `limit` cycles
abbrev pub most_cycles : ℕ → ℕ → ℕ
most_cycles end limit = (end + 1) * limit

-- from a state to the verdict
abbrev pub run_to : Tree → ℕ → ℕ → RunState → Run
run_to tree end limit s = run_from (most_cycles end limit) tree end limit s
