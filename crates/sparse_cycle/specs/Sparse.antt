-- One cycle from the leaves that matter: those that are due, and those that move. Every other leaf
-- gives nothing and stays as it is.
use Rattle.std.specs.Prelude.{ℕ, ◌+◌, Bool, true, false, not, ◌||◌, ◌==◌, nat_lt, nat_le, Option, Some, None, List, [], ◌∷◌, map, length, slice_get, slice_set, slice_index_or, if◌then◌else◌}
use Rattle.std.specs.List.{filter, filter_map, flat_map, enumerate_from, range_with_len, list_any}
use Rattle.quantity.specs.declared.value.Value.{Value}
use Rattle.rule_tree.specs.declared.outcome.RuleStop.{RuleStop}
use Rattle.atomic_face.specs.declared.class.PortNo.{PortNo}
use Rattle.atomic_face.specs.Classes.{Bag, is_at, moved_state}
use Rattle.model_tree.specs.Tree.{Word, Tree, Leaf, atomic_leaf, cell_leaf, leaves}
use Rattle.model_tree.specs.Pull.{Source, leaf_source, sources, top_sources}
use Rattle.model_tree.specs.Natural.{given_from}
use Rattle.run_model.specs.CellStep.{cell_moved}
use Rattle.run_model.specs.Cycle.{LeafState, box_state, cell_state, leaf_next, leaf_emitted, collected_of, neighbour_leaf, has_values, sight_of, Moved, stayed, moved, stopped, box_moved, cell_result, after}
use Rattle.run_model.specs.Run.{PortRecord, StateRecord, OutRecord, Cycle, Event, RunState, port_records, is_of_out, record_of_move, at_top, cycles_at, Next, ended, done, too_many, unless_stop}

-- ---- records of values at ports, by rising leaf: what was given (Y and N records), and what was
-- fed (X records)

-- those of one leaf
abbrev pub records_at : ℕ → List PortRecord → List PortRecord
records_at leaf rs = filter (λ (r : PortRecord). r.leaf == leaf) rs

-- some record
abbrev pub has_records : List PortRecord → Bool
has_records [] = false
has_records (r ∷ rs) = true

-- what a record puts into a bag
abbrev pub value_at_port : PortRecord → PortNo × Value
value_at_port r = (record { 0 = r.port }, r.value)

-- the bag of a leaf
abbrev pub bag_in : List PortRecord → ℕ → Bag
bag_in fed leaf = map value_at_port (records_at leaf fed)

-- what a leaf gave at its port out
abbrev pub given_at_out : List PortRecord → ℕ → List Value
given_at_out given leaf =
    map (λ (r : PortRecord). r.value) (filter is_of_out (records_at leaf given))

-- a leaf that is there gave something
abbrev pub gave_there : List PortRecord → Option ℕ → Bool
gave_there given None = false
gave_there given (Some leaf) = has_records (records_at leaf given)

-- a cell is woken where one of its offsets leads to a cell that gave output
abbrev pub woken_by : List PortRecord → Leaf → Bool
woken_by given (atomic_leaf name class settings) = false
woken_by given (cell_leaf g first cell) =
    list_any (λ o. gave_there given (neighbour_leaf g first cell o)) g.offsets

-- ---- places

-- what stands where there is no leaf: it waits for nothing and gives nothing
abbrev pub no_leaf : LeafState
no_leaf = cell_state (record { ports = []; variables = [] })

-- the state at a place
abbrev pub leaf_of : List LeafState → ℕ → LeafState
leaf_of states l = slice_index_or states l no_leaf

-- the leaves at these places are changed, one after another
abbrev pub over : (ℕ → LeafState → LeafState) → List ℕ → List LeafState → List LeafState
over change [] states = states
over change (l ∷ ls) states = over change ls (slice_set states l (change l (leaf_of states l)))

-- the places at which a test holds, rising
abbrev pub places : (ℕ → Bool) → List LeafState → List ℕ
places test states = filter test (range_with_len 0 (length states))

-- ---- collect: the leaves that are due

-- its next time is the instant
abbrev pub is_due : ℕ → List LeafState → ℕ → Bool
is_due t states l = is_at t (leaf_next (leaf_of states l))

-- the leaves that are due, rising
abbrev pub due_leaves : ℕ → List LeafState → List ℕ
due_leaves t states = places (is_due t states) states

-- what a leaf gives, as records
abbrev pub given_by : ℕ → List LeafState → ℕ → List PortRecord
given_by t states l = port_records (l, collected_of t (leaf_of states l))

-- the Y and N records
abbrev pub given_among : ℕ → List LeafState → List ℕ → List PortRecord
given_among t states ls = flat_map (given_by t states) ls

-- how all leaves stand when these have given
abbrev pub emitted_among : ℕ → List LeafState → List ℕ → List LeafState
emitted_among t states ls = over (λ l s. leaf_emitted t s) ls states

-- ---- route: the paths whose sources gave a value

-- a way from a source to a port of a leaf, or to an output of top
pub record Path : Type 0 where
  pub to : ℕ
  pub port : ℕ
  pub source : Source

-- what stands where there is no path
abbrev pub nowhere : Path
nowhere = record { to = 0; port = 0; source = leaf_source 0 }

-- those to one port, which has a number and sources
abbrev pub paths_to_port : ℕ → ℕ × List Source → List Path
paths_to_port leaf p = map (λ s. record { to = leaf; port = p.0; source = s }) p.1

-- those to one leaf, which has a number and for each port its sources
abbrev pub paths_to_leaf : ℕ × List (List Source) → List Path
paths_to_leaf l = flat_map (paths_to_port l.0) (enumerate_from 0 l.1)

-- all paths to leaves, by leaf, port and place among the sources of the port
abbrev pub paths : Tree → List Path
paths tree = flat_map paths_to_leaf (enumerate_from 0 (sources tree))

-- all paths to outputs of top, as paths to a leaf 0
abbrev pub out_paths : Tree → List Path
out_paths tree = paths_to_leaf (0, top_sources tree)

-- what stands at a source, by what leaves gave and what stands at the inputs of top
abbrev pub from_source : List PortRecord → (Word → List Value) → Source → List Value
from_source given top s = given_from (given_at_out given) top s

-- some value
abbrev pub has_some : List Value → Bool
has_some [] = false
has_some (v ∷ vs) = true

-- a path that brings something
abbrev pub brings : (Source → List Value) → Path → Bool
brings from p = has_some (from p.source)

-- what a path brings to its port
abbrev pub fed_by : (Source → List Value) → Path → List PortRecord
fed_by from p = map (λ v. record { leaf = p.to; port = p.port; value = v }) (from p.source)

-- what a path brings to an output of top
abbrev pub out_by : (Source → List Value) → Path → List OutRecord
out_by from p = map (λ v. record { port = p.port; value = v }) (from p.source)

-- the X records
abbrev pub fed_among : (Source → List Value) → List Path → List PortRecord
fed_among from ps = flat_map (fed_by from) ps

-- the output records
abbrev pub out_among : (Source → List Value) → List Path → List OutRecord
out_among from ps = flat_map (out_by from) ps

-- ---- move: the leaves that are due, woken or fed

-- a leaf after its emission
abbrev pub moved_from : ℕ → List LeafState → Bool → Bag → Leaf → LeafState → Moved
moved_from t emitted woken bag leaf (box_state b) =
    box_moved b (moved_state b.kind b.settings b.state t bag)
moved_from t emitted woken bag (atomic_leaf name class settings) (cell_state c) = stayed
moved_from t emitted woken bag (cell_leaf g first cell) (cell_state c) =
    cell_result (cell_moved g cell t woken (sight_of t emitted g first cell) bag c)

-- a leaf that is there is woken
abbrev pub is_woken_at : List PortRecord → Option Leaf → Bool
is_woken_at given None = false
is_woken_at given (Some leaf) = woken_by given leaf

-- due, woken or fed
abbrev pub is_touched : Tree → ℕ → List LeafState → List PortRecord → List PortRecord → ℕ → Bool
is_touched tree t states given fed l =
    is_due t states l || is_woken_at given (slice_get (leaves tree) l) || has_values (bag_in fed l)

-- the leaves that move, rising
abbrev pub touched_leaves : Tree → ℕ → List LeafState → List PortRecord → List PortRecord → List ℕ
touched_leaves tree t states given fed = places (is_touched tree t states given fed) states

-- what becomes of a leaf that is there
abbrev pub move_to : ℕ → List LeafState → Bool → Bag → Option Leaf → LeafState → Moved
move_to t emitted woken bag None s = stayed
move_to t emitted woken bag (Some leaf) s = moved_from t emitted woken bag leaf s

-- what becomes of the leaf at a place, over all leaves after their emission
abbrev pub move_at : Tree → ℕ → List LeafState → List PortRecord → List PortRecord → ℕ → Moved
move_at tree t emitted given fed l =
    move_to t emitted (is_woken_at given (slice_get (leaves tree) l)) (bag_in fed l)
    (slice_get (leaves tree) l) (leaf_of emitted l)

-- this stop, or else that of the leaves behind
abbrev pub or_stop : ℕ → Moved → Option (ℕ × RuleStop) → Option (ℕ × RuleStop)
or_stop l stayed rest = rest
or_stop l (moved s) rest = rest
or_stop l (stopped why) rest = Some (l, why)

-- the first of these leaves that stops
abbrev pub first_stop_among : (ℕ → Moved) → List ℕ → Option (ℕ × RuleStop)
first_stop_among move [] = None
first_stop_among move (l ∷ ls) = or_stop l (move l) (first_stop_among move ls)

-- the S records
abbrev pub moved_among : (ℕ → Moved) → List ℕ → List StateRecord
moved_among move ls = filter_map (λ l. record_of_move l (move l)) ls

-- how all leaves stand when these have moved
abbrev pub after_among : (ℕ → Moved) → List ℕ → List LeafState → List LeafState
after_among move ls states = over (λ l s. after s (move l)) ls states

-- ---- the cycle

-- what a cycle at an instant is made of
pub record Parts : Type 0 where
  pub given : List PortRecord
  pub emitted : List LeafState
  pub fed : List PortRecord
  pub out : List OutRecord
  pub touched : List ℕ
  pub move : ℕ → Moved

-- the parts of the cycle at an instant
abbrev pub cycle_parts : Tree → ℕ → RunState → Parts
cycle_parts tree t s =
    let due = due_leaves t s.leaf_states in
    let gave = given_among t s.leaf_states due in
    let stand = emitted_among t s.leaf_states due in
    let from = from_source gave (at_top tree t s.events) in
    let got = fed_among from (filter (brings from) (paths tree)) in
    record {
      given = gave;
      emitted = stand;
      fed = got;
      out = out_among from (filter (brings from) (out_paths tree));
      touched = touched_leaves tree t s.leaf_states gave got;
      move = move_at tree t stand gave got;
    }

-- the records of the cycle
abbrev pub cycle_of_parts : ℕ → Parts → Cycle
cycle_of_parts t p =
    record {
      time = t;
      y = filter is_of_out p.given;
      n = filter (λ r. not (is_of_out r)) p.given;
      x = p.fed;
      s = moved_among p.move p.touched;
      out = p.out;
    }

-- where the run stands after the cycle
abbrev pub state_of_parts : ℕ → RunState → Parts → RunState
state_of_parts t s p =
    record {
      leaf_states = after_among p.move p.touched p.emitted;
      events = filter (λ (e : Event). not (e.time == t)) s.events;
      last = Some t;
      count = cycles_at t s + 1;
    }

-- the cycle, or the first stop
abbrev pub next_of_parts : ℕ → RunState → Parts → Next
next_of_parts t s p =
    unless_stop t (first_stop_among p.move p.touched) (cycle_of_parts t p) (state_of_parts t s p)

-- the cycle at an instant, or the first stop
abbrev pub sparse_at : Tree → ℕ → RunState → Next
sparse_at tree t s = next_of_parts t s (cycle_parts tree t s)

-- the next cycle or the verdict, where this is the next instant
abbrev pub sparse_next : Tree → ℕ → ℕ → RunState → Option ℕ → Next
sparse_next tree end limit s None = ended done
sparse_next tree end limit s (Some t) =
    if nat_lt end t then ended done
    else if nat_le limit (cycles_at t s) then ended (too_many t) else sparse_at tree t s
