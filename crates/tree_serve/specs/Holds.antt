-- Private: what holds of a served run, between two cycles and in one.
use Rattle.std.specs.Prelude.{◌≡◌, ℕ, ◌<◌, ◌≤◌, Option, Some, None, List, [], map, length, slice_get, IsTrue}
use Rattle.quantity.specs.declared.value.Value.{Value}
use Rattle.atomic_face.specs.Classes.{Bag}
use Rattle.event_list.specs.Events.{Event}
use Rattle.model_tree.specs.Tree.{Tree, ins_of}
use Rattle.model_tree.specs.Sound.{is_sound_model}
use Rattle.run_model.specs.Cycle.{LeafState, leaf_next}
use Rattle.run_model.specs.Fitting.{FitsTree}
use Rattle.run_model.specs.Run.{RunState, cycles_at, computed_of}
use Rattle.sparse_cycle.specs.Feed.{AreAtInputs}
use Rattle.sparse_cycle.specs.Sparse.{leaf_of}
use Rattle.run_model.specs.declared.stop.Stop.{Stop}
use Rattle.flat_run.specs.Holds.{AreCounts}
use Rattle.run_leaves.specs.Seated.{Seated}
use Rattle.tree_tables.specs.declared.entry.Entry.{Entry}
use Rattle.served_tree.specs.Linked.{HasPorts}
use Rattle.tree_mail.specs.declared.kept.Became.TheVariants.{Moved}
use Rattle.tree_mail.specs.declared.mail.Mail.{Mail}
use Rattle.tree_mail.specs.declared.tables.Tables.{Tables}
use Rattle.tree_mail.specs.Notes.{Note, notes_of, AreLeft}
use Rattle.tree_mail.specs.Mail.{service_of}
use Rattle.tree_mail.specs.Tabled.{AreTables}
use Rattle.tree_serve.specs.Processing.{Processing, tree_on}
use Rattle.tree_serve.specs.InCycle.{InCycle}

-- a run as it is seen, from its parts
abbrev pub seen_as : Seated → Tables → List Event → ℕ → ℕ → Option ℕ → ℕ → Option Stop
    → List (Option ℕ) → Option ℕ → Bag → Mail → Processing
seen_as leaves tables events end limit last count stopped due instant inputs mail =
    record {
      standing = record {
        model = leaves.model;
        settings = leaves.settings;
        state = record {
          leaf_states = leaves.states;
          events = events;
          last = last;
          count = count;
        };
        end = end;
        limit = limit;
        stopped = stopped;
      };
      instant = instant;
      inputs = inputs;
      due = due;
      service = service_of tables.entries.items leaves.states mail;
    }

-- ---- in every moment

-- what a run of its model needs in every cycle
pub record IsServed (tree : Tree) (tables : Tables) (end limit count : ℕ) : Type 0 where
  pub tables_are : AreTables tree tables
  pub sound : IsTrue (is_sound_model tree)
  pub ports : HasPorts tree
  pub counts : AreCounts end limit count

-- ---- between two cycles

-- each leaf waits for its next time, and events are for inputs that there are
pub record AtRest (tree : Tree) (events : List Event) (states : List LeafState)
    (due : List (Option ℕ)) : Type 0 where
  pub at_inputs : AreAtInputs (ins_of tree) events
  pub fits : FitsTree tree states
  pub due_are : due ≡ map leaf_next states

-- nothing waits and nothing is kept; after a stop the leaves are left as they are
pub record IsCalm (p : Processing) (mail : Mail) : Type 0 where
  pub nothing_waits : mail.waiting ≡ []
  pub nothing_kept : mail.kept.items ≡ []
  pub at_rest : p.standing.stopped ≡ None
      → AtRest (tree_on p) p.standing.state.events p.standing.state.leaf_states p.due

-- ---- in a cycle

-- the value that is kept of a leaf that moved is the one that it computed
abbrev pub AreTold : List LeafState → List Entry → List Note → Type 0
AreTold states entries notes =
    (n l : ℕ) (e : Entry) (k : Note) (value : Option Value) → slice_get entries n ≡ Some e
    → slice_get notes n ≡ Some k → e.leaf ≡ Some l → k.became ≡ Moved value
    → value ≡ computed_of (leaf_of states l)

-- what is kept beside the messages follows them
pub record AreKept (states : List LeafState) (entries : List Entry) (notes : List Note)
    : Type 0 where
  pub long : length notes ≡ length entries
  pub left : AreLeft entries notes
  pub told : AreTold states entries notes

-- where the reference run stands whose cycle is served
pub record IsBegun (p : Processing) (s : RunState) (t : ℕ) : Type 0 where
  pub fits : FitsTree (tree_on p) s.leaf_states
  pub within : t ≤ p.standing.end
  pub few : cycles_at t s < p.standing.limit

-- the run is in a cycle
pub record InService (p : Processing) (t : ℕ) (tables : Tables) (mail : Mail) : Type 0 where
  pub state : RunState
  pub many : ℕ
  pub cycle : InCycle state t many p
  pub begun : IsBegun p state t
  pub at_inputs : AreAtInputs (ins_of (tree_on p)) p.standing.state.events
  pub kept : AreKept p.standing.state.leaf_states tables.entries.items
      (notes_of mail.kept.items)

-- ---- both

-- by the instant that is served
abbrev pub HoldsAt : Option ℕ → Processing → Tables → Mail → Type 0
HoldsAt None p tables mail = IsCalm p mail
HoldsAt (Some t) p tables mail = InService p t tables mail

pub record HoldsServed (p : Processing) (tables : Tables) (mail : Mail) : Type 0 where
  pub served : IsServed (tree_on p) tables p.standing.end p.standing.limit p.standing.state.count
  pub at : HoldsAt p.instant p tables mail
