-- What has to hold where a message is served, so that it can be.
use Rattle.std.specs.Prelude.{◌≡◌, ℕ, ◌<◌, ◌≤◌, Option, Some, None, List, length, slice_get}
use Rattle.std.specs.List.{All}
use Rattle.quantity.specs.declared.bounds.TheConstants.{MAX_DELAY}
use Rattle.quantity.specs.declared.value.Value.{Value}
use Rattle.atomic_face.specs.declared.class.PortNo.{PortNo}
use Rattle.atomic_face.specs.Classes.{Bag}
use Rattle.model_leaves.specs.declared.table.Model.{Model}
use Rattle.run_model.specs.Cycle.{leaf_next}
use Rattle.sparse_cycle.specs.Sparse.{leaf_of}
use Rattle.run_leaves.specs.Seated.{Seated, ports_at}
use Rattle.tree_tables.specs.declared.entry.Entry.{Entry}
use Rattle.served_tree.specs.Service.{Message, collect, output, transition, done}
use Rattle.tree_mail.specs.declared.tables.GroupSpace.{GroupSpace}
use Rattle.tree_mail.specs.declared.tables.Tables.{Tables}
use Rattle.tree_messages.specs.Due.{due_at}
use Rattle.tree_mail.specs.Notes.{Note, left_at}
use Rattle.tree_mail.specs.Mail.{parent_at}
use Rattle.tree_messages.specs.Changes.{Changing}
use Rattle.tree_mail.specs.Puts.{CanPass}

-- a leaf that is asked is due when it says so
pub record CanAsk (entries : List Entry) (n : ℕ) (now : Changing) : Type 0 where
  pub within : n < length entries
  pub inside : (e : Entry) (l : ℕ) → slice_get entries n ≡ Some e → e.leaf ≡ Some l
      → l < length now.due
  pub due : (e : Entry) (l : ℕ) → slice_get entries n ≡ Some e → e.leaf ≡ Some l
      → due_at now.due l ≡ leaf_next (leaf_of now.leaves.states l)

-- its parent, where it has one, waits for a child
abbrev pub IsAwaited : List Entry → ℕ → List Note → Type 0
IsAwaited entries n notes =
    parent_at entries n < length entries → 1 ≤ left_at notes (parent_at entries n)

-- something is kept of a processor that gave or answered, and its parent waits for it
pub record CanTake (entries : List Entry) (n : ℕ) (notes : List Note) : Type 0 where
  pub kept : n < length notes
  pub waits : IsAwaited entries n notes

-- a leaf that is there has so many ports
pub record CanMove (t l : ℕ) (bag : Bag) (leaves : Seated) (due : List (Option ℕ)) : Type 0 where
  pub time : t ≤ MAX_DELAY
  pub within : l < length leaves.states
  pub inside : l < length due
  pub ports : All (λ (o : PortNo × Value). o.0.0 < ports_at leaves l) bag

-- a leaf moves, and a component passes on
pub record CanTransit (m : Model) (entries : List Entry) (spaces : List GroupSpace) (t n : ℕ)
    (bag : Bag) (now : Changing) : Type 0 where
  pub within : n < length entries
  pub kept : n < length now.notes
  pub leaf : (e : Entry) (l : ℕ) → slice_get entries n ≡ Some e → e.leaf ≡ Some l
      → CanMove t l bag now.leaves now.due
  pub inner : (e : Entry) → slice_get entries n ≡ Some e → e.leaf ≡ None
      → CanPass m entries spaces e.children.items

-- by the kind of the message
abbrev pub CanServe : Model → List Entry → List GroupSpace → ℕ → Message → Changing → Type 0
CanServe m entries spaces t (collect n) now = CanAsk entries n now
CanServe m entries spaces t (output n bag) now = CanTake entries n now.notes
CanServe m entries spaces t (transition n bag woken) now =
    CanTransit m entries spaces t n bag now
CanServe m entries spaces t (done n next stop) now = CanTake entries n now.notes

-- ---- by the tables in code, over the model whose leaves these are

abbrev pub CanTransitBy : Tables → ℕ → ℕ → Bag → Changing → Type 0
CanTransitBy ts t n bag now =
    CanTransit now.leaves.model ts.entries.items ts.spaces.items t n bag now

abbrev pub CanServeBy : Tables → ℕ → Message → Changing → Type 0
CanServeBy ts t m now = CanServe now.leaves.model ts.entries.items ts.spaces.items t m now
