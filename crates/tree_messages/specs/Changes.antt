-- What the service of a message changes, by the tables, over the leaves as they lie.
use Rattle.std.specs.Prelude.{◌≡◌, ℕ, Bool, true, false, ◌||◌, Option, Some, None, List, ◌∷◌, map, slice_get, slice_set, if◌then◌else◌, []}
use Rattle.atomic_face.specs.Classes.{Bag, is_at}
use Rattle.model_leaves.specs.declared.table.Model.{Model}
use Rattle.model_tree.specs.Tree.{leaves}
use Rattle.run_model.specs.Cycle.{LeafState, leaf_next, leaf_emitted, collected_of, has_values, Moved, moved, stopped}
use Rattle.run_model.specs.Run.{computed_of}
use Rattle.sparse_cycle.specs.Sparse.{leaf_of, move_to}
use Rattle.run_leaves.specs.Seated.{Seated, tree_at}
use Rattle.run_leaves.specs.Moving.{with_seated_state, StaysAs, OnlyLeaf}
use Rattle.tree_tables.specs.declared.entry.Entry.{Entry}
use Rattle.served_tree.specs.Service.{StoppedLeaf, Message, collect, output, transition, done}
use Rattle.tree_mail.specs.declared.message.Message as code
use Rattle.tree_mail.specs.declared.kept.Became.{Became}
use Rattle.tree_mail.specs.declared.kept.Became.TheVariants as leaf
use Rattle.tree_mail.specs.declared.mail.Mail.{Mail}
use Rattle.tree_mail.specs.declared.tables.GroupSpace.{GroupSpace}
use Rattle.tree_mail.specs.declared.tables.Tables.{Tables}
use Rattle.tree_messages.specs.Due.{due_at}
use Rattle.tree_mail.specs.Notes.{Note, notes_of, given_noted, answer_noted, move_noted, with_one_less}
use Rattle.tree_mail.specs.Puts.{IsGroupOf, Puts, after_given, at_parent, component_answers, done_with, first_leaf, given_puts, passed_on, space_at}

-- what service changes
pub record Changing : Type 0 where
  pub waiting : List code.Message
  pub notes : List Note
  pub leaves : Seated
  pub due : List (Option ℕ)

abbrev pub changing_of_mail : Mail → Seated → List (Option ℕ) → Changing
changing_of_mail mail leaves due =
    record { waiting = mail.waiting; notes = notes_of mail.kept.items; leaves = leaves; due = due }

-- what a leaf gives that is due or not
abbrev pub leaf_gives : ℕ → LeafState → Bag
leaf_gives t s = if is_at t (leaf_next s) then collected_of t s else []

-- the same of a leaf as it lies
abbrev pub gives_at : ℕ → Seated → ℕ → Bag
gives_at t leaves l = leaf_gives t (leaf_of leaves.states l)

-- the leaves once this one was asked
abbrev pub leaves_asked : ℕ → ℕ → Seated → Seated
leaves_asked t l leaves =
    if is_at t (leaf_next (leaf_of leaves.states l))
    then with_seated_state leaves l (leaf_emitted t (leaf_of leaves.states l)) else leaves

-- a leaf is asked, or the children of a component
abbrev pub asked_puts : ℕ → ℕ → List ℕ → Option ℕ → List LeafState → List Message
asked_puts t n children None states = map collect children
asked_puts t n children (Some l) states = output n (leaf_gives t (leaf_of states l)) ∷ []

abbrev pub asked_leaves : ℕ → Option ℕ → Seated → Seated
asked_leaves t None leaves = leaves
asked_leaves t (Some l) leaves = leaves_asked t l leaves

pub record Asks (t n : ℕ) (e : Entry) (old new : Changing) : Type 0 where
  pub puts : Puts old.waiting new.waiting
      (asked_puts t n e.children.items e.leaf old.leaves.states)
  pub notes : new.notes ≡ old.notes
  pub leaves : new.leaves ≡ asked_leaves t e.leaf old.leaves
  pub due : new.due ≡ old.due

pub record Gives (entries : List Entry) (inputs : Bag) (from : ℕ) (bag : Bag) (old new : Changing)
    : Type 0 where
  pub puts : Puts old.waiting new.waiting
      (given_puts entries from inputs (given_noted from bag old.notes))
  pub notes : new.notes ≡ after_given entries from (given_noted from bag old.notes)
  pub leaves : new.leaves ≡ old.leaves
  pub due : new.due ≡ old.due

pub record PassesToChildren (m : Model) (entries : List Entry) (spaces : List GroupSpace) (n : ℕ)
    (bag : Bag)
    (e : Entry) (old new : Changing) : Type 0 where
  pub group : Option ℕ
  pub is_group : IsGroupOf m (first_leaf entries e.children.items) group
  pub puts : Puts old.waiting new.waiting
      (passed_on entries old.notes e.children.items bag (space_at spaces group))
  pub notes : new.notes ≡ move_noted n bag leaf.Stayed old.notes
  pub leaves : new.leaves ≡ old.leaves
  pub due : new.due ≡ old.due

-- a leaf that has to move: due, woken or fed
abbrev pub has_to_move : ℕ → Option ℕ → Bool → Bag → Bool
has_to_move t due woken bag = is_at t due || woken || has_values bag

-- a leaf that moved to this, or stopped
abbrev pub Moves : ℕ → Moved → List LeafState → List LeafState → List (Option ℕ)
    → List (Option ℕ) → Became → Type 0
Moves l (moved x) old new due due' (leaf.Moved value) =
    (new ≡ slice_set old l x) × (value ≡ computed_of x) × (due' ≡ slice_set due l (leaf_next x))
    × OnlyLeaf l old new
Moves l (stopped why) old new due due' (leaf.Stopped stop) =
    (stop ≡ why) × OnlyLeaf l old new × (due' ≡ due)
Moves l m old new due due' became = ⊥

-- a leaf moves where it has to, and else stays
abbrev pub MovesIf : Bool → ℕ → Moved → List LeafState → List LeafState → List (Option ℕ)
    → List (Option ℕ) → Became → Type 0
MovesIf false l m old new due due' became =
    (became ≡ leaf.Stayed) × (new ≡ old) × (due' ≡ due)
MovesIf true l m old new due due' became = Moves l m old new due due' became

-- what a leaf becomes over the leaves as they lie
abbrev pub move_in : ℕ → Bool → Bag → ℕ → Seated → Moved
move_in t woken bag l leaves_now =
    move_to t leaves_now.states woken bag
    (slice_get (leaves (tree_at leaves_now.model leaves_now.settings)) l)
    (leaf_of leaves_now.states l)

-- a leaf becomes this
pub record Becomes (t : ℕ) (woken : Bool) (bag : Bag) (l : ℕ) (old new : Seated)
    (due due' : List (Option ℕ)) (became : Became) : Type 0 where
  pub moves : MovesIf (has_to_move t (due_at due l) woken bag) l (move_in t woken bag l old)
      old.states new.states due due' became
  pub kept : StaysAs old new

-- what a leaf answers that became this and is due then
abbrev pub leaf_answers : ℕ → Became → Option ℕ → Option ℕ × StoppedLeaf
leaf_answers l leaf.Stayed due = (due, None)
leaf_answers l (leaf.Moved value) due = (due, None)
leaf_answers l (leaf.Stopped why) due = (None, Some (l, why))

pub record MovesOn (t n l : ℕ) (bag : Bag) (woken : Bool) (old new : Changing) : Type 0 where
  pub became : Became
  pub becomes : Becomes t woken bag l old.leaves new.leaves old.due new.due became
  pub puts : Puts old.waiting new.waiting
      (done_with n (leaf_answers l became (due_at new.due l)) ∷ [])
  pub notes : new.notes ≡ move_noted n bag became old.notes

-- once a processor answered: what is put, and what is noted
abbrev pub answered_puts : List Entry → ℕ → List Note → List Message
answered_puts entries from notes =
    at_parent entries from [] (λ n e. component_answers n e.children.items notes)

abbrev pub after_answered : List Entry → ℕ → List Note → List Note
after_answered entries from notes = at_parent entries from notes (λ n e. with_one_less n notes)

-- the same from what was noted before it answered
abbrev pub puts_answered : List Entry → ℕ → Option ℕ × StoppedLeaf → List Note → List Message
puts_answered entries from answer notes =
    answered_puts entries from (answer_noted from answer notes)

abbrev pub notes_answered : List Entry → ℕ → Option ℕ × StoppedLeaf → List Note → List Note
notes_answered entries from answer notes =
    after_answered entries from (answer_noted from answer notes)

pub record Answers (entries : List Entry) (from : ℕ) (answer : Option ℕ × StoppedLeaf)
    (old new : Changing) : Type 0 where
  pub puts : Puts old.waiting new.waiting
      (answered_puts entries from (answer_noted from answer old.notes))
  pub notes : new.notes ≡ after_answered entries from (answer_noted from answer old.notes)
  pub leaves : new.leaves ≡ old.leaves
  pub due : new.due ≡ old.due

-- what the service of a message changes
abbrev pub AsksAt : List Entry → ℕ → ℕ → Changing → Changing → Type 0
AsksAt entries t n old new =
    (e : Entry) → slice_get entries n ≡ Some e → Asks t n e old new

abbrev pub Transits : Model → List Entry → List GroupSpace → ℕ → ℕ → Bag → Bool → Entry
    → Option ℕ → Changing → Changing → Type 0
Transits m entries spaces t n bag woken e None old new =
    PassesToChildren m entries spaces n bag e old new
Transits m entries spaces t n bag woken e (Some l) old new = MovesOn t n l bag woken old new

abbrev pub TransitsAt : Model → List Entry → List GroupSpace → ℕ → ℕ → Bag → Bool → Changing
    → Changing → Type 0
TransitsAt m entries spaces t n bag woken old new =
    (e : Entry) → slice_get entries n ≡ Some e
    → Transits m entries spaces t n bag woken e e.leaf old new

abbrev pub Changes : Model → List Entry → List GroupSpace → ℕ → Bag → Message → Changing
    → Changing → Type 0
Changes m entries spaces t inputs (collect n) old new = AsksAt entries t n old new
Changes m entries spaces t inputs (output n bag) old new = Gives entries inputs n bag old new
Changes m entries spaces t inputs (transition n bag woken) old new =
    TransitsAt m entries spaces t n bag woken old new
Changes m entries spaces t inputs (done n next stop) old new =
    Answers entries n (next, stop) old new

abbrev pub TransitsBy : Tables → ℕ → ℕ → Bag → Bool → Changing → Changing → Type 0
TransitsBy ts t n bag woken old new =
    TransitsAt old.leaves.model ts.entries.items ts.spaces.items t n bag woken old new

abbrev pub PassesBy : Tables → ℕ → Bag → Entry → Changing → Changing → Type 0
PassesBy ts n bag e old new =
    PassesToChildren old.leaves.model ts.entries.items ts.spaces.items n bag e old new

abbrev pub ChangesBy : Tables → ℕ → Bag → Message → Changing → Changing → Type 0
ChangesBy ts t inputs m old new =
    Changes old.leaves.model ts.entries.items ts.spaces.items t inputs m old new
