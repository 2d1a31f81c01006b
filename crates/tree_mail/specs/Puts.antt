-- What a served message puts behind those that wait, and what is kept, by the tables.
use Rattle.std.specs.Prelude.{◌≡◌, ℕ, ◌==◌, Bool, false, Option, Some, None, List, ◌∷◌, ◌++◌, map, length, slice_get, if◌then◌else◌, ◌≤◌, IfSome, []}
use Rattle.std.specs.List.{list_any, enumerate_from}
use Rattle.quantity.specs.declared.place.Offset.{Offset}
use Rattle.cell_grid.specs.Space.{Space, neighbour, cell_count}
use Rattle.atomic_face.specs.Classes.{Bag}
use Rattle.model_leaves.specs.declared.table.Model.{Model}
use Rattle.model_leaves.specs.declared.leaves.LeafAt.{LeafAt}
use Rattle.model_leaves.specs.declared.leaves.LeafAt.TheVariants.{Atomic, Cell}
use Rattle.model_leaves.specs.Leaves.{IsPlaceOf, IsLeafOf}
use Rattle.tree_tables.specs.declared.entry.Entry.{Entry}
use Rattle.tree_tables.specs.Stations.{row_of}
use Rattle.served_tree.specs.Service.{StoppedLeaf, Message, output, transition, done, cell_gave_output, next_of_children, stop_of_children}
use Rattle.served_tree.specs.Rows.{Ref, read_rows}
use Rattle.tree_mail.specs.declared.message.Message as code
use Rattle.tree_mail.specs.declared.mail.Mail.{Mail}
use Rattle.tree_mail.specs.declared.tables.GroupSpace.{GroupSpace}
use Rattle.tree_mail.specs.Notes.{Note, notes_of, all_heard, given_noted, left_at, with_one_less, left_noted}
use Rattle.tree_mail.specs.Mail.{messages_in, parent_at}

-- these messages are put behind the others
abbrev pub Puts : List code.Message → List code.Message → List Message → Type 0
Puts old new ms = messages_in new ≡ messages_in old ++ ms

-- these are put, by what was noted before
abbrev pub PutsBy : (List Note → List Message) → Mail → Mail → Type 0
PutsBy messages old new = Puts old.waiting new.waiting (messages (notes_of old.kept.items))

-- this is noted, by what was noted before
abbrev pub NotesBy : (List Note → List Note) → Mail → Mail → Type 0
NotesBy change old new = notes_of new.kept.items ≡ change (notes_of old.kept.items)

-- over the parent of a processor, where it has one
abbrev pub at_parent : {A : Type 0} → List Entry → ℕ → A → (ℕ → Entry → A) → A
at_parent entries from root go =
    elim (slice_get entries (parent_at entries from))
    [ None ↦ root | Some e ↦ go (parent_at entries from) e ]

-- one child is left of this processor
abbrev pub is_last : List Note → ℕ → Bool
is_last notes n = left_at notes n == 1

-- ---- output

-- what the rows of a component's output ports read
abbrev pub outs_read : List Note → Entry → Bag
outs_read notes e = read_rows [] (all_heard notes) (map row_of e.outs.items)

-- once a child of a component gave: what is put, and what is noted
abbrev pub component_gives : ℕ → Entry → List Note → List Message
component_gives n e notes =
    if is_last notes n then output n (outs_read (with_one_less n notes) e) ∷ [] else []

abbrev pub component_gave : ℕ → Entry → List Note → List Note
component_gave n e notes =
    if is_last notes n then left_noted n (length e.children.items) (with_one_less n notes)
    else with_one_less n notes

-- once a processor gave
abbrev pub given_puts : List Entry → ℕ → Bag → List Note → List Message
given_puts entries from inputs notes =
    at_parent entries from (transition 0 inputs false ∷ [])
    (λ n e. component_gives n e notes)

-- the same from what was noted before it gave
abbrev pub puts_given : List Entry → Bag → ℕ → Bag → List Note → List Message
puts_given entries inputs from bag notes =
    given_puts entries from inputs (given_noted from bag notes)

abbrev pub after_given : List Entry → ℕ → List Note → List Note
after_given entries from notes =
    at_parent entries from notes (λ n e. component_gave n e notes)

abbrev pub notes_given : List Entry → ℕ → Bag → List Note → List Note
notes_given entries from bag notes = after_given entries from (given_noted from bag notes)

-- ---- transition of a component

-- the rows at the input ports of a processor
abbrev pub ins_at : List Entry → ℕ → List (List Ref)
ins_at entries n = elim (slice_get entries n) [ None ↦ [] | Some e ↦ map row_of e.ins.items ]

-- what they read
abbrev pub ins_read : List Entry → List Note → Bag → ℕ → Bag
ins_read entries notes bag n = read_rows bag (all_heard notes) (ins_at entries n)

-- to each child
abbrev pub handed_on : List Entry → List Note → List ℕ → Bag → List Message
handed_on entries notes children bag =
    map (λ n. transition n (ins_read entries notes bag n) false) children

-- one of a cell's offsets leads to a cell that gave output
abbrev pub woken_in : List Note → List ℕ → Space → List Offset → ℕ → Bool
woken_in notes children space offsets cell =
    list_any (λ o. cell_gave_output (all_heard notes) children (neighbour space cell o)) offsets

-- to a cell, by its number in the group
abbrev pub handed_to : List Entry → List Note → List ℕ → GroupSpace → Bag → ℕ × ℕ → Message
handed_to entries notes children space bag c =
    transition c.1 (ins_read entries notes bag c.1)
    (woken_in notes children space.grid space.offsets.items c.0)

-- to each cell
abbrev pub handed_to_cells : List Entry → List Note → List ℕ → GroupSpace → Bag → List Message
handed_to_cells entries notes children space bag =
    map (handed_to entries notes children space bag) (enumerate_from 0 children)

-- the leaf that the first of these processors is, if it is one
abbrev pub first_leaf : List Entry → List ℕ → Option ℕ
first_leaf entries [] = None
first_leaf entries (n ∷ ns) = elim (slice_get entries n) [ None ↦ None | Some e ↦ e.leaf ]

-- the group of a leaf that sits there
abbrev pub group_of_seat : LeafAt → Option ℕ
group_of_seat (Atomic box) = None
group_of_seat (Cell group cell) = Some group

-- the group whose cells these processors are, if they are cells
abbrev pub IsGroupOf : Model → Option ℕ → Option ℕ → Type 0
IsGroupOf m None group = group ≡ None
IsGroupOf m (Some l) group = (a : LeafAt) × IsPlaceOf m l a × (group ≡ group_of_seat a)

-- the space of a group of this number
abbrev pub space_at : List GroupSpace → Option ℕ → Option GroupSpace
space_at spaces None = None
space_at spaces (Some g) = slice_get spaces g

-- what a component passes on, which is a group where it has a space
abbrev pub passed_on : List Entry → List Note → List ℕ → Bag → Option GroupSpace → List Message
passed_on entries notes children bag None = handed_on entries notes children bag
passed_on entries notes children bag (Some space) =
    handed_to_cells entries notes children space bag

-- what a component puts: for the group whose cells its children are, if they are cells
abbrev pub PassesOn : Model → List Entry → List GroupSpace → List ℕ → Bag → Mail → Mail → Type 0
PassesOn m entries spaces children bag old new =
    (group : Option ℕ) × IsGroupOf m (first_leaf entries children) group
    × PutsBy (λ notes. passed_on entries notes children bag (space_at spaces group)) old new

-- ---- transition of a leaf

-- a done message with an answer
abbrev pub done_with : ℕ → Option ℕ × StoppedLeaf → Message
done_with n answer = done n answer.0 answer.1

-- ---- done

-- the answer of a component, whose children have answered
abbrev pub joined_answer : List Note → List ℕ → Option ℕ × StoppedLeaf
joined_answer notes children =
    (next_of_children (all_heard notes) children, stop_of_children (all_heard notes) children)

-- once a child of a component answered: what is put
abbrev pub component_answers : ℕ → List ℕ → List Note → List Message
component_answers n children notes =
    if is_last notes n then done_with n (joined_answer (with_one_less n notes) children)
    ∷ [] else []

-- where the first of these processors is a leaf, it is one of the model, and a group's space has
-- room for all
pub record CanPass (m : Model) (entries : List Entry) (spaces : List GroupSpace) (children : List ℕ)
    : Type 0 where
  pub leaf : IfSome (first_leaf entries children) (IsLeafOf m)
  pub cells : (group : Option ℕ) → IsGroupOf m (first_leaf entries children) group
      → IfSome (space_at spaces group) (λ s. length children ≤ cell_count s.grid)
