-- Messages that wait, what is kept of processors, and what is told of a served message, as the
-- definitions have them.
use Rattle.std.specs.Prelude.{ℕ, Option, Some, None, List, [], ◌∷◌, map, slice_get}
use Rattle.run_model.specs.Cycle.{LeafState, Moved, stayed, moved, stopped}
use Rattle.tree_tables.specs.declared.entry.Entry.{Entry}
use Rattle.served_tree.specs.Service as service
use Rattle.served_tree.specs.Service.{Message, collect, output, transition, done, Service}
use Rattle.served_tree.specs.Order as order
use Rattle.served_tree.specs.Order.{Kind, a_collect, an_output, a_transition, a_done}
use Rattle.tree_mail.specs.declared.message.Message as code
use Rattle.tree_mail.specs.declared.message.Message.TheVariants as lent
use Rattle.tree_mail.specs.declared.message.MessageKind.{MessageKind}
use Rattle.tree_mail.specs.declared.message.MessageKind.TheVariants.{Collect, Output, Transition, Done}
use Rattle.tree_mail.specs.declared.message.Served.{Served}
use Rattle.tree_mail.specs.declared.kept.Became.{Became}
use Rattle.tree_mail.specs.declared.kept.Became.TheVariants as leaf
use Rattle.tree_mail.specs.declared.mail.Mail.{Mail}
use Rattle.tree_mail.specs.Notes.{Note, notes_of}

-- a message in code
abbrev pub message_in : code.Message → Message
message_in (lent.Collect to) = collect to
message_in (lent.Output from bag) = output from bag.items
message_in (lent.Transition to bag woken) = transition to bag.items woken
message_in (lent.Done from a) = done from a.next a.stop

abbrev pub messages_in : List code.Message → List Message
messages_in ms = map message_in ms

-- how a leaf lies, if it is one
abbrev pub lies_at : List LeafState → Option ℕ → Option LeafState
lies_at states None = None
lies_at states (Some number) = slice_get states number

-- what became of a leaf that lies so: one that moved became what lies there
abbrev pub became_in : Option LeafState → Became → Moved
became_in s leaf.Stayed = stayed
became_in None (leaf.Moved value) = stayed
became_in (Some s) (leaf.Moved value) = moved s
became_in s (leaf.Stopped why) = stopped why

-- what is kept of a processor
abbrev pub kept_in : List LeafState → Entry → Note → service.Kept
kept_in states e k =
    record {
      gave = k.gave;
      answered = k.answered;
      took = k.took;
      became = became_in (lies_at states e.leaf) k.became;
    }

-- of all processors
abbrev pub all_kept : List LeafState → List Entry → List Note → List service.Kept
all_kept states (e ∷ es) (k ∷ ks) = kept_in states e k ∷ all_kept states es ks
all_kept states es ks = []

-- what waits and what is kept
abbrev pub service_of : List Entry → List LeafState → Mail → Service
service_of entries states mail =
    record {
      waiting = messages_in mail.waiting;
      kept = all_kept states entries (notes_of mail.kept.items);
    }

-- ---- who serves a message

abbrev pub parent_at : List Entry → ℕ → ℕ
parent_at entries n = elim (slice_get entries n) [ None ↦ 0 | Some e ↦ e.parent ]

-- what is told of a message, by the tables
abbrev pub served_by_tables : List Entry → Message → order.Served
served_by_tables entries (collect to) = record { processor = to; kind = a_collect; next = None }
served_by_tables entries (output from bag) =
    record { processor = parent_at entries from; kind = an_output; next = None }
served_by_tables entries (transition to bag woken) =
    record { processor = to; kind = a_transition; next = None }
served_by_tables entries (done from next stop) =
    record { processor = parent_at entries from; kind = a_done; next = next }

-- ---- what is told in code

-- a kind as one of the definitions
abbrev pub kind_of : MessageKind → Kind
kind_of Collect = a_collect
kind_of Output = an_output
kind_of Transition = a_transition
kind_of Done = a_done

-- what is told of a served message
abbrev pub served_of : Served → order.Served
served_of m = record { processor = m.processor; kind = kind_of m.kind; next = m.next }
