-- A run before its first cycle, and a cycle that begins.
use Rattle.std.proofs.Common.{◌≡◌, ℕ, zero, suc, ◌<◌, ◌≤◌, Bool, true, false, Option, Some, None, List, [], ◌∷◌, ◌++◌, map, length, refl, sym, ◌∙◌, ap, subst, arith}
use Rattle.std.specs.Prelude.{slice_get, nat_lt, nat_le, ◌==◌, not, if◌then◌else◌}
use Rattle.std.specs.List.{filter}
use Rattle.std.specs.Option.{option_map}
use Rattle.std.proofs.lemmas.List.{length-map}
use Rattle.std.proofs.lemmas.Option.{slice_get-map, get_or_from_slice_get}
use Rattle.atomic_face.specs.Classes.{Bag}
use Rattle.event_list.specs.Events.{Event}
use Rattle.model_tree.specs.Tree.{Tree, ins_of}
use Rattle.quantity.specs.Times.{earlier}
use Rattle.run_model.specs.Cycle.{LeafState, leaf_next, next_of_all}
use Rattle.run_model.specs.Run.{RunState, first_event, next_instant, ended, done, too_many, next_at, next_cycle, cycled_at, cycles_at}
use Rattle.sparse_cycle.specs.Sparse.{leaf_of}
use Rattle.sparse_cycle.specs.Feed.{AreAtInputs, DistinctWhereOnce, TopByNumber}
use Rattle.run_leaves.specs.Seated.{Seated, tree_at}
use Rattle.run_leaves.proofs.SoundParts.{sound-parts, inputs-once}
use Rattle.flat_run.proofs.Instants.{all-left}
use Rattle.tree_tables.specs.declared.entry.Entry.{Entry}
use Rattle.served_tree.specs.Processors.{Processor, size, processors}
use Rattle.served_tree.specs.Service.{collect, instant_of, nothing_kept, service_at_start}
use Rattle.served_tree.specs.Parts.{parts, part_at}
use Rattle.served_tree.specs.Course.{Stands}
use Rattle.served_tree.specs.Orders.{IsServable, SoundServes}
use Rattle.served_tree.proofs.Counting.{total-zero}
use Rattle.served_tree.proofs.Through.{begins}
use Rattle.served_tree.proofs.Whole.{works}
use Rattle.tree_mail.specs.declared.kept.Became.TheVariants.{Stayed, Moved}
use Rattle.tree_mail.specs.declared.mail.Mail.{Mail}
use Rattle.tree_mail.specs.declared.tables.Tables.{Tables}
use Rattle.tree_mail.specs.Notes.{Note, notes_of, fresh_note, has_given, has_answered, count_lacking, still}
use Rattle.tree_mail.specs.Mail.{messages_in, all_kept}
use Rattle.tree_mail.specs.Puts.{Puts}
use Rattle.tree_messages.specs.Starting.{least_among, AreInputsOf}
use Rattle.tree_messages.proofs.Inputs.{inputs-are}
use Rattle.tree_serve.specs.Processing.{Processing}
use Rattle.tree_serve.specs.InCycle.{LeavesLie, InCycle}
use Rattle.tree_serve.specs.Calls.{Begins}
use Rattle.tree_serve.specs.Holds.{seen_as, AtRest, AreKept, HoldsServed}
use Rattle.tree_serve.proofs.Entries.{many}
use Rattle.tree_serve.proofs.Left.{lacking-all}
use Rattle.tree_serve.proofs.Within.{state-at, as-leaf}

-- ---- times

least-all : (states : List LeafState) → least_among (map leaf_next states) ≡ next_of_all states
least-all [] = refl
least-all (s ∷ ss) = ap (earlier (leaf_next s)) (least-all ss)

-- the next instant is that of a leaf or of an event
pub next-is : (s : RunState) (due : List (Option ℕ)) (event next : Option ℕ)
    → due ≡ map leaf_next s.leaf_states → event ≡ first_event s.events
    → next ≡ earlier (least_among due) event → next ≡ next_instant s
next-is s due event next due-is event-is is =
    is ∙ (λ i. earlier ((ap least_among due-is ∙ least-all s.leaf_states) i) (event-is i))

-- the cycle at an instant
lt-false : (a b : ℕ) → b ≤ a → nat_lt a b ≡ false
lt-false a b le = grind (arith, le)

le-false : (a b : ℕ) → b < a → nat_le a b ≡ false
le-false a b lt = grind (arith, lt)

pub cycle-there : (tree : Tree) (end limit : ℕ) (s : RunState) (t : ℕ) → next_instant s ≡ Some t
    → t ≤ end → cycles_at t s < limit → next_cycle tree end limit s ≡ cycled_at tree t s
unfolding next_cycle
cycle-there tree end limit s t next within few =
    ap (next_at tree end limit s) next
    ∙ ap (λ b. if b then ended done else if nat_le limit (cycles_at t s) then ended (too_many t) else cycled_at tree t s) (lt-false end t within)
    ∙ ap (λ b. if b then ended (too_many t) else cycled_at tree t s) (le-false limit (cycles_at t s) few)

-- ---- nothing is kept yet

fresh-kept : (states : List LeafState) (es : List Entry) (ps : List Processor) → length es ≡ length ps
    → all_kept states es (map fresh_note es) ≡ map nothing_kept ps
fresh-kept states [] [] e = refl
fresh-kept states [] (p ∷ ps) e = absurd (omega (arith, e))
fresh-kept states (x ∷ es) [] e = absurd (omega (arith, e))
fresh-kept states (x ∷ es) (p ∷ ps) e =
    ap (λ l. nothing_kept p ∷ l) (fresh-kept states es ps (omega (arith, e)))

fresh-given : (es : List Entry) (n : ℕ) → has_given (map fresh_note es) n ≡ false
fresh-given [] n = refl
fresh-given (e ∷ es) zero = refl
fresh-given (e ∷ es) (suc n) = fresh-given es n

fresh-answered : (es : List Entry) (n : ℕ) → has_answered (map fresh_note es) n ≡ false
fresh-answered [] n = refl
fresh-answered (e ∷ es) zero = refl
fresh-answered (e ∷ es) (suc n) = fresh-answered es n

still-if : (a b : ℕ) → a ≡ b → (k : ℕ) → a ≡ k → ◌≡◌ {A = ℕ} (if a == 0 then b else a) k
still-if a b same k e = ap (λ c. if a == 0 then c else a) (sym same) ∙ both (a == 0) ∙ e
  where
    both : (t : Bool) → ◌≡◌ {A = ℕ} (if t then a else a) a
    both true = refl
    both false = refl

fresh-still : (es : List Entry) (ns : List ℕ) → still (map fresh_note es) ns ≡ length ns
fresh-still es ns =
    let given = lacking-all (has_given (map fresh_note es)) ns (λ m le. fresh-given es m) in
    let answered = lacking-all (has_answered (map fresh_note es)) ns (λ m le. fresh-answered es m) in
    still-if (count_lacking (has_given (map fresh_note es)) ns) (count_lacking (has_answered (map fresh_note es)) ns) (given ∙ sym answered) (length ns) given

fresh-note : (es : List Entry) (n : ℕ) (e : Entry) (k : Note) → slice_get es n ≡ Some e
    → slice_get (map fresh_note es) n ≡ Some k → k ≡ fresh_note e
fresh-note es n e k e-is k-is =
    let both : ◌≡◌ {A = Option Note} (Some k) (Some (fresh_note e)) =
    sym k-is ∙ slice_get-map fresh_note es n ∙ ap (option_map fresh_note) e-is in
    cc

fresh-held : (states : List LeafState) (es : List Entry) → AreKept states es (map fresh_note es)
fresh-held states es =
    record {
      long = length-map es fresh_note;
      left = λ n e k e-is k-is.
          ap (λ (x : Note). x.left) (fresh-note es n e k e-is k-is) ∙ sym (fresh-still es e.children.items);
      told = λ n l e k value e-is k-is l-is moved-to.
          let h : Moved value ≡ Stayed = sym moved-to ∙ ap (λ (x : Note). x.became) (fresh-note es n e k e-is k-is) in
          absurd cc;
    }

-- ---- a cycle begins

module _ (sounds : SoundServes) (by-number : TopByNumber) (once : DistinctWhereOnce) (leaves : Seated)
    (tables : Tables) (events : List Event) (end limit : ℕ) (last : Option ℕ) (count : ℕ)
    (due : List (Option ℕ)) (inputs : Bag) (mail : Mail)
    (holds : HoldsServed (seen_as leaves tables events end limit last count None due None inputs mail) tables mail)
  where
    abbrev p : Processing
    p = seen_as leaves tables events end limit last count None due None inputs mail

    abbrev tree : Tree
    tree = tree_at leaves.model leaves.settings

    abbrev s : RunState
    s = p.standing.state

    pub rest : AtRest (tree_at leaves.model leaves.settings) events leaves.states due
    rest = holds.at.at_rest refl

    module _ (t : ℕ) (next : next_instant s ≡ Some t) (within : t ≤ end) (few : cycles_at t s < limit)
        (events' : List Event) (inputs' : Bag) (mail' : Mail) (inputs_are : AreInputsOf t events inputs')
        (events_are : events' ≡ filter (λ (e : Event). not (e.time == t)) events)
        (puts : Puts mail.waiting mail'.waiting (collect 0 ∷ []))
        (notes_are : notes_of mail'.kept.items ≡ map fresh_note tables.entries.items) where
      abbrev p' : Processing
      p' = seen_as leaves tables events' end limit last count None due (Some t) inputs' mail'

      servable : IsServable tree leaves.states
      servable = sounds tree leaves.states (sound-parts tree holds.served.sound).parts holds.served.ports rest.fits

      service-is : p'.service ≡ service_at_start (instant_of tree t s)
      service-is = λ i. record {
        waiting = (puts ∙ ap (λ ms. messages_in ms ++ collect 0 ∷ []) holds.at.nothing_waits) i;
        kept = (ap (all_kept leaves.states tables.entries.items) notes_are ∙ fresh-kept leaves.states tables.entries.items (processors tree) (many tree tables.entries.items holds.served.tables_are.entries)) i;
      }

      lies : LeavesLie tree t s (λ n. 0) leaves.states due
      lies n l q q-is l-is =
          let me = as-leaf tree t s servable n l q q-is l-is in
          let there : slice_get due l ≡ Some (leaf_next (leaf_of leaves.states l)) =
          ap (λ d. slice_get d l) rest.due_are ∙ slice_get-map leaf_next leaves.states l ∙ ap (option_map leaf_next) (state-at leaves.states l me.within) in
          (refl, get_or_from_slice_get due l (leaf_next (leaf_of leaves.states l)) None there)

      held : AreKept leaves.states tables.entries.items (notes_of mail'.kept.items)
      held = subst (λ (ks : List Note). AreKept leaves.states tables.entries.items ks) (sym notes_are) (fresh-held leaves.states tables.entries.items)

      cycle : InCycle s t 0 p'
      cycle =
          record {
            instant = refl;
            at_instant = next;
            next = cycle-there tree end limit s t next within few;
            goes = refl;
            inputs = inputs-are by-number tree t events inputs' (once (ins_of tree) (inputs-once tree (sound-parts tree holds.served.sound).parts)) rest.at_inputs inputs_are;
            events = events_are;
            last = refl;
            count = refl;
            servable = servable;
            way = (
              (λ n. 0),
              subst (Stands (processors tree) (part_at (parts tree t s)) (λ n. 0)) (sym service-is) (begins (instant_of tree t s) (part_at (parts tree t s)) (works tree t s servable)),
              total-zero (size tree),
            );
            states_long = refl;
            due_long = ap length rest.due_are ∙ length-map leaves.states leaf_next;
            leaves = lies;
          }

      pub begins-so : Begins p t p'
      begins-so =
          record {
            keeps = record { model = refl; settings = refl; end = refl; limit = refl };
            begun_at = service-is;
            cycle = cycle;
          }

      pub begun-holds : HoldsServed p' tables mail'
      begun-holds =
          record {
            served = holds.served;
            at = record {
              state = s;
              many = 0;
              cycle = cycle;
              begun = record { fits = rest.fits; within = within; few = few };
              at_inputs = subst (AreAtInputs (ins_of tree)) (sym events_are) (all-left (λ (e : Event). e.port < length (ins_of tree)) (λ (e : Event). not (e.time == t)) events rest.at_inputs);
              kept = held;
            };
          }
