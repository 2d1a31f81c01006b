-- A message of a run is served: it can be, and the run is in its cycle after one message more.
use Rattle.std.proofs.Common.{◌≡◌, ℕ, zero, suc, ◌%◌, ◌<◌, Bool, Option, Some, None, List, [], ◌∷◌, ◌++◌, map, length, remove, refl, sym, ◌∙◌, ap, subst, arith}
use Rattle.std.specs.Prelude.{slice_get}
use Rattle.std.specs.List.{All}
use Rattle.std.specs.Option.{option_map}
use Rattle.std.proofs.lemmas.List.{length-map}
use Rattle.std.proofs.lemmas.Option.{slice_get-map}
use Rattle.atomic_face.specs.Classes.{Bag}
use Rattle.event_list.specs.Events.{Event}
use Rattle.model_tree.specs.Tree.{Tree, Leaf, ins_of}
use Rattle.run_model.specs.Cycle.{leaf_next}
use Rattle.run_model.specs.Fitting.{FitsTree}
use Rattle.run_model.specs.Run.{RunState, cycled_at}
use Rattle.sparse_cycle.specs.Sparse.{leaf_of}
use Rattle.sparse_cycle.specs.AnyOrder.{BecomesTheSame, UndueAreQuiet}
use Rattle.run_model.specs.declared.stop.Stop.{Stop}
use Rattle.run_leaves.specs.Standing.{next_of_run}
use Rattle.run_leaves.specs.Steps.{Keeps}
use Rattle.run_leaves.specs.Seated.{Seated, input_count, tree_at}
use Rattle.run_leaves.specs.Moving.{StaysAs}
use Rattle.tree_tables.specs.declared.entry.Entry.{Entry}
use Rattle.tree_tables.specs.Stations.{leaf_of_node as leaf_number, station_of, stations, station_in}
use Rattle.sparse_cycle.specs.Feed.{AreAtInputs}
use Rattle.served_tree.specs.Processors.{Processor, size, processors}
use Rattle.served_tree.specs.Service.{Message, collect, output, transition, done, Service, instant_of, keeps, causes, serves}
use Rattle.served_tree.specs.Rows.{RowsBring}
use Rattle.served_tree.specs.Order as order
use Rattle.served_tree.specs.Order.{next_served}
use Rattle.served_tree.specs.Parts.{parts, part_at}
use Rattle.served_tree.specs.Course.{Counts, owner, Stands, total}
use Rattle.served_tree.specs.Orders.{IsServable}
use Rattle.served_tree.proofs.Counting.{bump, found-in, total-bump}
use Rattle.served_tree.proofs.Through.{serve-is}
use Rattle.served_tree.proofs.Placing.{size-is}
use Rattle.served_tree.proofs.Whole.{works}
use Rattle.tree_mail.specs.declared.message.Message as code
use Rattle.tree_mail.specs.declared.message.Served.{Served}
use Rattle.tree_mail.specs.declared.mail.Mail.{Mail}
use Rattle.tree_mail.specs.declared.tables.Tables.{Tables}
use Rattle.tree_messages.specs.Due.{due_at}
use Rattle.tree_mail.specs.Notes.{notes_of}
use Rattle.tree_mail.specs.Mail.{message_in, messages_in, all_kept, served_by_tables, served_of}
use Rattle.tree_messages.specs.Changes.{Changing, changing_of_mail, Transits, Changes}
use Rattle.tree_messages.specs.Ready.{CanAsk, CanTransit, CanServe}
use Rattle.tree_serve.specs.Processing.{Processing, tree_on}
use Rattle.tree_serve.specs.InCycle.{Lies, LeavesLie, InCycle}
use Rattle.tree_serve.specs.Calls.{Serves}
use Rattle.tree_serve.specs.Holds.{seen_as, IsServed, AreKept, InService, HoldsAt, HoldsServed}
use Rattle.tree_serve.proofs.Entries.{many, processor-at, leaf-of, told-same}
use Rattle.tree_serve.proofs.Bounds.{IsBelow, takes-few}
use Rattle.tree_serve.proofs.Staying.{collect-waits, transition-waits, waits, then-stands}
use Rattle.tree_serve.proofs.Within.{IsLeaf, as-leaf}
use Rattle.tree_serve.proofs.Went.{Went}
use Rattle.tree_serve.proofs.Asked.{asked-went}
use Rattle.tree_serve.proofs.Gave.{within as gave-within, parent-waits as gave-waits, gave-went}
use Rattle.tree_serve.proofs.Passed.{can-pass, passed-went}
use Rattle.tree_serve.proofs.MovedOn.{moved-went}
use Rattle.tree_serve.proofs.Told.{within as told-within, parent-waits as told-waits, told-went}
use Rattle.tree_serve.proofs.Ending.{standing-same}

map-remove : {X Y : Type 0} (f : X → Y) (xs : List X) (n : ℕ)
    → map f (remove xs n) ≡ remove (map f xs) n
map-remove f [] zero = refl
map-remove f [] (suc n) = refl
map-remove f (x ∷ xs) zero = refl
map-remove f (x ∷ xs) (suc n) = ap (λ l. f x ∷ l) (map-remove f xs n)

chosen-is : (at : _) (v : Service) (number : ℕ) (m : Message)
    → slice_get v.waiting (number % length v.waiting) ≡ Some m
    → next_served at v number ≡ Some (order.served_by at m)
chosen-is at v number m is =
    ap (λ (o : Option Message). elim o [ None ↦ None | Some k ↦ Some (order.served_by at k) ]) is

module _ (brings : RowsBring) (undue : UndueAreQuiet) (alike : BecomesTheSame) (leaves : Seated)
    (tables : Tables) (events : List Event) (end limit : ℕ) (last : Option ℕ) (count : ℕ)
    (stopped : Option Stop) (due : List (Option ℕ)) (instant : Option ℕ) (inputs : Bag) (mail : Mail)
    (holds : HoldsServed (seen_as leaves tables events end limit last count stopped due instant inputs mail) tables mail)
    (t : ℕ) (instant_is : instant ≡ Some t) where
  abbrev p : Processing
  p = seen_as leaves tables events end limit last count stopped due instant inputs mail

  abbrev tree : Tree
  tree = tree_at leaves.model leaves.settings

  abbrev entries : List Entry
  entries = tables.entries.items

  are : map station_in tables.entries.items ≡ stations (tree_at leaves.model leaves.settings)
  are = holds.served.tables_are.entries

  in-service : InService p t tables mail
  in-service = subst (λ o. HoldsAt o p tables mail) instant_is holds.at

  module _ (msg : code.Message) (place : ℕ) (is : slice_get mail.waiting place ≡ Some msg)
      (rest : List code.Message) (rest_is : rest ≡ remove mail.waiting place) where
    abbrev mid : Mail
    mid = record { waiting = rest; kept = mail.kept }

    abbrev old : Changing
    old = changing_of_mail (record { waiting = rest; kept = mail.kept }) leaves due

    abbrev m : Message
    m = message_in msg

    waits-there : slice_get (messages_in mail.waiting) place ≡ Some (message_in msg)
    waits-there = slice_get-map message_in mail.waiting place ∙ ap (λ (o : Option code.Message). option_map message_in o) is

    -- ---- it can be served

    module _ (s : RunState) (many-served : ℕ) (cycle : InCycle s t many-served p) where
      abbrev c : Counts
      c = cycle.way.0

      stands : Stands (processors tree) (part_at (parts tree t s)) c (record { waiting = messages_in mail.waiting; kept = all_kept leaves.states tables.entries.items (notes_of mail.kept.items) })
      stands = cycle.way.1

      held : AreKept leaves.states tables.entries.items (notes_of mail.kept.items)
      held = in-service.kept

      module _ (n : ℕ) (e : Entry) (e-is : slice_get tables.entries.items n ≡ Some e) (l : ℕ) (l-is : e.leaf ≡ Some l) where
        q : (x : Processor) × (slice_get (processors tree) n ≡ Some x) × (station_of (processors tree) x ≡ station_in e)
        q = processor-at tree tables.entries.items are n e e-is

        number-is : leaf_number q.0.node ≡ Some l
        number-is = sym (leaf-of tree tables.entries.items are e q.0 (sym q.2)) ∙ l-is

        a-leaf : IsLeaf tree t s cycle.servable n l q.0
        a-leaf = as-leaf tree t s cycle.servable n l q.0 q.1 number-is

        lay : Lies t (leaf_of s.leaf_states l) (part_at (parts tree t s) n).becomes (c n) (leaf_of leaves.states l) (due_at due l)
        lay = cycle.leaves n l q.0 q.1 number-is

      ready-ask : (n : ℕ) → slice_get (messages_in mail.waiting) place ≡ Some (collect n) → CanAsk tables.entries.items n old
      ready-ask n waiting =
          let w = collect-waits (instant_of tree t s) (part_at (parts tree t s)) (works tree t s cycle.servable) c (record { waiting = messages_in mail.waiting; kept = all_kept leaves.states tables.entries.items (notes_of mail.kept.items) }) stands n place waiting in
          record {
            within = let a = w.0 in let b = many tree tables.entries.items are in omega (arith, a, b);
            inside = λ e l e-is l-is. let a = (a-leaf n e e-is l l-is).within in let b = cycle.due_long in omega (arith, a, b);
            due = λ e l e-is l-is.
                let at-first : Lies t (leaf_of s.leaf_states l) (part_at (parts tree t s) n).becomes 0 (leaf_of leaves.states l) (due_at due l) =
                subst (λ k. Lies t (leaf_of s.leaf_states l) (part_at (parts tree t s) n).becomes k (leaf_of leaves.states l) (due_at due l)) w.1 (lay n e e-is l l-is) in
                at-first.1 ∙ ap leaf_next (sym at-first.0);
          }

      ready-move : (n : ℕ) (bag : Bag) (woken : Bool) → slice_get (messages_in mail.waiting) place ≡ Some (transition n bag woken)
          → CanTransit leaves.model tables.entries.items tables.spaces.items t n bag old
      ready-move n bag woken waiting =
          let w = transition-waits (instant_of tree t s) (part_at (parts tree t s)) (works tree t s cycle.servable) c (record { waiting = messages_in mail.waiting; kept = all_kept leaves.states tables.entries.items (notes_of mail.kept.items) }) stands n place bag woken waiting in
          let long = many tree tables.entries.items are in
          record {
            within = let a = w.0 in omega (arith, a, long);
            kept = let a = w.0 in let b = held.long in omega (arith, a, b, long);
            leaf = λ e l e-is l-is.
                let me = a-leaf n e e-is l l-is in
                let few = takes-few tree t s n l (q n e e-is l l-is).0 me.leaf (q n e e-is l l-is).1 me.node in
                record {
                  time = let a = in-service.begun.within in let b = holds.served.counts.end_is in omega (arith, a, b);
                  within = let a = me.within in let b = cycle.states_long in omega (arith, a, b);
                  inside = let a = me.within in let b = cycle.due_long in omega (arith, a, b);
                  ports =
                      subst (λ (o : Option Leaf). All (IsBelow (input_count o)) bag) (sym me.there)
                      (subst (All (IsBelow (input_count (Some me.leaf)))) (sym w.2) few);
                };
            inner = λ e e-is none.
                let x = processor-at tree tables.entries.items are n e e-is in
                can-pass leaves.model leaves.settings t s cycle.servable tables.entries.items are tables.spaces.items holds.served.tables_are.spaces n x.0 x.1 e (sym x.2) none;
          }

      ready-by : (k : Message) → slice_get (messages_in mail.waiting) place ≡ Some k
          → CanServe leaves.model tables.entries.items tables.spaces.items t k old
      ready-by (collect n) waiting = ready-ask n waiting
      ready-by (output n bag) waiting =
          record {
            kept = gave-within tree t s cycle.servable tables.entries.items are brings c (messages_in mail.waiting) old stands cycle.leaves held n place bag waiting;
            waits = gave-waits tree t s cycle.servable tables.entries.items are brings c (messages_in mail.waiting) old stands cycle.leaves held n place bag waiting;
          }
      ready-by (transition n bag woken) waiting = ready-move n bag woken waiting
      ready-by (done n next stop) waiting =
          record {
            kept = told-within tree t s cycle.servable tables.entries.items are c (messages_in mail.waiting) old stands cycle.leaves held n place next stop waiting;
            waits = told-waits tree t s cycle.servable tables.entries.items are c (messages_in mail.waiting) old stands cycle.leaves held n place next stop waiting;
          }

      -- ---- and what it makes of the cycle

      went-by : (k : Message) → slice_get (messages_in mail.waiting) place ≡ Some k → (new : Changing)
          → Changes leaves.model tables.entries.items tables.spaces.items t inputs k old new
          → Went tree t s cycle.servable tables.entries.items are k c old new
      went-by (collect n) waiting new asks =
          asked-went tree t s cycle.servable tables.entries.items are undue cycle.at_instant c (messages_in mail.waiting) old new stands cycle.leaves held cycle.states_long n place waiting asks
      went-by (output n bag) waiting new gives =
          gave-went tree t s cycle.servable tables.entries.items are brings c (messages_in mail.waiting) old stands cycle.leaves held n place bag waiting inputs cycle.inputs new gives
      went-by (transition n bag woken) waiting new transits =
          let w = transition-waits (instant_of tree t s) (part_at (parts tree t s)) (works tree t s cycle.servable) c (record { waiting = messages_in mail.waiting; kept = all_kept leaves.states tables.entries.items (notes_of mail.kept.items) }) stands n place bag woken waiting in
          let e = found-in tables.entries.items n (let a = w.0 in let long = many tree tables.entries.items are in omega (arith, a, long)) in
          by e.0 e.1 e.0.leaf refl (transits e.0 e.1)
        where
          by : (e : Entry) → slice_get tables.entries.items n ≡ Some e → (o : Option ℕ) → e.leaf ≡ o
              → Transits leaves.model tables.entries.items tables.spaces.items t n bag woken e e.leaf old new
              → Went tree t s cycle.servable tables.entries.items are (transition n bag woken) c old new
          by e e-is None none h =
              passed-went leaves.model leaves.settings t s cycle.servable tables.entries.items are tables.spaces.items holds.served.tables_are.spaces brings c (messages_in mail.waiting) old stands cycle.leaves held n place bag woken waiting e e-is none new
              (subst (λ o. Transits leaves.model tables.entries.items tables.spaces.items t n bag woken e o old new) none h)
          by e e-is (Some l) some h =
              moved-went tree t s cycle.servable tables.entries.items are undue alike cycle.at_instant c (messages_in mail.waiting) old refl stands cycle.leaves held cycle.states_long cycle.due_long n place bag woken waiting e e-is l some new
              (subst (λ o. Transits leaves.model tables.entries.items tables.spaces.items t n bag woken e o old new) some h)
      went-by (done n next stop) waiting new answers =
          told-went tree t s cycle.servable tables.entries.items are c (messages_in mail.waiting) old stands cycle.leaves held n place next stop waiting new answers

    -- it can be served
    pub ready : CanServe leaves.model tables.entries.items tables.spaces.items t (message_in msg) (changing_of_mail (record { waiting = rest; kept = mail.kept }) leaves due)
    ready = ready-by in-service.state in-service.many in-service.cycle (message_in msg) waits-there

    module _ (number : ℕ) (place_is : place ≡ number % length mail.waiting) (leaves' : Seated)
        (due' : List (Option ℕ)) (mail' : Mail)
        (changes : Changes leaves.model tables.entries.items tables.spaces.items t inputs (message_in msg) (changing_of_mail (record { waiting = rest; kept = mail.kept }) leaves due) (changing_of_mail mail' leaves' due'))
        (stays : StaysAs leaves leaves') (served : Served)
        (told : served_of served ≡ served_by_tables tables.entries.items (message_in msg)) where
      abbrev p' : Processing
      p' = seen_as leaves' tables events end limit last count stopped due' instant inputs mail'

      keeps-model : Keeps p.standing p'.standing
      keeps-model = record { model = stays.model; settings = stays.settings; end = refl; limit = refl }

      tree-same : tree_on p' ≡ tree
      tree-same = λ i. tree_at (stays.model i) (stays.settings i)

      module _ (s : RunState) (many-served : ℕ) (cycle : InCycle s t many-served p) where
        went : Went tree t s cycle.servable tables.entries.items are (message_in msg) cycle.way.0 old (changing_of_mail mail' leaves' due')
        went = went-by s many-served cycle (message_in msg) waits-there (changing_of_mail mail' leaves' due') changes

        others : messages_in rest ≡ remove (messages_in mail.waiting) place
        others = ap messages_in rest_is ∙ map-remove message_in mail.waiting place

        service-is : p'.service ≡ serves (instant_of tree t s) (message_in msg) (remove (messages_in mail.waiting) place) p.service.kept
        service-is = λ i. record {
          waiting = (went.puts ∙ ap (λ ms. ms ++ causes (instant_of tree t s) (keeps (instant_of tree t s) (message_in msg) p.service.kept) (message_in msg)) others) i;
          kept = went.kept i;
        }

        place-same : number % length (messages_in mail.waiting) ≡ place
        place-same = ap (λ k. number % k) (length-map mail.waiting message_in) ∙ sym place_is

        chosen-there : slice_get (messages_in mail.waiting) (number % length (messages_in mail.waiting)) ≡ Some (message_in msg)
        chosen-there = ap (slice_get (messages_in mail.waiting)) place-same ∙ waits-there

        owner-within : owner (message_in msg) < length (processors tree)
        owner-within =
            (waits (instant_of tree t s) (part_at (parts tree t s)) (works tree t s cycle.servable) cycle.way.0 p.service (stands s many-served cycle) place (message_in msg) waits-there).0

        abbrev counts : Counts
        counts = bump cycle.way.0 (owner (message_in msg))

        stands-now : Stands (processors tree) (part_at (parts tree t s)) counts p'.service
        stands-now =
            subst (Stands (processors tree) (part_at (parts tree t s)) counts) (sym service-is)
            (then-stands (instant_of tree t s) (part_at (parts tree t s)) (works tree t s cycle.servable) cycle.way.0 p.service (stands s many-served cycle) place (message_in msg) waits-there)

        total-now : total counts (size tree) ≡ suc many-served
        total-now =
            let long = size-is tree 0 (size tree) 0 in
            let within = owner-within in
            total-bump cycle.way.0 (owner (message_in msg)) (size tree) (omega (arith, long, within)) ∙ ap suc cycle.way.2

        cycle-now : InCycle s t (suc many-served) p'
        cycle-now =
            record {
              instant = cycle.instant;
              at_instant = cycle.at_instant;
              next = ap next_of_run (standing-same p p' s keeps-model) ∙ cycle.next ∙ ap (λ x. cycled_at x t s) (sym tree-same);
              goes = cycle.goes;
              inputs = cycle.inputs ∙ ap (λ x. (instant_of x t s).events) (sym tree-same);
              events = cycle.events;
              last = cycle.last;
              count = cycle.count;
              servable = subst (λ x. IsServable x s.leaf_states) (sym tree-same) cycle.servable;
              way = (
                counts,
                subst (λ x. Stands (processors x) (part_at (parts x t s)) counts p'.service) (sym tree-same) stands-now,
                ap (λ x. total counts (size x)) tree-same ∙ total-now,
              );
              states_long = went.states_long ∙ cycle.states_long;
              due_long = went.due_long ∙ cycle.due_long;
              leaves = subst (λ x. LeavesLie x t s counts leaves'.states due') (sym tree-same) went.leaves;
            }

        serves-now : Serves s t many-served number p served p'
        serves-now =
            record {
              keeps = keeps-model;
              told =
                  chosen-is (instant_of tree t s) p.service number (message_in msg) chosen-there
                  ∙ ap Some (sym (told ∙ told-same tree tables.entries.items are (instant_of tree t s) (message_in msg) refl));
              service =
                  service-is
                  ∙ ap (λ k. serves (instant_of tree t s) (message_in msg) (remove (messages_in mail.waiting) k) p.service.kept) (sym place-same)
                  ∙ sym (serve-is (instant_of tree t s) p.service number (message_in msg) chosen-there);
              cycle = cycle-now;
            }

      -- in each cycle in which the run is
      pub serves-all : (s : RunState) (t2 many-served : ℕ) → InCycle s t2 many-served p → Serves s t2 many-served number p served p'
      serves-all s t2 many-served cycle =
          let both : ◌≡◌ {A = Option ℕ} (Some t) (Some t2) = sym instant_is ∙ cycle.instant in
          let same : t ≡ t2 = cc in
          subst (λ k. Serves s k many-served number p served p') same
          (serves-now s many-served (subst (λ k. InCycle s k many-served p) (sym same) cycle))

      -- and it holds of the run what is to hold
      pub holds-on : HoldsServed p' tables mail'
      holds-on =
          let begun = in-service.begun in
          record {
            served = subst (λ x. IsServed x tables end limit count) (sym tree-same) holds.served;
            at = subst (λ o. HoldsAt o p' tables mail') (sym instant_is) (record {
              state = in-service.state;
              many = suc in-service.many;
              cycle = cycle-now in-service.state in-service.many in-service.cycle;
              begun = record {
                fits = subst (λ x. FitsTree x in-service.state.leaf_states) (sym tree-same) begun.fits;
                within = begun.within;
                few = begun.few;
              };
              at_inputs = subst (λ (x : Tree). AreAtInputs (ins_of x) events) (sym tree-same) in-service.at_inputs;
              kept = (went in-service.state in-service.many in-service.cycle).held;
            });
          }
