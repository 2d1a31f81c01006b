-- A cycle ends: the run stands where the reference run stands behind it, or has its stop.
use Rattle.std.proofs.Common.{◌≡◌, inl, inr, ℕ, zero, suc, ◌+◌, ◌*◌, ◌<◌, ◌≤◌, Option, Some, None, List, [], map, length, refl, sym, ◌∙◌, ap, subst, arith}
use Rattle.std.specs.Prelude.{if◌then◌else◌}
use Rattle.std.proofs.lemmas.Bool.{cases_eq}
use Rattle.std.proofs.lemmas.List.{length-map}
use Rattle.std.specs.declared.result.Result.TheVariants.{Ok, Err}
use Rattle.rule_tree.specs.declared.outcome.RuleStop.{RuleStop}
use Rattle.rule_tree.specs.declared.outcome.RuleStop.TheVariants as rules
use Rattle.atomic_face.specs.Classes.{Bag, is_at}
use Rattle.event_list.specs.Events.{Event}
use Rattle.model_tree.specs.Tree.{Tree}
use Rattle.run_model.specs.Cycle.{all_after, leaf_next}
use Rattle.run_model.specs.Fitting.{FitsTree, CycleFits}
use Rattle.run_model.specs.Run.{RunState, ended, cycled, stop, unless_stop, state_after, cycles_at}
use Rattle.text_forms.specs.declared.records.Records.{Records}
use Rattle.text_forms.specs.Held.{Holds, AreEmpty}
use Rattle.run_model.specs.declared.stop.Stop.{Stop}
use Rattle.run_model.specs.Stopping.{stop_of_rules}
use Rattle.run_leaves.specs.Standing.{Standing, next_of_run}
use Rattle.run_leaves.specs.Steps.{Keeps, Steps}
use Rattle.run_leaves.specs.Seated.{Seated, tree_at}
use Rattle.served_tree.specs.Processors.{Processor, size, processors}
use Rattle.served_tree.specs.Service.{Service, StoppedLeaf, Kept, instant_of, child_answer}
use Rattle.served_tree.specs.KeptCycle.{of_leaves}
use Rattle.served_tree.specs.Parts.{Part, parts, part_at}
use Rattle.served_tree.specs.Course.{Counts, Stands, parent_in}
use Rattle.served_tree.specs.Orders.{EachServes}
use Rattle.served_tree.proofs.Counting.{most-child, total-most}
use Rattle.served_tree.proofs.Placing.{size-is}
use Rattle.tree_mail.specs.declared.mail.Mail.{Mail}
use Rattle.tree_mail.specs.declared.tables.Tables.{Tables}
use Rattle.tree_mail.specs.Notes.{Note, note_of, notes_of}
use Rattle.tree_mail.specs.Mail.{messages_in, all_kept}
use Rattle.tree_mail.specs.Recorded.{cycle_by, HoldsOrStops, stop_in}
use Rattle.tree_serve.specs.Processing.{Processing, standing_at}
use Rattle.tree_serve.specs.InCycle.{InCycle}
use Rattle.tree_serve.specs.Calls.{IsBetween, FinishesBy}
use Rattle.tree_serve.specs.Holds.{seen_as, IsServed, InService, HoldsAt, HoldsServed}
use Rattle.tree_serve.proofs.Keeping.{none-kept}
use Rattle.tree_serve.proofs.Finished.{states-are, due-are, cycle-is, stop-same}

-- nothing waits and nothing is kept
pub nothing-kept : (leaves : Seated) (tables : Tables) (events : List Event) (end limit : ℕ) (last : Option ℕ)
    (count : ℕ) (stopped : Option Stop) (due : List (Option ℕ)) (inputs : Bag) (mail : Mail)
    → mail.waiting ≡ [] → mail.kept.items ≡ []
    → IsBetween (seen_as leaves tables events end limit last count stopped due None inputs mail)
nothing-kept leaves tables events end limit last count stopped due inputs mail waits kept =
    record {
      instant = refl;
      service = λ i. record {
        waiting = ap messages_in waits i;
        kept = (ap (λ ks. all_kept leaves.states tables.entries.items (notes_of ks)) kept ∙ none-kept leaves.states tables.entries.items) i;
      };
    }

-- a run that stopped keeps what it needs of its model
pub stopped-holds : (leaves leaves' : Seated) (tables : Tables) (events events' : List Event) (end limit : ℕ)
    (last : Option ℕ) (count : ℕ) (stopped : Option Stop) (why : Stop) (due due' : List (Option ℕ))
    (instant : Option ℕ) (inputs inputs' : Bag) (mail mail' : Mail)
    → HoldsServed (seen_as leaves tables events end limit last count stopped due instant inputs mail) tables mail
    → leaves'.model ≡ leaves.model → leaves'.settings ≡ leaves.settings
    → mail'.waiting ≡ [] → mail'.kept.items ≡ []
    → HoldsServed (seen_as leaves' tables events' end limit last count (Some why) due' None inputs' mail') tables mail'
stopped-holds leaves leaves' tables events events' end limit last count stopped why due due' instant inputs inputs' mail mail' holds model settings waits kept =
    record {
      served = subst (λ x. IsServed x tables end limit count) (λ i. tree_at (sym model i) (sym settings i)) holds.served;
      at = record { nothing_waits = waits; nothing_kept = kept; at_rest = λ goes. absurd cc };
    }

-- ---- counts

lt-by : (a b : ℕ) → a ≤ b → (a ≡ b → ⊥) → a < b
lt-by zero zero le other = absurd (other refl)
lt-by zero (suc b) le other = omega arith
lt-by (suc a) zero le other = absurd (omega (arith, le))
lt-by (suc a) (suc b) le other =
    let h = lt-by a b (omega (arith, le)) (λ e. other (ap suc e)) in
    omega (arith, h)

-- four messages of each processor at most were served
at-most : (ps : List Processor) (part : ℕ → Part) (c : Counts) (v : Service) → Stands ps part c v
    → (n : ℕ) → n < length ps → c n ≤ 4
at-most ps part c v stands zero lt = stands.top
at-most ps part c v stands (suc n) lt =
    most-child (c (parent_in ps (suc n))) (c (suc n)) (stands.in_step (parent_in ps (suc n)) (suc n) (omega arith, lt, refl))

-- ---- a stop of a leaf, as that of a run

stops-by : (s : Standing) (l t : ℕ) (why : RuleStop) (s' : Standing) (records : Records)
    → next_of_run s ≡ ended (stop l t why) → AreEmpty records → Keeps s s'
    → s'.stopped ≡ Some (stop_of_rules l t why)
    → Steps s (Err (stop_of_rules l t why)) s' records
stops-by s l t rules.NoTrueRule s' records next empty keeps stopped = record { next = next; empty = empty; keeps = keeps; stopped = stopped }
stops-by s l t rules.Overflow s' records next empty keeps stopped = record { next = next; empty = empty; keeps = keeps; stopped = stopped }
stops-by s l t (rules.BadDelay delay) s' records next empty keeps stopped = record { next = next; empty = empty; keeps = keeps; stopped = stopped }

module _ (each : EachServes) (leaves : Seated) (tables : Tables) (events : List Event) (end limit : ℕ)
    (last : Option ℕ) (count : ℕ) (stopped : Option Stop) (due : List (Option ℕ)) (instant : Option ℕ) (inputs : Bag)
    (mail : Mail)
    (holds : HoldsServed (seen_as leaves tables events end limit last count stopped due instant inputs mail) tables mail)
    (t : ℕ) (instant_is : instant ≡ Some t) (goes : stopped ≡ None) where
  abbrev p : Processing
  p = seen_as leaves tables events end limit last count stopped due instant inputs mail

  abbrev tree : Tree
  tree = tree_at leaves.model leaves.settings

  abbrev notes : List Note
  notes = notes_of mail.kept.items

  in-service : InService p t tables mail
  in-service = subst (λ o. HoldsAt o p tables mail) instant_is holds.at

  abbrev kept : List Kept
  kept = all_kept leaves.states tables.entries.items (notes_of mail.kept.items)

  -- as many entries as notes
  pub all-kept : length tables.entries.items ≤ length mail.kept.items
  all-kept = let a = in-service.kept.long in let b = length-map mail.kept.items note_of in omega (arith, a, b)

  module _ (s : RunState) (cycle : InCycle s t (4 * size tree) p) where
    same-stop : stop_in notes ≡ (child_answer kept 0).1
    same-stop = stop-same tree t s cycle.servable tables.entries.items holds.served.tables_are.entries leaves.states due notes (messages_in mail.waiting) cycle.way cycle.leaves in-service.kept cycle.states_long cycle.due_long

    -- what comes of the cycle
    next-so : next_of_run (standing_at p s) ≡ unless_stop t (stop_in notes) (cycle_by t tables.entries.items notes) (state_after t s (of_leaves (λ k. k.became) (instant_of tree t s) kept))
    next-so =
        cycle.next ∙ sym (each.cycle tree t s p.service cycle.servable cycle.way)
        ∙ (λ i. unless_stop t (sym same-stop i) (cycle-is tree t s cycle.servable tables.entries.items holds.served.tables_are.entries leaves.states due notes (messages_in mail.waiting) cycle.way cycle.leaves in-service.kept cycle.states_long cycle.due_long i) (state_after t s (of_leaves (λ k. k.became) (instant_of tree t s) kept)))

    module _ (none : stop_in notes ≡ None) where
      states-so : leaves.states ≡ all_after s.leaf_states (of_leaves (λ k. k.became) (instant_of tree t s) kept)
      states-so = states-are tree t s cycle.servable tables.entries.items holds.served.tables_are.entries leaves.states due notes (messages_in mail.waiting) cycle.way cycle.leaves in-service.kept cycle.states_long cycle.due_long (sym same-stop ∙ none)

      due-so : due ≡ map leaf_next leaves.states
      due-so = due-are tree t s cycle.servable tables.entries.items holds.served.tables_are.entries leaves.states due notes (messages_in mail.waiting) cycle.way cycle.leaves in-service.kept cycle.states_long cycle.due_long (sym same-stop ∙ none)

      cycled-so : next_of_run (standing_at p s) ≡ cycled (cycle_by t tables.entries.items notes) (state_after t s (of_leaves (λ k. k.became) (instant_of tree t s) kept))
      cycled-so = next-so ∙ ap (λ o. unless_stop t o (cycle_by t tables.entries.items notes) (state_after t s (of_leaves (λ k. k.became) (instant_of tree t s) kept))) none

      -- where the run stands then
      state-so : (count' : ℕ) → count' ≡ (if is_at t last then count else 0) + 1
          → state_after t s (of_leaves (λ k. k.became) (instant_of tree t s) kept) ≡ record { leaf_states = leaves.states; events = events; last = Some t; count = count' }
      state-so count' is = λ i. record {
        leaf_states = sym states-so i;
        events = sym cycle.events i;
        last = Some t;
        count = ((λ j. (if is_at t (sym cycle.last j) then sym cycle.count j else 0) + 1) ∙ sym is) i;
      }

  -- one instant is served
  same-instant : (s : RunState) (t2 many : ℕ) → InCycle s t2 many p → t2 ≡ t
  same-instant s t2 many cycle =
      let both : ◌≡◌ {A = Option ℕ} (Some t2) (Some t) = sym cycle.instant ∙ instant_is in
      cc

  at-once : (s : RunState) (t2 : ℕ) → InCycle s t2 (4 * size tree) p → InCycle s t (4 * size tree) p
  at-once s t2 cycle = subst (λ k. InCycle s k (4 * size tree) p) (same-instant s t2 (4 * size tree) cycle) cycle

  -- ---- the cycle

  module _ (waiting_none : mail.waiting ≡ []) (none : stop_in notes ≡ None) (mail' : Mail) (count' : ℕ)
      (counts : count' ≡ (if is_at t last then count else 0) + 1) (waits : mail'.waiting ≡ [])
      (kept-none : mail'.kept.items ≡ []) where
    abbrev p' : Processing
    p' = seen_as leaves tables events end limit (Some t) count' stopped due None inputs mail'

    -- all messages of the cycle were served
    all-served : in-service.many ≡ 4 * size tree
    all-served =
        let way = in-service.cycle.way in
        let most = total-most way.0 (size tree) (λ n lt. at-most (processors tree) (part_at (parts tree t in-service.state)) way.0 p.service way.1 n (omega (arith, lt, size-is tree 0 (size tree) 0))) in
        elim (cases_eq in-service.many (4 * size tree)) [
          | inl e ↦ e
          | inr other ↦
              let one = each.waits tree t in-service.state in-service.many p.service in-service.cycle.servable way (lt-by in-service.many (4 * size tree) (omega (arith, most, way.2)) other) in
              let zero-there : length (messages_in mail.waiting) ≡ 0 = ap (λ ms. length (messages_in ms)) waiting_none in
              absurd (omega (arith, one, zero-there))
        ]

    whole : InCycle in-service.state t (4 * size tree) p
    whole = subst (λ k. InCycle in-service.state t k p) all-served in-service.cycle

    pub finishes : (records : Records) → Holds records (cycle_by t tables.entries.items notes) → FinishesBy p (Ok t) p' records
    finishes records records_are s t2 cycle =
        let here = at-once s t2 cycle in
        record {
          cycle = cycle_by t tables.entries.items notes;
          next = cycled-so s here none ∙ ap (cycled (cycle_by t tables.entries.items notes)) (state-so s here none count' counts);
          time = refl;
          records_are = records_are;
          keeps = record { model = refl; settings = refl; end = refl; limit = refl };
          goes_on = goes;
        }

    fits-on : CycleFits → FitsTree tree leaves.states
    fits-on fit =
        subst (λ (x : RunState). FitsTree tree x.leaf_states) (state-so in-service.state whole none count' counts)
        (fit tree end limit in-service.state (state_after t in-service.state (of_leaves (λ k. k.became) (instant_of tree t in-service.state) kept)) (cycle_by t tables.entries.items notes) in-service.begun.fits (cycled-so in-service.state whole none)).1

    few-so : count' ≤ limit
    few-so =
        let few = in-service.begun.few in
        let same : ◌≡◌ {A = ℕ} (if is_at t last then count else 0) (cycles_at t in-service.state) =
        λ i. if is_at t (in-service.cycle.last i) then in-service.cycle.count i else 0 in
        omega (arith, few, same, counts)

    pub finished-holds : CycleFits → HoldsServed p' tables mail'
    finished-holds fit =
        record {
          served = record {
            tables_are = holds.served.tables_are;
            sound = holds.served.sound;
            ports = holds.served.ports;
            counts = record { end_is = holds.served.counts.end_is; few = few-so; some = holds.served.counts.some };
          };
          at = record {
            nothing_waits = waits;
            nothing_kept = kept-none;
            at_rest = λ goes. record { at_inputs = in-service.at_inputs; fits = fits-on fit; due_are = due-so in-service.state whole none };
          };
        }

  -- ---- a stop, and no memory

  module _ (why : Stop) (mail' : Mail) (old records : Records) (empty : AreEmpty records) where
    abbrev stood : Processing
    stood = seen_as leaves tables events end limit last count (Some why) due None inputs mail'

    keeps-on : (s : RunState) → Keeps (standing_at p s) stood.standing
    keeps-on s = record { model = refl; settings = refl; end = refl; limit = refl }

    by-first : (U : Type 0) (first : StoppedLeaf) → stop_in notes ≡ first → HoldsOrStops {U = U} t tables.entries.items notes first (Err why) old
        → FinishesBy p (Err why) stood records
    by-first U None is ends s t2 cycle =
        subst (λ (w : Stop). Steps (standing_at p s) (Err w) stood.standing records) (sym ends) (keeps-on s, ap Some ends, empty)
    by-first U (Some f) is ends s t2 cycle =
        subst (λ (w : Stop). Steps (standing_at p s) (Err w) stood.standing records) (sym ends)
        (stops-by (standing_at p s) f.0 t f.1 stood.standing records
        (next-so s (at-once s t2 cycle) ∙ ap (λ o. unless_stop t o (cycle_by t tables.entries.items notes) (state_after t s (of_leaves (λ k. k.became) (instant_of tree t s) kept))) is)
        empty (keeps-on s) (ap Some ends))

    pub finishes-stopped : (U : Type 0) → HoldsOrStops {U = U} t tables.entries.items notes (stop_in notes) (Err why) old
        → FinishesBy p (Err why) stood records
    finishes-stopped U ends = by-first U (stop_in notes) refl ends

  -- the records tell of the cycle only where no leaf stopped
  pub no-stop : (U : Type 0) (u : U) (records : Records) (first : StoppedLeaf)
      → HoldsOrStops {U = U} t tables.entries.items notes first (Ok u) records
      → (first ≡ None) × Holds records (cycle_by t tables.entries.items notes)
  no-stop U u records None ends = (refl, ends)
  no-stop U u records (Some f) ends = absurd ends
