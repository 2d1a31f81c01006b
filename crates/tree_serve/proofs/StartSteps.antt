-- What the start of a cycle answers, from the parts of a run that is between two cycles.
use Rattle.std.proofs.Common.{◌≡◌, ℕ, ◌<◌, ◌≤◌, Option, Some, None, List, [], ◌∷◌, map, refl, sym, ◌∙◌, ap, subst}
use Rattle.std.specs.Prelude.{◌==◌, not, if◌then◌else◌, IfSome}
use Rattle.std.specs.List.{All, filter}
use Rattle.std.specs.declared.result.Result.{Result}
use Rattle.std.specs.declared.result.Result.TheVariants.{Ok, Err}
use Rattle.atomic_face.specs.Classes.{Bag, is_at}
use Rattle.event_list.specs.Events.{Event}
use Rattle.event_list.specs.Shown.{first_event_time}
use Rattle.run_model.specs.Run.{RunState, next_instant, ended, done}
use Rattle.quantity.specs.Times.{earlier}
use Rattle.sparse_cycle.specs.Feed.{DistinctWhereOnce, TopByNumber}
use Rattle.run_model.specs.declared.stop.Stop.{Stop}
use Rattle.run_model.specs.declared.stop.Stop.TheVariants.{TooManyCycles, Memory}
use Rattle.run_leaves.specs.Standing.{next_of_run}
use Rattle.flat_run.proofs.Instants.{first-event-of, events-later, done-where-none, done-past-end, too-many, never-done}
use Rattle.run_leaves.specs.Seated.{Seated, tree_at}
use Rattle.served_tree.specs.Service.{collect}
use Rattle.served_tree.specs.Orders.{SoundServes}
use Rattle.tree_mail.specs.declared.mail.Mail.{Mail}
use Rattle.tree_mail.specs.declared.tables.Tables.{Tables}
use Rattle.tree_mail.specs.Notes.{notes_of, fresh_note}
use Rattle.tree_mail.specs.Puts.{Puts}
use Rattle.tree_messages.specs.Starting.{least_among, AreInputsOf}
use Rattle.tree_serve.specs.declared.started.Started.{Started}
use Rattle.tree_serve.specs.declared.started.Started.TheVariants.{Cycle, Done}
use Rattle.tree_serve.specs.Processing.{Processing}
use Rattle.tree_serve.specs.Calls.{IsBetween, HasStopped, StartsBy, Starts}
use Rattle.tree_serve.specs.Holds.{seen_as, HoldsServed}
use Rattle.tree_serve.proofs.Beginning.{next-is, begins-so, begun-holds}
use Rattle.tree_serve.proofs.Closing.{nothing-kept, stopped-holds}

module _ (leaves : Seated) (tables : Tables) (events : List Event) (end limit : ℕ) (last : Option ℕ)
    (count : ℕ) (stopped : Option Stop) (due : List (Option ℕ)) (instant : Option ℕ) (inputs : Bag)
    (mail : Mail)
    (holds : HoldsServed (seen_as leaves tables events end limit last count stopped due instant inputs mail) tables mail)
    (now : Processing)
    (view_is : seen_as leaves tables events end limit last count stopped due instant inputs mail ≡ now)
    (between : IsBetween now) (goes : stopped ≡ None) where
  no-instant : instant ≡ None
  no-instant = ap (λ (p : Processing). p.instant) view_is ∙ between.instant

  abbrev p : Processing
  p = seen_as leaves tables events end limit last count None due None inputs mail

  abbrev s : RunState
  s = record { leaf_states = leaves.states; events = events; last = last; count = count }

  calm : HoldsServed (seen_as leaves tables events end limit last count None due None inputs mail) tables mail
  calm =
      subst (λ (o : Option ℕ). HoldsServed (seen_as leaves tables events end limit last count None due o inputs mail) tables mail) no-instant
      (subst (λ (w : Option Stop). HoldsServed (seen_as leaves tables events end limit last count w due instant inputs mail) tables mail) goes holds)

  seen : seen_as leaves tables events end limit last count None due None inputs mail ≡ now
  seen =
      (λ i. seen_as leaves tables events end limit last count (sym goes i) due (sym no-instant i) inputs mail) ∙ view_is

  starts-by : (result : Result Started Stop) (new : Processing)
      → StartsBy (seen_as leaves tables events end limit last count None due None inputs mail) result new
      → Starts now.standing.stopped now result new
  starts-by result new h =
      subst (λ (q : Processing). Starts q.standing.stopped q result new) seen h

  -- the next instant
  pub next-told : (event next : Option ℕ) → event ≡ first_event_time events
      → IfSome event (λ t. All (λ (e : Event). t ≤ e.time) events) → next ≡ earlier (least_among due) event
      → next ≡ next_instant (record { leaf_states = leaves.states; events = events; last = last; count = count })
  next-told event next value le is =
      next-is s due event next (calm.at.at_rest refl).due_are (first-event-of events event value le) is

  -- none, or one past the end
  pub none-due : (event next : Option ℕ) → event ≡ first_event_time events
      → IfSome event (λ t. All (λ (e : Event). t ≤ e.time) events) → next ≡ earlier (least_among due) event
      → next ≡ None → Starts now.standing.stopped now (Ok Done) now
  none-due event next value le is none =
      starts-by (Ok Done) now (done-where-none (tree_at leaves.model leaves.settings) end limit s (sym (next-told event next value le is) ∙ none), sym seen)

  pub past-end : (event next : Option ℕ) → event ≡ first_event_time events
      → IfSome event (λ t. All (λ (e : Event). t ≤ e.time) events) → next ≡ earlier (least_among due) event
      → (t : ℕ) → next ≡ Some t → end < t → Starts now.standing.stopped now (Ok Done) now
  past-end event next value le is t some past =
      starts-by (Ok Done) now (done-past-end (tree_at leaves.model leaves.settings) end limit s t (sym (next-told event next value le is) ∙ some) past, sym seen)

  -- a stop is kept
  stopped-run : (events' : List Event) (why : Stop) (inputs' : Bag) (mail' : Mail) → mail'.waiting ≡ [] → mail'.kept.items ≡ []
      → HasStopped (seen_as leaves tables events end limit last count None due None inputs mail) why (seen_as leaves tables events' end limit last count (Some why) due instant inputs' mail')
  stopped-run events' why inputs' mail' waits kept =
      subst (λ (o : Option ℕ). HasStopped p why (seen_as leaves tables events' end limit last count (Some why) due o inputs' mail')) (sym no-instant)
      (record {
        between = nothing-kept leaves tables events' end limit last count (Some why) due inputs' mail' waits kept;
        keeps = record { model = refl; settings = refl; end = refl; limit = refl };
        stopped = refl;
      })

  pub stopped-run-holds : (events' : List Event) (why : Stop) (inputs' : Bag) (mail' : Mail) → mail'.waiting ≡ [] → mail'.kept.items ≡ []
      → HoldsServed (seen_as leaves tables events' end limit last count (Some why) due instant inputs' mail') tables mail'
  stopped-run-holds events' why inputs' mail' waits kept =
      subst (λ (o : Option ℕ). HoldsServed (seen_as leaves tables events' end limit last count (Some why) due o inputs' mail') tables mail') (sym no-instant)
      (stopped-holds leaves leaves tables events events' end limit last count stopped why due due instant inputs inputs' mail mail' holds refl refl waits kept)

  pub no-memory : (events' : List Event) (inputs' : Bag) (mail' : Mail) → mail'.waiting ≡ [] → mail'.kept.items ≡ []
      → Starts now.standing.stopped now (Err Memory) (seen_as leaves tables events' end limit last count (Some Memory) due instant inputs' mail')
  no-memory events' inputs' mail' waits kept =
      starts-by (Err Memory) (seen_as leaves tables events' end limit last count (Some Memory) due instant inputs' mail') (stopped-run events' Memory inputs' mail' waits kept)

  module _ (event next : Option ℕ) (value : event ≡ first_event_time events)
      (le : IfSome event (λ t. All (λ (e : Event). t ≤ e.time) events)) (is : next ≡ earlier (least_among due) event)
      (t : ℕ) (some : next ≡ Some t) (within : t ≤ end) (had : ℕ)
      (had_is : had ≡ (if is_at t last then count else 0)) where
    at-instant : next_instant (record { leaf_states = leaves.states; events = events; last = last; count = count }) ≡ Some t
    at-instant = sym (next-told event next value le is) ∙ some

    -- as many cycles as the limit
    full : limit ≤ had → limit ≤ (if is_at t last then count else 0)
    full h = subst (λ (k : ℕ). limit ≤ k) had_is h

    pub limit-reached : limit ≤ had
        → Starts now.standing.stopped now (Err (TooManyCycles t)) (seen_as leaves tables events end limit last count (Some (TooManyCycles t)) due instant inputs mail)
    limit-reached h =
        starts-by (Err (TooManyCycles t)) (seen_as leaves tables events end limit last count (Some (TooManyCycles t)) due instant inputs mail)
        (too-many (tree_at leaves.model leaves.settings) end limit s t at-instant within (full h), stopped-run events (TooManyCycles t) inputs mail calm.at.nothing_waits calm.at.nothing_kept)

    -- the run is not done
    pub not-over : next_of_run now.standing ≡ ended done → ⊥
    not-over ends =
        never-done (tree_at leaves.model leaves.settings) end limit s t at-instant within
        (ap (λ (q : Processing). next_of_run q.standing) seen ∙ ends)

    pub limit-holds : HoldsServed (seen_as leaves tables events end limit last count (Some (TooManyCycles t)) due instant inputs mail) tables mail
    limit-holds = stopped-run-holds events (TooManyCycles t) inputs mail calm.at.nothing_waits calm.at.nothing_kept

    pub later : All (λ (e : Event). t ≤ e.time) events
    later = events-later s t at-instant

    -- the cycle begins
    module _ (sounds : SoundServes) (by-number : TopByNumber) (once : DistinctWhereOnce) (few : had < limit)
        (events' : List Event) (inputs' : Bag) (mail' : Mail) (inputs_are : AreInputsOf t events inputs')
        (events_are : events' ≡ filter (λ (e : Event). not (e.time == t)) events)
        (puts : Puts mail.waiting mail'.waiting (collect 0 ∷ []))
        (notes_are : notes_of mail'.kept.items ≡ map fresh_note tables.entries.items) where
      few-had : (if is_at t last then count else 0) < limit
      few-had = subst (λ (k : ℕ). k < limit) had_is few

      pub cycle-starts : Starts now.standing.stopped now (Ok (Cycle t)) (seen_as leaves tables events' end limit last count stopped due (Some t) inputs' mail')
      cycle-starts =
          subst (λ (w : Option Stop). Starts now.standing.stopped now (Ok (Cycle t)) (seen_as leaves tables events' end limit last count w due (Some t) inputs' mail')) (sym goes)
          (starts-by (Ok (Cycle t)) (seen_as leaves tables events' end limit last count None due (Some t) inputs' mail')
          (begins-so sounds by-number once leaves tables events end limit last count due inputs mail calm t at-instant within few-had events' inputs' mail' inputs_are events_are puts notes_are))

      pub cycle-holds : HoldsServed (seen_as leaves tables events' end limit last count stopped due (Some t) inputs' mail') tables mail'
      cycle-holds =
          subst (λ (w : Option Stop). HoldsServed (seen_as leaves tables events' end limit last count w due (Some t) inputs' mail') tables mail') (sym goes)
          (begun-holds sounds by-number once leaves tables events end limit last count due inputs mail calm t at-instant within few-had events' inputs' mail' inputs_are events_are puts notes_are)
