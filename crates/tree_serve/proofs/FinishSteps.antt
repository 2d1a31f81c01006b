-- What the end of a cycle answers, from the parts of a run.
use Rattle.std.proofs.Common.{◌≡◌, ℕ, ◌+◌, ◌<◌, ◌≤◌, Option, Some, None, List, [], ◌∷◌, map, length, refl, sym, ◌∙◌, ap, subst, arith}
use Rattle.std.specs.Prelude.{if◌then◌else◌}
use Rattle.std.specs.declared.result.Result.{Result}
use Rattle.std.specs.declared.result.Result.TheVariants.{Ok, Err}
use Rattle.std.proofs.lemmas.List.{length-map}
use Rattle.atomic_face.specs.Classes.{Bag, is_at}
use Rattle.event_list.specs.Events.{Event}
use Rattle.run_model.specs.Fitting.{CycleFits}
use Rattle.run_model.specs.Run.{cycles_at}
use Rattle.text_forms.specs.declared.records.Records.{Records}
use Rattle.text_forms.specs.Held.{AreEmpty}
use Rattle.run_model.specs.declared.stop.Stop.{Stop}
use Rattle.run_leaves.specs.Seated.{Seated}
use Rattle.served_tree.specs.Orders.{EachServes}
use Rattle.tree_mail.specs.declared.message.Message as code
use Rattle.tree_mail.specs.declared.mail.Mail.{Mail}
use Rattle.tree_mail.specs.declared.tables.Tables.{Tables}
use Rattle.tree_mail.specs.Mail.{message_in}
use Rattle.tree_mail.specs.Notes.{note_of, notes_of}
use Rattle.tree_mail.specs.Recorded.{HoldsOrStops, stop_in}
use Rattle.tree_serve.specs.Processing.{Processing}
use Rattle.tree_serve.specs.Calls.{IsBetween, FinishesBy, Finishes}
use Rattle.tree_serve.specs.Holds.{seen_as, InService, HoldsAt, HoldsServed}
use Rattle.tree_serve.proofs.Closing.{nothing-kept, finishes, finished-holds, finishes-stopped, no-stop}

module _ (leaves : Seated) (tables : Tables) (events : List Event) (end limit : ℕ) (last : Option ℕ)
    (count : ℕ) (stopped : Option Stop) (due : List (Option ℕ)) (instant : Option ℕ) (inputs : Bag)
    (mail : Mail)
    (holds : HoldsServed (seen_as leaves tables events end limit last count stopped due instant inputs mail) tables mail)
    (now : Processing)
    (view_is : seen_as leaves tables events end limit last count stopped due instant inputs mail ≡ now)
    (goes : stopped ≡ None) where
  -- a cycle is served
  pub never-between : (now.instant ≡ None → now.standing.stopped ≡ None → ⊥) → instant ≡ None → ⊥
  never-between begun none =
      begun (sym (ap (λ (p : Processing). p.instant) view_is) ∙ none)
      (sym (ap (λ (p : Processing). p.standing.stopped) view_is) ∙ goes)

  -- the answer, by the parts
  answers-by : (result : Result ℕ Stop) (new : Processing) (records : Records)
      → FinishesBy (seen_as leaves tables events end limit last count stopped due instant inputs mail) result new records
      → IsBetween new → Finishes now.standing.stopped now result new records
  answers-by result new records finishes between =
      subst (λ (q : Processing). Finishes q.standing.stopped q result new records) view_is
      (subst (λ (w : Option Stop). Finishes w (seen_as leaves tables events end limit last count stopped due instant inputs mail) result new records) (sym goes) (finishes, between))

  module _ (t : ℕ) (some : instant ≡ Some t) where
    in-service : InService (seen_as leaves tables events end limit last count stopped due instant inputs mail) t tables mail
    in-service =
        subst (λ (o : Option ℕ). HoldsAt o (seen_as leaves tables events end limit last count stopped due instant inputs mail) tables mail) some holds.at

    -- something is kept of each processor
    pub kept-enough : length tables.entries.items ≤ length mail.kept.items
    kept-enough =
        let many = in-service.kept.long in
        let same = length-map mail.kept.items note_of in
        omega (arith, many, same)

    -- one cycle more can be counted
    pub few : (had : ℕ) → had ≡ (if is_at t last then count else 0) → had < limit
    few had had_is =
        let below = in-service.begun.few in
        let same : ◌≡◌ {A = ℕ} (if is_at t last then count else 0) (cycles_at t in-service.state) =
        λ i. if is_at t (in-service.cycle.last i) then in-service.cycle.count i else 0 in
        omega (arith, below, same, had_is)

    module _ (each : EachServes) (waits : now.service.waiting ≡ []) where
      no-waits : mail.waiting ≡ []
      no-waits =
          let none : map message_in mail.waiting ≡ [] = ap (λ (p : Processing). p.service.waiting) view_is ∙ waits in
          by mail.waiting none
        where
          by : (ms : List code.Message) → map message_in ms ≡ [] → ms ≡ []
          by [] e = refl
          by (m ∷ ms) e = absurd cc

      module _ (U : Type 0) (u : U) (records : Records)
          (ends : HoldsOrStops {U = U} t tables.entries.items (notes_of mail.kept.items) (stop_in (notes_of mail.kept.items)) (Ok u) records)
          (count' : ℕ) (counts : count' ≡ (if is_at t last then count else 0) + 1) (mail' : Mail)
          (waits' : mail'.waiting ≡ []) (kept' : mail'.kept.items ≡ []) where
        pub cycle-finishes : Finishes now.standing.stopped now (Ok t) (seen_as leaves tables events end limit (Some t) count' stopped due None inputs mail') records
        cycle-finishes =
            let told = no-stop each leaves tables events end limit last count stopped due instant inputs mail holds t some goes U u records (stop_in (notes_of mail.kept.items)) ends in
            answers-by (Ok t) (seen_as leaves tables events end limit (Some t) count' stopped due None inputs mail') records
            (finishes each leaves tables events end limit last count stopped due instant inputs mail holds t some goes no-waits told.0 mail' count' counts waits' kept' records told.1)
            (nothing-kept leaves tables events end limit (Some t) count' stopped due inputs mail' waits' kept')

        pub cycle-holds : CycleFits → HoldsServed (seen_as leaves tables events end limit (Some t) count' stopped due None inputs mail') tables mail'
        cycle-holds fit =
            let told = no-stop each leaves tables events end limit last count stopped due instant inputs mail holds t some goes U u records (stop_in (notes_of mail.kept.items)) ends in
            finished-holds each leaves tables events end limit last count stopped due instant inputs mail holds t some goes no-waits told.0 mail' count' counts waits' kept' fit

    -- a stop
    module _ (each : EachServes) (U : Type 0) (stop : Stop) (old : Records)
        (ends : HoldsOrStops {U = U} t tables.entries.items (notes_of mail.kept.items) (stop_in (notes_of mail.kept.items)) (Err stop) old)
        (mail' : Mail) (waits' : mail'.waiting ≡ [])
        (kept' : mail'.kept.items ≡ []) (records : Records) (empty : AreEmpty records) where
      pub stop-finishes : Finishes now.standing.stopped now (Err stop) (seen_as leaves tables events end limit last count (Some stop) due None inputs mail') records
      stop-finishes =
          answers-by (Err stop) (seen_as leaves tables events end limit last count (Some stop) due None inputs mail') records
          (finishes-stopped each leaves tables events end limit last count stopped due instant inputs mail holds t some goes stop mail' old records empty U ends)
          (nothing-kept leaves tables events end limit last count (Some stop) due inputs mail' waits' kept')
