-- What the service of a message answers, from the parts of a run.
use Rattle.std.proofs.Common.{◌≡◌, ℕ, ◌%◌, ◌≤◌, Option, Some, None, List, [], map, length, remove, refl, sym, ap, subst, arith}
use Rattle.std.specs.Prelude.{slice_get}
use Rattle.std.specs.declared.result.Result.TheVariants.{Ok}
use Rattle.std.proofs.lemmas.List.{length-map}
use Rattle.atomic_face.specs.Classes.{Bag}
use Rattle.event_list.specs.Events.{Event}
use Rattle.sparse_cycle.specs.AnyOrder.{BecomesTheSame, UndueAreQuiet}
use Rattle.run_model.specs.declared.stop.Stop.{Stop}
use Rattle.run_model.specs.declared.stop.Stop.TheVariants.{Memory}
use Rattle.run_leaves.specs.Steps.{Keeps}
use Rattle.run_leaves.specs.Seated.{Seated}
use Rattle.run_leaves.specs.Moving.{StaysAs}
use Rattle.served_tree.specs.Rows.{RowsBring}
use Rattle.tree_mail.specs.declared.message.Message as code
use Rattle.tree_mail.specs.declared.message.Served.{Served}
use Rattle.tree_mail.specs.declared.mail.Mail.{Mail}
use Rattle.tree_mail.specs.declared.tables.Tables.{Tables}
use Rattle.tree_mail.specs.Mail.{message_in, served_by_tables, served_of}
use Rattle.tree_messages.specs.Changes.{changing_of_mail, Changes}
use Rattle.tree_serve.specs.Processing.{Processing}
use Rattle.tree_serve.specs.Calls.{HasStopped, ServesBy}
use Rattle.tree_serve.specs.Holds.{seen_as, IsCalm, HoldsAt, HoldsServed}
use Rattle.tree_serve.proofs.Turning.{serves-all}
use Rattle.tree_serve.proofs.Closing.{nothing-kept}

module _ (leaves : Seated) (tables : Tables) (events : List Event) (end limit : ℕ) (last : Option ℕ)
    (count : ℕ) (stopped : Option Stop) (due : List (Option ℕ)) (instant : Option ℕ) (inputs : Bag)
    (mail : Mail)
    (holds : HoldsServed (seen_as leaves tables events end limit last count stopped due instant inputs mail) tables mail)
    (now : Processing)
    (view_is : seen_as leaves tables events end limit last count stopped due instant inputs mail ≡ now)
  where
    -- one message waits
    pub some-wait : 1 ≤ length now.service.waiting → 1 ≤ length mail.waiting
    some-wait waits =
        let there : 1 ≤ length (map message_in mail.waiting) = subst (λ (p : Processing). 1 ≤ length p.service.waiting) (sym view_is) waits in
        let long = length-map mail.waiting message_in in
        omega (arith, there, long)

    -- so a cycle is served
    pub never-calm : 1 ≤ length now.service.waiting → instant ≡ None → ⊥
    never-calm waits none =
        let calm : IsCalm (seen_as leaves tables events end limit last count stopped due instant inputs mail) mail =
        subst (λ (o : Option ℕ). HoldsAt o (seen_as leaves tables events end limit last count stopped due instant inputs mail) tables mail) none holds.at in
        let one = some-wait waits in
        let zero-there : length mail.waiting ≡ 0 = ap length calm.nothing_waits in
        absurd (omega (arith, one, zero-there))

    -- what stays
    pub keeps-so : (leaves' : Seated) (events' : List Event) (stopped' : Option Stop) (due' : List (Option ℕ))
        (instant' : Option ℕ) (inputs' : Bag) (mail' : Mail) → StaysAs leaves leaves'
        → Keeps now.standing (seen_as leaves' tables events' end limit last count stopped' due' instant' inputs' mail').standing
    keeps-so leaves' events' stopped' due' instant' inputs' mail' stays =
        subst (λ (p : Processing). Keeps p.standing (seen_as leaves' tables events' end limit last count stopped' due' instant' inputs' mail').standing) view_is
        (record { model = stays.model; settings = stays.settings; end = refl; limit = refl })

    -- no memory
    pub stopped-run : (leaves' : Seated) (due' : List (Option ℕ)) (mail' : Mail) → StaysAs leaves leaves'
        → mail'.waiting ≡ [] → mail'.kept.items ≡ []
        → HasStopped now Memory (seen_as leaves' tables events end limit last count (Some Memory) due' None inputs mail')
    stopped-run leaves' due' mail' stays waits kept =
        record {
          between = nothing-kept leaves' tables events end limit last count (Some Memory) due' inputs mail' waits kept;
          keeps = keeps-so leaves' events (Some Memory) due' None inputs mail' stays;
          stopped = refl;
        }

    -- a message was served
    pub served-so : RowsBring → UndueAreQuiet → BecomesTheSame → (t : ℕ) → instant ≡ Some t
        → (msg : code.Message) (place : ℕ) → slice_get mail.waiting place ≡ Some msg → (rest : List code.Message)
        → rest ≡ remove mail.waiting place → (number : ℕ) → place ≡ number % length mail.waiting
        → (leaves' : Seated) (due' : List (Option ℕ)) (mail' : Mail)
        → Changes leaves.model tables.entries.items tables.spaces.items t inputs (message_in msg) (changing_of_mail (record { waiting = rest; kept = mail.kept }) leaves due) (changing_of_mail mail' leaves' due')
        → StaysAs leaves leaves' → (served : Served) → served_of served ≡ served_by_tables tables.entries.items (message_in msg)
        → (E : Type 0) → ServesBy {E = E} now number (Ok served) (seen_as leaves' tables events end limit last count stopped due' instant inputs mail')
    served-so brings undue alike t instant_is msg place is rest rest_is number place_is leaves' due' mail' changes stays served told E =
        subst (λ (p : Processing). ServesBy {E = E} p number (Ok served) (seen_as leaves' tables events end limit last count stopped due' instant inputs mail')) view_is
        (serves-all brings undue alike leaves tables events end limit last count stopped due instant inputs mail holds t instant_is msg place is rest rest_is number place_is leaves' due' mail' changes stays served told)
