use Rattle.std.proofs.Common.{◌≡◌, ◌<◌, ℕ, Some, List, Option, length, sym, ap, ◌∙◌, subst, arith}
use Rattle.std.proofs.lemmas.Grind.{common_steps}
use Rattle.time_queue.specs.Waiting.{waiting_time, least_time}
use Rattle.time_queue.proofs.Entered.{entry_waits, first_least, none_entered_least, waits_within}
use Rattle.time_queue.proofs.sorted.SortedQueueDueFirst.first.Goals as goal

pub returns-then-is_empty-clause-none : goal.returns-then-is_empty-clause-none
returns-then-is_empty-clause-none c =
    let entries = c.self.inside.entries.items in
    let nothing : length entries ≡ 0 = grind (arith, common_steps, c.self.inside.entries.ok.0) in
    ap least_time (sym c.self.view_is) ∙ none_entered_least c.self.inside.times.items entries (record { at = 0; leaf = 0 }) c.self.invariant.entered nothing

pub returns-clause-within : goal.returns-clause-within
returns-clause-within c =
    let times = c.self.inside.times.items in
    let entries = c.self.inside.entries.items in
    let first = c.index.result.now in
    let some : 0 < length entries = grind (arith, common_steps, c.self.inside.entries.ok.0) in
    let waits = entry_waits times entries 0 first c.self.invariant.entered some in
    subst (λ (ts : List (Option ℕ)). first.leaf < length ts) c.self.view_is
    (waits_within times first.leaf first.at ((λ i. waiting_time times (c.index.ensures i).leaf) ∙ waits ∙ (λ i. Some (sym c.index.ensures i).at)))

pub returns-clause-waits : goal.returns-clause-waits
returns-clause-waits c =
    let times = c.self.inside.times.items in
    let entries = c.self.inside.entries.items in
    let first = c.index.result.now in
    let some : 0 < length entries = grind (arith, common_steps, c.self.inside.entries.ok.0) in
    let waits = entry_waits times entries 0 first c.self.invariant.entered some in
    ap (λ ts. waiting_time ts first.leaf) (sym c.self.view_is) ∙ (λ i. waiting_time times (c.index.ensures i).leaf) ∙ waits ∙ (λ i. Some (sym c.index.ensures i).at)

pub returns-clause-least : goal.returns-clause-least
returns-clause-least c =
    let times = c.self.inside.times.items in
    let entries = c.self.inside.entries.items in
    let first = c.index.result.now in
    let some : 0 < length entries = grind (arith, common_steps, c.self.inside.entries.ok.0) in
    ap least_time (sym c.self.view_is) ∙ first_least times entries first c.self.invariant.entered c.self.invariant.few c.self.invariant.ordered some ∙ (λ i. Some (sym c.index.ensures i).at)
