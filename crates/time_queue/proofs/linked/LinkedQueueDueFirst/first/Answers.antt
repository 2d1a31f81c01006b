use Rattle.std.proofs.Common.{◌≡◌, ℕ, Option, Some, None, sym, ap, ◌∙◌, subst}
use Rattle.std.specs.Prelude.{IfNone, IfSome}
use Rattle.time_queue.specs.Waiting.{least_time}
use Rattle.time_queue.proofs.Lines.{least_first}
use Rattle.time_queue.proofs.linked.LinkedQueueDueFirst.first.Goals as goal

pub returns-clause-none : goal.returns-clause-none
returns-clause-none c =
    let same = sym (least_first c.self.inside.lists c.self.invariant) ∙ ap least_time c.self.view_is in
    subst (λ (o : Option ℕ). IfNone c.first.result (o ≡ None)) same c.first.ensures.none

pub returns-clause-least : goal.returns-clause-least
returns-clause-least c =
    let same = sym (least_first c.self.inside.lists c.self.invariant) ∙ ap least_time c.self.view_is in
    subst (λ (o : Option ℕ). IfSome c.first.result (λ e. o ≡ Some e.at)) same c.first.ensures.least
