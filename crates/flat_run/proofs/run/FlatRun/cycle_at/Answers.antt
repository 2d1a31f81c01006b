use Rattle.std.proofs.Common.{◌≡◌, ◌∙◌, ℕ, ◌+◌, ◌≤◌, Some, None, Ok, Err, refl, sym, ap, subst}
use Rattle.run_model.specs.Run.{cycles_at}
use Rattle.run_leaves.specs.declared.progress.Progress.TheVariants.{Cycled}
use Rattle.run_leaves.specs.Standing.{Standing, next_of_run}
use Rattle.run_leaves.specs.Steps.{Keeps, Steps, visits_of}
use Rattle.flat_run.proofs.Begun.{begins-at, standing, cycles-on, breaks-at, visits-are}
use Rattle.flat_run.proofs.run.FlatRun.cycle_at.Goals as goal

pub returns-in-Ok-clause-steps : goal.returns-in-Ok-clause-steps
returns-in-Ok-clause-steps g c =
    let i = c.self.inside in
    let t = c.args.t in
    let s = standing i.parts.leaves i.events i.last i.count i.end i.limit i.stopped in
    let none : i.stopped ≡ None = ap (λ (x : Standing). x.stopped) c.self.view_is ∙ c.requires.goes in
    let had : c.args.had ≡ cycles_at t s.state = c.requires.had ∙ sym (ap (λ (x : Standing). cycles_at t x.state) c.self.view_is) in
    let begins = begins-at s c.args.self.now t c.args.had c.self.view_is (c.self.invariant.goes_on none).fits c.requires.instant c.requires.within c.requires.had c.requires.few in
    let n = standing c.run_cycle-result.new.parts.leaves c.run_cycle-result.new.events (Some t) (c.args.had + 1) i.end i.limit i.stopped in
    let records = c.run_cycle-result.new.records in
    let keeps : Keeps s n = record { model = c.in-Ok.ensures.model; settings = c.in-Ok.ensures.settings; end = refl; limit = refl } in
    let steps : Steps s (Ok (Cycled t)) n records =
    cycles-on c.a_cycle_is_what_its_leaves_make_of_it.ensures.next s n t records (g.Q.TimeQueue.waiting c.run_cycle-result.new.queue) begins c.in-Ok.ensures.runs refl (ap (λ k. k + 1) had) keeps none
    in
    subst (λ (x : Standing). Steps x (Ok (Cycled t)) n records) c.self.view_is steps

pub returns-in-Ok-clause-visits : goal.returns-in-Ok-clause-visits
returns-in-Ok-clause-visits g c =
    let i = c.self.inside in
    let t = c.args.t in
    let s = standing i.parts.leaves i.events i.last i.count i.end i.limit i.stopped in
    let none : i.stopped ≡ None = ap (λ (x : Standing). x.stopped) c.self.view_is ∙ c.requires.goes in
    let begins = begins-at s c.args.self.now t c.args.had c.self.view_is (c.self.invariant.goes_on none).fits c.requires.instant c.requires.within c.requires.had c.requires.few in
    let costs = visits-are c.a_cycle_is_what_its_leaves_make_of_it.ensures.next c.leaves_move_one_after_another.ensures.moves c.a_stopping_cycle_costs_its_parts.ensures s t begins in
    subst (λ (x : Standing). c.run_cycle-result.new.steps ≤ c.args.steps.now + visits_of x (next_of_run x)) c.self.view_is
    (subst (λ (n : ℕ). c.run_cycle-result.new.steps ≤ c.args.steps.now + n) (sym costs) c.in-Ok.ensures.visits)

pub returns-in-Err-clause-steps : goal.returns-in-Err-clause-steps
returns-in-Err-clause-steps g c =
    let i = c.self.inside in
    let t = c.args.t in
    let s = standing i.parts.leaves i.events i.last i.count i.end i.limit i.stopped in
    let none : i.stopped ≡ None = ap (λ (x : Standing). x.stopped) c.self.view_is ∙ c.requires.goes in
    let begins = begins-at s c.args.self.now t c.args.had c.self.view_is (c.self.invariant.goes_on none).fits c.requires.instant c.requires.within c.requires.had c.requires.few in
    let n = standing c.run_cycle-result.new.parts.leaves c.run_cycle-result.new.events i.last i.count i.end i.limit (Some c.same_stop.result) in
    let records = c.clear.new.self in
    let keeps : Keeps s n = record { model = c.in-Err.ensures.model; settings = c.in-Err.ensures.settings; end = refl; limit = refl } in
    let steps : Steps s (Err c.in-Err.stop) n records =
    breaks-at c.a_cycle_is_what_its_leaves_make_of_it.ensures.next _ s n t c.run_cycle-result.new.parts.leaves.states (g.Q.TimeQueue.waiting c.run_cycle-result.new.queue)
    c.run_cycle-result.new.events c.run_cycle-result.new.records records c.run_cycle-result.result c.in-Err.stop begins c.in-Err.is c.run_cycle-result.ensures.runs c.clear.ensures keeps (ap Some c.same_stop.ensures)
    in
    subst (λ (x : Standing). Steps x (Err c.in-Err.stop) n records) c.self.view_is steps

pub returns-in-Err-clause-visits : goal.returns-in-Err-clause-visits
returns-in-Err-clause-visits g c =
    let i = c.self.inside in
    let t = c.args.t in
    let s = standing i.parts.leaves i.events i.last i.count i.end i.limit i.stopped in
    let none : i.stopped ≡ None = ap (λ (x : Standing). x.stopped) c.self.view_is ∙ c.requires.goes in
    let begins = begins-at s c.args.self.now t c.args.had c.self.view_is (c.self.invariant.goes_on none).fits c.requires.instant c.requires.within c.requires.had c.requires.few in
    let costs = visits-are c.a_cycle_is_what_its_leaves_make_of_it.ensures.next c.leaves_move_one_after_another.ensures.moves c.a_stopping_cycle_costs_its_parts.ensures s t begins in
    subst (λ (x : Standing). c.run_cycle-result.new.steps ≤ c.args.steps.now + visits_of x (next_of_run x)) c.self.view_is
    (subst (λ (n : ℕ). c.run_cycle-result.new.steps ≤ c.args.steps.now + n) (sym costs) c.in-Err.ensures.visits)
