use Rattle.std.proofs.Common.{◌≡◌, ◌∙◌, ℕ, ◌<◌, ◌≤◌, Some, None, Ok, Err, refl, sym, ap, subst, arith}
use Rattle.run_model.specs.Run.{next_instant}
use Rattle.run_leaves.specs.declared.progress.Progress.TheVariants.{Done}
use Rattle.run_model.specs.declared.stop.Stop.TheVariants.{TooManyCycles}
use Rattle.run_leaves.specs.Standing.{Standing, tree_in}
use Rattle.run_leaves.specs.Steps.{Steps, Goes}
use Rattle.flat_run.proofs.Instants.{done-where-none, done-past-end, never-done, too-many}
use Rattle.flat_run.proofs.Begun.{standing, goes-on}
use Rattle.flat_run.proofs.run.FlatRun.cycle.Goals as goal

pub returns-in_default-next_time-clause-goes : goal.returns-in_default-next_time-clause-goes
returns-in_default-next_time-clause-goes g c =
    let s = c.args.self.now in
    let none : s.stopped ≡ None = sym (ap (λ (x : Standing). x.stopped) c.self.view_is) ∙ c.in_default.is in
    goes-on s.stopped s (Ok Done) s c.clear.new.self none (done-where-none (tree_in s) s.end s.limit s.state (sym c.in_default-next_time.ensures), refl, c.clear.ensures)

pub returns-then-ms-clause-goes : goal.returns-then-ms-clause-goes
returns-then-ms-clause-goes g c =
    let s = c.args.self.now in
    let t = c.in-Some-next_time.t in
    let none : s.stopped ≡ None = sym (ap (λ (x : Standing). x.stopped) c.self.view_is) ∙ c.in_default.is in
    let past : c.self.inside.end < t = omega arith in
    let done = done-past-end (tree_in s) s.end s.limit s.state t (sym c.in-Some-next_time.ensures) (subst (λ (x : Standing). x.end < t) c.self.view_is past) in
    goes-on s.stopped s (Ok Done) s c.clear.new.self none (done, refl, c.clear.ensures)

pub returns-then-self-had-clause-goes : goal.returns-then-self-had-clause-goes
returns-then-self-had-clause-goes g c =
    let i = c.self.inside in
    let t = c.in-Some-next_time.t in
    let s = standing i.parts.leaves i.events i.last i.count i.end i.limit i.stopped in
    let n = standing i.parts.leaves i.events i.last i.count i.end i.limit (Some (TooManyCycles t)) in
    let next : next_instant s.state ≡ Some t = ap (λ (x : Standing). next_instant x.state) c.self.view_is ∙ sym c.in-Some-next_time.ensures in
    let within : t ≤ i.end = omega arith in
    let full = subst (λ (k : ℕ). i.limit ≤ k) c.cycles_had-had.ensures c.if-self-had.true in
    let steps : Steps s (Err (TooManyCycles t)) n c.clear.new.self =
    record {
      next = too-many (tree_in s) i.end i.limit s.state t next within full;
      empty = c.clear.ensures;
      keeps = record { model = refl; settings = refl; end = refl; limit = refl };
      stopped = refl;
    }
    in
    subst (λ (x : Standing). Goes x.stopped x (Err (TooManyCycles t)) n c.clear.new.self) c.self.view_is
    (goes-on i.stopped s (Err (TooManyCycles t)) n c.clear.new.self c.in_default.is steps)

pub returns-clause-goes : goal.returns-clause-goes
returns-clause-goes g c =
    let s = c.args.self.now in
    let none : s.stopped ≡ None = sym (ap (λ (x : Standing). x.stopped) c.self.view_is) ∙ c.in_default.is in
    goes-on s.stopped s c.cycle_at.result c.cycle_at.new.self c.cycle_at.new.records none c.cycle_at.ensures.steps

pub returns-then-self-had-clause-done : goal.returns-then-self-had-clause-done
returns-then-self-had-clause-done g c =
    let s = c.args.self.now in
    let t = c.in-Some-next_time.t in
    let within : t ≤ c.self.inside.end = omega arith in
    λ none ends. absurd (never-done (tree_in s) s.end s.limit s.state t (sym c.in-Some-next_time.ensures) (subst (λ (x : Standing). t ≤ x.end) c.self.view_is within) ends)

pub returns-clause-done : goal.returns-clause-done
returns-clause-done g c =
    let s = c.args.self.now in
    let t = c.in-Some-next_time.t in
    let within : t ≤ c.self.inside.end = omega arith in
    λ none ends. absurd (never-done (tree_in s) s.end s.limit s.state t (sym c.in-Some-next_time.ensures) (subst (λ (x : Standing). t ≤ x.end) c.self.view_is within) ends)
