use Rattle.std.proofs.Common.{◌≡◌, refl, sym, rules, Err}
use Rattle.model_walk.specs.declared.refused.Stop.TheVariants as Stops
use Rattle.model_walk.specs.Met.{progress_of, sections_at}
use Rattle.model_walk.proofs.Walks.{nothing, whole-walk, walk-stops}
use Rattle.model_walk.proofs.walked.walk.Goals as goal

pub returns-clause-walked : goal.returns-clause-walked
returns-clause-walked c =
    let start = progress_of (record { sections = c.new.result; items = c.new-2.result }) in
    let none : start ≡ nothing = λ k. record { sections = sections_at (c.new.ensures.items k); items = c.new-2.ensures k } in
    whole-walk c.args.sections.now c.in-Some.top.now _ start (progress_of c.walk_from.new.met) (sym c.in-Some.ensures) none refl c.into_items.ensures c.in_ok-top.ensures.walks c.in_ok-top.ensures.met

pub returns-in_err-top-clause-refused : goal.returns-in_err-top-clause-refused
returns-in_err-top-clause-refused c = λ why e.
    let start = progress_of (record { sections = c.new.result; items = c.new-2.result }) in
    let none : start ≡ nothing = λ k. record { sections = sections_at (c.new.ensures.items k); items = c.new-2.ensures k } in
    let is : c.from_residual.result ≡ Err c.in_err-top.field-0.0 = search rules in
    let same : c.in_err-top.field-0.0 ≡ Stops.Refused why = cc in
    walk-stops c.args.sections.now c.in-Some.top.now start c.in_err-top.field-0.0 why (sym c.in-Some.ensures) none same c.in_err-top.ensures.walks
