use Rattle.std.proofs.Common.{◌≡◌, ◌<◌, List, length, set, refl, sym, ◌∙◌, ap, subst, arith}
use Rattle.std.proofs.lemmas.List.{with_items_is}
use Rattle.rule_eval.specs.declared.tally.Tally.{Tally}
use Rattle.cell_engine.specs.Step.{near}
use Rattle.cell_engine.specs.Tallied.{outs_of, AreTallies, AreKept}
use Rattle.cell_engine.proofs.Ready.{desk_after}
use Rattle.cell_engine.proofs.tallies.follow.Goals as goal

-- none is kept
pub returns-then-count-eq0-clause-kept : goal.returns-then-count-eq0-clause-kept
returns-then-count-eq0-clause-kept c =
    let ts = c.args.tallies.now in
    let none : length ts.items ≡ 0 = omega (arith, c.if-count-eq0.true, c.len-count.ensures, ts.ok.0) in
    record { whole = λ some. absurd (omega (arith, some, none)); each = λ x below. absurd (omega (arith, below, none)) }

pub move_on-requires : goal.move_on-requires
move_on-requires c =
    let ts = c.args.tallies.now in
    let some : 0 < length ts.items = omega (arith, c.if-count-eq0.false, c.len-count.ensures, ts.ok.0) in
    record {
      cell = omega (arith, c.requires.cell, c.requires.ready.cells);
      cells = c.requires.ready.cells;
      places = ap length c.deref_mut.ensures.value ∙ c.requires.ready.places;
      whole = ap length c.deref_mut-2.ensures.value ∙ c.requires.kept.whole some;
      tallies = subst (λ (xs : List Tally). AreTallies (near c.args.plan.now) (set (outs_of c.args.table.now) c.args.i c.args.before.now) xs) (sym c.deref_mut-2.ensures.value) c.requires.kept.each;
    }

pub returns-clause-ready : goal.returns-clause-ready
returns-clause-ready c =
    let desk = c.args.desk.now in
    let table = c.args.table.now in
    let around : length c.move_on.new.around ≡ length desk.neighbours.items = omega (arith, c.move_on.auto.around, ap length c.deref_mut.ensures.value) in
    let places = ap length (with_items_is desk.neighbours c.move_on.new.around (omega (arith, around, desk.neighbours.ok.0))) ∙ around in
    desk_after c.args.plan.now table table _ _ _ _ _ _ _ _ (record { width = refl; variables = refl; cells = refl }) places c.requires.ready.room refl refl c.requires.ready

pub returns-clause-kept : goal.returns-clause-kept
returns-clause-kept c =
    let n = near c.args.plan.now in
    let es = outs_of c.args.table.now in
    let ts = c.args.tallies.now in
    let new = c.move_on.new.tallies in
    let some : 0 < length ts.items = omega (arith, c.if-count-eq0.false, c.len-count.ensures, ts.ok.0) in
    let long : length new ≡ length ts.items = omega (arith, c.move_on.auto.tallies, ap length c.deref_mut-2.ensures.value) in
    let is = with_items_is ts new (omega (arith, long, ts.ok.0)) in
    subst (λ (xs : List Tally). AreKept n es xs) (sym is) (record { whole = λ _. long ∙ c.requires.kept.whole some; each = c.move_on.ensures })
