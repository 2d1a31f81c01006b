use Rattle.std.proofs.Common.{◌≡◌, ◌<◌, List, length, refl, sym, ◌∙◌, ap, subst, arith}
use Rattle.std.specs.Prelude.{IfSome}
use Rattle.std.proofs.lemmas.List.{with_items_is}
use Rattle.quantity.specs.declared.value.Value.{Value}
use Rattle.rule_tree.specs.Chosen.{outcome_of_rules}
use Rattle.rule_tree.specs.Meaning.{Sight, outs}
use Rattle.rule_forms.specs.ByPort.{Evaluates}
use Rattle.rule_eval.specs.Evaluated.{Lends}
use Rattle.rule_eval.specs.Seen.{sight_of_view}
use Rattle.rule_eval.specs.Room.{Room}
use Rattle.rule_eval.specs.Tallies.{IsTally}
use Rattle.rule_eval.specs.declared.tally.Tally.{Tally}
use Rattle.cell_grid.specs.Space.{cell_count}
use Rattle.cell_table.specs.Told.{cell_at}
use Rattle.cell_engine.specs.Step.{sees, at_port}
use Rattle.cell_engine.proofs.Looking.{is_view, shows}
use Rattle.cell_engine.proofs.Ready.{desk_after}
use Rattle.cell_engine.proofs.step.evaluate_cell.Goals as goal

pub look-requires : goal.look-requires
look-requires c =
    record {
      cell = omega (arith, c.requires.cell, c.requires.ready.cells);
      place = c.place_of-place.ensures;
      cells = c.requires.ready.cells;
      places = ap length c.deref_mut.ensures.value ∙ c.requires.ready.places;
      room = c.requires.ready.room;
    }

pub evaluate_lent-requires-clause-variables : goal.evaluate_lent-requires-clause-variables
evaluate_lent-requires-clause-variables c =
    ap length c.deref_mut-2.ensures.value ∙ c.requires.ready.changed ∙ sym c.requires.ready.variables ∙ sym c.view-view.ensures.count

pub evaluate_lent-requires-clause-depth : goal.evaluate_lent-requires-clause-depth
evaluate_lent-requires-clause-depth c = c.requires.depth

pub evaluate_lent-requires-clause-view : goal.evaluate_lent-requires-clause-view
evaluate_lent-requires-clause-view c =
    let here : c.args.i < cell_count c.args.plan.now.space = omega (arith, c.requires.cell, c.requires.ready.cells) in
    is_view c.view-view.result c.args.t c.args.plan.now c.args.table.now c.args.i c.args.port c.view-view.ensures.table c.requires.ready.cells here c.view-view.ensures.looks c.view-view.ensures.few

pub evaluate_lent-requires-clause-known : goal.evaluate_lent-requires-clause-known
evaluate_lent-requires-clause-known c =
    let l = c.args.plan.now in
    let tb = c.args.table.now in
    let i = c.args.i in
    let s = at_port c.args.port (sees l c.args.t tb i) in
    let here : i < cell_count l.space = omega (arith, c.requires.cell, c.requires.ready.cells) in
    let seen : sight_of_view c.view-view.result ≡ record s { variables = (cell_at tb.cells i).variables } =
    shows c.view-view.result c.args.t l tb i c.args.port c.view-view.ensures.table c.requires.ready.cells here c.view-view.ensures.looks in
    subst (λ (x : Sight). IfSome c.args.known (λ (k : Tally). IsTally k (outs x))) (sym seen) c.requires.known

pub returns-clause-value : goal.returns-clause-value
returns-clause-value c =
    let own = c.args.rules.now in
    let l = c.args.plan.now in
    let tb = c.args.table.now in
    let i = c.args.i in
    let cell = cell_at tb.cells i in
    let s = at_port c.args.port (sees l c.args.t tb i) in
    let here : i < cell_count l.space = omega (arith, c.requires.cell, c.requires.ready.cells) in
    let shown : sight_of_view c.view-view.result ≡ record s { variables = cell.variables } = shows c.view-view.result c.args.t l tb i c.args.port c.view-view.ensures.table c.requires.ready.cells here c.view-view.ensures.looks in
    let xs = c.args.desk.now.changed in
    let given = c.evaluate_lent.new.given in
    let changed = c.evaluate_lent.new.changed in
    let after = with_items_is xs changed (omega (arith, c.evaluate_lent.auto.changed, ap length c.deref_mut-2.ensures.value, xs.ok.0)) in
    subst (λ (ys : List Value). Lends (Evaluates (outcome_of_rules own (record s { variables = cell.variables }))) c.evaluate_lent.result given ys cell.variables) (sym after)
    (subst (λ (x : Sight). Lends (Evaluates (outcome_of_rules own x)) c.evaluate_lent.result given changed x.variables) shown c.evaluate_lent.ensures.value)

pub returns-clause-ready : goal.returns-clause-ready
returns-clause-ready c =
    let desk = c.args.desk.now in
    let table = c.args.table.now in
    let around : length c.look.new.around ≡ length desk.neighbours.items = omega (arith, c.look.auto.around, ap length c.deref_mut.ensures.value) in
    let changed : length c.evaluate_lent.new.changed ≡ length desk.changed.items = omega (arith, c.evaluate_lent.auto.changed, ap length c.deref_mut-2.ensures.value) in
    let places = ap length (with_items_is desk.neighbours c.look.new.around (omega (arith, around, desk.neighbours.ok.0))) ∙ around in
    let set = ap length (with_items_is desk.changed c.evaluate_lent.new.changed (omega (arith, changed, desk.changed.ok.0))) ∙ changed in
    desk_after c.args.plan.now table table _ _ _ _ _ _ _ _ (record { width = refl; variables = refl; cells = refl }) places c.look.ensures.room set
    (ap (λ (room : Room). room.depth) c.evaluate_lent.ensures.stack) c.requires.ready
