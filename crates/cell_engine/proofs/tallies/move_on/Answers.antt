use Rattle.std.proofs.Common.{ℕ, ◌<◌, ◌≤◌, [], ◌∷◌, length, sym, ◌∙◌, ap, subst, arith}
use Rattle.std.proofs.lemmas.List.{length-map}
use Rattle.std.specs.List.{All}
use Rattle.quantity.specs.declared.value.Value.{Value}
use Rattle.rule_eval.specs.Tallies.{IsTally}
use Rattle.cell_grid.specs.Space.{cell_count}
use Rattle.cell_reach.specs.Neighbourhoods.{Neighbourhood, neighbours, opposite_neighbourhood}
use Rattle.cell_engine.specs.Layout.{Layout}
use Rattle.cell_engine.specs.Step.{IsBelow, near}
use Rattle.cell_engine.specs.Tallied.{last_value_shown, outs_of}
use Rattle.cell_engine.proofs.Shown.{shows_at, same_numbers}
use Rattle.cell_engine.proofs.Tallying.{same_shown}
use Rattle.cell_engine.proofs.tallies.move_on.Goals as goal

pub returns-then-are_same : goal.returns-then-are_same
returns-then-are_same c =
    let tb = c.args.table.now in
    let here : c.args.i < length tb.cells = omega (arith, c.requires.cell, c.requires.cells) in
    let inside : c.args.i < length (outs_of tb) = omega (arith, here, length-map tb.cells last_value_shown) in
    let now = subst (λ (v : Value). IsTally c.one-come.result (v ∷ [])) (shows_at tb c.args.i c.emitted-shown.result here c.emitted-shown.ensures) c.one-come.ensures in
    let same = same_numbers c.one-gone.result c.one-come.result (sym c.are_same.ensures ∙ c.if-are_same.true) in
    same_shown (near c.args.plan.now) (outs_of tb) c.args.i c.args.before.now c.one-gone.result c.one-come.result c.args.tallies.now inside c.one-gone.ensures now same.0 same.1 same.2 c.requires.tallies

pub move_all-requires : goal.move_all-requires
move_all-requires c =
    let tb = c.args.table.now in
    let here : c.args.i < length tb.cells = omega (arith, c.requires.cell, c.requires.cells) in
    record {
      cell = c.requires.cell;
      cells = c.requires.cells;
      few = subst (λ (m : Layout). length m.offsets ≤ 128) c.plan.view_is c.plan.invariant.offsets;
      gone = c.one-gone.ensures;
      come = subst (λ (v : Value). IsTally c.one-come.result (v ∷ [])) (shows_at tb c.args.i c.emitted-shown.result here c.emitted-shown.ensures) c.one-come.ensures;
      watchers = c.watchers_by_offset.ensures ∙ ap (λ (n : Neighbourhood). neighbours (opposite_neighbourhood n) c.args.i) (c.plan.invariant.near ∙ ap near c.plan.view_is);
      whole = c.requires.whole;
      tallies = c.requires.tallies;
    }

pub move_further-requires-clause-few : goal.move_further-requires-clause-few
move_further-requires-clause-few c = subst (λ (m : Layout). length m.offsets ≤ 128) c.plan.view_is c.plan.invariant.offsets

pub move_further-requires-clause-come : goal.move_further-requires-clause-come
move_further-requires-clause-come c =
    let tb = c.args.table.now in
    let here : c.args.i < length tb.cells = omega (arith, c.requires.cell, c.requires.cells) in
    subst (λ (v : Value). IsTally c.one-come.result (v ∷ [])) (shows_at tb c.args.i c.emitted-shown.result here c.emitted-shown.ensures) c.one-come.ensures

pub move_further-requires-clause-inside : goal.move_further-requires-clause-inside
move_further-requires-clause-inside c =
    let is = c.plan.invariant.near ∙ ap near c.plan.view_is in
    let far = c.in-Some.ensures.far in
    subst (λ (k : ℕ). All (IsBelow k c.args.i) c.in-Some.differences.now) (ap (λ (n : Neighbourhood). cell_count n.space) is ∙ sym c.requires.whole) far.inside

pub move_further-requires-clause-lead : goal.move_further-requires-clause-lead
move_further-requires-clause-lead c =
    let is = c.plan.invariant.near ∙ ap near c.plan.view_is in
    sym (ap (λ (n : Neighbourhood). neighbours (opposite_neighbourhood n) c.args.i) is) ∙ c.in-Some.ensures.far.lead
