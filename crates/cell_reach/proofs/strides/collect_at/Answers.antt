use Rattle.std.proofs.Common.{◌≡◌, ℕ, Option, Some, None, [], ◌∷◌, ◌++◌, append-nil, pos, sym, ap, ◌∙◌, arith}
use Rattle.cell_grid.specs.declared.step.Step.{Step}
use Rattle.cell_grid.specs.Space.{neighbour_at}
use Rattle.cell_grid.specs.Steps.{offset_of_step}
use Rattle.cell_grid.proofs.Watching.{filter_map_more}
use Rattle.cell_reach.proofs.strides.collect_at.Goals as goal
use Rattle.cell_reach.proofs.strides.collect_at.Goals.{in-Some, in_default}

pub loop-step-preserved : goal.loop-step-preserved
loop-step-preserved c =
    let steps = c.args.steps.now in
    let i = c.loop-step.step-index in
    let none : Step = record { rows = pos 0; columns = pos 0; planes = pos 0 } in
    let more = λ (m : Option ℕ) (is : c.reached.result ≡ m).
    filter_map_more (λ (t : Step). neighbour_at c.args.grid c.args.from (offset_of_step t)) steps i none m c.loop-step-test.true (sym is ∙ c.reached.ensures.value) in
    elim c.match-reached.branch [
      | in-Some w ↦ rw w.into-is (record {
        found = w.push_reserved.ensures.items ∙ ap (λ l. l ++ w.in-Some.to ∷ []) c.loop-step.invariant.found ∙ more (Some w.in-Some.to) w.in-Some.is;
        few = omega (arith, w.push_reserved.ensures.len);
        room = omega (arith, w.push_reserved.ensures.capacity);
        same = w.push_reserved.ensures.capacity ∙ c.loop-step.invariant.same;
      })
      | in_default w ↦ rw w.into-is (record {
        found = c.loop-step.invariant.found ∙ sym (append-nil _) ∙ more None w.in_default.is;
        few = omega arith;
        room = omega arith;
        same = c.loop-step.invariant.same;
      })
    ]
