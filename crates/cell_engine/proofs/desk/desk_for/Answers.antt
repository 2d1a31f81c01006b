use Rattle.std.proofs.Common.{◌∙◌, ℕ, List, map, ap, sym, subst, arith}
use Rattle.std.specs.List.{All}
use Rattle.std.proofs.lemmas.Nat.{mul-le}
use Rattle.rule_tree.specs.Expression.{Rule}
use Rattle.cell_engine.specs.Layout.{Layout}
use Rattle.cell_engine.proofs.Made.{NeedsAtMost}
use Rattle.cell_engine.proofs.desk.desk_for.Goals as goal

pub overflow_mul-places : goal.overflow_mul-places
overflow_mul-places c = omega (arith, mul-le c.args.places c.args.width 128 4 c.requires.places c.requires.width)

pub returns : goal.returns
returns c =
    let plan = c.args.plan.now in
    let sets_are = ap (map (λ rules. rules.items)) c.deref.ensures.value ∙ ap (λ (l : Layout). l.rule_sets) c.plan.view_is in
    let needs = subst (λ (sets : List (List Rule)). All (NeedsAtMost c.deepest_of_sets.result) sets) sets_are c.deepest_of_sets.ensures in
    record {
      neighbours = omega (arith, c.in_ok-vec.ensures.len, c.in_ok-vec.field-0.ok.0);
      seen = omega (arith, c.in_ok-vec-2.ensures.len, c.in_ok-vec-2.field-0.ok.0);
      changed = omega (arith, c.in_ok-vec-3.ensures.len, c.in_ok-vec-3.field-0.ok.0, ap (λ (l : Layout). l.variables) c.plan.view_is);
      depth = subst (λ (m : ℕ). All (NeedsAtMost m) plan.rule_sets) (sym c.in_ok-for_depth.ensures) needs;
    }
