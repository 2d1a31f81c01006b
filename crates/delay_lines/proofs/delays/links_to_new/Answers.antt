use Rattle.std.proofs.Common.{◌∙◌, ◌++◌, ◌∷◌, [], ℕ, Option, Some, List, ap, subst, sym}
use Rattle.delay_lines.specs.Nodes.{AreAlone, node_of}
use Rattle.delay_lines.specs.Places.{look_in}
use Rattle.delay_lines.proofs.Alone.{none-alone, next-alone}
use Rattle.delay_lines.proofs.delays.links_to_new.Goals as goal

pub loop-value-init : goal.loop-value-init
loop-value-init c =
    subst (λ (ls : List (Option ℕ)). AreAlone (look_in c.reserve.new.self) c.args.at ls []) (sym c.in_ok-links.ensures.items) (none-alone (look_in c.reserve.new.self) c.args.at)

pub loop-value-preserved : goal.loop-value-preserved
loop-value-preserved c =
    let made = c.in_ok-key.ensures in
    let at = c.args.at in
    next-alone (look_in c.loop-value.nodes) (look_in c.insert.new.self) at c.in_ok-key.key c.loop-value.value-index c.value-item.result c.loop-value.links.items c.push.new.self.items c.args.values.now
    c.loop-value-test.true c.value-item.is c.loop-value.invariant c.new.ensures.time made.was_vacant
    (made.updates.changed ∙ ap Some (c.new.ensures.node ∙ ap (λ v. node_of (at, v) c.none.result) c.get.ensures ∙ ap (node_of (at, c.value-item.result)) c.none.ensures)) made.updates.others
    (c.in-Ok.ensures.items ∙ ap (λ (l : Option ℕ). c.loop-value.links.items ++ l ∷ []) c.to.ensures)
