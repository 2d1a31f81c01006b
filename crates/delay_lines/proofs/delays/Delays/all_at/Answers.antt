use Rattle.std.proofs.Common.{◌≡◌, ◌∙◌, List, Option, ℕ, map, sym, subst}
use Rattle.delay_lines.specs.Lists.{alone_at}
use Rattle.delay_lines.specs.Nodes.{AreHeld}
use Rattle.delay_lines.specs.Places.{look_in}
use Rattle.delay_lines.proofs.Alone.{held-alone}
use Rattle.delay_lines.proofs.Ends.{AreHeld-seen}
use Rattle.delay_lines.proofs.Laid.{lists_from-laid}
use Rattle.delay_lines.proofs.delays.Delays.all_at.Goals as goal

pub invariant_of-result : goal.invariant_of-result
invariant_of-result c =
    let look = look_in c.links_to_new.new.nodes in
    let links = c.in_ok-firsts.firsts.items in
    let same : c.in_ok-lasts.lasts.items ≡ links = c.in_ok-lasts.ensures ∙ c.deref.ensures.value in
    AreHeld-seen look links c.in_ok-lasts.lasts.items (map (alone_at c.args.at) c.args.values.now)
    (subst (λ (ls : List (Option ℕ)). AreHeld look links ls (map (alone_at c.args.at) c.args.values.now)) (sym same) (held-alone look c.args.at links c.args.values.now c.in_ok-firsts.ensures))

pub returns : goal.returns
returns c =
    let held = held-alone (look_in c.links_to_new.new.nodes) c.args.at c.in_ok-firsts.firsts.items c.args.values.now c.in_ok-firsts.ensures in
    record { lists = lists_from-laid (look_in c.links_to_new.new.nodes) c.in_ok-firsts.firsts.items _ held.laid }
