use Rattle.std.proofs.Common.{◌≡◌, ◌<◌, length, get_or, rules, sym}
use Rattle.event_list.proofs.Shorter.{first_is_least}
use Rattle.event_list.proofs.list.Events.next.Goals as goal

pub returns-clause-least : goal.returns-clause-least
returns-clause-least c =
    let inside = c.self.inside in
    let within : inside.gone < length inside.all.items = search rules in
    let at : c.in_ok-event.event.now ≡ get_or inside.all.items inside.gone c.in_ok-event.event.now = search rules in
    first_is_least inside.gone inside.all.items c.in_ok-event.event.now c.args.self.now (sym c.self.view_is) c.self.invariant.1 within at
