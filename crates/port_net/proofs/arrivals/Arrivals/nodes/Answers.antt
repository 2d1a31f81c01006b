use Rattle.std.proofs.Common.{◌∙◌, ap, sym, subst}
use Rattle.port_net.specs.Arriving.{end_of, IsTestFor}
use Rattle.port_net.specs.Outside.{is_end_at}
use Rattle.port_net.proofs.Arrived.{list_of, looked-up, test-at}
use Rattle.port_net.proofs.arrivals.Arrivals.nodes.Goals as goal

pub returns-in-Some : goal.returns-in-Some
returns-in-Some c =
    let into = is_end_at c.args.at.now c.args.port.now in
    let t : IsTestFor into (end_of c.in_ok-place.place) = subst (IsTestFor into) (sym c.in_ok-place.ensures) (test-at c.args.at.now c.args.port.now) in
    c.in_ok-from_slice-in-Some.ensures.items ∙ c.deref.ensures.value ∙ ap list_of c.in-Some.ensures.value
    ∙ looked-up into c.in_ok-place.place c.args.self.now.by_place.entries t

pub returns : goal.returns
returns c =
    let into = is_end_at c.args.at.now c.args.port.now in
    let t : IsTestFor into (end_of c.in_ok-place.place) = subst (IsTestFor into) (sym c.in_ok-place.ensures) (test-at c.args.at.now c.args.port.now) in
    c.new.ensures.items ∙ ap list_of c.in-None.ensures.value ∙ looked-up into c.in_ok-place.place c.args.self.now.by_place.entries t
