use Rattle.std.proofs.Common.{◌≡◌, ap, sym, ◌∙◌, drop, nat_lt}
use Rattle.std.proofs.lemmas.List.{take_rest}
use Rattle.std.specs.List.{filter, prefix_len}
use Rattle.event_list.specs.Events.{Event}
use Rattle.event_list.proofs.Shorter.{skipped, until}
use Rattle.event_list.proofs.list.Events.skip.Goals as goal

pub returns : goal.returns
returns c =
    let inside = c.self.inside in
    let count : c.count_until-count.result ≡ prefix_len (until c.args.to) (drop inside.gone inside.all.items) = c.count_until-count.ensures.count ∙ ap (prefix_len (until c.args.to)) (take_rest c.deref.result.now inside.gone ∙ ap (drop inside.gone) c.deref.ensures.value) in
    sym (ap (filter (λ (e : Event). nat_lt c.args.to e.time)) (sym c.self.view_is)
    ∙ skipped c.args.to inside.gone c.count_until-count.result inside.all.items c.self.invariant.1 count)
