use Rattle.std.proofs.Common.{◌≡◌, ◌≤◌, ◌==◌, ◌++◌, not, ap, sym, subst, ◌∙◌, drop, map, take}
use Rattle.std.proofs.lemmas.List.{take_rest}
use Rattle.std.specs.List.{All, filter, prefix_len}
use Rattle.event_list.specs.Events.{Event}
use Rattle.event_list.specs.Shown.{port_and_value, plain_event}
use Rattle.event_list.proofs.Shorter.{left_after, taken_at, until}
use Rattle.event_list.proofs.list.Events.take.Goals as goal

pub returns-clause-left : goal.returns-clause-left
returns-clause-left c =
    let inside = c.self.inside in
    let count : c.count_until-count.result ≡ prefix_len (until c.args.at) (drop inside.gone inside.all.items) = c.count_until-count.ensures.count ∙ ap (prefix_len (until c.args.at)) (take_rest c.deref.result.now inside.gone ∙ ap (drop inside.gone) c.deref.ensures.value) in
    let from : All (λ (e : Event). c.args.at ≤ e.time) (map plain_event (drop inside.gone inside.all.items)) = subst (All (λ (e : Event). c.args.at ≤ e.time)) (sym c.self.view_is) c.requires in
    sym (ap (filter (λ (e : Event). not (e.time == c.args.at))) (sym c.self.view_is)
    ∙ left_after c.args.at inside.gone c.count_until-count.result inside.all.items c.self.invariant.1 from count)

pub returns-clause-taken : goal.returns-clause-taken
returns-clause-taken c =
    let inside = c.self.inside in
    let count : c.count_until-count.result ≡ prefix_len (until c.args.at) (drop inside.gone inside.all.items) = c.count_until-count.ensures.count ∙ ap (prefix_len (until c.args.at)) (take_rest c.deref.result.now inside.gone ∙ ap (drop inside.gone) c.deref.ensures.value) in
    let from : All (λ (e : Event). c.args.at ≤ e.time) (map plain_event (drop inside.gone inside.all.items)) = subst (All (λ (e : Event). c.args.at ≤ e.time)) (sym c.self.view_is) c.requires in
    let slice : c.append.new.into.items ≡ c.args.into.now.items ++ map port_and_value (map plain_event (take c.count_until-count.result (drop inside.gone inside.all.items))) = c.in_ok-append.ensures.ok ∙ ap (λ l. c.args.into.now.items ++ map port_and_value (map plain_event (take c.count_until-count.result l))) (take_rest c.deref.result.now inside.gone ∙ ap (drop inside.gone) c.deref.ensures.value) in
    slice
    ∙ ap (λ l. c.args.into.now.items ++ map port_and_value l)
    (sym (ap (filter (λ (e : Event). e.time == c.args.at)) (sym c.self.view_is)
    ∙ taken_at c.args.at inside.gone c.count_until-count.result inside.all.items c.self.invariant.1 from count))
