use Rattle.std.proofs.Common.{◌≡◌, [], List, ℕ, length, ◌∙◌, ap, subst, arith}
use Rattle.std.proofs.lemmas.Grind.{common_steps}
use Rattle.std.specs.List.{range_with_len}
use Rattle.port_net.specs.Arriving.{Arrive}
use Rattle.tree_tables.specs.Begins.{begin_in}
use Rattle.tree_tables.proofs.Rowed.{links-are}
use Rattle.tree_tables.proofs.incoming.Links.new.Goals as goal

pub returns : goal.returns
returns c = λ settings.
    let count : c.in_ok-count.count ≡ length c.args.links.now = grind (arith, common_steps) in
    links-are _ (begin_in c.args.inside.now settings c.args.numbers.now [])
    (begin_in c.args.inside.now settings c.args.numbers.now c.args.ins.now) c.args.links.now c.in_ok-all.all.items
    (c.in_ok-outward.ensures settings) (c.in_ok-inward.ensures settings)
    (c.in_ok-all.ensures ∙ ap (range_with_len 0) count)
    (subst (λ (ks : List ℕ). Arrive c.args.links.now ks c.in_ok-arrivals.arrivals) c.deref.ensures.value c.in_ok-arrivals.ensures)
