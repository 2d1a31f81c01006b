use Rattle.std.proofs.Common.{map, refl, sym, ap, ◌∙◌, ◌++◌}
use Rattle.std.proofs.lemmas.List.{take_all}
use Rattle.tree_tables.specs.Stations.{ref_of}
use Rattle.tree_tables.specs.Incoming.{one_of, begins_at}
use Rattle.tree_tables.proofs.Rowed.{begins-more}
use Rattle.tree_tables.proofs.incoming.begins_of.Goals as goal

pub loop-link-init : goal.loop-link-init
loop-link-init c = ap (map ref_of) c.new-row.ensures.items

pub loop-link-preserved : goal.loop-link-preserved
loop-link-preserved c =
    c.in_ok-put_begin.ensures
    ∙ (λ i. c.loop-link.invariant i ++ one_of (c.begin_at-begin.ensures i))
    ∙ sym (begins-more c.args.begins.now c.args.links.now c.loop-link.link-index _ 0 c.loop-link-test.true refl)

pub returns : goal.returns
returns c =
    c.loop-link.invariant
    ∙ ap (begins_at c.args.begins.now) (take_all c.loop-link.link-index c.args.links.now c.loop-link-test.false)
