use Rattle.std.proofs.Common.{◌∙◌}
use Rattle.port_net.proofs.Called.{led-more, led-all}
use Rattle.port_net.proofs.children.places_of.Goals as goal

pub loop-i-preserved : goal.loop-i-preserved
loop-i-preserved c =
    led-more c.args.children.now c.loop-i.places.entries c.add.new.places.entries c.loop-i.i c.index-children-i.result c.as_bytes.result.now
    c.loop-i-test.true c.index-children-i.is (λ settings. c.as_bytes.ensures.bytes ∙ c.name_of.ensures settings) c.in_ok-add.ensures c.loop-i.invariant

pub returns : goal.returns
returns c = led-all c.args.children.now c.loop-i.places.entries c.loop-i.i c.loop-i-test.false c.loop-i.invariant
