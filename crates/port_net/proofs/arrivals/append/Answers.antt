use Rattle.port_net.proofs.arrivals.append.Goals as goal

pub returns : goal.returns
returns c = c.in-Ok.ensures.items
