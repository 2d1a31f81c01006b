use Rattle.run_leaves.proofs.Starting.{sound-groups, places-stand, have-ports, states-start}
use Rattle.run_leaves.proofs.leaves.FlatLeaves.new.Goals as goal

pub places_and_stores-requires : goal.places_and_stores-requires
places_and_stores-requires g c = sound-groups c.args.model c.args.stock c.requires.sound

pub invariant_of-result : goal.invariant_of-result
invariant_of-result g c =
    let seats = c.in_ok-seats.seats in
    let stores = c.in_ok-seats.stores.items in (
      places-stand c.args.model c.args.stock seats stores c.requires.sound c.requires.boxes c.in_ok-seats.ensures.seats c.in_ok-seats.ensures.stores,
      have-ports c.args.model c.args.stock seats stores c.requires.sound c.requires.boxes c.in_ok-seats.ensures.seats c.in_ok-seats.ensures.stores,
    )

pub returns-clause-states : goal.returns-clause-states
returns-clause-states g c =
    states-start c.args.model c.args.stock c.in_ok-seats.seats c.in_ok-seats.stores.items c.requires.sound c.requires.boxes c.in_ok-seats.ensures.seats c.in_ok-seats.ensures.stores
