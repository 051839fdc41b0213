use Rattle.cycle_history.proofs.Room.{place-room}
use Rattle.cycle_history.proofs.places.find_place.Goals as goal

pub returns-in-Placed-clause-room : goal.returns-in-Placed-clause-room
returns-in-Placed-clause-room c =
    place-room c.args.size c.in-Placed.address c.place_of.result (c.requires.place c.in-Placed.address c.in-Placed.is) c.place_of.ensures
