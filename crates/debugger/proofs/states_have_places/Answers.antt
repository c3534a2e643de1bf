use Rattle.debugger.proofs.Places.{places_of_states}
use Rattle.debugger.proofs.states_have_places.Goals as goal

pub returns : goal.returns
returns c = places_of_states c.places_are_of_what_comes.ensures
