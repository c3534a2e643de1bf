use Rattle.laws_soundness.proofs.Coming.{places_right}
use Rattle.laws_soundness.proofs.places_are_of_what_comes.Goals as goal

pub returns : goal.returns
returns c = places_right c.numbers_take_no_part.ensures.kept
