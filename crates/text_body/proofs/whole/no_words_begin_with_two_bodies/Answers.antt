use Rattle.text_body.proofs.OneBody.{bodies_are_one}
use Rattle.text_body.proofs.whole.no_words_begin_with_two_bodies.Goals as goal

pub returns : goal.returns
returns c = bodies_are_one
