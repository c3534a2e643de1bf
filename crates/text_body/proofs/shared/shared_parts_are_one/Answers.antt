use Rattle.text_body.proofs.Sharing.{shared_are_one}
use Rattle.text_body.proofs.shared.shared_parts_are_one.Goals as goal

pub returns : goal.returns
returns c = shared_are_one
