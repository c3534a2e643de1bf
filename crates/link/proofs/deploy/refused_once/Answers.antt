use Rattle.link.proofs.Once.{one_refusal}
use Rattle.link.proofs.deploy.refused_once.Goals as goal

pub returns : goal.returns
returns c = one_refusal
