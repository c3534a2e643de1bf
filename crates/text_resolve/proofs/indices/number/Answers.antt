use Rattle.text_resolve.proofs.Lookups.{u32_found, u32_none}
use Rattle.text_resolve.proofs.indices.number.Goals as goal

pub returns-in-Some-clause-value : goal.returns-in-Some-clause-value
returns-in-Some-clause-value c = u32_found c.args.piece.text.now c.in-Some.n c.in-Some.ensures.found

pub returns-in-None-clause-value : goal.returns-in-None-clause-value
returns-in-None-clause-value c = u32_none c.args.piece.text.now c.in-None.ensures.none
