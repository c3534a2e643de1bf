use Rattle.wblock_modules.proofs.BadTokens.{bad_token}
use Rattle.wblock_modules.proofs.asm.answer_bytes.Goals as goal

pub returns-in-Ok-place_of_fault-clause-answer : goal.returns-in-Ok-place_of_fault-clause-answer
returns-in-Ok-place_of_fault-clause-answer c =
    bad_token c.args.json c.args.bytes.now c.args.target.now c.in-Ok-place_of_fault.at c.refuse-in-Ok-place_of_fault.result c.in-Err.ensures.cases.0 c.refuse-in-Ok-place_of_fault.ensures.line
