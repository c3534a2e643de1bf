use Rattle.std.proofs.Common.{rules}
use Rattle.wblock_calls.proofs.WordLemmas.{other_contract, at_some}
use Rattle.wblock_calls.proofs.line.call_of_words.Goals as goal

pub returns-in_default-try_from : goal.returns-in_default-try_from
returns-in_default-try_from c = other_contract c.args.words.now _ c.in-Some.contract (at_some _ _ _ _ c.in-Some.is c.in_ok-contract.ensures) (search rules) c.in_default-try_from.ensures
