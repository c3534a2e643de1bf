use Rattle.std.proofs.lemmas.Option.{MatchOption-at_none}
use Rattle.wblock_call.proofs.style.style_in.Goals as goal

pub returns-in_default : goal.returns-in_default
returns-in_default c = λ style a. MatchOption-at_none _ _ c.in_default.is c.in_ok-json.ensures style.json a.json

pub returns-in_default-2 : goal.returns-in_default-2
returns-in_default-2 c = λ style a. MatchOption-at_none _ _ c.in_default-2.is c.in_ok-signed.ensures style.signed a.signed
