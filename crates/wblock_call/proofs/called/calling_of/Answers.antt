use Rattle.std.proofs.Common.{◌≡◌, List, ℕ, subst}
use Rattle.std.proofs.lemmas.Option.{MatchOption-at_none}
use Rattle.wblock_calls.specs.Words.{texts}
use Rattle.wblock_calls.specs.Texts.{AreCall}
use Rattle.wblock_call.specs.Calling.{IsCallOf}
use Rattle.wblock_call.proofs.called.calling_of.Goals as goal

-- what stands behind WORLD is one
behind_world : (words : List (List ℕ)) (w v : List ℕ) (s t : List (List ℕ)) → IsCallOf words w s → IsCallOf words v t → s ≡ t
behind_world words w v s t first second = cc

pub returns-in_default : goal.returns-in_default
returns-in_default c = λ asked a. MatchOption-at_none _ _ c.in_default.is c.in_ok-style.ensures asked.style a.style

pub returns-in_default-2 : goal.returns-in_default-2
returns-in_default-2 c = λ asked a.
    let same : a.spelling ≡ texts c.in-Some-parts_of.spelling.now = behind_world _ _ _ _ _ a.words c.in-Some-parts_of.ensures in
    MatchOption-at_none _ _ c.in_default-2.is c.in_ok-call.ensures asked.call (subst (λ (s : List (List ℕ)). AreCall s asked.call) same a.spelled)
