use Rattle.std.proofs.Common.{◌∷◌, [], ◌++◌, ◌∙◌, ap}
use Rattle.std.proofs.lemmas.List.{map-append}
use Rattle.lock_profile.specs.Groups.{pair_of, pairs}
use Rattle.serial.proofs.locks.ask.Goals as goal

pub returns : goal.returns
returns g c =
    ap pairs c.in_ok-push.ensures.items ∙ map-append pair_of c.args.asked.now.items (record { lock = c.lock.result; mode = c.mode.result } ∷ [])
    ∙ (λ k. pairs c.args.asked.now.items ++ (c.lock.ensures k, c.mode.ensures k) ∷ [])
