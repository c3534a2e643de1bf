use Rattle.std.proofs.Common.{◌<◌, ◌∙◌, IfOk, get_or, length, sym, subst}
use Rattle.std.proofs.lemmas.List.Elements.{All-get_or}
use Rattle.std.proofs.lemmas.Option.{slice_get-get_or, same_Some}
use Rattle.validator.specs.PositionRuns.{IsRunIn}
use Rattle.validator.proofs.attempt.attempt.Goals as goal

pub play-played-requires-after_bounds : goal.play-played-requires-after_bounds
play-played-requires-after_bounds g c κs within =
    let ordered = c.args.job.now.ordered in
    All-get_or (λ n. n < length ordered.task.calls.now) ordered.order.now c.args.position 0 c.if-at-order.false c.requires.known.known

pub returns-in-Ok : goal.returns-in-Ok
returns-in-Ok g c =
    let job = c.args.job.now in
    let order = job.ordered.order.now in
    let number = get_or order c.args.position 0 in
    let run = subst (λ r. IfOk r (IsRunIn job number)) c.in-Ok.is c.play-played.ensures in
    record { of_call = λ n at. subst (λ k. IsRunIn job k c.in-Ok.finished) (same_Some number n (sym (slice_get-get_or order c.args.position 0 c.if-at-order.false) ∙ at)) run }
